-- The numbers of variables in the order of the object, as they are counted from the first variable on.
use Rattle.std.proofs.Common.{◌≡◌, ℕ, zero, suc, ◌+◌, ◌<◌, ◌≤◌, Bool, true, false, not, cond, if◌then◌else◌, List, [], ◌∷◌, ◌++◌, length, take, get_or, Option, Some, None, refl, sym, ap, subst, ◌∙◌, arith, inl, inr, ⊎_elim}
use Rattle.std.specs.Prelude.{slice_get, slice_index}
use Rattle.std.specs.List.{filter}
use Rattle.std.specs.Option.{option_map_or}
use Rattle.std.proofs.lemmas.Bool.{cases_lt}
use Rattle.std.proofs.lemmas.List.{length_push, get_or_push, get_or_append_left}
use Rattle.std.proofs.lemmas.List.Filters.{length-filter_more}
use Rattle.pw_tree.specs.declared.tunit.TVar.{TVar}
use Rattle.pw_code.specs.Objects.{is_initialised, is_uninitialised, number_in_order}
use Rattle.pw_gen.specs.declared.numbers.Next.{Next}
use Rattle.pw_gen.specs.Steps.NextNumbers.{next_after}
use Rattle.pw_gen.proofs.VariableOrder.{other_test}

-- The first variables have their numbers, and the next numbers are those of the next variables.
pub record AreCounted (xs : List TVar) (numbers : List ℕ) (i : ℕ) (next : Next) : Type 0 where
  pub first : next.initialised ≡ length (filter is_initialised (take i xs))
  pub second : next.others ≡ length (filter is_initialised xs) + length (filter is_uninitialised (take i xs))
  pub each : length numbers ≡ i
  pub number : (k : ℕ) → k < i → slice_index numbers k ≡ number_in_order xs k

there : {X : Type 0} (xs : List X) (i : ℕ) (x : X) → i < length xs → x ≡ get_or xs i x → slice_get xs i ≡ Some x
there [] i x l e = absurd (omega arith)
there (y ∷ xs) zero x l e = ap Some (sym e)
there (y ∷ xs) (suc i) x l e = there xs i x (omega arith) e

one_of : (a b : ℕ) (t : Bool) → (next_after a b t).initialised ≡ a + cond t 1 0
one_of a b true = refl
one_of a b false = omega arith

other_of : (a b : ℕ) (t u : Bool) → u ≡ not t → (next_after a b t).others ≡ b + cond u 1 0
other_of a b true true e = cc
other_of a b true false e = omega arith
other_of a b false true e = refl
other_of a b false false e = cc

module _ (xs : List TVar) (i : ℕ) (x : TVar) (lt : i < length xs) (is : x ≡ get_or xs i x) where
  counted : (p : TVar → Bool) → length (filter p (take (i + 1) xs)) ≡ length (filter p (take i xs)) + cond (p x) 1 0
  counted p = length-filter_more p xs i x lt ∙ ap (λ y. length (filter p (take i xs)) + cond (p y) 1 0) (sym is)

  own_number : number_in_order xs i
      ≡ cond (is_initialised x) (length (filter is_initialised (take i xs))) (length (filter is_initialised xs) + length (filter is_uninitialised (take i xs)))
  own_number =
      ap (λ (o : Option TVar). if option_map_or is_initialised o true then length (filter is_initialised (take i xs))
      else length (filter is_initialised xs) + length (filter is_uninitialised (take i xs))) (there xs i x lt is)

  number_pushed : (numbers : List ℕ) (next : Next) (v : ℕ) → AreCounted xs numbers i next → v ≡ cond (is_initialised x) next.initialised next.others →
      (k : ℕ) → k < i + 1 → slice_index (numbers ++ v ∷ []) k ≡ number_in_order xs k
  number_pushed numbers next v h e k l =
      ⊎_elim
      (λ (m : k < i). get_or_append_left numbers (v ∷ []) 0 k (let n : k < length numbers = omega (arith, h.each) in n) ∙ h.number k m)
      (λ (m : i ≤ k).
      let same : k ≡ i = omega arith in
      ap (λ j. get_or (numbers ++ v ∷ []) j 0) same ∙ get_or_push numbers v 0 i h.each
      ∙ e ∙ ap (λ n. cond (is_initialised x) n next.others) h.first
      ∙ ap (cond (is_initialised x) (length (filter is_initialised (take i xs)))) h.second
      ∙ sym own_number ∙ ap (number_in_order xs) (sym same))
      (cases_lt k i)

  -- One more variable is counted.
  pub counted_more : (numbers : List ℕ) (next : Next) (v : ℕ) → AreCounted xs numbers i next → v ≡ cond (is_initialised x) next.initialised next.others →
      AreCounted xs (numbers ++ v ∷ []) (i + 1) (next_after next.initialised next.others (is_initialised x))
  counted_more numbers next v h e = record {
    first = one_of next.initialised next.others (is_initialised x) ∙ ap (λ n. n + cond (is_initialised x) 1 0) h.first ∙ sym (counted is_initialised);
    second =
        let more : length (filter is_uninitialised (take (i + 1) xs)) ≡ length (filter is_uninitialised (take i xs)) + cond (is_uninitialised x) 1 0 =
        counted is_uninitialised in
        let next_is : (next_after next.initialised next.others (is_initialised x)).others ≡ next.others + cond (is_uninitialised x) 1 0 =
        other_of next.initialised next.others (is_initialised x) (is_uninitialised x) (other_test x) in
        omega (arith, more, next_is, h.second);
    each = length_push numbers v ∙ ap (λ n. n + 1) h.each;
    number = number_pushed numbers next v h e;
  }
