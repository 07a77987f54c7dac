-- Where the first element stands that passes a test.
use Rattle.std.proofs.Common.{◌≡◌, ℕ, ◌≤◌, Bool, true, false, cond, List, length, position, Some, None, refl, sym, ap, true≢false, is_some, nat_lt, arith}
use Rattle.std.specs.List.{position_or_len}
use Rattle.std.specs.Option.{unwrap_or}
use Rattle.std.proofs.lemmas.Bool.{ltb-false}
use Rattle.std.proofs.lemmas.List.Sums.{prefix_len-le-length}
use Rattle.std.proofs.Common.{not}

-- either answer of a test
pub by_answer : {P : Type 0} (b : Bool) → (b ≡ true → P) → (b ≡ false → P) → P
by_answer true p q = p refl
by_answer false p q = q refl

pub some_is : {X : Type 0} (x y : X) → Some x ≡ Some y → x ≡ y
some_is x y h = ap (λ o. unwrap_or o x) h

pub none_is_some : {X P : Type 0} (x : X) → None ≡ Some x → P
none_is_some x h = absurd (true≢false (sym (ap is_some h)))

module _ {X : Type 0} (test : X → Bool) (xs : List X) where
  pub place : (i : ℕ) → position test xs ≡ Some i → i ≡ position_or_len test xs
  place i = by (nat_lt (position_or_len test xs) (length xs))
    where
      by : (b : Bool) → cond b (Some (position_or_len test xs)) None ≡ Some i → i ≡ position_or_len test xs
      by true h = sym (some_is _ _ h)
      by false h = none_is_some i h

  -- it stands nowhere, which is after the last
  pub nowhere : position test xs ≡ None → position_or_len test xs ≡ length xs
  nowhere = by (nat_lt (position_or_len test xs) (length xs)) refl
    where
      by : (b : Bool) → nat_lt (position_or_len test xs) (length xs) ≡ b → cond b (Some (position_or_len test xs)) None ≡ None →
          position_or_len test xs ≡ length xs
      by true e h = none_is_some _ (sym h)
      by false e h =
          let within : position_or_len test xs ≤ length xs = prefix_len-le-length (λ x. not (test x)) xs in
          let past : length xs ≤ position_or_len test xs = ltb-false _ _ e in
          omega (arith, within, past)
