-- Where the variables of a unit's object stand: the object has those with an initialiser first.
use Rattle.std.proofs.Common.{◌≡◌, ℕ, zero, suc, ◌+◌, ◌*◌, ◌≤◌, Bool, true, false, cond, if◌then◌else◌, List, [], ◌∷◌, ◌++◌, map, length, take, Option, Some, None, refl, sym, ap, ◌∙◌, arith, append-nil}
use Rattle.std.specs.Prelude.{slice_get, sum_by, option_map}
use Rattle.std.specs.List.{AllByRecursion, filter}
use Rattle.std.specs.Option.{is_some, is_none, option_map_or}
use Rattle.std.proofs.lemmas.List.{length-map, take-map, take-append-le, take_all}
use Rattle.std.proofs.lemmas.List.Elements.{filter-append}
use Rattle.std.proofs.lemmas.Option.{slice_get-map}
use Rattle.pw_base.specs.declared.kinds.Kind.TheVariants.{Program}
use Rattle.pw_tree.specs.declared.tunit.TVar.{TVar}
use Rattle.pw_tree.specs.WellTypedUnits.{room}
use Rattle.pw_code.specs.Objects.{is_initialised, is_uninitialised, fill, filled, variables_in_order, number_in_order}
use Rattle.pw_gen.proofs.Elements.{each_map, each_weaker, each_passed}
use Rattle.pw_place.specs.Sizes.{variable_bytes}
use Rattle.pw_place.specs.Places.{slot_names, initialised_size, uninitialised_size, variable_start}
use Rattle.pw_agree.specs.Placing.{data_of, elements_of, elements_before}
use Rattle.pw_image.specs.OneUnit.{project_of, objects_of, own_definition}
use Rattle.pw_image.specs.Laws.{VariablesStand}
use Rattle.pw_image.proofs.Lists.{sum_by_map, sum_by_times, among_passed, take_passed, few_passed, all_pass, none_pass, each_taken, slice_front, slice_behind, take_behind}
use Rattle.pw_image.proofs.Slots.{slots_stand}

-- ---- with an initialiser, and without

some_not_none : {A : Type 0} (o : Option A) → is_some o ≡ true → is_none o ≡ false
some_not_none None h = cc
some_not_none (Some a) h = refl

none_not_some : {A : Type 0} (o : Option A) → is_none o ≡ true → is_some o ≡ false
none_not_some None h = refl
none_not_some (Some a) h = cc

not_some_none : {A : Type 0} (o : Option A) → is_some o ≡ false → is_none o ≡ true
not_some_none None h = refl
not_some_none (Some a) h = cc

pub still_some : {A B : Type 0} (f : A → B) (o : Option A) → is_some o ≡ true → is_some (option_map f o) ≡ true
still_some f None h = cc
still_some f (Some a) h = refl

bytes_of_variables : (xs : List TVar) → sum_by variable_bytes xs ≡ 8 * elements_of xs
bytes_of_variables xs = sum_by_times 8 (λ (x : TVar). room x.count) xs

module _ (xs : List TVar) where
  abbrev pub initialised : List TVar
  initialised = filter is_initialised xs

  abbrev pub uninitialised : List TVar
  uninitialised = filter is_uninitialised xs

  abbrev pub fulls : List TVar
  fulls = map filled initialised

  -- each of the first group has an initialiser, and none of the second
  pub fulls_have : AllByRecursion (λ x. is_initialised x ≡ true) fulls
  fulls_have =
      each_map (λ x. is_initialised x ≡ true) filled initialised
      (each_weaker (λ x. is_initialised x ≡ true) (λ x. is_initialised (filled x) ≡ true) (λ x h. still_some (fill x) x.init h)
      initialised (each_passed is_initialised xs))

  pub fulls_not_without : AllByRecursion (λ x. is_uninitialised x ≡ false) fulls
  fulls_not_without = each_weaker (λ x. is_initialised x ≡ true) (λ x. is_uninitialised x ≡ false) (λ x h. some_not_none x.init h) fulls fulls_have

  pub others_without : AllByRecursion (λ x. is_uninitialised x ≡ true) uninitialised
  others_without = each_passed is_uninitialised xs

  pub others_have_none : AllByRecursion (λ x. is_initialised x ≡ false) uninitialised
  others_have_none =
      each_weaker (λ x. is_uninitialised x ≡ true) (λ x. is_initialised x ≡ false) (λ x h. none_not_some x.init h) uninitialised others_without

  -- ---- sizes before a place

  pub all_initialised : initialised_size (variables_in_order xs) ≡ 8 * elements_of initialised
  all_initialised =
      ap (sum_by variable_bytes) (filter-append is_initialised fulls uninitialised
      ∙ (λ i. all_pass is_initialised fulls fulls_have i ++ none_pass is_initialised uninitialised others_have_none i) ∙ append-nil fulls)
      ∙ sum_by_map variable_bytes filled variable_bytes (λ x. refl) initialised ∙ bytes_of_variables initialised

  pub all_uninitialised : uninitialised_size (variables_in_order xs) ≡ 8 * elements_of uninitialised
  all_uninitialised =
      ap (sum_by variable_bytes) (filter-append is_uninitialised fulls uninitialised
      ∙ (λ i. none_pass is_uninitialised fulls fulls_not_without i ++ all_pass is_uninitialised uninitialised others_without i))
      ∙ bytes_of_variables uninitialised

  pub initialised_before : (k : ℕ) → k ≤ length initialised → initialised_size (take k (variables_in_order xs)) ≡ 8 * elements_of (take k initialised)
  initialised_before k h =
      let within : k ≤ length fulls = omega (arith, length-map initialised filled) in
      ap initialised_size (take-append-le k fulls uninitialised within)
      ∙ ap (sum_by variable_bytes) (all_pass is_initialised (take k fulls) (each_taken (λ x. is_initialised x ≡ true) k fulls fulls_have) ∙ take-map filled k initialised)
      ∙ sum_by_map variable_bytes filled variable_bytes (λ x. refl) (take k initialised) ∙ bytes_of_variables (take k initialised)

  at_length : (j : ℕ) → length initialised + j ≡ length fulls + j
  at_length j = ap (λ n. n + j) (sym (length-map initialised filled))

  pub uninitialised_before : (j : ℕ) → uninitialised_size (take (length initialised + j) (variables_in_order xs)) ≡ 8 * elements_of (take j uninitialised)
  uninitialised_before j =
      ap (λ n. uninitialised_size (take n (variables_in_order xs))) (at_length j)
      ∙ ap uninitialised_size (take_behind fulls uninitialised j)
      ∙ ap (sum_by variable_bytes) (filter-append is_uninitialised fulls (take j uninitialised)
      ∙ (λ i. none_pass is_uninitialised fulls fulls_not_without i
      ++ all_pass is_uninitialised (take j uninitialised) (each_taken (λ x. is_uninitialised x ≡ true) j uninitialised others_without) i))
      ∙ bytes_of_variables (take j uninitialised)

  -- ---- the place of a variable, behind some bytes

  abbrev pub place_behind : (bytes n : ℕ) → ℕ
  place_behind bytes n =
      if option_map_or is_initialised (slice_get (variables_in_order xs) n) true
      then bytes + initialised_size (take n (variables_in_order xs))
      else bytes + initialised_size (variables_in_order xs) + uninitialised_size (take n (variables_in_order xs))

  abbrev pub elements_ahead : ℕ → ℕ
  elements_ahead i =
      if option_map_or is_initialised (slice_get xs i) true
      then elements_of (filter is_initialised (take i xs))
      else elements_of initialised + elements_of (filter is_uninitialised (take i xs))

  chosen : (t : Bool) (a b c : ℕ) → a ≡ c → b ≡ c → cond t a b ≡ c
  chosen true a b c ea eb = ea
  chosen false a b c ea eb = eb

  test_at : (o : Option TVar) (x : TVar) (b : Bool) (m n : ℕ) → o ≡ Some x → is_initialised x ≡ b →
      (if option_map_or is_initialised o true then m else n) ≡ cond b m n
  test_at o x b m n h e = ap (λ (p : Option TVar). cond (option_map_or is_initialised p true) m n) h ∙ ap (λ c. cond c m n) e

  standing : (bytes i : ℕ) (x : TVar) (b : Bool) → slice_get xs i ≡ Some x → is_initialised x ≡ b →
      place_behind bytes (number_in_order xs i) ≡ bytes + 8 * elements_ahead i
  standing bytes i x true h e =
      let k : ℕ = length (filter is_initialised (take i xs)) in
      let number : number_in_order xs i ≡ k = test_at (slice_get xs i) x true k (length initialised + length (filter is_uninitialised (take i xs))) h e in
      let there : slice_get (variables_in_order xs) k ≡ Some (filled x) =
      slice_front fulls uninitialised k (filled x) (slice_get-map filled initialised k ∙ ap (option_map filled) (among_passed is_initialised xs i x h e)) in
      ap (place_behind bytes) number
      ∙ test_at (slice_get (variables_in_order xs) k) (filled x) true
      (bytes + initialised_size (take k (variables_in_order xs)))
      (bytes + initialised_size (variables_in_order xs) + uninitialised_size (take k (variables_in_order xs))) there (still_some (fill x) x.init e)
      ∙ ap (λ n. bytes + n) (initialised_before k (few_passed is_initialised xs i) ∙ ap (λ l. 8 * elements_of l) (take_passed is_initialised xs i))
      ∙ ap (λ n. bytes + 8 * n) (sym (test_at (slice_get xs i) x true (elements_of (filter is_initialised (take i xs)))
      (elements_of initialised + elements_of (filter is_uninitialised (take i xs))) h e))
  standing bytes i x false h e =
      let j : ℕ = length (filter is_uninitialised (take i xs)) in
      let number : number_in_order xs i ≡ length initialised + j = test_at (slice_get xs i) x false (length (filter is_initialised (take i xs))) (length initialised + j) h e in
      let there : slice_get (variables_in_order xs) (length initialised + j) ≡ Some x =
      ap (slice_get (variables_in_order xs)) (at_length j) ∙ slice_behind fulls uninitialised j ∙ among_passed is_uninitialised xs i x h (not_some_none x.init e) in
      ap (place_behind bytes) number
      ∙ test_at (slice_get (variables_in_order xs) (length initialised + j)) x false
      (bytes + initialised_size (take (length initialised + j) (variables_in_order xs)))
      (bytes + initialised_size (variables_in_order xs) + uninitialised_size (take (length initialised + j) (variables_in_order xs))) there e
      ∙ (λ p. bytes + all_initialised p + (uninitialised_before j ∙ ap (λ l. 8 * elements_of l) (take_passed is_uninitialised xs i)) p)
      ∙ together bytes (elements_of initialised) (elements_of (filter is_uninitialised (take i xs)))
      ∙ ap (λ n. bytes + 8 * n) (sym (test_at (slice_get xs i) x false (elements_of (filter is_initialised (take i xs)))
      (elements_of initialised + elements_of (filter is_uninitialised (take i xs))) h e))
    where
      together : (b m n : ℕ) → b + 8 * m + 8 * n ≡ b + 8 * (m + n)
      together b m n = omega arith

  -- A variable stands under its number among the object's, where a test finds it as before.
  pub stands_in_order : (test : TVar → Bool) → ((x : TVar) → test (filled x) ≡ test x) → (i : ℕ) (x : TVar) → slice_get xs i ≡ Some x →
      (y : TVar) × (slice_get (variables_in_order xs) (number_in_order xs i) ≡ Some y) × (test y ≡ test x)
  stands_in_order test same i x h = by_test (is_initialised x) refl
    where
      by_test : (b : Bool) → is_initialised x ≡ b → (y : TVar) × (slice_get (variables_in_order xs) (number_in_order xs i) ≡ Some y) × (test y ≡ test x)
      by_test true e =
          let k : ℕ = length (filter is_initialised (take i xs)) in
          let number : number_in_order xs i ≡ k = test_at (slice_get xs i) x true k (length initialised + length (filter is_uninitialised (take i xs))) h e in (
            filled x,
            ap (slice_get (variables_in_order xs)) number
                ∙ slice_front fulls uninitialised k (filled x) (slice_get-map filled initialised k ∙ ap (option_map filled) (among_passed is_initialised xs i x h e)),
            same x,
          )
      by_test false e =
          let j : ℕ = length (filter is_uninitialised (take i xs)) in
          let number : number_in_order xs i ≡ length initialised + j = test_at (slice_get xs i) x false (length (filter is_initialised (take i xs))) (length initialised + j) h e in (
            x,
            ap (slice_get (variables_in_order xs)) (number ∙ at_length j)
                ∙ slice_behind fulls uninitialised j ∙ among_passed is_uninitialised xs i x h (not_some_none x.init e),
            refl,
          )

  -- No variable has this number.
  past : (bytes i : ℕ) → slice_get xs i ≡ None → length xs ≤ i → place_behind bytes (number_in_order xs i) ≡ bytes + 8 * elements_ahead i
  past bytes i h far =
      let whole : take i xs ≡ xs = take_all i xs far in
      let k : ℕ = length initialised in
      let number : number_in_order xs i ≡ k =
      ap (λ (p : Option TVar). if option_map_or is_initialised p true then length (filter is_initialised (take i xs)) else k + length (filter is_uninitialised (take i xs))) h
      ∙ ap (λ l. length (filter is_initialised l)) whole in
      let before : initialised_size (take k (variables_in_order xs)) ≡ 8 * elements_of initialised =
      initialised_before k (omega arith) ∙ ap (λ l. 8 * elements_of l) (take_all k initialised (omega arith)) in
      let none_behind : uninitialised_size (take k (variables_in_order xs)) ≡ 0 =
      ap (λ n. uninitialised_size (take n (variables_in_order xs))) (let e : k ≡ k + 0 = omega arith in e) ∙ uninitialised_before 0 in
      ap (place_behind bytes) number
      ∙ chosen (option_map_or is_initialised (slice_get (variables_in_order xs) k) true)
      (bytes + initialised_size (take k (variables_in_order xs)))
      (bytes + initialised_size (variables_in_order xs) + uninitialised_size (take k (variables_in_order xs)))
      (bytes + 8 * elements_of initialised)
      (ap (λ n. bytes + n) before)
      ((λ p. bytes + all_initialised p + none_behind p) ∙ (let e : bytes + 8 * elements_of initialised + 0 ≡ bytes + 8 * elements_of initialised = omega arith in e))
      ∙ ap (λ l. bytes + 8 * elements_of (filter is_initialised l)) (sym whole)
      ∙ ap (λ (p : Option TVar). bytes + 8 * (if option_map_or is_initialised p true then elements_of (filter is_initialised (take i xs))
      else elements_of initialised + elements_of (filter is_uninitialised (take i xs)))) (sym h)

  by_place : (bytes i : ℕ) (o : Option TVar) → slice_get xs i ≡ o → place_behind bytes (number_in_order xs i) ≡ bytes + 8 * elements_ahead i
  by_place bytes i None h = past bytes i h (outside xs i h)
    where
      outside : {X : Type 0} (ys : List X) (n : ℕ) → slice_get ys n ≡ None → length ys ≤ n
      outside [] n e = omega arith
      outside (y ∷ ys) zero e = cc
      outside (y ∷ ys) (suc n) e = omega (arith, outside ys n e)
  by_place bytes i (Some x) h = standing bytes i x (is_initialised x) h refl

  pub place_is : (bytes i : ℕ) → place_behind bytes (number_in_order xs i) ≡ bytes + 8 * elements_ahead i
  place_is bytes i = by_place bytes i (slice_get xs i) refl

pub variables_stand : VariablesStand
variables_stand name unit i =
    let xs : List TVar = unit.variables in
    let ys : List TVar = variables_in_order xs in
    let n : ℕ = number_in_order xs i in
    let slots : ℕ = length (slot_names Program (objects_of name unit)) in
    let whole : variable_start Program (objects_of name unit) 0 n ≡ place_behind xs (8 * slots) n =
    ap (λ (l : List TVar). if option_map_or is_initialised (slice_get ys n) true
    then 8 * slots + initialised_size (take n ys)
    else 8 * slots + initialised_size l + uninitialised_size (take n ys)) (append-nil ys) in
    let ahead : elements_ahead xs i ≡ elements_before (project_of unit) (own_definition i) =
    ap (λ (l : List TVar). if option_map_or is_initialised (slice_get xs i) true
    then elements_of (filter is_initialised (take i xs))
    else elements_of l + elements_of (filter is_uninitialised (take i xs))) (sym (append-nil (filter is_initialised xs))) in
    ap (λ m. data_of 0 + m) (whole ∙ place_is xs (8 * slots) i)
    ∙ regroup (data_of 0) slots (elements_ahead xs i)
    ∙ (λ p. data_of 0 + 8 * (length (slots_stand name unit p) + ahead p))
  where
    regroup : (d s e : ℕ) → d + (8 * s + 8 * e) ≡ d + 8 * (s + e)
    regroup d s e = omega arith
