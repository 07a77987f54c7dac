-- The variables of an object: those with an initialiser first, and where each of a unit's variables stands among them.
use Rattle.std.proofs.lemmas.List.{length-map}
use Rattle.std.proofs.Common.{◌≡◌, ℕ, zero, suc, ◌+◌, Bool, true, false, not, cond, if◌then◌else◌, List, [], ◌∷◌, ◌++◌, map, length, take, Option, Some, None, refl, sym, ap, ◌∙◌, arith, append-nil}
use Rattle.std.specs.Prelude.{slice_get, option_map}
use Rattle.std.specs.List.{AllByRecursion, filter}
use Rattle.std.specs.Option.{is_some, is_none, option_map_or}
use Rattle.std.proofs.lemmas.Option.{slice_get-map}
use Rattle.std.proofs.lemmas.List.Elements.{filter-append}
use Rattle.pw_tree.specs.declared.tunit.TVar.{TVar}
use Rattle.pw_tree.specs.declared.tunit.Init.{Init}
use Rattle.pw_code.specs.Objects.{is_initialised, is_uninitialised, fill, filled, variables_in_order, number_in_order}
use Rattle.pw_gen.proofs.Elements.{each_map, each_weaker, each_passed}

-- ---- places in lists

slice_front : {X : Type 0} (xs ys : List X) (i : ℕ) (x : X) → slice_get xs i ≡ Some x → slice_get (xs ++ ys) i ≡ Some x
slice_front [] ys i x h = cc
slice_front (y ∷ xs) ys zero x h = h
slice_front (y ∷ xs) ys (suc i) x h = slice_front xs ys i x h

slice_behind : {X : Type 0} (xs ys : List X) (i : ℕ) → slice_get (xs ++ ys) (length xs + i) ≡ slice_get ys i
slice_behind [] ys i = ap (slice_get ys) (let e : 0 + i ≡ i = omega arith in e)
slice_behind (x ∷ xs) ys i =
    ap (slice_get (x ∷ (xs ++ ys))) (let e : suc (length xs) + i ≡ suc (length xs + i) = omega arith in e) ∙ slice_behind xs ys i

module _ {X : Type 0} (p : X → Bool) where
  at_head : (b : Bool) (y x : X) (ys : List X) → b ≡ true → y ≡ x → slice_get (cond b (y ∷ ys) ys) 0 ≡ Some x
  at_head true y x ys b e = ap Some e
  at_head false y x ys b e = cc

  at_tail : (b : Bool) (y x : X) (ys zs : List X) → slice_get ys (length zs) ≡ Some x →
      slice_get (cond b (y ∷ ys) ys) (length (cond b (y ∷ zs) zs)) ≡ Some x
  at_tail true y x ys zs h = h
  at_tail false y x ys zs h = h

  -- An element that passes a test stands among those that pass behind those before it.
  among_passed : (xs : List X) (i : ℕ) (x : X) → slice_get xs i ≡ Some x → p x ≡ true →
      slice_get (filter p xs) (length (filter p (take i xs))) ≡ Some x
  among_passed [] i x h q = cc
  among_passed (y ∷ xs) zero x h q = let e : y ≡ x = cc in at_head (p y) y x (filter p xs) (ap p e ∙ q) e
  among_passed (y ∷ xs) (suc i) x h q = at_tail (p y) y x (filter p xs) (filter p (take i xs)) (among_passed xs i x h q)

  kept_whole : (b : Bool) (x : X) (ys zs : List X) → b ≡ true → ys ≡ zs → cond b (x ∷ ys) ys ≡ x ∷ zs
  kept_whole true x ys zs b e = ap (λ l. x ∷ l) e
  kept_whole false x ys zs b e = cc

  all_pass : (xs : List X) → AllByRecursion (λ x. p x ≡ true) xs → filter p xs ≡ xs
  all_pass [] h = refl
  all_pass (x ∷ xs) h = kept_whole (p x) x (filter p xs) xs h.0 (all_pass xs h.1)

  left_whole : (b : Bool) (x : X) (ys : List X) → b ≡ false → ys ≡ [] → cond b (x ∷ ys) ys ≡ []
  left_whole true x ys b e = cc
  left_whole false x ys b e = e

  none_pass : (xs : List X) → AllByRecursion (λ x. p x ≡ false) xs → filter p xs ≡ []
  none_pass [] h = refl
  none_pass (x ∷ xs) h = left_whole (p x) x (filter p xs) h.0 (none_pass xs h.1)

-- ---- with an initialiser, and without

without : {A : Type 0} (o : Option A) → is_some o ≡ false → is_none o ≡ true
without None h = refl
without (Some a) h = cc

some_not_none : {A : Type 0} (o : Option A) → is_some o ≡ true → is_none o ≡ false
some_not_none None h = cc
some_not_none (Some a) h = refl

none_not_some : {A : Type 0} (o : Option A) → is_none o ≡ true → is_some o ≡ false
none_not_some None h = refl
none_not_some (Some a) h = cc

still_some : {A B : Type 0} (f : A → B) (o : Option A) → is_some o ≡ true → is_some (option_map f o) ≡ true
still_some f None h = cc
still_some f (Some a) h = refl

pub other_test : (x : TVar) → is_uninitialised x ≡ not (is_initialised x)
other_test x = by x.init
  where
    by : {A : Type 0} (o : Option A) → is_none o ≡ not (is_some o)
    by None = refl
    by (Some a) = refl

module _ (xs : List TVar) where
  abbrev initialised : List TVar
  initialised = map filled (filter is_initialised xs)

  abbrev uninitialised : List TVar
  uninitialised = filter is_uninitialised xs

  initialised_have : AllByRecursion (λ x. is_initialised x ≡ true) initialised
  initialised_have =
      each_map (λ x. is_initialised x ≡ true) filled (filter is_initialised xs)
      (each_weaker (λ x. is_initialised x ≡ true) (λ x. is_initialised (filled x) ≡ true) (λ x h. still_some (fill x) x.init h)
      (filter is_initialised xs) (each_passed is_initialised xs))

  uninitialised_have_none : AllByRecursion (λ x. is_uninitialised x ≡ true) uninitialised
  uninitialised_have_none = each_passed is_uninitialised xs

  -- The variables with an initialiser come first.
  pub in_order : variables_in_order xs ≡ filter is_initialised (variables_in_order xs) ++ filter is_uninitialised (variables_in_order xs)
  in_order =
      let first : filter is_initialised (variables_in_order xs) ≡ initialised =
      filter-append is_initialised initialised uninitialised
      ∙ (λ i. all_pass is_initialised initialised initialised_have i
      ++ none_pass is_initialised uninitialised
      (each_weaker (λ x. is_uninitialised x ≡ true) (λ x. is_initialised x ≡ false) (λ x h. none_not_some x.init h) uninitialised uninitialised_have_none) i)
      ∙ append-nil initialised in
      let last : filter is_uninitialised (variables_in_order xs) ≡ uninitialised =
      filter-append is_uninitialised initialised uninitialised
      ∙ (λ i. none_pass is_uninitialised initialised
      (each_weaker (λ x. is_initialised x ≡ true) (λ x. is_uninitialised x ≡ false) (λ x h. some_not_none x.init h) initialised initialised_have) i
      ++ all_pass is_uninitialised uninitialised uninitialised_have_none i) in
      sym (λ i. first i ++ last i)

  -- ---- where a variable stands

  number_by : (o : Option TVar) (x : TVar) (b : Bool) (m n : ℕ) → o ≡ Some x → is_initialised x ≡ b →
      (if option_map_or is_initialised o true then m else n) ≡ cond b m n
  number_by o x b m n h e = ap (λ (p : Option TVar). cond (option_map_or is_initialised p true) m n) h ∙ ap (λ c. cond c m n) e

  standing : (i : ℕ) (x : TVar) (b : Bool) → slice_get xs i ≡ Some x → is_initialised x ≡ b →
      option_map (λ (y : TVar). y.global) (slice_get (variables_in_order xs) (number_in_order xs i)) ≡ Some x.global
  standing i x true h e =
      ap (λ n. option_map (λ (y : TVar). y.global) (slice_get (variables_in_order xs) n))
      (number_by (slice_get xs i) x true (length (filter is_initialised (take i xs)))
      (length (filter is_initialised xs) + length (filter is_uninitialised (take i xs))) h e)
      ∙ ap (option_map (λ (y : TVar). y.global)) (slice_front initialised uninitialised (length (filter is_initialised (take i xs))) (filled x)
      (slice_get-map filled (filter is_initialised xs) (length (filter is_initialised (take i xs)))
      ∙ ap (option_map filled) (among_passed is_initialised xs i x h e)))
  standing i x false h e =
      ap (λ n. option_map (λ (y : TVar). y.global) (slice_get (variables_in_order xs) n))
      (number_by (slice_get xs i) x false (length (filter is_initialised (take i xs)))
      (length (filter is_initialised xs) + length (filter is_uninitialised (take i xs))) h e)
      ∙ ap (λ n. option_map (λ (y : TVar). y.global) (slice_get (variables_in_order xs) (n + length (filter is_uninitialised (take i xs)))))
      (sym (length-map (filter is_initialised xs) filled))
      ∙ ap (option_map (λ (y : TVar). y.global)) (slice_behind initialised uninitialised (length (filter is_uninitialised (take i xs)))
      ∙ among_passed is_uninitialised xs i x h (without x.init e))

  linkage_by : (i : ℕ) (b : Bool) (o : Option TVar) → slice_get xs i ≡ o → option_map (λ (y : TVar). y.global) o ≡ Some b →
      option_map (λ (y : TVar). y.global) (slice_get (variables_in_order xs) (number_in_order xs i)) ≡ Some b
  linkage_by i b None h e = cc
  linkage_by i b (Some x) h e = standing i x (is_initialised x) h refl ∙ e

  -- A unit's variable has its linkage in the object, where it stands under its number there.
  pub linkage_in_order : (i : ℕ) (b : Bool) → option_map (λ (y : TVar). y.global) (slice_get xs i) ≡ Some b →
      option_map (λ (y : TVar). y.global) (slice_get (variables_in_order xs) (number_in_order xs i)) ≡ Some b
  linkage_in_order i b e = linkage_by i b (slice_get xs i) refl e
