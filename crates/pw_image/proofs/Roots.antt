-- The roots among the records are those of the project.
use Rattle.std.proofs.Common.{◌≡◌, ℕ, zero, suc, ◌+◌, ◌-◌, Bool, true, false, cond, List, [], ◌∷◌, ◌++◌, map, length, replicate, Option, Some, None, ◌⊎◌, inl, inr, refl, sym, ap, ◌∙◌, subst, arith, flat_map, append-nil}
use Rattle.std.specs.Prelude.{Contains, slice_get, option_map, option_and_then}
use Rattle.std.specs.Option.{is_some, is_none, unwrap_or}
use Rattle.std.specs.List.{AllByRecursion, filter, filter_map, enumerate_from}
use Rattle.std.proofs.lemmas.List.{map-append}
use Rattle.pw_base.specs.declared.kinds.Kind.TheVariants.{Program}
use Rattle.pw_tree.specs.declared.ty.Ref.{Ref}
use Rattle.pw_tree.specs.declared.tunit.TVar.{TVar}
use Rattle.pw_tree.specs.declared.tunit.Init.{Init}
use Rattle.pw_tree.specs.declared.tunit.Init.TheVariants.{Num, Fun}
use Rattle.pw_tree.specs.Units.{TypedUnit}
use Rattle.pw_tree.specs.Names.{Definition, function, resolved, variable_at}
use Rattle.pw_tree.specs.WellTypedUnits.{room, IsWellTyped}
use Rattle.pw_module.specs.declared.dep_table.RootRec.{RootRec}
use Rattle.pw_code.specs.Objects.{is_initialised, is_uninitialised, fill, filled, variables_in_order, object_of}
use Rattle.pw_code.specs.Soundness.{IsFunctionRef, IsSoundElement, IsFullInitialiser, IsSoundVariable}
use Rattle.pw_gen.proofs.SoundObject.{sound_object}
use Rattle.pw_place.specs.Places.{variable_start}
use Rattle.pw_place.specs.Symbols.{symbol_number, ref_of_variable}
use Rattle.pw_place.specs.Contents.{Pointer, values_of, pointers_in_element, pointers_in_variable}
use Rattle.pw_place.specs.Tables.{root_record}
use Rattle.pw_agree.specs.Kept.{IsPointedTo, IsRoot}
use Rattle.pw_agree.proofs.Members.{IsIn, contained_is_in, each_in, in_left, in_right, in_flat_map}
use Rattle.pw_image.specs.OneUnit.{project_of, objects_of, own_definition}
use Rattle.pw_image.specs.Records.{record_of}
use Rattle.pw_image.specs.Nodes.{node_of, RootsAreRoots}
use Rattle.pw_image.proofs.Dependencies.{in_is_contained, at_place}
use Rattle.pw_image.proofs.Records.{references_have_records}
use Rattle.pw_image.proofs.Edges.{records, HasRecord, row_of, row_there, row_back, designates_this, no_entry}

-- ---- the functions that initialisers name

abbrev pub named_by : Init → List Ref
named_by (Num value) = []
named_by (Fun f) = f ∷ []

abbrev pub named_by_variable : TVar → List Ref
named_by_variable x = flat_map named_by (values_of x)

module _ (name : List ℕ) (unit : TypedUnit) where
  abbrev symbol_to : Ref → ℕ
  symbol_to r = symbol_number Program (objects_of name unit) 0 r

  abbrev symbols_to : List Pointer → List ℕ
  symbols_to ps = map (λ (r : RootRec). r.fun) (map (root_record Program (objects_of name unit)) ps)

  joined : (ps qs : List Pointer) → symbols_to (ps ++ qs) ≡ symbols_to ps ++ symbols_to qs
  joined ps qs =
      ap (map (λ (r : RootRec). r.fun)) (map-append (root_record Program (objects_of name unit)) ps qs)
      ∙ map-append (λ (r : RootRec). r.fun) (map (root_record Program (objects_of name unit)) ps) (map (root_record Program (objects_of name unit)) qs)

  of_values : (ref : Ref) (start j : ℕ) (values : List Init) → symbols_to (flat_map (pointers_in_element 0 ref start) (enumerate_from j values)) ≡ map symbol_to (flat_map named_by values)
  of_values ref start j [] = refl
  of_values ref start j (Num value ∷ values) = of_values ref start (j + 1) values
  of_values ref start j (Fun f ∷ values) = ap (λ l. symbol_to f ∷ l) (of_values ref start (j + 1) values)

  of_variables : (i : ℕ) (ys : List TVar) →
      symbols_to (flat_map (pointers_in_variable Program (objects_of name unit) 0) (enumerate_from i ys)) ≡ map symbol_to (flat_map named_by_variable ys)
  of_variables i [] = refl
  of_variables i (y ∷ ys) =
      let here : List Pointer = flat_map (pointers_in_element 0 (ref_of_variable i y) (variable_start Program (objects_of name unit) 0 i)) (enumerate_from 0 (values_of y)) in
      joined here (flat_map (pointers_in_variable Program (objects_of name unit) 0) (enumerate_from (i + 1) ys))
      ∙ (λ p. of_values (ref_of_variable i y) (variable_start Program (objects_of name unit) 0 i) 0 (values_of y) p ++ of_variables (i + 1) ys p)
      ∙ sym (map-append symbol_to (named_by_variable y) (flat_map named_by_variable ys))

-- ---- members

parts : {X : Type 0} (xs ys : List X) (x : X) → IsIn (xs ++ ys) x → IsIn xs x ⊎ IsIn ys x
parts [] ys x h = inr h
parts (z ∷ xs) ys x (inl e) = inl (inl e)
parts (z ∷ xs) ys x (inr h) = by (parts xs ys x h)
  where
    by : IsIn xs x ⊎ IsIn ys x → IsIn (z ∷ xs) x ⊎ IsIn ys x
    by (inl k) = inl (inr k)
    by (inr k) = inr k

from_flat_map : {X Y : Type 0} (f : X → List Y) (xs : List X) (y : Y) → IsIn (flat_map f xs) y → (x : X) × IsIn xs x × IsIn (f x) y
from_flat_map f [] y h = absurd h
from_flat_map {X = X} f (z ∷ xs) y h = by (parts (f z) (flat_map f xs) y h) (from_flat_map f xs y)
  where
    by : IsIn (f z) y ⊎ IsIn (flat_map f xs) y → (IsIn (flat_map f xs) y → (x : X) × IsIn xs x × IsIn (f x) y) → (x : X) × IsIn (z ∷ xs) x × IsIn (f x) y
    by (inl k) later = (z, inl refl, k)
    by (inr k) later = let r = later k in (r.0, inr r.1, r.2)

named_is : (e : Init) (r : Ref) → IsIn (named_by e) r → e ≡ Fun r
named_is (Num value) r h = absurd h
named_is (Fun f) r (inl e) = ap Fun e
named_is (Fun f) r (inr h) = absurd h

passed : (p : TVar → Bool) (xs : List TVar) (x : TVar) → IsIn (filter p xs) x → IsIn xs x × (p x ≡ true)
passed p [] x h = absurd h
passed p (z ∷ xs) x h = by (p z) refl h (passed p xs x)
  where
    by : (b : Bool) → p z ≡ b → IsIn (cond b (z ∷ filter p xs) (filter p xs)) x → (IsIn (filter p xs) x → IsIn xs x × (p x ≡ true)) → IsIn (z ∷ xs) x × (p x ≡ true)
    by true e (inl same) later = (inl same, ap p (sym same) ∙ e)
    by true e (inr k) later = let r = later k in (inr r.0, r.1)
    by false e k later = let r = later k in (inr r.0, r.1)

passes : (p : TVar → Bool) (xs : List TVar) (x : TVar) → p x ≡ true → IsIn xs x → IsIn (filter p xs) x
passes p [] x e h = h
passes p (z ∷ xs) x e (inl same) = by (p z) (ap p same ∙ e)
  where
    by : (b : Bool) → b ≡ true → IsIn (cond b (z ∷ filter p xs) (filter p xs)) x
    by true t = inl same
    by false t = cc
passes p (z ∷ xs) x e (inr h) = by (p z) (passes p xs x e h)
  where
    by : (b : Bool) → IsIn (filter p xs) x → IsIn (cond b (z ∷ filter p xs) (filter p xs)) x
    by true k = inr k
    by false k = k

mapped : (xs : List TVar) (y : TVar) → IsIn (map filled xs) y → (x : TVar) × IsIn xs x × (filled x ≡ y)
mapped [] y h = absurd h
mapped (x ∷ xs) y (inl e) = (x, inl refl, e)
mapped (x ∷ xs) y (inr h) = let r = mapped xs y h in (r.0, inr r.1, r.2)

maps : (xs : List TVar) (x : TVar) → IsIn xs x → IsIn (map filled xs) (filled x)
maps [] x h = h
maps (z ∷ xs) x (inl e) = inl (ap filled e)
maps (z ∷ xs) x (inr h) = inr (maps xs x h)

place_of : (xs : List TVar) (x : TVar) → IsIn xs x → (i : ℕ) × (slice_get xs i ≡ Some x)
place_of [] x h = absurd h
place_of (z ∷ xs) x (inl e) = (0, ap Some e)
place_of (z ∷ xs) x (inr h) = let r = place_of xs x h in (suc r.0, r.1)

got_in : {X : Type 0} (xs : List X) (i : ℕ) (x : X) → slice_get xs i ≡ Some x → IsIn xs x
got_in [] i x h = cc
got_in (y ∷ ys) zero x h = let e : y ≡ x = cc in inl e
got_in (y ∷ ys) (suc i) x h = inr (got_in ys i x h)

no_zero : (n : ℕ) (r : Ref) → IsIn (replicate n (Num 0)) (Fun r) → ⊥
no_zero zero r h = h
no_zero (suc n) r (inl e) = cc
no_zero (suc n) r (inr h) = no_zero n r h

-- the function of an initialiser's value stands among the values of the variable itself
own_value : (x : TVar) (r : Ref) (o : Option (List Init)) → IsIn (unwrap_or (option_map (fill x) o) []) (Fun r) →
    (values : List Init) × (o ≡ Some values) × IsIn values (Fun r)
own_value x r None h = absurd h
own_value x r (Some values) h = by (parts values (replicate (room x.count - length values) (Num 0)) (Fun r) h)
  where
    by : IsIn values (Fun r) ⊎ IsIn (replicate (room x.count - length values) (Num 0)) (Fun r) → (vs : List Init) × (Some values ≡ Some vs) × IsIn vs (Fun r)
    by (inl k) = (values, refl, k)
    by (inr k) = absurd (no_zero (room x.count - length values) r k)

without_values : (x : TVar) (o : Option (List Init)) (r : Ref) → is_none o ≡ true → IsIn (flat_map named_by (unwrap_or o [])) r → ⊥
without_values x None r e h = h
without_values x (Some values) r e h = cc

pub place_in_unit : (unit : TypedUnit) (x : TVar) (m u i : ℕ) → variable_at (project_of unit) (record { in_module = m; in_unit = u; number = i }) ≡ Some x →
    (m ≡ 0) × (u ≡ 0) × (slice_get unit.variables i ≡ Some x)
place_in_unit unit x zero zero i h = (refl, refl, h)
place_in_unit unit x zero (suc u) i h = cc
place_in_unit unit x (suc m) u i h = cc

module _ (name : List ℕ) (unit : TypedUnit) (well : IsWellTyped unit) where
  abbrev ordered : List TVar
  ordered = variables_in_order unit.variables

  abbrev refs : List Ref
  refs = flat_map named_by_variable ordered

  sound_value : (y : TVar) (o : Option (List Init)) (r : Ref) → IsFullInitialiser (object_of name unit) y o → IsIn (unwrap_or o []) (Fun r) → IsFunctionRef (object_of name unit) r
  sound_value y None r h k = absurd k
  sound_value y (Some values) r h k = each_in (IsSoundElement (object_of name unit)) values (Fun r) h.1 k

  value_in : (y : TVar) (r : Ref) → IsIn (named_by_variable y) r → IsIn (values_of y) (Fun r)
  value_in y r k = let e = from_flat_map named_by (values_of y) r k in subst (IsIn (values_of y)) (named_is e.0 r e.2) e.1

  refs_have : (r : Ref) → IsIn refs r → HasRecord name unit well r
  refs_have r k =
      let y = from_flat_map named_by_variable ordered r k in
      let sound = each_in (IsSoundVariable (object_of name unit)) ordered y.0 (sound_object name unit well).variables y.1 in
      references_have_records name unit r well (sound_value y.0 y.0.init r sound.initialiser (value_in y.0 r y.2))

  pointed_by : (j : ℕ) (r : Ref) (y : TVar) → IsIn (map filled (filter is_initialised unit.variables)) y ⊎ IsIn (filter is_uninitialised unit.variables) y →
      IsIn (named_by_variable y) r → resolved (project_of unit) 0 0 r ≡ Some (function (own_definition j)) → IsPointedTo (project_of unit) (own_definition j)
  pointed_by j r y (inl full) k means =
      let x = mapped (filter is_initialised unit.variables) y full in
      let listed = passed is_initialised unit.variables x.0 x.1 in
      let place = place_of unit.variables x.0 listed.0 in
      let value : IsIn (values_of (filled x.0)) (Fun r) = subst (λ (z : TVar). IsIn (values_of z) (Fun r)) (sym x.2) (value_in y r k) in
      let own = own_value x.0 r x.0.init value in
      record {
        at = own_definition place.0;
        variable = x.0;
        there = place.1;
        values = own.0;
        initialised = own.1;
        name = r;
        named = in_is_contained own.0 (Fun r) own.2;
        means = means;
      }
  pointed_by j r y (inr other) k means =
      let listed = passed is_uninitialised unit.variables y other in absurd (without_values y y.init r listed.1 k)

  pointed : (j : ℕ) (r : Ref) → IsIn refs r → resolved (project_of unit) 0 0 r ≡ Some (function (own_definition j)) → IsPointedTo (project_of unit) (own_definition j)
  pointed j r k means =
      let y = from_flat_map named_by_variable ordered r k in
      pointed_by j r y.0 (parts (map filled (filter is_initialised unit.variables)) (filter is_uninitialised unit.variables) y.0 y.1) y.2 means

  back : (j : ℕ) → IsPointedTo (project_of unit) (own_definition j) → (r : Ref) × IsIn refs r × (resolved (project_of unit) 0 0 r ≡ Some (function (own_definition j)))
  back j h =
      let x : TVar = h.variable in
      let r : Ref = h.name in
      let place = place_in_unit unit x h.at.in_module h.at.in_unit h.at.number h.there in
      let full : is_initialised x ≡ true = ap is_some h.initialised in
      let listed : IsIn ordered (filled x) =
      in_left (map filled (filter is_initialised unit.variables)) (filter is_uninitialised unit.variables) (filled x)
      (maps (filter is_initialised unit.variables) x (passes is_initialised unit.variables x full (got_in unit.variables h.at.number x place.2))) in
      let more : List Init = replicate (room x.count - length h.values) (Num 0) in
      let value : IsIn (values_of (filled x)) (Fun r) =
      subst (λ (o : Option (List Init)). IsIn (unwrap_or (option_map (fill x) o) []) (Fun r)) (sym h.initialised)
      (in_left h.values more (Fun r) (contained_is_in h.values (Fun r) h.named)) in
      let here = in_flat_map named_by (values_of (filled x)) (Fun r) r value (inl refl) in (
        r,
        in_flat_map named_by_variable ordered (filled x) r listed here,
        subst (λ m. resolved (project_of unit) m 0 r ≡ Some (function (own_definition j))) place.0
            (subst (λ u. resolved (project_of unit) h.at.in_module u r ≡ Some (function (own_definition j))) place.1 h.means),
      )

  abbrev listed_pointers : List Pointer
  listed_pointers = flat_map (pointers_in_variable Program (objects_of name unit) 0) (enumerate_from 0 ordered)

  same_row : filter_map (record_of (records name unit well)) (symbols_to name unit (listed_pointers ++ [])) ≡ row_of name unit well refs
  same_row = ap (filter_map (record_of (records name unit well))) (ap (symbols_to name unit) (append-nil listed_pointers) ∙ of_variables name unit 0 ordered)

  there : (j : ℕ) → IsIn (0 ∷ filter_map (record_of (records name unit well)) (symbols_to name unit (listed_pointers ++ []))) (suc j) →
      IsPointedTo (project_of unit) (own_definition j)
  there j (inl e) = cc
  there j (inr k) =
      let t = row_there name unit well refs refs_have (suc j) (subst (λ l. IsIn l (suc j)) same_row k) in
      pointed j t.0 t.1 (designates_this name unit well t.0 j t.2)

  here_again : (j : ℕ) → IsPointedTo (project_of unit) (own_definition j) →
      IsIn (0 ∷ filter_map (record_of (records name unit well)) (symbols_to name unit (listed_pointers ++ []))) (suc j)
  here_again j h =
      let b = back j h in
      inr (subst (λ l. IsIn l (suc j)) (sym same_row) (row_back name unit well refs refs_have j b.0 b.1 b.2))

  abbrev all_roots : List ℕ
  all_roots = 0 ∷ filter_map (record_of (records name unit well)) (symbols_to name unit (listed_pointers ++ []))

pub roots_are_roots : RootsAreRoots
roots_are_roots name unit well zero = (λ h. tt, λ h. in_is_contained (all_roots name unit well) 0 (inl refl))
roots_are_roots name unit well (suc j) = (
  λ h. there name unit well j (contained_is_in (all_roots name unit well) (suc j) h),
  λ h. in_is_contained (all_roots name unit well) (suc j) (here_again name unit well j h),
)
