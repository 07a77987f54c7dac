-- The edges between records are what functions lead to.
use Rattle.std.proofs.Common.{◌≡◌, ℕ, zero, suc, ◌+◌, Bool, true, false, List, [], ◌∷◌, ◌++◌, map, Option, Some, None, inl, inr, refl, sym, ap, ◌∙◌, subst, bytes_eq, codes}
use Rattle.std.specs.Prelude.{Contains, slice_get, option_map}
use Rattle.std.specs.Option.{option_or, unwrap_or}
use Rattle.std.specs.List.{filter_map, cons_option, enumerate_from}
use Rattle.std.proofs.lemmas.Option.{slice_get-map}
use Rattle.pw_base.specs.declared.kinds.Kind.TheVariants.{Program}
use Rattle.pw_tree.specs.declared.ty.Ref.{Ref}
use Rattle.pw_tree.specs.declared.ty.Ref.TheVariants.{Global, LocalFun, LocalVar}
use Rattle.pw_tree.specs.Units.{Function, TypedUnit}
use Rattle.pw_tree.specs.Names.{Definition, Entity, function, object, first_found, found, definition_of, resolved}
use Rattle.pw_tree.specs.Depends.{names_of_all}
use Rattle.pw_tree.specs.Meaning.{called_function, no_function}
use Rattle.pw_tree.specs.WellTypedUnits.{IsWellTyped}
use Rattle.pw_module.specs.declared.dep_table.FunRec.{FunRec}
use Rattle.pw_code.specs.Objects.{dependencies, function_object, object_of}
use Rattle.pw_code.specs.Soundness.{IsFunctionRef, IsSoundFunction}
use Rattle.pw_gen.proofs.SoundObject.{sound_object}
use Rattle.pw_place.specs.Symbols.{symbol_number}
use Rattle.pw_place.specs.Tables.{function_record, function_records}
use Rattle.pw_agree.specs.Kept.{Leads}
use Rattle.pw_agree.proofs.Members.{IsIn, contained_is_in, each_in}
use Rattle.pw_image.specs.OneUnit.{project_of, objects_of, own_definition}
use Rattle.pw_image.specs.Records.{record_of, record_meant}
use Rattle.pw_image.specs.Nodes.{node_of, EdgesAreLeads}
use Rattle.pw_image.proofs.SymbolAddresses.{seek_function, seek_variable, meant_is}
use Rattle.pw_image.proofs.Records.{variables_without, name_has_record, references_have_records}
use Rattle.pw_image.proofs.Dependencies.{in_is_contained, at_place, dependencies_are_names}

-- ---- what a list gives

from_some : {X : Type 0} (h : X → Option ℕ) (xs : List X) (n : ℕ) → IsIn (filter_map h xs) n → (x : X) × IsIn xs x × (h x ≡ Some n)
from_some h [] n k = absurd k
from_some {X = X} h (x ∷ xs) n k = by (h x) refl k (from_some h xs n)
  where
    by : (o : Option ℕ) → h x ≡ o → IsIn (cons_option o (filter_map h xs)) n → (IsIn (filter_map h xs) n → (y : X) × IsIn xs y × (h y ≡ Some n))
        → (y : X) × IsIn (x ∷ xs) y × (h y ≡ Some n)
    by None e k later = let y = later k in (y.0, inr y.1, y.2)
    by (Some v) e (inl same) later = (x, inl refl, e ∙ ap Some same)
    by (Some v) e (inr k) later = let y = later k in (y.0, inr y.1, y.2)

head_some : {X : Type 0} (h : X → Option ℕ) (x : X) (more : List ℕ) (n : ℕ) → h x ≡ Some n → IsIn (cons_option (h x) more) n
head_some h x more n e = subst (λ o. IsIn (cons_option o more) n) (sym e) (inl refl)

tail_some : (o : Option ℕ) (more : List ℕ) (n : ℕ) → IsIn more n → IsIn (cons_option o more) n
tail_some None more n k = k
tail_some (Some v) more n k = inr k

to_some : {X : Type 0} (h : X → Option ℕ) (xs : List X) (n : ℕ) (x : X) → IsIn xs x → h x ≡ Some n → IsIn (filter_map h xs) n
to_some h [] n x k e = absurd k
to_some h (y ∷ xs) n x (inl same) e = head_some h y (filter_map h xs) n (ap h same ∙ e)
to_some h (y ∷ xs) n x (inr k) e = tail_some (h y) (filter_map h xs) n (to_some h xs n x k e)

from_map : {X Y : Type 0} (f : X → Y) (xs : List X) (y : Y) → IsIn (map f xs) y → (x : X) × IsIn xs x × (f x ≡ y)
from_map f [] y k = absurd k
from_map f (x ∷ xs) y (inl e) = (x, inl refl, e)
from_map f (x ∷ xs) y (inr k) = let z = from_map f xs y k in (z.0, inr z.1, z.2)

to_map : {X Y : Type 0} (f : X → Y) (xs : List X) (x : X) → IsIn xs x → IsIn (map f xs) (f x)
to_map f [] x k = absurd k
to_map f (y ∷ xs) x (inl e) = inl (ap f e)
to_map f (y ∷ xs) x (inr k) = inr (to_map f xs x k)

-- ---- what a reference designates is the unit's own

module _ (name : List ℕ) (unit : TypedUnit) (wanted : List ℕ) where
  own_found : (i : ℕ) (fs : List Function) (g : Definition) → first_found (seek_function name unit wanted) i fs ≡ Some (function g) → g ≡ own_definition g.number
  own_found i [] g h = cc
  own_found i (f ∷ fs) g h = by f.global (bytes_eq f.name wanted) h (own_found (i + 1) fs g)
    where
      same : function (own_definition i) ≡ function g → g ≡ own_definition g.number
      same e = let one : own_definition i ≡ g = cc in sym one ∙ ap (λ (d : Definition). own_definition d.number) one

      by : (a b : Bool) → option_or (found a b (function (own_definition i))) (first_found (seek_function name unit wanted) (i + 1) fs) ≡ Some (function g)
          → (first_found (seek_function name unit wanted) (i + 1) fs ≡ Some (function g) → g ≡ own_definition g.number) → g ≡ own_definition g.number
      by true true e later = let one : function (own_definition i) ≡ function g = cc in same one
      by true false e later = later e
      by false b e later = later e

  own_by : (g : Definition) (o : Option Entity) → first_found (seek_function name unit wanted) 0 unit.functions ≡ o →
      option_or o (first_found (seek_variable name unit wanted) 0 unit.variables) ≡ Some (function g) → g ≡ own_definition g.number
  own_by g (Some e) there h = own_found 0 unit.functions g (there ∙ h)
  own_by g None there h =
      let none = variables_without name unit wanted 0 unit.variables in
      let some : record_meant (first_found (seek_variable name unit wanted) 0 unit.variables) ≡ Some (suc g.number) = ap record_meant h in cc

pub own_only : (unit : TypedUnit) (r : Ref) (g : Definition) → resolved (project_of unit) 0 0 r ≡ Some (function g) → g ≡ own_definition g.number
own_only unit (Global wanted) g h = own_by [] unit wanted g (first_found (seek_function [] unit wanted) 0 unit.functions) refl (sym (meant_is [] unit wanted) ∙ h)
own_only unit (LocalFun i) g h =
    let one : own_definition i ≡ g = cc in sym one ∙ ap (λ (d : Definition). own_definition d.number) one
own_only unit (LocalVar i) g h = cc

-- a record that a reference has is of the function that it designates
pub record Designates (unit : TypedUnit) (r : Ref) (n : ℕ) : Type 0 where
  pub i : ℕ
  pub number : n ≡ suc i
  pub means : resolved (project_of unit) 0 0 r ≡ Some (function (own_definition i))

designates : (unit : TypedUnit) (r : Ref) (n : ℕ) (o : Option Entity) → resolved (project_of unit) 0 0 r ≡ o → record_meant o ≡ Some n → Designates unit r n
designates unit r n None e h = cc
designates unit r n (Some (object d)) e h = cc
designates unit r n (Some (function g)) e h =
    let at : n ≡ suc g.number = cc in
    record { i = g.number; number = at; means = e ∙ ap (λ d. Some (function d)) (own_only unit r g e) }

module _ (name : List ℕ) (unit : TypedUnit) (well : IsWellTyped unit) where
  abbrev pub records : List FunRec
  records = function_records Program (objects_of name unit)

  abbrev pub symbol_of : Ref → ℕ
  symbol_of r = symbol_number Program (objects_of name unit) 0 r

  abbrev pub HasRecord : Ref → Type 0
  HasRecord r = record_of records (symbol_of r) ≡ record_meant (resolved (project_of unit) 0 0 r)

  abbrev pub row_of : List Ref → List ℕ
  row_of refs = filter_map (record_of records) (map symbol_of refs)

  pub row_there : (refs : List Ref) → ((r : Ref) → IsIn refs r → HasRecord r) → (n : ℕ) → IsIn (row_of refs) n → (r : Ref) × IsIn refs r × Designates unit r n
  row_there refs have n k =
      let s = from_some (record_of records) (map symbol_of refs) n k in
      let r = from_map symbol_of refs s.0 s.1 in
      let is : record_meant (resolved (project_of unit) 0 0 r.0) ≡ Some n = sym (have r.0 r.1) ∙ ap (record_of records) r.2 ∙ s.2 in
      (r.0, r.1, designates unit r.0 n (resolved (project_of unit) 0 0 r.0) refl is)

  pub row_back : (refs : List Ref) → ((r : Ref) → IsIn refs r → HasRecord r) → (i : ℕ) (r : Ref) → IsIn refs r →
      resolved (project_of unit) 0 0 r ≡ Some (function (own_definition i)) → IsIn (row_of refs) (suc i)
  row_back refs have i r k means =
      to_some (record_of records) (map symbol_of refs) (suc i) (symbol_of r) (to_map symbol_of refs r k) (have r k ∙ ap record_meant means)

  pub designates_this : (r : Ref) (j : ℕ) → Designates unit r (suc j) → resolved (project_of unit) 0 0 r ≡ Some (function (own_definition j))
  designates_this r j d = let same : d.i ≡ j = let e = d.number in cc in d.means ∙ ap (λ k. Some (function (own_definition k))) same

  pub no_entry : (r : Ref) → Designates unit r 0 → ⊥
  no_entry r d = let e = d.number in cc

  -- ---- the entry

  abbrev main : Ref
  main = Global (codes "main")

  main_has : (r : Ref) → IsIn (main ∷ []) r → HasRecord r
  main_has r (inl e) = subst HasRecord e (name_has_record name unit (codes "main") well)
  main_has r (inr k) = absurd k

  from_main : (r : Ref) (j : ℕ) → IsIn (main ∷ []) r → resolved (project_of unit) 0 0 r ≡ Some (function (own_definition j)) →
      definition_of (project_of unit) (codes "main") ≡ Some (function (own_definition j))
  from_main r j (inl e) means = ap (resolved (project_of unit) 0 0) e ∙ means
  from_main r j (inr k) means = absurd k

  entry_there : (n : ℕ) → IsIn (row_of (main ∷ [])) n → Leads (project_of unit) (node_of 0) (node_of n)
  entry_there zero k = let t = row_there (main ∷ []) main_has 0 k in no_entry t.0 t.2
  entry_there (suc j) k =
      let t = row_there (main ∷ []) main_has (suc j) k in from_main t.0 j t.1 (designates_this t.0 j t.2)

  entry_back : (n : ℕ) → Leads (project_of unit) (node_of 0) (node_of n) → IsIn (row_of (main ∷ [])) n
  entry_back zero h = absurd h
  entry_back (suc j) h = row_back (main ∷ []) main_has j main (inl refl) h

  -- ---- a function

  at_function : (fs : List Function) (j i : ℕ) (row : List ℕ) →
      slice_get (map (λ (r : FunRec). filter_map (record_of records) r.deps)
      (map (function_record Program (objects_of name unit) 0) (enumerate_from j (map (function_object unit.variables) fs)) ++ [])) i ≡ Some row →
      (f : Function) × (slice_get fs i ≡ Some f) × (row_of (dependencies f) ≡ row)
  at_function [] j i row h = cc
  at_function (f ∷ fs) j zero row h = let same : row_of (dependencies f) ≡ row = cc in (f, refl, same)
  at_function (f ∷ fs) j (suc i) row h = at_function fs (j + 1) i row h

  dependencies_have : (i : ℕ) (f : Function) → slice_get unit.functions i ≡ Some f → (r : Ref) → IsIn (dependencies f) r → HasRecord r
  dependencies_have i f there r k =
      let sound = sound_object name unit well in
      let placed : slice_get (map (function_object unit.variables) unit.functions) i ≡ Some (function_object unit.variables f) =
      slice_get-map (function_object unit.variables) unit.functions i ∙ ap (option_map (function_object unit.variables)) there in
      let own = at_place (IsSoundFunction (object_of name unit)) (map (function_object unit.variables) unit.functions) i (function_object unit.variables f) sound.functions placed in
      references_have_records name unit r well (each_in (IsFunctionRef (object_of name unit)) (dependencies f) r own.dependencies k)

  called_is : (i : ℕ) (f : Function) → slice_get unit.functions i ≡ Some f → called_function (project_of unit) (own_definition i) ≡ f
  called_is i f there = ap (λ o. unwrap_or o no_function) there

  function_there : (i : ℕ) (f : Function) → slice_get unit.functions i ≡ Some f → (n : ℕ) → IsIn (row_of (dependencies f)) n → Leads (project_of unit) (node_of (suc i)) (node_of n)
  function_there i f there zero k = let t = row_there (dependencies f) (dependencies_have i f there) 0 k in no_entry t.0 t.2
  function_there i f there (suc j) k =
      let t = row_there (dependencies f) (dependencies_have i f there) (suc j) k in
      let means = designates_this t.0 j t.2 in
      let named = (dependencies_are_names unit i f t.0 (own_definition j) well there means).1 (in_is_contained (dependencies f) t.0 t.1) in
      (t.0, subst (λ (g : Function). Contains (names_of_all g.body) t.0) (sym (called_is i f there)) named, means)

  function_back : (i : ℕ) (f : Function) → slice_get unit.functions i ≡ Some f → (n : ℕ) → Leads (project_of unit) (node_of (suc i)) (node_of n) → IsIn (row_of (dependencies f)) n
  function_back i f there zero h = absurd h
  function_back i f there (suc j) h =
      let named = subst (λ (g : Function). Contains (names_of_all g.body) h.0) (called_is i f there) h.1 in
      let kept = (dependencies_are_names unit i f h.0 (own_definition j) well there h.2).0 named in
      row_back (dependencies f) (dependencies_have i f there) j h.0 (contained_is_in (dependencies f) h.0 kept) h.2

pub edges_are_leads : EdgesAreLeads
edges_are_leads name unit zero row well there n =
    let same : row_of name unit well (main name unit well ∷ []) ≡ row = cc in (
      λ h. entry_there name unit well n (subst (λ l. IsIn l n) (sym same) (contained_is_in row n h)),
      λ h. in_is_contained row n (subst (λ l. IsIn l n) same (entry_back name unit well n h)),
    )
edges_are_leads name unit (suc i) row well there n =
    let f = at_function name unit well unit.functions 0 i row there in (
      λ h. function_there name unit well i f.0 f.1 n (subst (λ l. IsIn l n) (sym f.2) (contained_is_in row n h)),
      λ h. in_is_contained row n (subst (λ l. IsIn l n) f.2 (function_back name unit well i f.0 f.1 n h)),
    )
