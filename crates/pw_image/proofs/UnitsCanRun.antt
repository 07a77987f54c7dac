-- A well-typed unit without a fault of a link, and without an unbound name, is a project that can be run.
use Rattle.std.proofs.Common.{◌≡◌, ℕ, zero, suc, ◌+◌, ◌*◌, ◌<◌, Bool, true, false, cond, List, [], ◌∷◌, map, length, Option, Some, None, inl, inr, refl, sym, ap, subst, ◌∙◌, arith, bytes_eq, append-nil, codes}
use Rattle.std.specs.Prelude.{option_map, option_and_then, slice_get, sum_by, count_by, nat_eq}
use Rattle.std.specs.Option.{is_none}
use Rattle.std.specs.List.{AllByRecursion, find, filter}
use Rattle.std.proofs.lemmas.List.{length-map}
use Rattle.std.proofs.lemmas.List.Sums.{sum_by-cons}
use Rattle.pw_base.specs.declared.kinds.Kind.TheVariants.{Program}
use Rattle.pw_tree.specs.declared.ty.Ty.TheVariants.{Long}
use Rattle.pw_tree.specs.declared.ty.Sig.{Sig}
use Rattle.pw_tree.specs.declared.ty.Ref.TheVariants.{Global}
use Rattle.pw_tree.specs.declared.tunit.TVar.{TVar}
use Rattle.pw_tree.specs.declared.tunit.Ext.{Ext}
use Rattle.pw_tree.specs.Types.{AreValueTypes}
use Rattle.pw_tree.specs.TypeTexts.{text_of_function, text_of_variable}
use Rattle.pw_tree.specs.Units.{Function, TypedUnit}
use Rattle.pw_tree.specs.Names.{Definition, Entity, function, object, definition_of, unit_at, function_at, variable_at, text_at}
use Rattle.pw_tree.specs.Binding.{names_used, IsUnbound, Differs}
use Rattle.pw_tree.specs.WellTypedExpressions.{IsSignature, text_named}
use Rattle.pw_tree.specs.WellTypedUnits.{IsWellTypedFunction, IsWellTyped}
use Rattle.pw_code.specs.declared.object.FunCode.{FunCode}
use Rattle.pw_code.specs.declared.object.Object.{Object}
use Rattle.pw_code.specs.FunctionCode.{function_words}
use Rattle.pw_code.specs.Items.{size}
use Rattle.pw_code.specs.Objects.{function_object, object_of}
use Rattle.pw_code.specs.Soundness.{IsSoundFunction, IsSoundVariable, defined_names}
use Rattle.pw_gen.proofs.Elements.{each_append, each_map, each_filter, each_passed}
use Rattle.pw_gen.proofs.References.{IsKnownIn}
use Rattle.pw_gen.proofs.SoundObject.{sound_object}
use Rattle.pw_place.specs.Sizes.{function_bytes}
use Rattle.pw_place.specs.Names.{external_names, definitions_of}
use Rattle.pw_place.specs.Places.{text_size}
use Rattle.pw_place.specs.Refusals.{first_some, wrong_text, no_main, main_type, main_name, link_fault}
use Rattle.pw_place.specs.declared.link_error.LinkError.TheVariants.{NoMain, MainType}
use Rattle.pw_place.proofs.FaultFree.{fault_free_within}
use Rattle.pw_agree.specs.Placing.{words_of_module}
use Rattle.pw_agree.proofs.Members.{IsIn, contained_is_in, each_in}
use Rattle.pw_simulation.specs.Projects.{IsWithinLimits, DefinesMain}
use Rattle.pw_simulation.proofs.Extents.{function_is}
use Rattle.pw_simulation.proofs.Slots.{got_in}
use Rattle.pw_simulation.proofs.Links.{entry_is_in}
use Rattle.pw_simulation.proofs.TypeTexts.{function_text_says, texts_differ}
use Rattle.pw_image.specs.OneUnit.{project_of, objects_of}
use Rattle.pw_image.specs.Unbound.{first_unbound}
use Rattle.pw_image.specs.Laws.{UnitsWithoutFaultsCanRun}
use Rattle.pw_image.proofs.Names.{bytes_eq_is}
use Rattle.pw_image.proofs.SymbolAddresses.{names_are}
use Rattle.pw_image.proofs.Functions.{bytes_of_functions}
use Rattle.pw_image.proofs.ListedNames.{in_mapped, used_is_listed, entry_is_named, defined_is_listed}
use Rattle.pw_image.proofs.FewSlots.{slots_are_few}

-- ---- faults

none_there : {A : Type 0} (xs : List (Option A)) → first_some xs ≡ None → AllByRecursion (λ o. o ≡ None) xs
unfolding first_some
none_there [] h = tt
none_there (None ∷ xs) h = (refl, none_there xs h)
none_there (Some x ∷ xs) h = cc

-- no fault is one of `main`
record NoMainFault (name : List ℕ) (unit : TypedUnit) : Type 0 where
  defined : no_main Program (objects_of name unit) ≡ None
  typed : main_type Program (objects_of name unit) ≡ None

no_main_fault : (name : List ℕ) (unit : TypedUnit) → link_fault Program (objects_of name unit) ≡ None → NoMainFault name unit
no_main_fault name unit h =
    let none = none_there _ h in record { defined = none.1.1.1.1.1.1.0; typed = none.1.1.1.1.1.1.1.0 }

-- ---- the project's unit

its_unit : (unit found : TypedUnit) (m u : ℕ) →
    option_and_then (λ units. slice_get units u) (slice_get (project_of unit) m) ≡ Some found → unit ≡ found
its_unit unit found zero zero h = cc
its_unit unit found zero (suc u) h = cc
its_unit unit found (suc m) u h = cc

own_unit : (unit found : TypedUnit) (d : Definition) → unit_at (project_of unit) d ≡ Some found → unit ≡ found
own_unit unit found d h = its_unit unit found d.in_module d.in_unit h

-- ---- names are bound

passes_not : {X : Type 0} (p : X → Bool) (xs : List X) (x : X) → find p xs ≡ None → IsIn xs x → p x ≡ false
passes_not p [] x none h = absurd h
passes_not p (y ∷ ys) x none h = by_test (p y) refl none h (passes_not p ys x)
  where
    by_test : (b : Bool) → p y ≡ b → cond b (Some y) (find p ys) ≡ None → IsIn (y ∷ ys) x →
        (find p ys ≡ None → IsIn ys x → p x ≡ false) → p x ≡ false
    by_test true e gone k rest = cc
    by_test false e gone (inl same) rest = ap p (sym same) ∙ e
    by_test false e gone (inr k) rest = rest gone k

entity_there : (o : Option Entity) → is_none o ≡ false → (e : Entity) × (o ≡ Some e)
entity_there None h = cc
entity_there (Some e) h = (e, refl)

module _ (unit : TypedUnit) (well : IsWellTyped unit) (bound : first_unbound unit ≡ None) where
  -- what stands in the list has a definition
  listed_is_defined : (name : List ℕ) → IsKnownIn unit (Global name) → (e : Entity) × (definition_of (project_of unit) name ≡ Some e)
  listed_is_defined name h =
      entity_there (definition_of (project_of unit) name)
      (passes_not (λ n. is_none (definition_of (project_of unit) n)) (map (λ (n : Ext). n.name) unit.names) name bound
      (in_mapped (λ (n : Ext). n.name) unit.names (record { name = name; text = h.0 }) (entry_is_in unit.names name h.0 h.1)))

  none_unbound : (name : List ℕ) → IsUnbound (project_of unit) unit name → ⊥
  none_unbound name h =
      let there = listed_is_defined name (used_is_listed unit well name (contained_is_in (names_used unit) (Global name) h.used)) in
      let undefined = h.undefined in
      let found = there.1 in cc

  -- ---- the texts of names

  none_differs : (name declares defines : List ℕ) → Differs (project_of unit) unit name declares defines → ⊥
  none_differs name declares defines h =
      let own = defined_is_listed unit well name h.entity h.found in
      let entry = entry_is_named unit.names (record { name = name; text = declares }) well.names_differ
      (contained_is_in unit.names (record { name = name; text = declares }) h.declares) in
      let there = h.text in
      let one : own.text ≡ defines = let a = own.is in cc in
      let other : own.text ≡ declares = let a = own.listed in cc in
      h.other (sym other ∙ one)

-- ---- `main`

no_more : (n : ℕ) → 0 + n ≡ n
no_more n = omega arith

-- a name that is counted among others is one of them
counted : (wanted : List ℕ) (P : List ℕ → Type 0) (names : List (List ℕ)) → AllByRecursion P names →
    nat_eq (count_by (bytes_eq wanted) names) 0 ≡ false → P wanted
counted wanted P [] each h = cc
counted wanted P (n ∷ ns) each h = by_test (bytes_eq wanted n) refl (counted wanted P ns each.1)
  where
    by_test : (b : Bool) → bytes_eq wanted n ≡ b → (nat_eq (count_by (bytes_eq wanted) ns) 0 ≡ false → P wanted) → P wanted
    by_test true e rest = subst P (sym (bytes_eq_is wanted n e)) each.0
    by_test false e rest =
        let same : count_by (bytes_eq wanted) (n ∷ ns) ≡ count_by (bytes_eq wanted) ns =
        sum_by-cons (λ m. cond (bytes_eq wanted m) 1 0) n ns ∙ ap (λ t. cond t 1 0 + count_by (bytes_eq wanted) ns) e
        ∙ no_more (count_by (bytes_eq wanted) ns) in
        rest (ap (λ k. nat_eq k 0) (sym same) ∙ h)

each_from_both : {X : Type 0} (P Q R : X → Type 0) → ((x : X) → P x → Q x → R x) → (xs : List X) →
    AllByRecursion P xs → AllByRecursion Q xs → AllByRecursion R xs
each_from_both P Q R f [] h k = tt
each_from_both P Q R f (x ∷ xs) h k = (f x h.0 k.0, each_from_both P Q R f xs h.1 k.1)

module _ (name : List ℕ) (unit : TypedUnit) (well : IsWellTyped unit) where
  abbrev code : Object
  code = object_of name unit

  -- the functions and the variables that the object defines with external linkage
  abbrev functions : List FunCode
  functions = filter (λ (f : FunCode). f.global) code.funs

  abbrev variables : List TVar
  variables = filter (λ (x : TVar). x.global) code.vars

  abbrev Listed : List ℕ → Type 0
  Listed n = IsKnownIn unit (Global n)

  functions_listed : AllByRecursion (λ (f : FunCode). Listed f.name) functions
  functions_listed =
      let sound = sound_object name unit well in
      each_from_both (λ (f : FunCode). f.global ≡ true) (IsSoundFunction code) (λ f. Listed f.name) (λ f g s. (f.text, s.named g))
      functions (each_passed (λ (f : FunCode). f.global) code.funs)
      (each_filter (IsSoundFunction code) (λ f. f.global) code.funs sound.functions)

  variables_listed : AllByRecursion (λ (x : TVar). Listed x.name) variables
  variables_listed =
      let sound = sound_object name unit well in
      each_from_both (λ (x : TVar). x.global ≡ true) (IsSoundVariable code) (λ x. Listed x.name)
      (λ x g s. (text_of_variable x.ty x.count, s.named g))
      variables (each_passed (λ (x : TVar). x.global) code.vars)
      (each_filter (IsSoundVariable code) (λ x. x.global) code.vars sound.variables)

  -- each name that it defines stands in the unit's list
  defined_listed : AllByRecursion Listed (defined_names code)
  defined_listed =
      each_append Listed (map (λ (f : FunCode). f.name) functions) (map (λ (x : TVar). x.name) variables)
      (each_map Listed (λ (f : FunCode). f.name) functions functions_listed)
      (each_map Listed (λ (x : TVar). x.name) variables variables_listed)

  some_defined : (c : ℕ) (b : Bool) → nat_eq c 0 ≡ b → cond b (Some NoMain) None ≡ None → nat_eq c 0 ≡ false
  some_defined c true e h = cc
  some_defined c false e h = e

  main_is_listed : no_main Program (objects_of name unit) ≡ None → Listed (codes "main")
  main_is_listed h =
      counted main_name Listed (defined_names code) defined_listed
      (ap (λ l. nat_eq (count_by (bytes_eq main_name) l) 0) (sym (append-nil (defined_names code)))
      ∙ some_defined (definitions_of (objects_of name unit) main_name) (nat_eq (definitions_of (objects_of name unit) main_name) 0) refl h)

  right_text : (text : List ℕ) (b : Bool) → bytes_eq text (codes "l()") ≡ b → cond b None (Some (MainType text)) ≡ None → text ≡ codes "l()"
  right_text text true e h = bytes_eq_is text (codes "l()") e
  right_text text false e h = cc

  main_text : (text : List ℕ) → text_named (codes "main") unit.names ≡ Some text → main_type Program (objects_of name unit) ≡ None →
      text ≡ codes "l()"
  main_text text there h =
      let listed : text_named main_name (external_names (objects_of name unit)) ≡ Some text =
      ap (text_named main_name) (names_are name unit well.names_differ) ∙ there in
      right_text text (bytes_eq text (codes "l()")) refl (ap (option_and_then wrong_text) (sym listed) ∙ h)

abbrev main_sig : Sig
main_sig = record { result = Long; params = [] }

no_params : AreValueTypes []
unfolding AreValueTypes
no_params = tt

text_is : (o : Option Function) (text : List ℕ) → option_map (λ (f : Function). text_of_function f.sig) o ≡ Some text →
    (f : Function) × (o ≡ Some f) × (text_of_function f.sig ≡ text)
text_is None text h = cc
text_is (Some f) text h = (f, refl, cc)

no_variable : (o : Option TVar) → option_map (λ (x : TVar). text_of_variable x.ty x.count) o ≡ Some (codes "l()") → ⊥
no_variable None h = cc
no_variable (Some x) h = let e : text_of_function main_sig ≡ text_of_variable x.ty x.count = cc in texts_differ main_sig x.ty x.count e

-- A definition of `main` with that text is a function `long main(void)`.
main_is : (unit : TypedUnit) → IsWellTyped unit → (e : Entity) → definition_of (project_of unit) (codes "main") ≡ Some e →
    text_at (project_of unit) e ≡ Some (codes "l()") → DefinesMain (project_of unit)
main_is unit well (object d) found text = absurd (no_variable (variable_at (project_of unit) d) text)
main_is unit well (function d) found text =
    let f = text_is (function_at (project_of unit) d) (codes "l()") text in
    let it = function_is (project_of unit) d f.0 f.1 in
    let same = own_unit unit it.unit d it.unit_there in
    let its = subst IsWellTyped same well in
    let in_unit = got_in it.unit.functions d.number f.0 it.there in
    let typed = each_in (IsWellTypedFunction it.unit) it.unit.functions f.0 its.functions in_unit in
    let signature : IsSignature main_sig = record { result = tt; params = no_params; few = omega arith } in
    record { place = d; found = found; body = f.0; there = f.1; type = function_text_says f.0.sig main_sig typed.signature signature f.2 }

-- ---- limits

regroup : (n : ℕ) → 24 + 4 * n ≡ 4 * (6 + (0 + n))
regroup n = omega arith

text_bytes_are : (name : List ℕ) (unit : TypedUnit) → text_size Program (objects_of name unit) ≡ 4 * words_of_module (project_of unit) 0
unfolding size
text_bytes_are name unit =
    ap (λ l. 24 + sum_by function_bytes l) (append-nil (map (function_object unit.variables) unit.functions))
    ∙ ap (λ n. 24 + n) (bytes_of_functions unit.variables unit.functions)
    ∙ regroup (sum_by function_words unit.functions)

within : (name : List ℕ) (unit : TypedUnit) → IsWellTyped unit → link_fault Program (objects_of name unit) ≡ None →
    IsKnownIn unit (Global (codes "main")) → (m : ℕ) → m < 1 → IsWithinLimits (project_of unit) m
within name unit well free main zero below =
    let sizes = fault_free_within Program (objects_of name unit) free in
    let text = sizes.text in
    let names = sizes.names in
    let own : length (external_names (objects_of name unit)) ≡ length unit.names = ap length (names_are name unit well.names_differ) in
    let slots = slots_are_few name unit well main in
    let elements = well.few_elements in
    record {
      text = omega (arith, text_bytes_are name unit);
      slots = omega (arith, length-map unit.names (λ (n : Ext). n.name));
      elements = omega arith;
    }
within name unit well free main (suc m) below = absurd (omega arith)

-- ---- all

pub units_can_run : UnitsWithoutFaultsCanRun
units_can_run name unit well free bound =
    let no_fault = no_main_fault name unit free in
    let listed = main_is_listed name unit well no_fault.defined in
    let main = listed_is_defined unit well bound (codes "main") listed in
    let own = defined_is_listed unit well (codes "main") main.0 main.1 in
    let text = main_text name unit well own.text own.listed no_fault.typed in
    record {
      few = omega arith;
      within = λ m below. within name unit well free listed m below;
      units = λ d found there. subst IsWellTyped (own_unit unit found d there) well;
      bound = λ d found n there unbound.
          none_unbound unit well bound n (subst (λ u. IsUnbound (project_of unit) u n) (sym (own_unit unit found d there)) unbound);
      same = λ d found n declares defines there differs.
          none_differs unit well bound n declares defines
          (subst (λ u. Differs (project_of unit) u n declares defines) (sym (own_unit unit found d there)) differs);
      main = main_is unit well main.0 main.1 (own.is ∙ ap Some text);
    }
