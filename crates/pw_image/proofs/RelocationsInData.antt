-- The relocations of a unit lie in its data.
use Rattle.std.proofs.Common.{◌≡◌, ℕ, ◌+◌, ◌*◌, ◌≤◌, List, [], ◌∷◌, ◌++◌, map, length, refl, sym, ap, subst, ◌∙◌, arith, flat_map, append_assoc, length-append}
use Rattle.std.specs.List.{AllByRecursion, enumerate_from}
use Rattle.std.proofs.lemmas.List.{length_push}
use Rattle.std.proofs.lemmas.List.Elements.{All-from_recursion}
use Rattle.std.proofs.lemmas.List.Sums.{sum_by-append, sum_by-cons}
use Rattle.pw_base.specs.Field.{field}
use Rattle.pw_base.specs.Limits.{data_offset}
use Rattle.pw_base.specs.declared.kinds.Kind.TheVariants.{Program}
use Rattle.pw_tree.specs.declared.ty.Ref.{Ref}
use Rattle.pw_tree.specs.declared.tunit.TVar.{TVar}
use Rattle.pw_tree.specs.declared.tunit.Init.{Init}
use Rattle.pw_tree.specs.declared.tunit.Init.TheVariants.{Num, Fun}
use Rattle.pw_tree.specs.Units.{TypedUnit}
use Rattle.pw_tree.specs.WellTypedUnits.{room, IsWellTypedVariable, IsWellTyped}
use Rattle.pw_module.specs.declared.relocation.Reloc.{Reloc}
use Rattle.pw_code.specs.Objects.{is_initialised, filled}
use Rattle.pw_gen.proofs.Elements.{each_append, each_map, each_filter, each_passed}
use Rattle.pw_place.specs.Places.{variable_start}
use Rattle.pw_place.specs.Symbols.{ref_of_variable}
use Rattle.pw_place.specs.Contents.{Pointer, element_bytes, variable_content, values_of, pointers_in_element, pointers_in_variable, pointer_relocation, slot_relocation, bytes, zeros, pointers, relocations}
use Rattle.pw_agree.specs.Placing.{elements_of}
use Rattle.pw_image.specs.OneUnit.{objects_of}
use Rattle.pw_image.specs.Relocated.{LiesInData}
use Rattle.pw_image.specs.Laws.{RelocationsLieInData}
use Rattle.pw_image.proofs.Variables.{initialised, fulls}
use Rattle.pw_image.proofs.RelocatedData.{field_is, xs, slots, slot_list, Good, each_good, many_values, starts, all_bytes, all_pointers}

-- ---- how many bytes the data have

length_of_field : (v : ℕ) → length (field 8 v) ≡ 8
length_of_field v = ap length (field_is v)

length_of_element : (value : Init) → length (element_bytes value) ≡ 8
length_of_element (Num n) = length_of_field n
length_of_element (Fun f) = length_of_field 0

length_of_elements : (values : List Init) → length (flat_map element_bytes values) ≡ 8 * length values
length_of_elements [] = refl
length_of_elements (value ∷ values) =
    omega (arith, length-append (element_bytes value) (flat_map element_bytes values), length_of_element value, length_of_elements values)

length_of_slots : (names : List (List ℕ)) → length (flat_map (λ (other : List ℕ). field 8 0) names) ≡ 8 * length names
length_of_slots [] = refl
length_of_slots (name ∷ names) =
    omega (arith, length-append (field 8 0) (flat_map (λ (other : List ℕ). field 8 0) names), length_of_field 0, length_of_slots names)

-- The place of a slot, or of an element, counts from the start of the data.
lies_at : (place size : ℕ) (r : Reloc) → r.offset ≡ data_offset + place → place + 8 ≤ size → LiesInData size r
lies_at place size r at within = record { from = omega arith; to = omega arith }

module _ (name : List ℕ) (unit : TypedUnit) (well : IsWellTyped unit) where
  abbrev room_of : TVar → ℕ
  room_of x = room x.count

  length_of_variables : (ys : List TVar) → AllByRecursion (Good name unit well) ys →
      length (flat_map variable_content (map filled ys)) ≡ 8 * elements_of ys
  length_of_variables [] good = refl
  length_of_variables (y ∷ ys) good =
      let values : List Init = values_of (filled y) in
      let own : length values ≡ room_of y = many_values name unit well y y.init good.0.0.initialiser good.0.1 in
      omega (
        arith,
        length-append (flat_map element_bytes values) (flat_map variable_content (map filled ys)),
        length_of_elements values,
        own,
        length_of_variables ys good.1,
        sum_by-cons room_of y ys,
      )

  -- The variables with an initialiser.
  abbrev inits : List TVar
  inits = initialised (xs name unit well)

  all_good : AllByRecursion (Good name unit well) inits
  all_good =
      each_good name unit well inits (each_filter (IsWellTypedVariable unit) is_initialised (xs name unit well) well.variables)
      (each_passed is_initialised (xs name unit well))

  -- The bytes are those of the slots and of the variables with an initialiser.
  length_of_bytes : length (bytes Program (objects_of name unit)) ≡ slots name unit well + 8 * elements_of inits
  length_of_bytes =
      let fields : List ℕ = flat_map (λ (other : List ℕ). field 8 0) (slot_list name unit well) in
      ap (λ (l : List ℕ). length (fields ++ l)) (all_bytes name unit well)
      ∙ length-append fields (flat_map variable_content (fulls (xs name unit well)))
      ∙ (λ p. length_of_slots (slot_list name unit well) p + length_of_variables inits all_good p)

  -- ---- relocations within so many bytes

  module _ (size : ℕ) where
    slots_lie : (names : List (List ℕ)) (n : ℕ) → 8 * (n + length names) ≤ size →
        AllByRecursion (LiesInData size) (map (slot_relocation Program (objects_of name unit)) (enumerate_from n names))
    slots_lie [] n h = tt
    slots_lie (wanted ∷ names) n h =
        let r : Reloc = slot_relocation Program (objects_of name unit) (n, wanted) in
        (lies_at (8 * n) size r refl (omega arith), slots_lie names (n + 1) (omega arith))

    -- A pointer's relocation lies in the data.
    abbrev PointerLies : Pointer → Type 0
    PointerLies p = LiesInData size (pointer_relocation Program (objects_of name unit) p)

    elements_lie : (values : List Init) (j start : ℕ) (ref : Ref) → start + 8 * (j + length values) ≤ size →
        AllByRecursion PointerLies (flat_map (pointers_in_element 0 ref start) (enumerate_from j values))
    elements_lie [] j start ref h = tt
    elements_lie (Num n ∷ values) j start ref h = elements_lie values (j + 1) start ref (omega arith)
    elements_lie (Fun f ∷ values) j start ref h =
        let p : Pointer = record { unit = 0; variable = ref; at = start + 8 * j; function = f } in
        let r : Reloc = pointer_relocation Program (objects_of name unit) p in
        (lies_at (start + 8 * j) size r refl (omega arith), elements_lie values (j + 1) start ref (omega arith))

    -- The pointers of variables from this number on.
    abbrev pointers_from : ℕ → List TVar → List Pointer
    pointers_from i ys = flat_map (pointers_in_variable Program (objects_of name unit) 0) (enumerate_from i (map filled ys))

    variables_lie : (ys before : List TVar) → inits ≡ before ++ ys → AllByRecursion (Good name unit well) ys →
        slots name unit well + 8 * elements_of inits ≤ size → AllByRecursion PointerLies (pointers_from (length before) ys)
    variables_lie [] before split good enough = tt
    variables_lie (y ∷ ys) before split good enough =
        let i : ℕ = length before in
        let values : List Init = values_of (filled y) in
        let start : ℕ = variable_start Program (objects_of name unit) 0 i in
        let ref : Ref = ref_of_variable i (filled y) in
        let own : length values ≡ room_of y = many_values name unit well y y.init good.0.0.initialiser good.0.1 in
        let from : start ≡ slots name unit well + 8 * elements_of before = starts name unit well before y ys split good.0.1 in
        let whole : elements_of inits ≡ elements_of before + elements_of (y ∷ ys) =
        ap elements_of split ∙ sum_by-append room_of before (y ∷ ys) in
        let parts : elements_of (y ∷ ys) ≡ room_of y + elements_of ys = sum_by-cons room_of y ys in
        let within : start + 8 * (0 + length values) ≤ size = omega arith in
        let later : AllByRecursion PointerLies (pointers_from (i + 1) ys) =
        subst (λ (n : ℕ). AllByRecursion PointerLies (pointers_from n ys)) (length_push before y)
        (variables_lie ys (before ++ y ∷ []) (split ∙ sym (append_assoc before (y ∷ []) ys)) good.1 enough) in
        each_append PointerLies (flat_map (pointers_in_element 0 ref start) (enumerate_from 0 values)) (pointers_from (i + 1) ys)
        (elements_lie values 0 start ref within) later

pub relocations_lie_in_data : RelocationsLieInData
relocations_lie_in_data name unit well =
    let size : ℕ = length (bytes Program (objects_of name unit)) + zeros (objects_of name unit) in
    let enough : slots name unit well + 8 * elements_of (inits name unit well) ≤ size = omega (arith, length_of_bytes name unit well) in
    let names : List (List ℕ) = slot_list name unit well in
    let pointers_lie : AllByRecursion (PointerLies name unit well size) (pointers Program (objects_of name unit)) =
    subst (AllByRecursion (PointerLies name unit well size)) (sym (all_pointers name unit well))
    (variables_lie name unit well size (inits name unit well) [] refl (all_good name unit well) enough) in
    All-from_recursion (LiesInData size) (relocations Program (objects_of name unit))
    (each_append (LiesInData size) (map (slot_relocation Program (objects_of name unit)) (enumerate_from 0 names))
    (map (pointer_relocation Program (objects_of name unit)) (pointers Program (objects_of name unit)))
    (slots_lie name unit well size names 0 (omega arith))
    (each_map (LiesInData size) (pointer_relocation Program (objects_of name unit)) (pointers Program (objects_of name unit)) pointers_lie))
