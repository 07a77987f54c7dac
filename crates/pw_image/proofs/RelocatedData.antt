-- The data of a unit's object, with addresses in the places of its relocations.
use Rattle.std.proofs.Common.{◌≡◌, true, ℕ, zero, suc, ◌+◌, ◌-◌, ◌*◌, ◌≤◌, List, [], ◌∷◌, ◌++◌, map, length, take, drop, replicate, Option, Some, None, refl, sym, ap, ◌∙◌, arith, flat_map, append-nil, append_assoc, length-append}
use Rattle.std.specs.Prelude.{⊤, if◌then◌else◌, option_map, slice_get}
use Rattle.std.specs.Option.{is_some, is_none, option_map_or, unwrap_or}
use Rattle.std.specs.List.{AllByRecursion, enumerate_from}
use Rattle.std.proofs.lemmas.List.{take_at, drop_at, length-replicate, length_push, length-map, map-append}
use Rattle.std.proofs.lemmas.List.Concat.{flat_map-append}
use Rattle.std.proofs.lemmas.List.Sums.{sum_by_push}
use Rattle.pw_base.specs.Bytes.{le_bytes}
use Rattle.pw_base.specs.Field.{field}
use Rattle.pw_base.specs.Limits.{data_offset}
use Rattle.pw_base.specs.declared.kinds.Kind.TheVariants.{Program}
use Rattle.pw_tree.specs.declared.ty.Ref.{Ref}
use Rattle.pw_tree.specs.declared.tunit.TVar.{TVar}
use Rattle.pw_tree.specs.declared.tunit.Init.{Init}
use Rattle.pw_tree.specs.declared.tunit.Init.TheVariants.{Num, Fun}
use Rattle.pw_tree.specs.Units.{TypedUnit}
use Rattle.pw_tree.specs.Names.{definition_of}
use Rattle.pw_tree.specs.WellTypedUnits.{room, InitialiserFits, IsWellTypedVariable, Initialises, IsWellTyped}
use Rattle.pw_mem.specs.Memory.{zeros}
use Rattle.pw_module.specs.declared.symbol.Symbol.{Symbol}
use Rattle.pw_module.specs.declared.relocation.Reloc.{Reloc}
use Rattle.pw_code.specs.Objects.{is_initialised, is_uninitialised, fill, filled, variables_in_order}
use Rattle.pw_gen.proofs.Elements.{each_passed, each_append, each_replicate, each_filter, each_weaker}
use Rattle.pw_gen.proofs.References.{IsFunctionIn, function_in}
use Rattle.pw_place.specs.Places.{slot_names, variable_start, initialised_size, uninitialised_size}
use Rattle.pw_place.specs.Symbols.{symbols, ref_of_variable}
use Rattle.pw_place.specs.Contents as contents
use Rattle.pw_place.specs.Contents.{Pointer, element_bytes, variable_content, values_of, pointers_in_element, pointers_in_variable, pointer_relocation, slot_relocation}
use Rattle.pw_agree.specs.Placing.{entity_address, elements_of, slots_of}
use Rattle.pw_agree.specs.Image.{element_image, variable_image, variables_image, data_image, doubleword_bytes}
use Rattle.pw_image.specs.OneUnit.{project_of, objects_of}
use Rattle.pw_image.specs.Relocated.{relocation_value, put_at, relocated}
use Rattle.pw_image.specs.Laws.{RelocatedDataAreImage}
use Rattle.pw_image.proofs.Slots.{slots_stand}
use Rattle.pw_image.proofs.Lists.{slice_front, slice_behind}
use Rattle.pw_image.proofs.Variables.{still_some, initialised, uninitialised, fulls, others_without, all_uninitialised, initialised_before}
use Rattle.pw_image.proofs.SymbolAddresses.{address_of_name, address_of_pointer}

-- ---- doublewords

eight : (v : ℕ) → length (le_bytes 8 v) ≡ 8
eight v = refl

pub field_is : (v : ℕ) → field 8 v ≡ le_bytes 8 v
unfolding field
field_is v = refl

put_middle : (front old new rest : List ℕ) (at : ℕ) → length front ≡ at → length old ≡ length new → put_at (front ++ (old ++ rest)) at new ≡ front ++ (new ++ rest)
put_middle front old new rest at h same =
    let past : length (front ++ old) ≡ at + length new = omega (arith, length-append front old) in
    let behind : drop (at + length new) (front ++ (old ++ rest)) ≡ rest =
    ap (drop (at + length new)) (sym (append_assoc front old rest)) ∙ drop_at (front ++ old) rest (at + length new) past in
    λ p. take_at front (old ++ rest) at h p ++ (new ++ behind p)

pub zero_doublewords : (n : ℕ) → doubleword_bytes (zeros n) ≡ zeros (8 * n)
unfolding zeros
zero_doublewords zero = refl
zero_doublewords (suc n) =
    ap (λ l. le_bytes 8 0 ++ l) (zero_doublewords n)
    ∙ ap (λ k. replicate k 0) (let e : suc (suc (suc (suc (suc (suc (suc (suc (8 * n)))))))) ≡ 8 * suc n = omega arith in e)

module _ (name : List ℕ) (unit : TypedUnit) (well : IsWellTyped unit) where
  abbrev all_symbols : List (Option Symbol)
  all_symbols = symbols Program (objects_of name unit)

  -- One doubleword is set.
  set_one : (front old rest : List ℕ) (v : ℕ) (r : Reloc) (rs : List Reloc) → length old ≡ 8 → r.offset ≡ data_offset + length front →
      relocation_value all_symbols r.kind ≡ v →
      relocated all_symbols (front ++ (old ++ rest)) (r ∷ rs) ≡ relocated all_symbols ((front ++ le_bytes 8 v) ++ rest) rs
  unfolding relocated
  set_one front old rest v r rs long at is =
      let place : length front ≡ r.offset - data_offset = omega arith in
      ap (λ w. relocated all_symbols (put_at (front ++ (old ++ rest)) (r.offset - data_offset) (le_bytes 8 w)) rs) is
      ∙ ap (λ l. relocated all_symbols l rs) (put_middle front old (le_bytes 8 v) rest (r.offset - data_offset) place long ∙ sym (append_assoc front (le_bytes 8 v) rest))

  -- ---- slots

  abbrev slot_value : List ℕ → ℕ
  slot_value wanted = entity_address (project_of unit) (definition_of (project_of unit) wanted)

  slots_from : (names : List (List ℕ)) (n : ℕ) (front rest : List ℕ) (rs : List Reloc) → length front ≡ 8 * n →
      relocated all_symbols (front ++ (flat_map (λ (other : List ℕ). field 8 0) names ++ rest))
      (map (slot_relocation Program (objects_of name unit)) (enumerate_from n names) ++ rs)
      ≡ relocated all_symbols (front ++ (doubleword_bytes (map slot_value names) ++ rest)) rs
  slots_from [] n front rest rs h = refl
  slots_from (wanted ∷ names) n front rest rs h =
      let more : List Reloc = map (slot_relocation Program (objects_of name unit)) (enumerate_from (n + 1) names) ++ rs in
      let behind : List ℕ = flat_map (λ (other : List ℕ). field 8 0) names ++ rest in
      let longer : length (front ++ le_bytes 8 (slot_value wanted)) ≡ 8 * (n + 1) = omega (arith, length-append front (le_bytes 8 (slot_value wanted)), eight (slot_value wanted)) in
      ap (λ l. relocated all_symbols (front ++ l) (map (slot_relocation Program (objects_of name unit)) (enumerate_from n (wanted ∷ names)) ++ rs))
      (append_assoc (field 8 0) (flat_map (λ (other : List ℕ). field 8 0) names) rest)
      ∙ set_one front (field 8 0) behind (slot_value wanted) (slot_relocation Program (objects_of name unit) (n, wanted)) more
      (ap length (field_is 0)) (ap (λ m. data_offset + m) (sym h)) (address_of_name name unit well wanted)
      ∙ slots_from names (n + 1) (front ++ le_bytes 8 (slot_value wanted)) rest rs longer
      ∙ ap (λ l. relocated all_symbols l rs) (append_assoc front (le_bytes 8 (slot_value wanted)) (doubleword_bytes (map slot_value names) ++ rest)
      ∙ ap (λ l. front ++ l) (sym (append_assoc (le_bytes 8 (slot_value wanted)) (doubleword_bytes (map slot_value names)) rest)))

  -- ---- elements

  abbrev IsGood : Init → Type 0
  IsGood (Num value) = ⊤
  IsGood (Fun f) = IsFunctionIn unit f

  abbrev element_value : Init → ℕ
  element_value = element_image (project_of unit) 0 0

  joined : (front : List ℕ) (v : ℕ) (more rest : List ℕ) → (front ++ le_bytes 8 v) ++ (more ++ rest) ≡ front ++ ((le_bytes 8 v ++ more) ++ rest)
  joined front v more rest = append_assoc front (le_bytes 8 v) (more ++ rest) ∙ ap (λ l. front ++ l) (sym (append_assoc (le_bytes 8 v) more rest))

  longer : (front : List ℕ) (v start j : ℕ) → length front ≡ start + 8 * j → length (front ++ le_bytes 8 v) ≡ start + 8 * (j + 1)
  longer front v start j h = omega (arith, length-append front (le_bytes 8 v), eight v)

  values_from : (values : List Init) (j start : ℕ) (ref : Ref) (front rest : List ℕ) (rs : List Reloc) → length front ≡ start + 8 * j → AllByRecursion IsGood values →
      relocated all_symbols (front ++ (flat_map element_bytes values ++ rest))
      (map (pointer_relocation Program (objects_of name unit)) (flat_map (pointers_in_element 0 ref start) (enumerate_from j values)) ++ rs)
      ≡ relocated all_symbols (front ++ (doubleword_bytes (map element_value values) ++ rest)) rs
  values_from [] j start ref front rest rs h good = refl
  values_from (Num value ∷ values) j start ref front rest rs h good =
      let more : List Reloc = map (pointer_relocation Program (objects_of name unit)) (flat_map (pointers_in_element 0 ref start) (enumerate_from (j + 1) values)) ++ rs in
      ap (λ w. relocated all_symbols (front ++ ((w ++ flat_map element_bytes values) ++ rest)) more) (field_is value)
      ∙ ap (λ l. relocated all_symbols l more) (sym (joined front value (flat_map element_bytes values) rest))
      ∙ values_from values (j + 1) start ref (front ++ le_bytes 8 value) rest rs (longer front value start j h) good.1
      ∙ ap (λ l. relocated all_symbols l rs) (joined front value (doubleword_bytes (map element_value values)) rest)
  values_from (Fun f ∷ values) j start ref front rest rs h good =
      let more : List Reloc = map (pointer_relocation Program (objects_of name unit)) (flat_map (pointers_in_element 0 ref start) (enumerate_from (j + 1) values)) ++ rs in
      let p : Pointer = record { unit = 0; variable = ref; at = start + 8 * j; function = f } in
      let value : ℕ = element_value (Fun f) in
      ap (λ l. relocated all_symbols (front ++ l) (pointer_relocation Program (objects_of name unit) p ∷ more)) (append_assoc (field 8 0) (flat_map element_bytes values) rest)
      ∙ set_one front (field 8 0) (flat_map element_bytes values ++ rest) value (pointer_relocation Program (objects_of name unit) p) more
      (ap length (field_is 0)) (ap (λ m. data_offset + m) (sym h)) (address_of_pointer name unit well f good.0)
      ∙ values_from values (j + 1) start ref (front ++ le_bytes 8 value) rest rs (longer front value start j h) good.1
      ∙ ap (λ l. relocated all_symbols l rs) (joined front value (doubleword_bytes (map element_value values)) rest)

  -- ---- variables

  abbrev pub Good : TVar → Type 0
  Good x = IsWellTypedVariable unit x × (is_initialised x ≡ true)

  good_element : (x : TVar) (e : Init) → Initialises unit x.ty e → IsGood e
  good_element x (Num value) h = tt
  good_element x (Fun f) h = function_in unit f h.sig h.function

  good_values : (x : TVar) (o : Option (List Init)) → InitialiserFits unit x o → AllByRecursion IsGood (unwrap_or (option_map (fill x) o) [])
  good_values x None h = tt
  good_values x (Some values) h =
      each_append IsGood values (replicate (room x.count - length values) (Num 0))
      (each_weaker (Initialises unit x.ty) IsGood (good_element x) values h.1)
      (each_replicate IsGood (room x.count - length values) (Num 0) tt)

  pub many_values : (x : TVar) (o : Option (List Init)) → InitialiserFits unit x o → is_some o ≡ true → length (unwrap_or (option_map (fill x) o) []) ≡ room x.count
  many_values x None h e = cc
  many_values x (Some values) h e =
      let fits : length values ≤ room x.count = h.0 in
      omega (arith, length-append values (replicate (room x.count - length values) (Num 0)), length-replicate (room x.count - length values) (Num 0))

  same_values : (o : Option (List Init)) → unwrap_or o [] ≡ option_map_or (λ values. values) o []
  same_values None = refl
  same_values (Some values) = refl

  length_of_doublewords : (vs : List ℕ) → length (doubleword_bytes vs) ≡ 8 * length vs
  length_of_doublewords [] = refl
  length_of_doublewords (v ∷ vs) = omega (arith, length-append (le_bytes 8 v) (doubleword_bytes vs), eight v, length_of_doublewords vs)

  abbrev pub slots : ℕ
  slots = 8 * length (slot_names Program (objects_of name unit))

  abbrev pub xs : List TVar
  xs = unit.variables

  -- a variable with an initialiser starts behind those before it
  pub starts : (before : List TVar) (x : TVar) (more : List TVar) → initialised xs ≡ before ++ (x ∷ more) → is_initialised x ≡ true →
      variable_start Program (objects_of name unit) 0 (length before) ≡ slots + 8 * elements_of before
  starts before x more split e =
      let k : ℕ = length before in
      let all : fulls xs ≡ map filled before ++ (filled x ∷ map filled more) = ap (map filled) split ∙ map-append filled before (x ∷ more) in
      let many : length (map filled before) ≡ k = length-map before filled in
      let there : slice_get (variables_in_order xs) k ≡ Some (filled x) =
      slice_front (fulls xs) (uninitialised xs) k (filled x)
      (ap (λ l. slice_get l k) all ∙ ap (slice_get (map filled before ++ (filled x ∷ map filled more))) (let h : k ≡ length (map filled before) + 0 = omega arith in h)
      ∙ slice_behind (map filled before) (filled x ∷ map filled more) 0) in
      let within : k ≤ length (initialised xs) = omega (arith, ap length split, length-append before (x ∷ more)) in
      ap (λ (o : Option TVar). if option_map_or is_initialised o true then slots + initialised_size (take k (variables_in_order xs))
      else slots + initialised_size (variables_in_order xs ++ []) + uninitialised_size (take k (variables_in_order xs))) there
      ∙ ap (λ b. if b then slots + initialised_size (take k (variables_in_order xs))
      else slots + initialised_size (variables_in_order xs ++ []) + uninitialised_size (take k (variables_in_order xs))) (still_some (fill x) x.init e)
      ∙ ap (λ n. slots + n) (initialised_before xs k within ∙ ap (λ l. 8 * elements_of l) (ap (take k) split ∙ take_at before (x ∷ more) k refl))

  abbrev pointers_of : ℕ → List TVar → List Reloc
  pointers_of i ys = map (pointer_relocation Program (objects_of name unit)) (flat_map (pointers_in_variable Program (objects_of name unit) 0) (enumerate_from i ys))

  abbrev images_of : List TVar → List ℕ
  images_of ys = doubleword_bytes (flat_map (variable_image (project_of unit) 0 0) ys)

  variables_from : (rest_of before : List TVar) (front rest : List ℕ) (rs : List Reloc) → initialised xs ≡ before ++ rest_of → AllByRecursion Good rest_of →
      length front ≡ slots + 8 * elements_of before →
      relocated all_symbols (front ++ (flat_map variable_content (map filled rest_of) ++ rest)) (pointers_of (length before) (map filled rest_of) ++ rs)
      ≡ relocated all_symbols (front ++ (images_of rest_of ++ rest)) rs
  variables_from [] before front rest rs split good h = refl
  variables_from (x ∷ more) before front rest rs split good h =
      let i : ℕ = length before in
      let values : List Init = values_of (filled x) in
      let start : ℕ = variable_start Program (objects_of name unit) 0 i in
      let ref : Ref = ref_of_variable i (filled x) in
      let here : List Pointer = flat_map (pointers_in_element 0 ref start) (enumerate_from 0 values) in
      let others : List Pointer = flat_map (pointers_in_variable Program (objects_of name unit) 0) (enumerate_from (i + 1) (map filled more)) in
      let behind : List ℕ = flat_map variable_content (map filled more) ++ rest in
      let own : List ℕ = doubleword_bytes (map element_value values) in
      let from : length front ≡ start + 8 * 0 = omega (arith, starts before x more split good.0.1) in
      let own_length : length own ≡ 8 * room x.count =
      length_of_doublewords (map element_value values) ∙ ap (λ n. 8 * n) (length-map values element_value ∙ many_values x x.init good.0.0.initialiser good.0.1) in
      let next : length (front ++ own) ≡ slots + 8 * elements_of (before ++ x ∷ []) = omega (arith, length-append front own, sum_by_push (λ (y : TVar). room y.count) before x) in
      let number : i + 1 ≡ length (before ++ x ∷ []) = omega (arith, length_push before x) in
      let image : own ≡ doubleword_bytes (variable_image (project_of unit) 0 0 x) = ap (λ l. doubleword_bytes (map element_value l)) (same_values (filled x).init) in
      (λ p. relocated all_symbols (front ++ append_assoc (flat_map element_bytes values) (flat_map variable_content (map filled more)) rest p)
      ((map-append (pointer_relocation Program (objects_of name unit)) here others p) ++ rs))
      ∙ ap (relocated all_symbols (front ++ (flat_map element_bytes values ++ behind)))
      (append_assoc (map (pointer_relocation Program (objects_of name unit)) here) (map (pointer_relocation Program (objects_of name unit)) others) rs)
      ∙ values_from values 0 start ref front behind (map (pointer_relocation Program (objects_of name unit)) others ++ rs) from (good_values x x.init good.0.0.initialiser)
      ∙ ap (λ l. relocated all_symbols l (map (pointer_relocation Program (objects_of name unit)) others ++ rs)) (sym (append_assoc front own behind))
      ∙ ap (λ n. relocated all_symbols ((front ++ own) ++ behind) (pointers_of n (map filled more) ++ rs)) number
      ∙ variables_from more (before ++ x ∷ []) (front ++ own) rest rs (split ∙ sym (append_assoc before (x ∷ []) more)) good.1 next
      ∙ ap (λ l. relocated all_symbols l rs) (append_assoc front own (images_of more ++ rest)
      ∙ ap (λ l. front ++ l) (sym (append_assoc own (images_of more) rest)
      ∙ ap (λ l. l ++ rest) (ap (λ l. l ++ images_of more) image
      ∙ sym (flat_map-append (le_bytes 8) (variable_image (project_of unit) 0 0 x) (flat_map (variable_image (project_of unit) 0 0) more)))))

  -- ---- variables without an initialiser have neither bytes nor pointers

  no_values : (o : Option (List Init)) → is_none o ≡ true → unwrap_or o [] ≡ []
  no_values None h = refl
  no_values (Some values) h = cc

  no_bytes : (ys : List TVar) → AllByRecursion (λ y. is_uninitialised y ≡ true) ys → flat_map variable_content ys ≡ []
  no_bytes [] h = refl
  no_bytes (y ∷ ys) h = λ p. flat_map element_bytes (no_values y.init h.0 p) ++ no_bytes ys h.1 p

  no_pointers : (i : ℕ) (ys : List TVar) → AllByRecursion (λ y. is_uninitialised y ≡ true) ys →
      flat_map (pointers_in_variable Program (objects_of name unit) 0) (enumerate_from i ys) ≡ []
  no_pointers i [] h = refl
  no_pointers i (y ∷ ys) h = λ p.
      flat_map (pointers_in_element 0 (ref_of_variable i y) (variable_start Program (objects_of name unit) 0 i)) (enumerate_from 0 (no_values y.init h.0 p))
      ++ no_pointers (i + 1) ys h.1 p

  enumerated_in_both : (i : ℕ) (ys zs : List TVar) → enumerate_from i (ys ++ zs) ≡ enumerate_from i ys ++ enumerate_from (i + length ys) zs
  enumerated_in_both i [] zs = ap (λ n. enumerate_from n zs) (let e : i ≡ i + 0 = omega arith in e)
  enumerated_in_both i (y ∷ ys) zs =
      ap (λ l. (i, y) ∷ l) (enumerated_in_both (i + 1) ys zs ∙ ap (λ n. enumerate_from (i + 1) ys ++ enumerate_from n zs)
      (let e : i + 1 + length ys ≡ i + suc (length ys) = omega arith in e))

  pub all_bytes : flat_map variable_content (variables_in_order xs ++ []) ≡ flat_map variable_content (fulls xs)
  all_bytes =
      ap (flat_map variable_content) (append-nil (variables_in_order xs))
      ∙ flat_map-append variable_content (fulls xs) (uninitialised xs)
      ∙ ap (λ l. flat_map variable_content (fulls xs) ++ l) (no_bytes (uninitialised xs) (others_without xs)) ∙ append-nil (flat_map variable_content (fulls xs))

  pub all_pointers : flat_map (pointers_in_variable Program (objects_of name unit) 0) (enumerate_from 0 (variables_in_order xs)) ++ []
      ≡ flat_map (pointers_in_variable Program (objects_of name unit) 0) (enumerate_from 0 (fulls xs))
  all_pointers =
      append-nil (flat_map (pointers_in_variable Program (objects_of name unit) 0) (enumerate_from 0 (variables_in_order xs)))
      ∙ ap (flat_map (pointers_in_variable Program (objects_of name unit) 0)) (enumerated_in_both 0 (fulls xs) (uninitialised xs))
      ∙ flat_map-append (pointers_in_variable Program (objects_of name unit) 0) (enumerate_from 0 (fulls xs)) (enumerate_from (0 + length (fulls xs)) (uninitialised xs))
      ∙ ap (λ l. flat_map (pointers_in_variable Program (objects_of name unit) 0) (enumerate_from 0 (fulls xs)) ++ l)
      (no_pointers (0 + length (fulls xs)) (uninitialised xs) (others_without xs))
      ∙ append-nil (flat_map (pointers_in_variable Program (objects_of name unit) 0) (enumerate_from 0 (fulls xs)))

  pub each_good : (ys : List TVar) → AllByRecursion (IsWellTypedVariable unit) ys → AllByRecursion (λ y. is_initialised y ≡ true) ys → AllByRecursion Good ys
  each_good [] h k = tt
  each_good (y ∷ ys) h k = ((h.0, k.0), each_good ys h.1 k.1)

  all_zeros : contents.zeros (objects_of name unit) ≡ 8 * elements_of (uninitialised xs)
  all_zeros = ap uninitialised_size (append-nil (variables_in_order xs)) ∙ all_uninitialised xs

  end_of_relocations : (content : List ℕ) → relocated all_symbols content [] ≡ content
  unfolding relocated
  end_of_relocations content = refl

  abbrev pub slot_list : List (List ℕ)
  slot_list = slot_names Program (objects_of name unit)

  abbrev ends : List ℕ
  ends = zeros (8 * elements_of (uninitialised xs))

  abbrev slot_bytes : List ℕ
  slot_bytes = doubleword_bytes (map slot_value slot_list)

  done : relocated all_symbols (contents.bytes Program (objects_of name unit) ++ zeros (contents.zeros (objects_of name unit))) (contents.relocations Program (objects_of name unit))
      ≡ slot_bytes ++ (images_of (initialised xs) ++ ends)
  done =
      let fields : List ℕ = flat_map (λ (other : List ℕ). field 8 0) slot_list in
      let rs : List Reloc = map (slot_relocation Program (objects_of name unit)) (enumerate_from 0 slot_list) in
      let many : length slot_bytes ≡ slots + 8 * elements_of [] = length_of_doublewords (map slot_value slot_list) ∙ ap (λ n. 8 * n) (length-map slot_list slot_value)
      ∙ (let e : slots ≡ slots + 0 = omega arith in e) in
      (λ p. relocated all_symbols ((fields ++ all_bytes p) ++ zeros (all_zeros p)) (rs ++ map (pointer_relocation Program (objects_of name unit)) (all_pointers p)))
      ∙ ap (λ l. relocated all_symbols l (rs ++ pointers_of 0 (fulls xs))) (append_assoc fields (flat_map variable_content (fulls xs)) ends)
      ∙ slots_from slot_list 0 [] (flat_map variable_content (fulls xs) ++ ends) (pointers_of 0 (fulls xs)) refl
      ∙ ap (relocated all_symbols (slot_bytes ++ (flat_map variable_content (fulls xs) ++ ends))) (sym (append-nil (pointers_of 0 (fulls xs))))
      ∙ variables_from (initialised xs) [] slot_bytes ends [] refl
      (each_good (initialised xs) (each_filter (IsWellTypedVariable unit) is_initialised xs well.variables) (each_passed is_initialised xs)) many
      ∙ end_of_relocations (slot_bytes ++ (images_of (initialised xs) ++ ends))

pub relocated_data_are_image : RelocatedDataAreImage
unfolding variables_image
relocated_data_are_image name unit well =
    let xs : List TVar = unit.variables in
    let value = slot_value name unit well in
    let slots : List ℕ = map value (slots_of (project_of unit) 0) in
    let images : List ℕ = flat_map (variable_image (project_of unit) 0 0) (initialised xs) in
    let none : List ℕ = zeros (elements_of (uninitialised xs)) in
    let image : data_image (project_of unit) 0 ≡ slots ++ (images ++ none) =
    (λ p. (slots ++ append-nil images p) ++ zeros (elements_of (append-nil (uninitialised xs) p))) ∙ append_assoc slots images none in
    let back = sym (zero_doublewords (elements_of (uninitialised xs))) in
    done name unit well
    ∙ (λ p. doubleword_bytes (map value (slots_stand name unit p)) ++ (doubleword_bytes images ++ back p))
    ∙ ap (λ l. doubleword_bytes slots ++ l) (sym (flat_map-append (le_bytes 8) images none))
    ∙ sym (flat_map-append (le_bytes 8) slots (images ++ none))
    ∙ ap doubleword_bytes (sym image)
