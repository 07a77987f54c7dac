-- The object of a well-typed unit is sound.
use Rattle.std.proofs.Common.{◌≡◌, ℕ, zero, suc, ◌+◌, ◌-◌, ◌≤◌, Bool, true, false, cond, List, [], ◌∷◌, ◌++◌, map, length, replicate, Option, Some, None, refl, sym, ap, subst, ◌∙◌, arith, length-append, bytes_eq, Result, Ok, Err}
use Rattle.std.specs.Prelude.{⊤, option_map, IfOk}
use Rattle.pw_base.specs.declared.no_memory.NoMemory.{NoMemory}
use Rattle.std.specs.Option.{is_none}
use Rattle.std.specs.List.{AllByRecursion, IsDistinct, filter}
use Rattle.std.proofs.lemmas.List.{map-append, length-replicate}
use Rattle.pw_isa.specs.EnvironmentCalls.{depth_fault}
use Rattle.pw_tree.specs.declared.tunit.TVar.{TVar}
use Rattle.pw_tree.specs.declared.tunit.Init.{Init}
use Rattle.pw_tree.specs.declared.tunit.Init.TheVariants.{Num, Fun}
use Rattle.pw_tree.specs.declared.ty.Ty.{Ty}
use Rattle.pw_tree.specs.Types.{IsArraySize}
use Rattle.pw_tree.specs.Units.{Function, TypedUnit}
use Rattle.pw_tree.specs.WellTypedExpressions.{Class, class_of}
use Rattle.pw_tree.specs.WellTypedUnits.{room, Initialises, InitialiserFits, IsWellTypedFunction, IsWellTypedVariable, FunctionIsNamed, VariableIsNamed, IsWellTyped}
use Rattle.pw_code.specs.declared.item.Item.{Item}
use Rattle.pw_code.specs.declared.object.FunCode.{FunCode}
use Rattle.pw_code.specs.declared.object.Object.{Object}
use Rattle.pw_code.specs.Items.{CodePart, instruction, address, item_of, items}
use Rattle.pw_code.specs.StatementCode.{statements_code}
use Rattle.pw_code.specs.Pieces.{past, fault}
use Rattle.pw_code.specs.FunctionCode.{frame_of, store_parameters, opens, opens_words, falls_off, closes, function_targets, function_code}
use Rattle.pw_code.specs.Objects.{functions_of_all, each_once, is_initialised, is_uninitialised, fill, filled, variables_in_order, item_in_order, function_object, object_of}
use Rattle.pw_code.specs.Soundness.{IsKnownRef, IsFunctionRef, IsSoundItem, IsSoundFunction, IsSoundElement, IsFullInitialiser, IsSoundVariable, IsSound, defined_names}
use Rattle.pw_gen.proofs.Elements.{each_append, each_map, each_weaker, each_filter, each_replicate, each_passed}
use Rattle.pw_gen.proofs.FunctionTexts.{function_text}
use Rattle.pw_gen.proofs.References.{IsFunctionIn, function_in, known_in_object, function_in_object}
use Rattle.pw_gen.proofs.VariableOrder.{other_test, in_order}
use Rattle.pw_gen.proofs.DistinctNames.{Lacks, each_of_map, distinct_left, distinct_right, distinct_across, distinct_both, lacks_kept, distinct_kept, distinct_parted}
use Rattle.pw_gen.proofs.SoundPieces.{IsSoundPart, AreSound, both, sound_fault}
use Rattle.pw_gen.proofs.SoundStatements.{sound_statements}
use Rattle.pw_gen.proofs.NamedFunctions.{AreFunctions, statements_name, each_once_named}

each_both : {X : Type 0} (P Q : X → Type 0) (xs : List X) → AllByRecursion P xs → AllByRecursion Q xs → AllByRecursion (λ x. P x × Q x) xs
each_both P Q [] h k = tt
each_both P Q (x ∷ xs) h k = ((h.0, k.0), each_both P Q xs h.1 k.1)

module _ (name : List ℕ) (unit : TypedUnit) where
  abbrev object : Object
  object = object_of name unit

  -- ---- functions

  sound_item : (part : CodePart) → IsSoundPart unit part → IsSoundItem object (item_in_order unit.variables (item_of part))
  sound_item (instruction i) h = tt
  sound_item (address rd to) h = (h.0, known_in_object name unit to h.1)

  sound_items : (code : List CodePart) → AreSound unit code → AllByRecursion (IsSoundItem object) (map (item_in_order unit.variables) (items code))
  sound_items code h =
      each_map (IsSoundItem object) (item_in_order unit.variables) (items code)
      (each_map (λ item. IsSoundItem object (item_in_order unit.variables item)) item_of code
      (each_weaker (IsSoundPart unit) (λ part. IsSoundItem object (item_in_order unit.variables (item_of part))) sound_item code h))

  sound_parameters : (i n : ℕ) → AreSound unit (store_parameters i n)
  unfolding store_parameters
  sound_parameters i zero = tt
  sound_parameters i (suc n) = (tt, sound_parameters (suc i) n)

  sound_opens : (f : Function) → AreSound unit (opens f)
  sound_opens f =
      (tt, both unit (fault depth_fault f.line) _ (sound_fault unit depth_fault f.line) (tt, (tt, (tt, sound_parameters 0 (length f.sig.params)))))

  sound_code : (f : Function) → IsWellTypedFunction unit f → AreSound unit (function_code f)
  sound_code f h =
      both unit (opens f ++ statements_code (frame_of f) (function_targets f) (opens_words f) f.body) (falls_off ∷ closes f)
      (both unit (opens f) (statements_code (frame_of f) (function_targets f) (opens_words f) f.body) (sound_opens f)
      (sound_statements unit (class_of f.sig.result) h.classes (frame_of f) (function_targets f) (opens_words f) f.body h.fits))
      (tt, (tt, (tt, (tt, (tt, tt)))))

  some : (item : Item) (more : List Item) → 1 ≤ length (item ∷ more)
  some item more = omega arith

  sound_function : (f : Function) → IsWellTypedFunction unit f → FunctionIsNamed unit.names f → IsSoundFunction object (function_object unit.variables f)
  sound_function f h named = record {
    has_items = search some;
    items = sound_items (function_code f) (sound_code f h);
    text = function_text f.sig h.signature;
    named = named;
    dependencies =
        each_weaker (IsFunctionIn unit) (IsFunctionRef object) (function_in_object name unit) (each_once (functions_of_all f.body))
        (each_once_named unit (functions_of_all f.body) (statements_name unit h.classes (class_of f.sig.result) f.body h.fits));
  }

  -- ---- variables

  sound_element : (ty : Ty) (element : Init) → Initialises unit ty element → IsSoundElement object element
  sound_element ty (Num value) h = tt
  sound_element ty (Fun f) h = function_in_object name unit f (function_in unit f h.sig h.function)

  full_length : (size : ℕ) (values : List Init) → length values ≤ size → length (values ++ replicate (size - length values) (Num 0)) ≡ size
  full_length size values h = omega (arith, length-append values (replicate (size - length values) (Num 0)), length-replicate (size - length values) (Num 0))

  full : (x : TVar) (o : Option (List Init)) → InitialiserFits unit x o → IsFullInitialiser object (filled x) (option_map (fill x) o)
  full x None h = tt
  full x (Some values) h = (
    full_length (room x.count) values h.0,
    each_append (IsSoundElement object) values (replicate (room x.count - length values) (Num 0))
        (each_weaker (Initialises unit x.ty) (IsSoundElement object) (sound_element x.ty) values h.1)
        (each_replicate (IsSoundElement object) (room x.count - length values) (Num 0) tt),
  )

  not_full : (x : TVar) (o : Option (List Init)) → is_none o ≡ true → IsFullInitialiser object x o
  not_full x None h = tt
  not_full x (Some values) h = cc

  abbrev Fits : TVar → Type 0
  Fits x = IsWellTypedVariable unit x × VariableIsNamed unit.names x

  sound_initialised : (x : TVar) → Fits x → IsSoundVariable object (filled x)
  sound_initialised x h = record { type = h.0.type; size = h.0.size; initialiser = full x x.init h.0.initialiser; named = h.1 }

  sound_uninitialised : (x : TVar) → Fits x × (is_uninitialised x ≡ true) → IsSoundVariable object x
  sound_uninitialised x h = record { type = h.0.0.type; size = h.0.0.size; initialiser = not_full x x.init h.1; named = h.0.1 }

  sound_variables : (xs : List TVar) → AllByRecursion Fits xs → AllByRecursion (IsSoundVariable object) (variables_in_order xs)
  sound_variables xs h =
      each_append (IsSoundVariable object) (map filled (filter is_initialised xs)) (filter is_uninitialised xs)
      (each_map (IsSoundVariable object) filled (filter is_initialised xs)
      (each_weaker Fits (λ x. IsSoundVariable object (filled x)) sound_initialised (filter is_initialised xs) (each_filter Fits is_initialised xs h)))
      (each_weaker (λ x. Fits x × (is_uninitialised x ≡ true)) (IsSoundVariable object) sound_uninitialised (filter is_uninitialised xs)
      (each_both Fits (λ x. is_uninitialised x ≡ true) (filter is_uninitialised xs) (each_filter Fits is_uninitialised xs h)
      (each_passed is_uninitialised xs)))

  -- ---- names

  names_of_functions : (xs : List TVar) (fs : List Function) →
      map (λ (f : FunCode). f.name) (map (function_object xs) fs) ≡ map (λ (f : Function). f.name) fs
  names_of_functions xs [] = refl
  names_of_functions xs (f ∷ fs) = ap (λ l. f.name ∷ l) (names_of_functions xs fs)

  names_filled : (xs : List TVar) → map (λ (x : TVar). x.name) (map filled xs) ≡ map (λ (x : TVar). x.name) xs
  names_filled [] = refl
  names_filled (x ∷ xs) = ap (λ l. x.name ∷ l) (names_filled xs)

  names_in_order : (xs : List TVar) →
      map (λ (x : TVar). x.name) (variables_in_order xs)
      ≡ map (λ (x : TVar). x.name) (filter is_initialised xs) ++ map (λ (x : TVar). x.name) (filter is_uninitialised xs)
  names_in_order xs =
      map-append (λ (x : TVar). x.name) (map filled (filter is_initialised xs)) (filter is_uninitialised xs)
      ∙ ap (λ l. l ++ map (λ (x : TVar). x.name) (filter is_uninitialised xs)) (names_filled (filter is_initialised xs))

  lacks_in_order : (xs : List TVar) (a : List ℕ) → Lacks (map (λ (x : TVar). x.name) xs) a →
      Lacks (map (λ (x : TVar). x.name) (variables_in_order xs)) a
  lacks_in_order xs a h =
      subst (λ l. Lacks l a) (sym (names_in_order xs))
      (each_append (λ b. bytes_eq a b ≡ false) (map (λ (x : TVar). x.name) (filter is_initialised xs)) (map (λ (x : TVar). x.name) (filter is_uninitialised xs))
      (lacks_kept (λ (x : TVar). x.name) is_initialised a xs h) (lacks_kept (λ (x : TVar). x.name) is_uninitialised a xs h))

  definitions_differ : (fs : List Function) (xs : List TVar) →
      IsDistinct bytes_eq (map (λ (f : Function). f.name) fs ++ map (λ (x : TVar). x.name) xs) →
      IsDistinct bytes_eq (
      map (λ (f : FunCode). f.name) (filter (λ (f : FunCode). f.global) (map (function_object xs) fs))
      ++ map (λ (x : TVar). x.name) (filter (λ (x : TVar). x.global) (variables_in_order xs))
      )
  definitions_differ fs xs h =
      let codes : List FunCode = map (function_object xs) fs in
      let ordered : List TVar = variables_in_order xs in
      distinct_both (map (λ (f : FunCode). f.name) (filter (λ (f : FunCode). f.global) codes))
      (map (λ (x : TVar). x.name) (filter (λ (x : TVar). x.global) ordered))
      (distinct_kept (λ (f : FunCode). f.name) (λ (f : FunCode). f.global) codes
      (subst (IsDistinct bytes_eq) (sym (names_of_functions xs fs)) (distinct_left (map (λ (f : Function). f.name) fs) (map (λ (x : TVar). x.name) xs) h)))
      (distinct_kept (λ (x : TVar). x.name) (λ (x : TVar). x.global) ordered
      (subst (IsDistinct bytes_eq) (sym (names_in_order xs))
      (distinct_parted (λ (x : TVar). x.name) is_initialised is_uninitialised other_test xs
      (distinct_right (map (λ (f : Function). f.name) fs) (map (λ (x : TVar). x.name) xs) h))))
      (each_map (Lacks (map (λ (x : TVar). x.name) (filter (λ (x : TVar). x.global) ordered))) (λ (f : FunCode). f.name) (filter (λ (f : FunCode). f.global) codes)
      (each_filter (λ (f : FunCode). Lacks (map (λ (x : TVar). x.name) (filter (λ (x : TVar). x.global) ordered)) f.name) (λ (f : FunCode). f.global) codes
      (each_of_map (Lacks (map (λ (x : TVar). x.name) (filter (λ (x : TVar). x.global) ordered))) (λ (f : FunCode). f.name) codes
      (subst (AllByRecursion (Lacks (map (λ (x : TVar). x.name) (filter (λ (x : TVar). x.global) ordered)))) (sym (names_of_functions xs fs))
      (each_weaker (Lacks (map (λ (x : TVar). x.name) xs)) (Lacks (map (λ (x : TVar). x.name) (filter (λ (x : TVar). x.global) ordered)))
      (λ a l. lacks_kept (λ (x : TVar). x.name) (λ (x : TVar). x.global) a ordered (lacks_in_order xs a l))
      (map (λ (f : Function). f.name) fs)
      (distinct_across (map (λ (f : Function). f.name) fs) (map (λ (x : TVar). x.name) xs) h))))))

  -- ---- all

  sound_functions : (fs : List Function) → AllByRecursion (IsWellTypedFunction unit) fs → AllByRecursion (FunctionIsNamed unit.names) fs →
      AllByRecursion (IsSoundFunction object) (map (function_object unit.variables) fs)
  sound_functions [] h named = tt
  sound_functions (f ∷ fs) h named = (sound_function f h.0 named.0, sound_functions fs h.1 named.1)

  pub sound_object : IsWellTyped unit → IsSound (object_of name unit)
  sound_object h = record {
    definitions_differ = definitions_differ unit.functions unit.variables h.definitions_differ;
    names_differ = h.names_differ;
    texts = h.texts;
    functions = sound_functions unit.functions h.functions h.functions_named;
    variables = sound_variables unit.variables
        (each_both (IsWellTypedVariable unit) (VariableIsNamed unit.names) unit.variables h.variables h.variables_named);
    order = in_order unit.variables;
  }

-- So is an answer that is the object of the scheme.
pub sound_result : (name : List ℕ) (unit : TypedUnit) → IsWellTyped unit → (r : Result Object NoMemory) → IfOk r (λ object. object ≡ object_of name unit) →
    IfOk r IsSound
sound_result name unit h (Ok object) e = subst IsSound (sym e) (sound_object name unit h)
sound_result name unit h (Err _) e = tt
