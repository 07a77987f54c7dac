-- What sound objects refer to has a place.
use Rattle.std.proofs.Common.{◌≡◌, ℕ, ◌+◌, ◌<◌, Bool, true, false, List, [], ◌∷◌, length, refl, zero-add, Option, Some, None}
use Rattle.std.specs.Prelude.{slice_get, option_map, flat_map}
use Rattle.std.specs.List.{AllByRecursion, enumerate_from}
use Rattle.std.specs.Option.{unwrap_or}
use Rattle.std.proofs.lemmas.Option.{slice_get_within}
use Rattle.pw_base.specs.declared.kinds.Kind.{Kind}
use Rattle.pw_tree.specs.declared.ty.Ref.{Ref}
use Rattle.pw_tree.specs.declared.ty.Ref.TheVariants.{Global, LocalFun, LocalVar}
use Rattle.pw_tree.specs.declared.tunit.TVar.{TVar}
use Rattle.pw_tree.specs.declared.tunit.Init.{Init}
use Rattle.pw_tree.specs.declared.tunit.Init.TheVariants.{Num, Fun}
use Rattle.pw_code.specs.declared.item.Item.{Item}
use Rattle.pw_code.specs.declared.item.Item.TheVariants.{Word, Addr}
use Rattle.pw_code.specs.declared.object.FunCode.{FunCode}
use Rattle.pw_code.specs.declared.object.Object.{Object}
use Rattle.pw_code.specs.Soundness.{IsSound, IsSoundItem, IsSoundFunction, IsSoundVariable, IsSoundElement, IsFullInitialiser, IsKnownRef, IsFunctionRef, IsStaticFunction, IsStaticVariable}
use Rattle.pw_place.specs.Places.{functions_in, variables_in, variable_start}
use Rattle.pw_place.specs.Symbols.{ref_of_variable}
use Rattle.pw_place.specs.Contents.{pointers_in_element, pointers_in_values, pointers_in_variable, pointers_in_unit, pointers}
use Rattle.pw_place.specs.Steps.PlaceLists.{IsPlacedRef}
use Rattle.pw_place.specs.Steps.PlacedItems.{IsPlacedItem, IsPlacedFunction}
use Rattle.pw_place.specs.Steps.PointerPlaces.{IsPlacedPointer}
use Rattle.pw_place.proofs.Numbered.{all_at, all_made}

-- ---- references of a unit

module _ (objects : List Object) (unit : ℕ) (o : Object) (there : slice_get objects unit ≡ Some o) where
  pub functions_are : functions_in objects unit ≡ o.funs
  functions_are = rw there refl

  pub variables_are : variables_in objects unit ≡ o.vars
  variables_are = rw there refl

  function_placed : (i : ℕ) → IsStaticFunction o i → i < length (functions_in objects unit)
  function_placed i static = rw functions_are (by (slice_get o.funs i) refl static)
    where
      by : (r : Option FunCode) → slice_get o.funs i ≡ r → option_map (λ f. f.global) r ≡ Some false → i < length o.funs
      by None e static = cc
      by (Some f) e static = slice_get_within o.funs i f e

  variable_placed : (i : ℕ) → IsStaticVariable o i → i < length (variables_in objects unit)
  variable_placed i static = rw variables_are (by (slice_get o.vars i) refl static)
    where
      by : (r : Option TVar) → slice_get o.vars i ≡ r → option_map (λ x. x.global) r ≡ Some false → i < length o.vars
      by None e static = cc
      by (Some x) e static = slice_get_within o.vars i x e

  known_placed : (to : Ref) → IsKnownRef o to → IsPlacedRef objects unit to
  known_placed (Global name) known = tt
  known_placed (LocalFun i) known = function_placed i known
  known_placed (LocalVar i) known = variable_placed i known

  called_placed : (to : Ref) → IsFunctionRef o to → IsPlacedRef objects unit to
  called_placed (Global name) known = tt
  called_placed (LocalFun i) known = function_placed i known
  called_placed (LocalVar i) known = absurd known

  -- ---- items

  item_placed : (item : Item) → IsSoundItem o item → IsPlacedItem objects unit item
  item_placed (Word w) sound = tt
  item_placed (Addr rd to) sound = (sound.0, known_placed to sound.1)

  items_placed : (items : List Item) → AllByRecursion (IsSoundItem o) items → AllByRecursion (IsPlacedItem objects unit) items
  items_placed [] sound = tt
  items_placed (item ∷ items) sound = (item_placed item sound.0, items_placed items sound.1)

  pub functions_placed : (fs : List FunCode) → AllByRecursion (IsSoundFunction o) fs → AllByRecursion (IsPlacedFunction objects unit) fs
  functions_placed [] sound = tt
  functions_placed (f ∷ fs) sound = (items_placed f.items sound.0.items, functions_placed fs sound.1)

  -- ---- pointers

  unit_there : unit < length objects
  unit_there = slice_get_within objects unit o there

  ref_placed : (i : ℕ) (x : TVar) → slice_get o.vars i ≡ Some x → IsPlacedRef objects unit (ref_of_variable i x)
  ref_placed i x at = by x.global refl
    where
      by : (b : Bool) → x.global ≡ b → IsPlacedRef objects unit (ref_of_variable i x)
      by true e = rw e tt
      by false e = rw e (rw variables_are (slice_get_within o.vars i x at))

  element_placed : (variable : Ref) (start j : ℕ) (value : Init) → IsPlacedRef objects unit variable → IsSoundElement o value
      → AllByRecursion (IsPlacedPointer objects) (pointers_in_element unit variable start (j, value))
  element_placed variable start j (Num value) stands sound = tt
  element_placed variable start j (Fun f) stands sound =
      (record { of_unit = unit_there; stands = stands; names = called_placed f sound }, tt)

  values_placed : (variable : Ref) (start : ℕ) (values : List Init) → IsPlacedRef objects unit variable → AllByRecursion (IsSoundElement o) values
      → AllByRecursion (IsPlacedPointer objects) (flat_map (pointers_in_element unit variable start) (enumerate_from 0 values))
  values_placed variable start values stands sound =
      all_made (IsPlacedPointer objects) (pointers_in_element unit variable start) 0 values
      (λ j value at. element_placed variable start (0 + j) value stands (all_at (IsSoundElement o) values j value sound at))

  variable_pointers : (kind : Kind) (i : ℕ) (x : TVar) → slice_get o.vars i ≡ Some x → IsSoundVariable o x
      → AllByRecursion (IsPlacedPointer objects) (pointers_in_variable kind objects unit (i, x))
  variable_pointers kind i x at sound = by x.init sound.initialiser
    where
      by : (init : Option (List Init)) → IsFullInitialiser o x init
          → AllByRecursion (IsPlacedPointer objects) (pointers_in_values kind objects unit i x (unwrap_or init []))
      by None full = tt
      by (Some values) full =
          values_placed (ref_of_variable i x) (variable_start kind objects unit i) values (ref_placed i x at) full.1

  unit_pointers : (kind : Kind) → IsSound o → AllByRecursion (IsPlacedPointer objects) (pointers_in_unit kind objects (unit, o))
  unit_pointers kind sound =
      all_made (IsPlacedPointer objects) (pointers_in_variable kind objects unit) 0 o.vars
      (λ i x at. at_number i x at (variable_pointers kind i x at (all_at (IsSoundVariable o) o.vars i x sound.variables at)))
    where
      at_number : (i : ℕ) (x : TVar) → slice_get o.vars i ≡ Some x
          → AllByRecursion (IsPlacedPointer objects) (pointers_in_variable kind objects unit (i, x))
          → AllByRecursion (IsPlacedPointer objects) (pointers_in_variable kind objects unit (0 + i, x))
      at_number i x at all = rw zero-add all

-- The pointers of sound objects stand in variables that have places, and are to functions that have places.
pub pointers_placed : (kind : Kind) (objects : List Object) → AllByRecursion IsSound objects
    → AllByRecursion (IsPlacedPointer objects) (pointers kind objects)
pointers_placed kind objects sound =
    all_made (IsPlacedPointer objects) (pointers_in_unit kind objects) 0 objects
    (λ unit o there. rw zero-add (unit_pointers objects unit o there kind (all_at IsSound objects unit o sound there)))
