-- Sound objects within the limits have few definitions: a function takes a word at least, and a variable an element.
use Rattle.std.proofs.Common.{ℕ, ◌+◌, ◌*◌, ◌^◌, ◌<◌, ◌≤◌, List, [], ◌∷◌, length, Option, Some, None, arith}
use Rattle.std.specs.Prelude.{sum_by}
use Rattle.std.specs.List.{AllByRecursion}
use Rattle.std.proofs.lemmas.List.Sums.{sum_by-cons, sum_by-append, sum_by-le-sum_by, count_by-le-length}
use Rattle.pw_base.specs.declared.kinds.Kind.{Kind}
use Rattle.pw_tree.specs.declared.tunit.TVar.{TVar}
use Rattle.pw_tree.specs.Types.{IsArraySize}
use Rattle.pw_tree.specs.WellTypedUnits.{room}
use Rattle.pw_code.specs.declared.item.Item.{Item}
use Rattle.pw_code.specs.declared.item.Item.TheVariants.{Word, Addr}
use Rattle.pw_code.specs.declared.object.FunCode.{FunCode}
use Rattle.pw_code.specs.declared.object.Object.{Object}
use Rattle.pw_code.specs.Soundness.{IsSound, IsSoundFunction, IsSoundVariable}
use Rattle.pw_place.specs.Sizes.{item_bytes, code_bytes, function_bytes}
use Rattle.pw_place.specs.Places.{functions, variables}
use Rattle.pw_place.specs.Refusals.{elements}
use Rattle.pw_place.specs.Symbols.{static_definitions}
use Rattle.pw_place.specs.Steps.WithinLimits.{IsWithinLimits}
use Rattle.pw_place.specs.Steps.NumberLists.{is_static_function, is_static_variable, static_in, definitions_in, all_definitions}

abbrev room_of : TVar → ℕ
room_of x = room x.count

item_takes_a_word : (item : Item) → 4 ≤ item_bytes item
item_takes_a_word (Word w) = omega arith
item_takes_a_word (Addr rd to) = omega arith

code_takes_a_word : (items : List Item) → 1 ≤ length items → 4 ≤ code_bytes items
code_takes_a_word [] h = absurd (omega arith)
code_takes_a_word (item ∷ items) h = omega (arith, sum_by-cons item_bytes item items, item_takes_a_word item)

functions_take_words : (o : Object) (fs : List FunCode) → AllByRecursion (IsSoundFunction o) fs → 4 * length fs ≤ sum_by function_bytes fs
functions_take_words o [] h = omega arith
functions_take_words o (f ∷ fs) h =
    omega (arith, sum_by-cons function_bytes f fs, code_takes_a_word f.items h.0.has_items, functions_take_words o fs h.1)

has_room : (count : Option ℕ) → IsArraySize count → 1 ≤ room count
has_room None h = omega arith
has_room (Some size) h = h.0

variables_take_elements : (o : Object) (xs : List TVar) → AllByRecursion (IsSoundVariable o) xs → length xs ≤ sum_by room_of xs
variables_take_elements o [] h = omega arith
variables_take_elements o (x ∷ xs) h =
    omega (arith, sum_by-cons room_of x xs, has_room x.count h.0.size, variables_take_elements o xs h.1)

definitions_take_room : (objects : List Object) → AllByRecursion IsSound objects →
    4 * all_definitions objects ≤ sum_by function_bytes (functions objects) + 4 * elements objects
definitions_take_room [] h = omega arith
definitions_take_room (o ∷ os) h =
    omega (
      arith,
      sum_by-cons definitions_in o os,
      sum_by-append function_bytes o.funs (functions os),
      sum_by-append room_of o.vars (variables os),
      functions_take_words o o.funs h.0.functions,
      variables_take_elements o o.vars h.0.variables,
      definitions_take_room os h.1,
    )

pub few_definitions : (kind : Kind) (objects : List Object) → IsWithinLimits kind objects → AllByRecursion IsSound objects →
    all_definitions objects < 2 ^ 30
few_definitions kind objects limits sound = omega (arith, definitions_take_room objects sound, limits.elements, limits.text)

-- The static ones are no more than all.
pub static_among : (o : Object) → static_in o ≤ definitions_in o
static_among o = omega (arith, count_by-le-length is_static_function o.funs, count_by-le-length is_static_variable o.vars)

pub all_static_among : (objects : List Object) → static_definitions objects ≤ all_definitions objects
all_static_among objects = sum_by-le-sum_by static_in definitions_in objects static_among
