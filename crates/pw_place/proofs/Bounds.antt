-- Within the limits all places have room in numbers of 32 bits.
use Rattle.std.proofs.Common.{◌≡◌, ℕ, ◌+◌, ◌*◌, ◌≤◌, Bool, not, List, [], ◌∷◌, ◌++◌, length, take, flat_map, sum_by, Option, Some, None, slice_get, refl, sym, subst, arith}
use Rattle.std.specs.Option.{option_map_or}
use Rattle.std.proofs.lemmas.List.{length-append}
use Rattle.std.proofs.lemmas.Option.{slice_get_within, get_or_from_slice_get}
use Rattle.std.proofs.lemmas.List.Sums.{sum_by-append, sum_by-cons, sum_by-take-le, count_by-le-length, length-filter}
use Rattle.std.specs.Str.{bytes_eq}
use Rattle.pw_base.specs.declared.kinds.Kind.{Kind}
use Rattle.pw_tree.specs.declared.ty.Ref.TheVariants.{Global, LocalFun, LocalVar}
use Rattle.pw_code.specs.declared.item.Item.{Item}
use Rattle.pw_code.specs.declared.item.Item.TheVariants.{Word, Addr}
use Rattle.pw_code.specs.declared.object.Object.{Object}
use Rattle.pw_place.specs.Names.{first_of_each}
use Rattle.pw_place.specs.Sizes.{code_bytes, item_bytes, function_bytes, entry_items}
use Rattle.pw_place.specs.Places.{functions, variables, variables_before, names_in_item, text_items, text_size, slots_size, initialised_size, uninitialised_size, function_start, variable_start}
use Rattle.pw_place.specs.Steps.WithinLimits.{IsWithinLimits}
use Rattle.pw_place.proofs.Sums.{sum_flat, parts_le}
use Rattle.pw_place.proofs.VariableParts.{initialised_part, other_part, initialised_is, others_are, groups_are}

-- The first of each are not more than all.
few_firsts : {A : Type 0} (same : A → A → Bool) (xs : List A) → length (first_of_each same xs) ≤ length xs
unfolding first_of_each
few_firsts same [] = omega arith
few_firsts {A = A} same (x ∷ xs) =
    let rest = few_firsts same xs in
    let test : (y : A) → Bool = λ y. not (same y x) in
    let filtered = length-filter test (first_of_each same xs) in
    let few = count_by-le-length test (first_of_each same xs) in
    omega (arith, rest, filtered, few)

-- An item that refers to an external name has eight bytes.
name_has_bytes : (item : Item) → 8 * length (names_in_item item) ≤ item_bytes item
name_has_bytes (Word w) = omega arith
name_has_bytes (Addr rd (Global name)) = omega arith
name_has_bytes (Addr rd (LocalFun i)) = omega arith
name_has_bytes (Addr rd (LocalVar i)) = omega arith

names_have_bytes : (items : List Item) → 8 * length (flat_map names_in_item items) ≤ code_bytes items
names_have_bytes [] = omega arith
names_have_bytes (item ∷ items) =
    let own = name_has_bytes item in
    let rest = names_have_bytes items in
    let names = length-append (names_in_item item) (flat_map names_in_item items) in
    let bytes = sum_by-cons item_bytes item items in
    omega (arith, own, rest, names, bytes)

text_is : (kind : Kind) (objects : List Object) → code_bytes (text_items kind objects) ≡ text_size kind objects
text_is kind objects =
    let parts = sum_by-append item_bytes (entry_items kind) (flat_map (λ f. f.items) (functions objects)) in
    let rest = sum_flat item_bytes (λ f. f.items) (functions objects) in
    omega (arith, parts, rest)

-- The slots take no more bytes than the text.
pub slots_below : (kind : Kind) (objects : List Object) → slots_size kind objects ≤ text_size kind objects
slots_below kind objects =
    let few = few_firsts bytes_eq (flat_map names_in_item (text_items kind objects)) in
    let names = names_have_bytes (text_items kind objects) in
    let bytes = text_is kind objects in
    omega (arith, few, names, bytes)

-- The bytes of all parts.
pub record HaveRoom (kind : Kind) (objects : List Object) : Type 0 where
  pub text : text_size kind objects ≤ 16777216
  pub slots : slots_size kind objects ≤ 16777216
  pub variables : initialised_size (variables objects) + uninitialised_size (variables objects) ≤ 2097152

pub have_room : (kind : Kind) (objects : List Object) → IsWithinLimits kind objects → HaveRoom kind objects
have_room kind objects limits =
    let slots = slots_below kind objects in
    let groups = groups_are (variables objects) in
    record {
      text = limits.text;
      slots = omega (arith, slots, limits.text);
      variables = omega (arith, groups, limits.elements);
    }

-- What stands before a definition is within all.
module _ {B : Type 0} (f : B → ℕ) (part : Object → List B) where
  pub before_within : (objects : List Object) (unit i : ℕ) →
      sum_by f (flat_map part (take unit objects) ++ take i (option_map_or part (slice_get objects unit) [])) ≤ sum_by f (flat_map part objects)
  before_within objects unit i = by (slice_get objects unit) refl
    where
      by : (it : Option Object) → slice_get objects unit ≡ it →
          sum_by f (flat_map part (take unit objects) ++ take i (option_map_or part (slice_get objects unit) [])) ≤ sum_by f (flat_map part objects)
      by None e = subst (λ o. sum_by f (flat_map part (take unit objects) ++ take i (option_map_or part o [])) ≤ sum_by f (flat_map part objects)) (sym e)
          (let parts = sum_by-append f (flat_map part (take unit objects)) (take i []) in
          let none = sum_by-take-le f [] i in
          let before = sum_flat f part (take unit objects) in
          let all = sum_flat f part objects in
          let within = sum_by-take-le (λ o. sum_by f (part o)) objects unit in
          omega (arith, parts, none, before, all, within))
      by (Some o) e = subst (λ o. sum_by f (flat_map part (take unit objects) ++ take i (option_map_or part o [])) ≤ sum_by f (flat_map part objects)) (sym e)
          (let parts = sum_by-append f (flat_map part (take unit objects)) (take i (part o)) in
          let own = sum_by-take-le f (part o) i in
          let within = parts_le f part objects unit o (slice_get_within objects unit o e) (sym (get_or_from_slice_get objects unit o o e)) in
          omega (arith, parts, own, within))

pub function_within : (kind : Kind) (objects : List Object) (unit i : ℕ) → function_start kind objects unit i ≤ text_size kind objects
function_within kind objects unit i =
    let before = before_within function_bytes (λ o. o.funs) objects unit i in
    omega (arith, before)

pub variable_within : (kind : Kind) (objects : List Object) (unit i : ℕ) →
    variable_start kind objects unit i ≤ slots_size kind objects + initialised_size (variables objects) + uninitialised_size (variables objects)
variable_within kind objects unit i =
    let first = before_within initialised_part (λ o. o.vars) objects unit i in
    let second = before_within other_part (λ o. o.vars) objects unit i in
    let first_before = initialised_is (variables_before objects unit i) in
    let second_before = others_are (variables_before objects unit i) in
    let first_all = initialised_is (variables objects) in
    let second_all = others_are (variables objects) in
    grind (arith, first, second, first_before, second_before, first_all, second_all)
