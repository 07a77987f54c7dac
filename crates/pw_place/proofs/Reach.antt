-- What code refers to is within reach of it.
use Rattle.std.proofs.Common.{◌≡◌, ℕ, zero, suc, ◌+◌, ◌*◌, ◌<◌, ◌≤◌, ◌^◌, Bool, List, [], ◌∷◌, length, refl, arith, pos, w32, Some}
use Rattle.std.specs.Prelude.{not, ◌-ℤ◌, ◌+ℤ◌, bytes_eq, slice_get}
use Rattle.std.specs.List.{position_or_len}
use Rattle.std.proofs.lemmas.Int.{ints, fits_signed_from_abs}
use Rattle.std.proofs.lemmas.List.Sums.{prefix_len-le-length}
use Rattle.pw_base.specs.Limits.{text_offset, text_bytes}
use Rattle.pw_base.specs.declared.kinds.Kind.{Kind}
use Rattle.pw_tree.specs.declared.ty.Ref.{Ref}
use Rattle.pw_tree.specs.declared.ty.Ref.TheVariants.{Global, LocalFun, LocalVar}
use Rattle.pw_code.specs.declared.object.Object.{Object}
use Rattle.pw_place.specs.Distances.{IsWithinReach}
use Rattle.pw_place.specs.Places.{functions_in, variables_in, slot_names, slot_start, target}
use Rattle.pw_place.specs.Steps.PlaceLists.{IsPlacedRef}
use Rattle.pw_place.specs.Steps.WithinLimits.{IsWithinLimits}
use Rattle.pw_place.proofs.Extents.{function_end, variable_end, few_slots}

-- A distance between two places of one module is within reach.
pub is_near : (target at : ℕ) → target < 2 ^ 26 → at ≤ text_offset + text_bytes → IsWithinReach (pos target -ℤ pos at)
is_near target at near low = fits_signed_from_abs w32 (pos target -ℤ pos at +ℤ pos 0x800) (omega (arith, ints))

-- Something that is looked for in a list stands at its end, at most.
within : {X : Type 0} (p : X → Bool) (xs : List X) → position_or_len p xs ≤ length xs
within p xs = prefix_len-le-length (λ x. not (p x)) xs

-- A slot starts within the slots, or right after them.
pub slot_within : (kind : Kind) (objects : List Object) (name : List ℕ) → slot_start kind objects name ≤ 8 * length (slot_names kind objects)
slot_within kind objects name = let at = within (bytes_eq name) (slot_names kind objects) in omega arith

pub element_at : {X : Type 0} (xs : List X) (i : ℕ) → i < length xs → (x : X) × (slice_get xs i ≡ Some x)
element_at [] i low = absurd (omega arith)
element_at (x ∷ xs) zero low = (x, refl)
element_at (x ∷ xs) (suc i) low = element_at xs i (omega arith)

-- What a unit refers to stands within these bytes from the module's base.
pub target_below : (kind : Kind) (objects : List Object) (unit : ℕ) (to : Ref) → IsWithinLimits kind objects → IsPlacedRef objects unit to
    → target kind objects unit to < 2 ^ 26
target_below kind objects unit (Global name) limits placed =
    let at = slot_within kind objects name in
    let slots = few_slots kind objects in
    omega (arith, limits.text)
target_below kind objects unit (LocalFun i) limits placed =
    let there = element_at (functions_in objects unit) i placed in
    let end = function_end kind objects unit i there.0 there.1 in
    omega (arith, limits.text)
target_below kind objects unit (LocalVar i) limits placed =
    let there = element_at (variables_in objects unit) i placed in
    let end = variable_end kind objects unit i there.0 there.1 in
    let slots = few_slots kind objects in
    omega (arith, limits.text, limits.elements)
