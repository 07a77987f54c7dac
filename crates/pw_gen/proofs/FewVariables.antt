-- A well-typed unit has few variables.
use Rattle.std.proofs.Common.{◌≡◌, ℕ, ◌+◌, ◌^◌, ◌<◌, ◌≤◌, List, [], ◌∷◌, length, Option, Some, None, arith}
use Rattle.std.specs.List.{AllByRecursion, fold}
use Rattle.pw_tree.specs.declared.tunit.TVar.{TVar}
use Rattle.pw_tree.specs.Types.{IsArraySize}
use Rattle.pw_tree.specs.Units.{TypedUnit}
use Rattle.pw_tree.specs.WellTypedUnits.{room, IsWellTypedVariable, IsWellTyped}

room_some : (count : Option ℕ) → IsArraySize count → 1 ≤ room count
room_some None h = omega arith
room_some (Some size) h = h.0

-- what a sum adds to what it begins with
added : (unit : TypedUnit) (xs : List TVar) (n : ℕ) → AllByRecursion (IsWellTypedVariable unit) xs →
    n + length xs ≤ fold (λ m (x : TVar). m + room x.count) n xs
added unit [] n h = omega arith
added unit (x ∷ xs) n h =
    let one : 1 ≤ room x.count = room_some x.count h.0.size in
    let others : n + room x.count + length xs ≤ fold (λ m (y : TVar). m + room y.count) (n + room x.count) xs = added unit xs (n + room x.count) h.1 in
    omega arith

pub few_variables : (unit : TypedUnit) → IsWellTyped unit → length unit.variables < 2 ^ 31
few_variables unit h = omega (arith, added unit unit.variables 0 h.variables, h.few_elements)
