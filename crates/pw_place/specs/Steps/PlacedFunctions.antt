-- Functions whose dependencies can be named by the numbers of symbols.
use Rattle.std.specs.Prelude.{ℕ, List}
use Rattle.std.specs.List.{AllByRecursion}
use Rattle.pw_code.specs.declared.object.FunCode.{FunCode}
use Rattle.pw_code.specs.declared.object.Object.{Object}
use Rattle.pw_place.specs.Steps.PlaceLists.{IsPlacedRef}

-- What a function of a unit depends on has a place, or is an external name.
abbrev pub HasPlacedDependencies : List Object → (unit : ℕ) → FunCode → Type 0
HasPlacedDependencies objects unit f = AllByRecursion (IsPlacedRef objects unit) f.deps
