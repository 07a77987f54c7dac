-- Items whose addresses can be placed.
use Rattle.std.specs.Prelude.{ℕ, ◌<◌, List, ⊤}
use Rattle.std.specs.List.{AllByRecursion}
use Rattle.pw_code.specs.declared.item.Item.{Item}
use Rattle.pw_code.specs.declared.item.Item.TheVariants.{Word, Addr}
use Rattle.pw_code.specs.declared.object.FunCode.{FunCode}
use Rattle.pw_code.specs.declared.object.Object.{Object}
use Rattle.pw_place.specs.Steps.PlaceLists.{IsPlacedRef}

-- An address goes into one of 32 registers, and is of something that has a place.
abbrev pub IsPlacedItem : List Object → (unit : ℕ) → Item → Type 0
IsPlacedItem objects unit (Word w) = ⊤
IsPlacedItem objects unit (Addr rd to) = (rd < 32) × IsPlacedRef objects unit to

-- All items of a function are so.
abbrev pub IsPlacedFunction : List Object → (unit : ℕ) → FunCode → Type 0
IsPlacedFunction objects unit f = AllByRecursion (IsPlacedItem objects unit) f.items
