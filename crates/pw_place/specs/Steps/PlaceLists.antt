-- The places of definitions, as lists.
use Rattle.std.specs.Prelude.{◌≡◌, ℕ, ◌<◌, List, map, length, ⊤}
use Rattle.std.specs.List.{enumerate_from}
use Rattle.pw_base.specs.declared.kinds.Kind.{Kind}
use Rattle.pw_tree.specs.declared.ty.Ref.{Ref}
use Rattle.pw_tree.specs.declared.ty.Ref.TheVariants.{Global, LocalFun, LocalVar}
use Rattle.pw_tree.specs.declared.tunit.Ext.{Ext}
use Rattle.pw_code.specs.declared.object.Object.{Object}
use Rattle.pw_place.specs.Names.{external_names}
use Rattle.pw_place.specs.Places.{functions_in, variables_in, function_start, variable_start, slot_names}
use Rattle.pw_place.specs.Steps.WithinLimits.{IsWithinLimits}
use Rattle.pw_place.specs.declared.places.UnitPlaces.{UnitPlaces}

-- The places of a unit's functions, and of its variables; the unit comes with its number.
abbrev pub unit_places : Kind → List Object → ℕ × Object → UnitPlaces
unit_places kind objects (unit, o) = record {
  functions = map (λ f. function_start kind objects unit f.0) (enumerate_from 0 o.funs);
  variables = map (λ x. variable_start kind objects unit x.0) (enumerate_from 0 o.vars);
}

-- The places of all units' definitions.
abbrev pub all_places : Kind → List Object → List UnitPlaces
all_places kind objects = map (unit_places kind objects) (enumerate_from 0 objects)

-- These are the places of the definitions of objects within the limits, the names that have slots, and the external names.
pub record ArePlaces (kind : Kind) (objects : List Object) (units : List UnitPlaces) (slots : List (List ℕ)) (externals : List Ext) : Type 0 where
  pub limits : IsWithinLimits kind objects
  pub places : units ≡ all_places kind objects
  pub with_slots : slots ≡ slot_names kind objects
  pub names : externals ≡ external_names objects

-- A reference is to an external name, or to a definition that a unit has.
abbrev pub IsPlacedRef : List Object → (unit : ℕ) → Ref → Type 0
IsPlacedRef objects unit (Global name) = ⊤
IsPlacedRef objects unit (LocalFun i) = i < length (functions_in objects unit)
IsPlacedRef objects unit (LocalVar i) = i < length (variables_in objects unit)
