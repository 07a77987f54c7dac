-- When modules are linked: their units are well typed, they are within the limits, and each name is bound.
use Rattle.std.specs.Prelude.{◌≡◌, ℕ, ◌+◌, ◌*◌, ◌≤◌, List, length, map, flat_map, sum_by, ◌++◌, Some, codes, slice_get}
use Rattle.std.specs.List.{AllByRecursion}
use Rattle.pw_base.specs.Limits as limits
use Rattle.pw_tree.specs.Units.{TypedUnit}
use Rattle.pw_tree.specs.Names.{Definition, function, definition_of, unit_at, text_at}
use Rattle.pw_tree.specs.Binding.{IsUnbound, Differs}
use Rattle.pw_tree.specs.WellTypedUnits.{IsWellTyped}
use Rattle.pw_code.specs.Items.{CodePart, size}
use Rattle.pw_agree.specs.LoadOrder.{ProjectModule, loaded_project}
use Rattle.pw_agree.specs.Placing.{code_before_functions, words_of_unit, elements_of, external_names, each_name_once}

-- The external names of a module: those that the code before its functions refers to, and those that its units have.
abbrev pub names_of_module : List CodePart → List TypedUnit → List (List ℕ)
names_of_module first units = each_name_once (external_names first ++ flat_map (λ unit. map (λ n. n.name) unit.names) units)

-- A module is within its limits of text, of external names and of elements of variables; this code stands before its functions.
pub record IsWithinModuleLimits (first : List CodePart) (units : List TypedUnit) : Type 0 where
  pub text : 4 * (size first + sum_by words_of_unit units) ≤ limits.text_bytes
  pub names : length (names_of_module first units) ≤ limits.module_names
  pub elements : sum_by (λ unit. elements_of unit.variables) units ≤ limits.module_elements

-- A unit of the modules that are loaded.
abbrev pub IsLoaded : List ProjectModule → TypedUnit → Type 0
IsLoaded modules unit = (d : Definition) × (unit_at (loaded_project modules) d ≡ Some unit)

-- The name `main` has a definition, `long main(void)`.
pub record HasMainFunction (modules : List ProjectModule) : Type 0 where
  pub place : Definition
  pub found : definition_of (loaded_project modules) (codes "main") ≡ Some (function place)
  pub text : text_at (loaded_project modules) (function place) ≡ Some (codes "l()")

-- Modules are linked.
pub record AreLinked (modules : List ProjectModule) : Type 0 where
  pub few : length modules ≤ limits.modules
  pub units : AllByRecursion (λ m. AllByRecursion IsWellTyped m.units) modules
  -- each that is loaded, in load order
  pub within : (m : ℕ) (units : List TypedUnit) → slice_get (loaded_project modules) m ≡ Some units → IsWithinModuleLimits (code_before_functions m) units
  -- no binding fault
  pub bound : (unit : TypedUnit) (name : List ℕ) → IsLoaded modules unit → IsUnbound (loaded_project modules) unit name → ⊥
  pub same : (unit : TypedUnit) (name declares defines : List ℕ) → IsLoaded modules unit →
      Differs (loaded_project modules) unit name declares defines → ⊥
  pub main : HasMainFunction modules
