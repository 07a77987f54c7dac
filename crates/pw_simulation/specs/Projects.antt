-- What a project needs to be run, what has to be kept of it, and what has to be in memory.
use Rattle.std.specs.Prelude.{◌≡◌, ℕ, ◌*◌, ◌<◌, ◌≤◌, true, List, [], length, sum_by, Some, codes}
use Rattle.std.specs.Option.{is_some}
use Rattle.pw_base.specs.Limits as limits
use Rattle.pw_tree.specs.declared.ty.Ty.TheVariants.{Long}
use Rattle.pw_tree.specs.Units.{Function, TypedUnit}
use Rattle.pw_tree.specs.Names.{Project, Definition, function, definition_of, unit_at, function_at}
use Rattle.pw_tree.specs.Depends.{entry, defined, Depends}
use Rattle.pw_tree.specs.Binding.{IsUnbound, Differs}
use Rattle.pw_tree.specs.WellTypedUnits.{IsWellTyped}
use Rattle.pw_agree.specs.Kept.{Keep, IsPointedTo}
use Rattle.pw_agree.specs.Placing.{units_of, words_of_module, slots_of, elements_of}

-- ---- what runs

-- A module is within its limits, so that its text ends before its data, and its data before the next module.
pub record IsWithinLimits (project : Project) (m : ℕ) : Type 0 where
  pub text : 4 * words_of_module project m ≤ limits.text_bytes
  pub slots : length (slots_of project m) ≤ limits.module_names
  pub elements : sum_by (λ unit. elements_of unit.variables) (units_of project m) ≤ limits.module_elements

-- `main` is a function `long main(void)`.
pub record DefinesMain (project : Project) : Type 0 where
  pub place : Definition
  pub found : definition_of project (codes "main") ≡ Some (function place)
  pub body : Function
  pub there : function_at project place ≡ Some body
  pub type : body.sig ≡ record { result = Long; params = [] }

-- A project can be run: there are not too many modules, each of them is within its limits, each unit is well typed, each name
-- that one uses is defined, with the type that it declares, and there is a `main`.
pub record CanRun (project : Project) : Type 0 where
  pub few : length project ≤ limits.modules
  pub within : (m : ℕ) → m < length project → IsWithinLimits project m
  pub units : (d : Definition) (unit : TypedUnit) → unit_at project d ≡ Some unit → IsWellTyped unit
  pub bound : (d : Definition) (unit : TypedUnit) (name : List ℕ) → unit_at project d ≡ Some unit → IsUnbound project unit name → ⊥
  pub same : (d : Definition) (unit : TypedUnit) (name declares defines : List ℕ) → unit_at project d ≡ Some unit →
      Differs project unit name declares defines → ⊥
  pub main : DefinesMain project

-- ---- what is kept

-- Functions are kept, among them the roots, and what a kept function depends on.
pub record KeepsEnough (project : Project) (keep : Keep) : Type 0 where
  pub functions : (d : Definition) → keep d ≡ true → is_some (function_at project d) ≡ true
  pub main : (g : Definition) → Depends project entry g → keep g ≡ true
  pub pointed : (g : Definition) → IsPointedTo project g → keep g ≡ true
  pub named : (f g : Definition) → keep f ≡ true → Depends project (defined f) g → keep g ≡ true

-- What is in memory has each function that is kept. A piece-wise run has in memory what it keeps; a whole one has all functions in
-- memory, and yet fetches from those alone that are kept.
abbrev pub HoldsKept : (keep in_memory : Keep) → Type 0
HoldsKept keep in_memory = (d : Definition) → keep d ≡ true → in_memory d ≡ true

-- All functions of a project.
abbrev pub keeps_all : Project → Keep
keeps_all project d = is_some (function_at project d)
