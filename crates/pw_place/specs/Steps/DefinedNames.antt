-- The names that are defined, and those that are defined more than once.
use Rattle.std.specs.Prelude.{◌≡◌, ℕ, if◌then◌else◌, List, [], fold, bytes_eq, nat_lt}
use Rattle.std.specs.List.{list_any}
use Rattle.pw_tree.specs.declared.tunit.TVar.{TVar}
use Rattle.pw_code.specs.declared.object.FunCode.{FunCode}
use Rattle.pw_code.specs.declared.object.Object.{Object}
use Rattle.pw_place.specs.Names.{definitions_of}
use Rattle.pw_place.specs.Steps.NameLists.{joined}
use Rattle.pw_place.specs.declared.defined_names.DefinedNames.{DefinedNames}

-- None is defined.
abbrev pub no_names : DefinedNames
no_names = record { all = []; twice = [] }

-- A name is defined once more.
abbrev pub defined : DefinedNames → List ℕ → DefinedNames
defined names name = record {
  all = joined names.all name;
  twice = if list_any (bytes_eq name) names.all then joined names.twice name else names.twice;
}

-- The name of a function, or of a variable, is, where its linkage is external.
abbrev pub function_defined : DefinedNames → FunCode → DefinedNames
function_defined names f = if f.global then defined names f.name else names

-- And where the variable is not static, its name.
abbrev pub variable_defined : DefinedNames → TVar → DefinedNames
variable_defined names x = if x.global then defined names x.name else names

-- Those of a unit are.
abbrev pub unit_defined : DefinedNames → Object → DefinedNames
unit_defined names o = fold variable_defined (fold function_defined names o.funs) o.vars

-- These are the names that objects define, and that they define more than once.
pub record AreDefinedNames (objects : List Object) (names : DefinedNames) : Type 0 where
  pub once : (name : List ℕ) → list_any (bytes_eq name) names.all ≡ nat_lt 0 (definitions_of objects name)
  pub more : (name : List ℕ) → list_any (bytes_eq name) names.twice ≡ nat_lt 1 (definitions_of objects name)
