-- What looking a name up answers.
use Rattle.std.specs.Prelude.{◌≡◌, ℕ, List, Option, Some, None}
use Rattle.std.specs.Borrow.{Bor}
use Rattle.std.specs.List.{AllByRecursion}
use Rattle.pw_types.specs.declared.names.File.{File as Declared}
use Rattle.pw_types.specs.declared.meaning.Meaning.{Meaning as Found}
use Rattle.pw_types.specs.declared.meaning.Meaning.TheVariants.{Missing, Local, File}
use Rattle.pw_types.specs.Scopes.{Scope, missing, a_local, declared, name_meaning, file_named}
use Rattle.pw_types.specs.Steps.Uses.{file_number}

-- each name at file scope stands at its own bytes
abbrev pub AreKeyed : {K : Type 0} → (K → List ℕ) → List (K × Declared) → Type 0
AreKeyed bytes entries = AllByRecursion (λ e. bytes e.0 ≡ e.1.name) entries

-- the declaration at file scope of a name and its number, where there is one
abbrev pub Finds : List ℕ → List Declared → Option (ℕ × Bor Declared) → Type 0
Finds name files None = file_named name files ≡ None
Finds name files (Some found) = (file_named name files ≡ Some found.1.now) × (found.0 ≡ file_number name files)

-- The name means this name at file scope, whose number is n.
pub record IsDeclared (scope : Scope) (name : List ℕ) (n : ℕ) (f : Declared) : Type 0 where
  pub means : name_meaning scope name ≡ declared f
  pub number : n ≡ file_number f.name scope.files
  pub name_is : f.name ≡ name

-- what a name means
abbrev pub FindsMeaning : Scope → List ℕ → Found → Type 0
FindsMeaning scope name Missing = name_meaning scope name ≡ missing
FindsMeaning scope name (Local l) = name_meaning scope name ≡ a_local l.now
FindsMeaning scope name (File n f) = IsDeclared scope name n f.now
