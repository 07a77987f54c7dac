-- What is visible at a place of a unit: names at file scope, and the locals of a function (C17, 6.2.1).
use Rattle.std.specs.Prelude.{ℕ, Bool, ◌||◌, map, not, if◌then◌else◌, List, [], ◌∷◌, ◌++◌, Option, Some, None, bytes_eq, find, is_some}
use Rattle.std.specs.List.{prefix_len, list_any}
use Rattle.pw_tree.specs.declared.ty.Ref.{Ref}
use Rattle.pw_tree.specs.declared.ty.Ref.TheVariants.{Global, LocalFun, LocalVar}
use Rattle.pw_types.specs.declared.names.File.{File}
use Rattle.pw_types.specs.declared.names.Local.{Local}

-- ---- scopes

-- What is visible: the names at file scope in order of first declaration, the names of the functions and of the variables
-- that the whole unit defines, in order, and the locals, in order.
pub record Scope : Type 0 where
  pub files : List File
  pub functions : List (List ℕ)
  pub variables : List (List ℕ)
  pub locals : List Local

-- the local that a name means: the newest of that name, which hides the others
unfoldable pub local_named : List ℕ → List Local → Option Local
local_named name [] = None
local_named name (l ∷ ls) =
    if is_some (local_named name ls) then local_named name ls else (if bytes_eq l.name name then Some l else None)

-- the declaration at file scope of a name
abbrev pub file_named : List ℕ → List File → Option File
file_named name files = find (λ f. bytes_eq f.name name) files

-- a declaration joins the names: a name is declared at its first declaration, and defined at its definition
abbrev pub marked : List ℕ → Bool → File → File
marked name is_definition f = if bytes_eq f.name name then record f { defined = f.defined || is_definition } else f

-- the names with a declaration: a later one of its name only defines it, a first one joins them
abbrev pub with_file : File → List File → List File
with_file f files = if is_some (file_named f.name files) then map (marked f.name f.defined) files else files ++ f ∷ []

-- a name joins those that stand there, unless it is one of them
abbrev pub joined : List (List ℕ) → List ℕ → List (List ℕ)
joined names name = if list_any (λ other. bytes_eq other name) names then names else names ++ name ∷ []

-- What a name means at a place.
pub data Meaning : Type 0 where
  missing : Meaning
  a_local : Local → Meaning
  declared : File → Meaning

-- what a name means at file scope
abbrev pub declared_or_missing : Option File → Meaning
declared_or_missing (Some f) = declared f
declared_or_missing None = missing

-- a local where there is one, else another meaning
abbrev pub local_or : Option Local → Meaning → Meaning
local_or (Some l) other = a_local l
local_or None other = other

-- a local hides a name at file scope
unfoldable pub name_meaning : Scope → List ℕ → Meaning
name_meaning scope name = local_or (local_named name scope.locals) (declared_or_missing (file_named name scope.files))

-- how many names stand before this one
abbrev pub number_of : List ℕ → List (List ℕ) → ℕ
number_of name names = prefix_len (λ other. not (bytes_eq other name)) names

-- how a unit names a function and a variable: by the name where its linkage is external, else by the definition's number
abbrev pub function_reference : Scope → File → Ref
function_reference scope f = if f.external then Global f.name else LocalFun (number_of f.name scope.functions)

-- the same of a variable
abbrev pub variable_reference : Scope → File → Ref
variable_reference scope f = if f.external then Global f.name else LocalVar (number_of f.name scope.variables)
