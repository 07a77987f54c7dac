-- Which dependency tables are allowed for a number of symbols and a text of some bytes.
use Rattle.std.specs.Prelude.{◌≡◌, ◌+◌, ◌%◌, ◌<◌, ◌^◌, ℕ, List, [], ◌∷◌, length, Option, Some, None}
use Rattle.std.specs.List.{AllByRecursion}
use Rattle.pw_base.specs.Name.{IsName}
use Rattle.pw_base.specs.TypeText.{IsTypeText}
use Rattle.pw_module.specs.declared.dep_table.DepTable.{DepTable}
use Rattle.pw_module.specs.declared.dep_table.FunRec.{FunRec}
use Rattle.pw_module.specs.declared.dep_table.RootRec.{RootRec}
use Rattle.pw_module.specs.declared.dep_table.TypeRec.{TypeRec}

-- each item follows what its former left, from a number on: `next` is the number that an item leaves, and the last one meets `End`
abbrev pub Follow : {A : Type 0} → (ℕ → A → Type 0) → (ℕ → A → ℕ) → (ℕ → Type 0) → ℕ → List A → Type 0
Follow Right next End former [] = End former
Follow Right next End former (x ∷ xs) = Right former x × Follow Right next End (next former x) xs

-- the number of a symbol: the first one is none
abbrev pub IsSymbolNumber : ℕ → ℕ → Type 0
IsSymbolNumber symbols n = (0 < n) × (n < symbols)

-- the number of a unit, or none
abbrev pub IsUnitNumber : ℕ → Option ℕ → Type 0
IsUnitNumber units None = Unit {0}
IsUnitNumber units (Some unit) = unit < units

-- where a function ends
abbrev pub end_of_function : ℕ → FunRec → ℕ
end_of_function former f = f.start + f.size

-- a function that starts where its former ends, and has whole instructions
pub record IsFunctionRecord (symbols units former : ℕ) (f : FunRec) : Type 0 where
  pub symbol : IsSymbolNumber symbols f.sym
  pub of : IsUnitNumber units f.unit
  pub depends : AllByRecursion (IsSymbolNumber symbols) f.deps
  pub few : length f.deps < 2 ^ 32
  pub starts : f.start ≡ former
  pub some : 0 < f.size
  pub whole : f.size % 4 ≡ 0
  pub start_fits : f.start < 2 ^ 32
  pub size_fits : f.size < 2 ^ 32

-- functions fill the text, each right after the one before
abbrev pub AreFunctionRecords : ℕ → ℕ → ℕ → List FunRec → Type 0
AreFunctionRecords symbols units text funs = Follow (IsFunctionRecord symbols units) end_of_function (λ last. last ≡ text) 0 funs

-- a root names two symbols
abbrev pub IsRootRecord : ℕ → RootRec → Type 0
IsRootRecord symbols r = IsSymbolNumber symbols r.var × IsSymbolNumber symbols r.fun

-- a type's symbol is above its former's, and it has a type string
pub record IsTypeRecord (symbols former : ℕ) (t : TypeRec) : Type 0 where
  pub symbol : IsSymbolNumber symbols t.sym
  pub ascends : former < t.sym
  pub typed : IsTypeText t.text

-- the symbol that a type leaves
abbrev pub type_symbol : ℕ → TypeRec → ℕ
type_symbol former t = t.sym

-- types ascend by symbol
abbrev pub AreTypeRecords : ℕ → List TypeRec → Type 0
AreTypeRecords symbols types = Follow (IsTypeRecord symbols) type_symbol (λ _. Unit {0}) 0 types

-- each count is one that a field of four bytes says
pub record HasCounts (t : DepTable) : Type 0 where
  pub units : length t.units < 2 ^ 32
  pub funs : length t.funs < 2 ^ 32
  pub roots : length t.roots < 2 ^ 32
  pub types : length t.types < 2 ^ 32

-- a table of version 1 for so many symbols and so many bytes of text
pub record IsTableOf (symbols text : ℕ) (t : DepTable) : Type 0 where
  pub version : t.version ≡ 1
  pub counts : HasCounts t
  pub units : AllByRecursion IsName t.units
  pub funs : AreFunctionRecords symbols (length t.units) text t.funs
  pub roots : AllByRecursion (IsRootRecord symbols) t.roots
  pub types : AreTypeRecords symbols t.types
