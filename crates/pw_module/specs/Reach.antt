-- Which functions of modules are kept, at what level, and which one led to each, by the modules' dependency tables.
use Rattle.std.specs.Prelude.{◌≡◌, ℕ, zero, suc, ◌≤◌, ◌<◌, ◌⊎◌, List, Some, None, Contains, slice_get}
use Rattle.pw_module.specs.declared.module.Module.{Module}
use Rattle.pw_module.specs.declared.module.Def.{Def}
use Rattle.pw_module.specs.declared.dep_table.FunRec.{FunRec}
use Rattle.pw_module.specs.declared.dep_table.RootRec.{RootRec}
use Rattle.pw_module.specs.LoadOrder.{order_of}
use Rattle.pw_module.specs.Resolution.{bound_symbol}

-- A function goes by its module's place in the load order, and by the number of its record, which counts in order of the text.
pub record FunctionNumber : Type 0 where
  pub place : ℕ
  pub record_number : ℕ

-- The record of a function.
pub record IsRecordOf (modules : List Module) (g : FunctionNumber) (f : FunRec) : Type 0 where
  pub module_number : ℕ
  pub loaded : slice_get (order_of modules) g.place ≡ Some module_number
  pub it : Module
  pub there : slice_get modules module_number ≡ Some it
  pub recorded : slice_get it.deps.funs g.record_number ≡ Some f

-- A symbol of the module at a place of the load order means a function. One that means a variable means none.
pub record BindsRecord (modules : List Module) (place sym : ℕ) (g : FunctionNumber) : Type 0 where
  pub module_number : ℕ
  pub loaded : slice_get (order_of modules) place ≡ Some module_number
  pub definition : Def
  pub means : bound_symbol modules module_number sym ≡ Some definition
  pub defined_in : slice_get (order_of modules) g.place ≡ Some definition.«module»
  pub f : FunRec
  pub recorded : IsRecordOf modules g f
  pub symbol : f.sym ≡ definition.sym

-- ---- roots

-- The entry is that of the program, the first module.
pub record IsEntryRecord (modules : List Module) (g : FunctionNumber) : Type 0 where
  pub first : g.place ≡ zero
  pub it : Module
  pub there : slice_get modules zero ≡ Some it
  pub entry : it.entry ≡ Some g.record_number
  pub f : FunRec
  pub recorded : IsRecordOf modules g f

-- A root's record of a loaded module names the function.
pub record IsPointerRecord (modules : List Module) (g : FunctionNumber) : Type 0 where
  pub place : ℕ
  pub module_number : ℕ
  pub loaded : slice_get (order_of modules) place ≡ Some module_number
  pub it : Module
  pub there : slice_get modules module_number ≡ Some it
  pub r : RootRec
  pub root : Contains it.deps.roots r
  pub means : BindsRecord modules place r.fun g

-- The roots: the entry, and each function that a record of a root names.
abbrev pub IsRootFunction : List Module → FunctionNumber → Type 0
IsRootFunction modules g = IsEntryRecord modules g ⊎ IsPointerRecord modules g

-- ---- kept functions

-- A function's record has a dependency that means a function, itself or another.
pub record RecordLeads (modules : List Module) (f g : FunctionNumber) : Type 0 where
  pub from : FunRec
  pub recorded : IsRecordOf modules f from
  pub sym : ℕ
  pub depends : Contains from.deps sym
  pub means : BindsRecord modules f.place sym g

-- A root is kept, and so is what a kept function leads to; nothing else is.
pub data IsKeptRecord (modules : List Module) : FunctionNumber → Type 0 where
  root : {g : FunctionNumber} → IsRootFunction modules g → IsKeptRecord modules g
  named : {f g : FunctionNumber} → IsKeptRecord modules f → RecordLeads modules f g → IsKeptRecord modules g

-- ---- levels and parents

-- A way of so many dependencies leads from a root to a function.
abbrev pub HasRecordWay : List Module → ℕ → FunctionNumber → Type 0
HasRecordWay modules zero g = IsRootFunction modules g
HasRecordWay modules (suc k) g = (f : FunctionNumber) × HasRecordWay modules k f × RecordLeads modules f g

-- The level of a kept function is the length of a shortest way to it.
pub record IsRecordLevel (modules : List Module) (g : FunctionNumber) (k : ℕ) : Type 0 where
  pub way : HasRecordWay modules k g
  pub least : (j : ℕ) → HasRecordWay modules j g → k ≤ j

-- One function stands before another: by load order of modules, then by order of the text.
pub data RecordIsBefore (f g : FunctionNumber) : Type 0 where
  by_module : f.place < g.place → RecordIsBefore f g
  by_record : f.place ≡ g.place → f.record_number < g.record_number → RecordIsBefore f g

-- The parent of a function of level k + 1 is the first function of level k that leads to it.
pub record IsRecordParent (modules : List Module) (g : FunctionNumber) (k : ℕ) (p : FunctionNumber) : Type 0 where
  pub own : IsRecordLevel modules g (suc k)
  pub level : IsRecordLevel modules p k
  pub leads : RecordLeads modules p g
  pub first : (q : FunctionNumber) → IsRecordLevel modules q k → RecordLeads modules q g → RecordIsBefore q p → ⊥
