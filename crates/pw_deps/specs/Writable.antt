-- Which tables can be written: each list of theirs has a length that a field of four bytes says.
use Rattle.std.specs.Prelude.{◌<◌, ◌^◌, ℕ, length}
use Rattle.std.specs.List.{AllByRecursion}
use Rattle.pw_module.specs.declared.dep_table.DepTable.{DepTable}
use Rattle.pw_module.specs.Allowed.{HasCounts, IsTableOf}

-- each list of the table has fewer than 2^32 items
pub record HasFewItems (t : DepTable) : Type 0 where
  pub counts : HasCounts t
  pub deps : AllByRecursion (λ f. length f.deps < 2 ^ 32) t.funs

-- every allowed table is one that can be written
abbrev pub AllowedTablesCanBeWritten : Type 0
AllowedTablesCanBeWritten = (symbols text : ℕ) (t : DepTable) → IsTableOf symbols text t → HasFewItems t
