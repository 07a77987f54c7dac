-- The laws that tie the bytes of a table, the allowed tables and the reading together.
use Rattle.std.specs.Prelude.{◌≡◌, ◌<◌, ◌^◌, ℕ, List, ◌⊎◌, Ok, Err}
use Rattle.pw_base.specs.Bytes.{AreBytes}
use Rattle.pw_module.specs.declared.dep_error.DepError.{DepError}
use Rattle.pw_module.specs.declared.dep_table.DepTable.{DepTable}
use Rattle.pw_module.specs.Spelling.{table_bytes}
use Rattle.pw_module.specs.Allowed.{IsTableOf}
use Rattle.pw_module.specs.Reading.{table_at}

-- the bytes are those of this allowed table
pub record ReadsTable (symbols text : ℕ) (bytes : List ℕ) (t : DepTable) : Type 0 where
  pub allowed : IsTableOf symbols text t
  pub spelled : bytes ≡ table_bytes t

-- a table that is read is allowed, and the bytes are its bytes
abbrev pub ReadTableIsSpelledSo : Type 0
ReadTableIsSpelledSo =
    (symbols text : ℕ) (bytes : List ℕ) (t : DepTable) → AreBytes bytes → table_at symbols text bytes ≡ Ok t →
    ReadsTable symbols text bytes t

-- the bytes of an allowed table are read as that table
abbrev pub SpelledTableIsRead : Type 0
SpelledTableIsRead =
    (symbols text : ℕ) (bytes : List ℕ) (t : DepTable) → symbols < 2 ^ 32 → ReadsTable symbols text bytes t →
    table_at symbols text bytes ≡ Ok t

-- a first fault: the bytes are those of no allowed table
pub record HasTableFault (symbols text : ℕ) (bytes : List ℕ) (fault : DepError) : Type 0 where
  pub first : table_at symbols text bytes ≡ Err fault
  pub none : (t : DepTable) → ReadsTable symbols text bytes t → ⊥

-- any bytes are those of an allowed table, or they have a first fault
abbrev pub TableOrFirstFault : Type 0
TableOrFirstFault =
    (symbols text : ℕ) (bytes : List ℕ) → symbols < 2 ^ 32 → AreBytes bytes
    → ((t : DepTable) × ReadsTable symbols text bytes t) ⊎ ((fault : DepError) × HasTableFault symbols text bytes fault)
