-- What holds of the memory at each moment of a run.
use Rattle.std.specs.Prelude.{◌≡◌, ℕ, true, List, Some, Ok}
use Rattle.pw_isa.specs.declared.instruction.Inst.{Inst}
use Rattle.pw_isa.specs.Encoding.{decoded}
use Rattle.pw_tree.specs.Names.{definition_of}
use Rattle.pw_mem.specs.Memory.{Mem, fetch}
use Rattle.pw_mem.specs.Words.{doubleword}
use Rattle.pw_simulation.specs.World.{World, InStack, entity_place}

-- What is fetched at an address is this instruction.
pub record Fetches (m : Mem) (at : ℕ) (i : Inst) : Type 0 where
  pub value : ℕ
  pub fetched : fetch m at ≡ Ok value
  pub reads : decoded value ≡ Some i

-- There is a doubleword at an address.
pub record HasSome (m : Mem) (at : ℕ) : Type 0 where
  pub value : ℕ
  pub is : doubleword m at ≡ Some value

-- The memory is sealed, the code is fetched from it, each slot holds the address of what its name means, and the stack has
-- doublewords.
pub record IsReady (w : World) (m : Mem) : Type 0 where
  pub sealed : m.sealed ≡ true
  pub text : (at : ℕ) (i : Inst) → w.code at ≡ Some i → Fetches m at i
  pub slots : (k : ℕ) (name : List ℕ) → w.has_slot k name ≡ true →
      doubleword m (w.slot_place k name) ≡ Some (entity_place w (definition_of w.project name))
  pub stack : (at : ℕ) → InStack w at → HasSome m at

-- The doublewords at some addresses are as they were.
abbrev pub Keeps : (ℕ → Type 0) → Mem → Mem → Type 0
Keeps K old new = (at : ℕ) → K at → doubleword new at ≡ doubleword old at
