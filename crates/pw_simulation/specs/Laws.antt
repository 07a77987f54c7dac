-- The laws of single pieces: an address, a checked fault, and a load and a store of a doubleword.
use Rattle.std.specs.Prelude.{◌≡◌, ℕ, suc, ◌+◌, ◌*◌, ◌^◌, ◌<◌, ◌≤◌, ℤ, Some}
use Rattle.pw_isa.specs.declared.instruction.Inst.TheVariants.{Ld, Sd}
use Rattle.pw_tree.specs.declared.ty.Ref.{Ref}
use Rattle.pw_tree.specs.Names.{Definition}
use Rattle.pw_tree.specs.States.{State, Fault, checked}
use Rattle.pw_mem.specs.Words.{doubleword, put_doubleword}
use Rattle.pw_hart.specs.State.{MachineState, Goes, get, set}
use Rattle.pw_hart.specs.Exec.{effective}
use Rattle.pw_hart.specs.Run.{step}
use Rattle.pw_code.specs.Items.{size}
use Rattle.pw_code.specs.Pieces.{fault}
use Rattle.pw_simulation.specs.World.{World, IsApart, reference_place}
use Rattle.pw_simulation.specs.CodeAt.{Brings, HasAt}
use Rattle.pw_simulation.specs.Memories.{IsReady}
use Rattle.pw_simulation.specs.Straight.{Puts}
use Rattle.pw_simulation.specs.Moments.{IsAt, Reaches, IsInside, kind_of, Halts}

-- A pair of instructions has brought the address of what a name means into a register, and changed nothing else.
pub record HasBrought (w : World) (m u rd : ℕ) (to : Ref) (s : MachineState) : Type 0 where
  pub registers : ℕ → ℕ
  pub puts : Puts rd (reference_place w m u to) s.x registers
  pub reaches : Reaches w.code w.words 2 s (record s { x = registers; pc = s.pc + 8 })

-- Each such pair does so from where it stands, for every register but x0.
abbrev pub AddressesAreBrought : Type 0
AddressesAreBrought =
    (w : World) (m u r : ℕ) (to : Ref) (s : MachineState) → IsApart w → IsReady w s.mem → Brings w m u s.pc (suc r) to → HasBrought w m u (suc r) to s

-- The code of a checked fault ends the run with its kind and its line, at an address inside the function that it stands in.
abbrev pub FaultsStop : Type 0
FaultsStop =
    (w : World) (m u stack_pointer calls_left : ℕ) (f : Fault) (line : ℕ) (d : Definition) (st : State) (s : MachineState) →
    IsApart w → line < 2 ^ 64 → IsAt w stack_pointer calls_left st s → HasAt w m u s.pc (fault (kind_of f) line) →
    ((at : ℕ) → s.pc ≤ at → at < s.pc + 4 * size (fault (kind_of f) line) → IsInside w d at) →
    Halts w (size (fault (kind_of f) line)) (checked f d line) st s

-- A doubleword is loaded into a register,
abbrev pub LoadsAreCarriedOut : Type 0
LoadsAreCarriedOut =
    (w : World) (s : MachineState) (rd rs1 : ℕ) (imm : ℤ) (at value : ℕ) → IsApart w → IsReady w s.mem → w.code s.pc ≡ Some (Ld rd rs1 imm) →
    effective rs1 imm s ≡ at → doubleword s.mem at ≡ Some value → step s ≡ Goes (record s { x = set s.x rd value; pc = s.pc + 4 })

-- and is stored from one.
abbrev pub StoresAreCarriedOut : Type 0
StoresAreCarriedOut =
    (w : World) (s : MachineState) (rs1 rs2 : ℕ) (imm : ℤ) (at was : ℕ) → IsApart w → IsReady w s.mem → w.code s.pc ≡ Some (Sd rs1 rs2 imm) →
    effective rs1 imm s ≡ at → doubleword s.mem at ≡ Some was →
    step s ≡ Goes (record s { mem = put_doubleword s.mem at (get s.x rs2); pc = s.pc + 4 })
