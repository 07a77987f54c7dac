-- Instructions that are carried out one after another, and what loading a number leaves.
use Rattle.std.specs.Prelude.{◌≡◌, ◌≢◌, ℕ, ◌+◌, ◌*◌, ◌^◌, ◌<◌, List, [], ◌∷◌}
use Rattle.pw_hart.specs.State.{MachineState, Next, Goes, Ends}
use Rattle.pw_hart.specs.declared.ends.End.TheVariants.{Limit}
use Rattle.pw_hart.specs.Exec.{exec}
use Rattle.pw_code.specs.Items.{CodePart, instruction, address, size}
use Rattle.pw_code.specs.LoadImmediate.{load_immediate}

-- What follows where a run goes on.
abbrev pub goes_then : (MachineState → Next) → Next → Next
goes_then next (Goes s) = next s
goes_then next (Ends end s) = Ends end s

-- Code without references, carried out from its first instruction to its last.
abbrev pub carried_out : List CodePart → MachineState → Next
carried_out [] s = Goes s
carried_out (instruction i ∷ code) s = goes_then (carried_out code) (exec i s)
carried_out (address rd to ∷ code) s = Ends Limit s

-- Only one register differs, and it has a value.
pub record Puts (rd value : ℕ) (old new : ℕ → ℕ) : Type 0 where
  pub is : new rd ≡ value
  pub others : (r : ℕ) → r ≢ rd → new r ≡ old r

-- Code goes on after itself, with the value in the register and all else as before.
pub record Loads (rd value : ℕ) (code : List CodePart) (s : MachineState) : Type 0 where
  pub registers : ℕ → ℕ
  pub puts : Puts rd value s.x registers
  pub goes : carried_out code s ≡ Goes (record s { x = registers; pc = s.pc + 4 * size code })

-- The code that loads a number leaves it in the register: each number of 64 bits, in each register but x0.
abbrev pub LoadImmediateLoads : Type 0
LoadImmediateLoads =
    (rd value : ℕ) (s : MachineState) → rd ≢ 0 → value < 2 ^ 64 → s.pc + 4 * size (load_immediate rd value) < 2 ^ 64 →
    Loads rd value (load_immediate rd value) s
