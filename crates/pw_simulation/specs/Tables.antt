-- A code as a table of instructions from a place on.
use Rattle.std.specs.Prelude.{ℕ, ◌+◌, List, [], ◌∷◌, Option, Some, None, nat_eq, if◌then◌else◌}
use Rattle.pw_isa.specs.declared.instruction.Inst.{Inst}
use Rattle.pw_isa.specs.declared.instruction.Inst.TheVariants.{Auipc}
use Rattle.pw_tree.specs.declared.ty.Ref.{Ref}
use Rattle.pw_code.specs.Items.{CodePart, instruction, address}
use Rattle.pw_code.specs.LoadImmediate.{upper, lower}
use Rattle.pw_agree.specs.Image.{distance, with_lower}

-- The instructions of some code at a place, given the address of each target.
abbrev pub instructions_at : (Ref → ℕ) → (place : ℕ) → List CodePart → List Inst
instructions_at target place [] = []
instructions_at target place (instruction i ∷ code) = i ∷ instructions_at target (place + 4) code
instructions_at target place (address rd to ∷ code) =
    Auipc rd (upper (distance place (target to))) ∷ with_lower rd to (lower (distance place (target to))) ∷ instructions_at target (place + 8) code

-- The instruction of a table that begins at a place.
abbrev pub in_table : (start : ℕ) → List Inst → ℕ → Option Inst
in_table start [] at = None
in_table start (i ∷ is) at = if nat_eq at start then Some i else in_table (start + 4) is at
