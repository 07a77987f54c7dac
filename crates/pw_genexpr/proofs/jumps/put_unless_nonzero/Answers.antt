-- The answers to the goals of `put_unless_nonzero` in `src/jumps.rt`.
use Rattle.std.proofs.Common.{◌≡◌, ◌+◌, ◌*◌, ◌++◌, [], ◌∷◌, pos, ◌∙◌}
use Rattle.pw_isa.specs.declared.instruction.Inst.TheVariants.{Beq}
use Rattle.pw_isa.specs.Registers.{x0, a0}
use Rattle.pw_code.specs.Items.{instruction}
use Rattle.pw_code.specs.Pieces.{skip}
use Rattle.pw_genexpr.proofs.Appending.{prefix_of_more, gave_up}
use Rattle.pw_genexpr.proofs.jumps.put_unless_nonzero.Goals as goal

pub returns-in_err-put_instruction : goal.returns-in_err-put_instruction
returns-in_err-put_instruction c =
    gave_up _ _ _ _ _ c.from_residual.ensures.1
    (prefix_of_more (instruction (Beq a0 x0 (pos 8)) ∷ []) (skip c.args.words ∷ []) _ _ c.in_err-put_instruction.ensures)
