-- A part that gives up leaves the parts before it, and its own first items.
use Rattle.std.proofs.Common.{◌≡◌, [], ◌∷◌, refl}
use Rattle.std.specs.Prelude.{pos}
use Rattle.pw_isa.specs.declared.instruction.Inst.TheVariants.{Sd, Add, Beq}
use Rattle.pw_isa.specs.Registers.{x0, t0, t1, a0}
use Rattle.pw_code.specs.Items.{instruction, address}
use Rattle.pw_code.specs.Pieces.{bytes_of_words, jump}
use Rattle.pw_gen.proofs.Appended.{one_failed}
use Rattle.pw_gen.proofs.control.put_jump_if_nonzero.Goals as goal

pub returns-in_err-put_instruction : goal.returns-in_err-put_instruction
returns-in_err-put_instruction c =
    one_failed c.args.to.now.items c.from_residual.result (instruction (Beq a0 x0 (pos (bytes_of_words 2))) ∷ []) (jump c.args.from c.args.target ∷ []) (instruction (Beq a0 x0 (pos (bytes_of_words 2))) ∷ []) c.put_instruction.new.to.items _ refl c.from_residual.ensures.1
    c.in_err-put_instruction.ensures
