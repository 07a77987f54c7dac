-- The branch, and then the fault that it goes past.
use Rattle.std.proofs.Common.{◌≡◌, Ok, suc, ◌+◌, ◌*◌, ◌++◌, [], ◌∷◌, pos, subst, ◌∙◌}
use Rattle.pw_isa.specs.declared.instruction.Inst.TheVariants.{Bne}
use Rattle.pw_isa.specs.Registers.{x0}
use Rattle.pw_code.specs.Items.{instruction, size}
use Rattle.pw_code.specs.Pieces.{fault, bytes_of_words}
use Rattle.pw_genexpr.specs.Appends.{AppendsPrefix, Appends}
use Rattle.pw_genexpr.proofs.Distances.{past_fault}
use Rattle.pw_genexpr.proofs.Appending.{prefix_of_more, appends_after, gave_up}
use Rattle.pw_genexpr.proofs.checks.put_check_nonzero.Goals as goal

pub returns-in_err-put_instruction : goal.returns-in_err-put_instruction
returns-in_err-put_instruction c =
    let d = past_fault c.args.kind c.args.line c.fault_words.result c.fault_words.ensures.words c.fault_words.ensures.few in
    gave_up _ _ _ _ _ c.from_residual.ensures.1
    (prefix_of_more (instruction (Bne c.args.register x0 (pos (bytes_of_words (suc (size (fault c.args.kind c.args.line)))))) ∷ []) (fault c.args.kind c.args.line) _ _
    (subst (λ z. AppendsPrefix (instruction (Bne c.args.register x0 z) ∷ []) c.args.to.now.items c.put_instruction.new.to.items) d
    c.in_err-put_instruction.ensures))

pub returns : goal.returns
returns c =
    let d = past_fault c.args.kind c.args.line c.fault_words.result c.fault_words.ensures.words c.fault_words.ensures.few in
    appends_after (instruction (Bne c.args.register x0 (pos (bytes_of_words (suc (size (fault c.args.kind c.args.line)))))) ∷ []) (fault c.args.kind c.args.line) _ _ _ _
    (subst (λ z. Appends (instruction (Bne c.args.register x0 z) ∷ []) c.args.to.now.items c.put_instruction.new.to.items (Ok tt)) d
    c.in_ok-put_instruction.ensures)
    c.put_fault.ensures
