-- The answers to the goals of `put_variable` in `src/forms.rt`.
use Rattle.std.proofs.Common.{◌≡◌, ◌+◌, ◌*◌, ◌++◌, [], ◌∷◌, pos, ◌∙◌}
use Rattle.pw_isa.specs.declared.instruction.Inst.TheVariants.{Ld}
use Rattle.pw_isa.specs.Registers.{t0, a0}
use Rattle.pw_code.specs.Items.{instruction, address}
use Rattle.pw_genexpr.proofs.Appending.{prefix_of_more, gave_up}
use Rattle.pw_genexpr.proofs.forms.put_variable.Goals as goal

pub returns-in_err-put_address : goal.returns-in_err-put_address
returns-in_err-put_address c =
    gave_up _ _ _ _ _ c.from_residual.ensures.1
    (prefix_of_more (address t0 c.args.variable.now ∷ []) (instruction (Ld a0 t0 (pos 0)) ∷ []) _ _ c.in_err-put_address.ensures)
