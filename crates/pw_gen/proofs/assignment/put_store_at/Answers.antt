-- A part that gives up leaves the parts before it, and its own first items.
use Rattle.std.proofs.Common.{◌≡◌, [], ◌∷◌, refl}
use Rattle.std.specs.Prelude.{pos}
use Rattle.pw_isa.specs.declared.instruction.Inst.TheVariants.{Sd, Add, Beq}
use Rattle.pw_isa.specs.Registers.{x0, t0, t1, a0}
use Rattle.pw_code.specs.Items.{instruction, address}
use Rattle.pw_gen.proofs.Appended.{one_failed}
use Rattle.pw_gen.proofs.assignment.put_store_at.Goals as goal

pub returns-in_err-put_address : goal.returns-in_err-put_address
returns-in_err-put_address c =
    one_failed c.args.to.now.items c.from_residual.result (address t0 c.args.a.now ∷ []) (instruction (Add t0 t0 t1) ∷ instruction (Sd t0 a0 (pos 0)) ∷ []) (address t0 c.args.a.now ∷ []) c.put_address.new.to.items _ refl c.from_residual.ensures.1
    c.in_err-put_address.ensures
