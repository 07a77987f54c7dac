-- The loads of the arguments, the address, and the jump.
use Rattle.std.proofs.Common.{◌≡◌, ◌++◌, List, [], ◌∷◌, pos}
use Rattle.pw_isa.specs.declared.instruction.Inst.TheVariants.{Jalr}
use Rattle.pw_isa.specs.Registers.{ra, t0, a0}
use Rattle.pw_tree.specs.declared.ty.Ref.{Ref}
use Rattle.pw_code.specs.Items.{CodePart, instruction, address}
use Rattle.pw_code.specs.Pieces.{load_held}
use Rattle.pw_genexpr.proofs.Appending.{prefix_of_more, prefix_after, appends_after, gave_up}
use Rattle.pw_genexpr.proofs.forms.put_call.Goals as goal

abbrev jump_code : List CodePart
jump_code = instruction (Jalr ra t0 (pos 0)) ∷ []

abbrev callee_code : Ref → List CodePart
callee_code f = address t0 f ∷ instruction (Jalr ra t0 (pos 0)) ∷ []

pub returns-in_err-put_load_held : goal.returns-in_err-put_load_held
returns-in_err-put_load_held c =
    gave_up _ _ _ _ _ c.from_residual.ensures.1
    (prefix_of_more (load_held c.args.frame.now c.args.held a0 c.args.count) (callee_code c.args.function.now) _ _ c.in_err-put_load_held.ensures)

pub returns-in_err-put_address : goal.returns-in_err-put_address
returns-in_err-put_address c =
    gave_up _ _ _ _ _ c.from_residual-in_err-put_address.ensures.1
    (prefix_after (load_held c.args.frame.now c.args.held a0 c.args.count) (callee_code c.args.function.now) _ _ _ c.in_ok-put_load_held.ensures
    (prefix_of_more (address t0 c.args.function.now ∷ []) jump_code _ _ c.in_err-put_address.ensures))

pub returns : goal.returns
returns c =
    appends_after (load_held c.args.frame.now c.args.held a0 c.args.count) (callee_code c.args.function.now) _ _ _ _ c.in_ok-put_load_held.ensures
    (appends_after (address t0 c.args.function.now ∷ []) jump_code _ _ _ _ c.in_ok-put_address.ensures c.put_instruction.ensures)
