-- The callee, the check that it is not null, the loads of the arguments, and the jump.
use Rattle.std.proofs.Common.{◌≡◌, ◌++◌, ℕ, Ok, List, [], ◌∷◌, pos}
use Rattle.pw_isa.specs.declared.instruction.Inst.TheVariants.{Addi, Bne, Jalr}
use Rattle.pw_isa.specs.Registers.{x0, ra, t0, a0}
use Rattle.pw_isa.specs.EnvironmentCalls.{null_call_fault}
use Rattle.pw_code.specs.Items.{CodePart, instruction}
use Rattle.pw_code.specs.Pieces.{past, fault, load_held}
use Rattle.pw_genexpr.proofs.Appending.{prefix_of_more, prefix_after, appends_after, gave_up}
use Rattle.pw_genexpr.proofs.forms.put_call_pointer.Goals as goal

abbrev callee_code : List CodePart
callee_code = instruction (Addi t0 a0 (pos 0)) ∷ []

abbrev check_code : ℕ → List CodePart
check_code line = past (Bne t0 x0) (fault null_call_fault line)

abbrev jump_code : List CodePart
jump_code = instruction (Jalr ra t0 (pos 0)) ∷ []

pub returns-in_err-put_instruction : goal.returns-in_err-put_instruction
returns-in_err-put_instruction c =
    gave_up _ _ _ _ _ c.from_residual.ensures.1
    (prefix_of_more callee_code (check_code c.args.line ++ load_held c.args.frame.now c.args.held a0 c.args.count ++ jump_code) _ _ c.in_err-put_instruction.ensures)

pub returns-in_err-put_check_nonzero : goal.returns-in_err-put_check_nonzero
returns-in_err-put_check_nonzero c =
    gave_up _ _ _ _ _ c.from_residual-in_err-put_check_nonzero.ensures.1
    (prefix_after callee_code (check_code c.args.line ++ load_held c.args.frame.now c.args.held a0 c.args.count ++ jump_code) _ _ _ c.in_ok-put_instruction.ensures
    (prefix_of_more (check_code c.args.line ++ load_held c.args.frame.now c.args.held a0 c.args.count) jump_code _ _
    (prefix_of_more (check_code c.args.line) (load_held c.args.frame.now c.args.held a0 c.args.count) _ _ c.in_err-put_check_nonzero.ensures)))

pub returns-in_err-put_load_held : goal.returns-in_err-put_load_held
returns-in_err-put_load_held c =
    gave_up _ _ _ _ _ c.from_residual-in_err-put_load_held.ensures.1
    (prefix_after callee_code (check_code c.args.line ++ load_held c.args.frame.now c.args.held a0 c.args.count ++ jump_code) _ _ _ c.in_ok-put_instruction.ensures
    (prefix_of_more (check_code c.args.line ++ load_held c.args.frame.now c.args.held a0 c.args.count) jump_code _ _
    (prefix_after (check_code c.args.line) (load_held c.args.frame.now c.args.held a0 c.args.count) _ _ _ c.in_ok-put_check_nonzero.ensures
    c.in_err-put_load_held.ensures)))

pub returns : goal.returns
returns c =
    appends_after callee_code (check_code c.args.line ++ load_held c.args.frame.now c.args.held a0 c.args.count ++ jump_code) _ _ _ _ c.in_ok-put_instruction.ensures
    (appends_after (check_code c.args.line ++ load_held c.args.frame.now c.args.held a0 c.args.count) jump_code _ _ _ _
    (appends_after (check_code c.args.line) (load_held c.args.frame.now c.args.held a0 c.args.count) _ _ _ (Ok tt) c.in_ok-put_check_nonzero.ensures
    c.in_ok-put_load_held.ensures)
    c.put_instruction-2.ensures)
