-- A fault's code is the load of its kind, that of its line, and the call.
use Rattle.std.proofs.Common.{◌≡◌, Ok, ◌+◌, ◌*◌, ◌++◌, List, [], ◌∷◌, pos, arith, subst, ◌∙◌}
use Rattle.std.specs.Prelude.{ℤ}
use Rattle.std.specs.Int.{w32}
use Rattle.std.proofs.lemmas.Int.{ints}
use mir.Val.{to_z, of_z}
use Rattle.pw_isa.specs.declared.instruction.Inst.TheVariants.{Addi, Ecall}
use Rattle.pw_isa.specs.Registers.{x0, a0, a1, a7}
use Rattle.pw_isa.specs.EnvironmentCalls.{fault_call}
use Rattle.pw_code.specs.Items.{CodePart, instruction}
use Rattle.pw_code.specs.LoadImmediate.{load_immediate}
use Rattle.pw_genexpr.specs.Appends.{AppendsPrefix, Appends}
use Rattle.pw_genexpr.proofs.Appending.{prefix_of_more, prefix_after, appends_after, gave_up}
use Rattle.pw_genexpr.proofs.checks.put_fault.Goals as goal

abbrev kind_code : ℤ → List CodePart
kind_code kind = instruction (Addi a0 x0 kind) ∷ []

abbrev call_code : List CodePart
call_code = instruction (Addi a7 x0 (pos fault_call)) ∷ instruction Ecall ∷ []

pub returns-in_err-put_instruction : goal.returns-in_err-put_instruction
returns-in_err-put_instruction c =
    let kind : to_z w32 (of_z w32 c.from.result) ≡ pos c.args.kind = omega (arith, ints) in
    gave_up _ _ _ _ _ c.from_residual.ensures.1
    (prefix_of_more (kind_code (pos c.args.kind)) (load_immediate a1 c.args.line ++ call_code) _ _
    (subst (λ z. AppendsPrefix (kind_code z) c.args.to.now.items c.put_instruction.new.to.items) kind c.in_err-put_instruction.ensures))

pub returns-in_err-put_load_immediate : goal.returns-in_err-put_load_immediate
returns-in_err-put_load_immediate c =
    let kind : to_z w32 (of_z w32 c.from.result) ≡ pos c.args.kind = omega (arith, ints) in
    let line : c.from-2.result ≡ c.args.line = c.from-2.ensures in
    gave_up _ _ _ _ _ c.from_residual-in_err-put_load_immediate.ensures.1
    (prefix_after (kind_code (pos c.args.kind)) (load_immediate a1 c.args.line ++ call_code) _ _ _
    (subst (λ z. Appends (kind_code z) c.args.to.now.items c.put_instruction.new.to.items (Ok tt)) kind c.in_ok-put_instruction.ensures)
    (prefix_of_more (load_immediate a1 c.args.line) call_code _ _
    (subst (λ n. AppendsPrefix (load_immediate a1 n) c.put_instruction.new.to.items c.put_load_immediate.new.to.items) line c.in_err-put_load_immediate.ensures)))

pub returns : goal.returns
returns c =
    let kind : to_z w32 (of_z w32 c.from.result) ≡ pos c.args.kind = omega (arith, ints) in
    let line : c.from-2.result ≡ c.args.line = c.from-2.ensures in
    appends_after (kind_code (pos c.args.kind)) (load_immediate a1 c.args.line ++ call_code) _ _ _ _
    (subst (λ z. Appends (kind_code z) c.args.to.now.items c.put_instruction.new.to.items (Ok tt)) kind c.in_ok-put_instruction.ensures)
    (appends_after (load_immediate a1 c.args.line) call_code _ _ _ _
    (subst (λ n. Appends (load_immediate a1 n) c.put_instruction.new.to.items c.put_load_immediate.new.to.items (Ok tt)) line c.in_ok-put_load_immediate.ensures)
    c.put_instructions.ensures)
