-- The size, the branch, and then the fault that it goes past.
use Rattle.std.proofs.Common.{◌≡◌, ℕ, Ok, suc, ◌+◌, ◌*◌, ◌++◌, List, [], ◌∷◌, pos, subst, ◌∙◌}
use Rattle.pw_isa.specs.declared.instruction.Inst.TheVariants.{Bltu}
use Rattle.pw_isa.specs.Registers.{a0, t1}
use Rattle.pw_isa.specs.EnvironmentCalls.{index_fault}
use Rattle.pw_code.specs.Items.{CodePart, instruction, size}
use Rattle.pw_code.specs.LoadImmediate.{load_immediate}
use Rattle.pw_code.specs.Pieces.{fault, past, bytes_of_words}
use Rattle.pw_genexpr.specs.Appends.{AppendsPrefix, Appends}
use Rattle.pw_genexpr.proofs.Distances.{past_fault}
use Rattle.pw_genexpr.proofs.Appending.{prefix_of_more, prefix_after, appends_after, gave_up}
use Rattle.pw_genexpr.proofs.checks.put_check_index.Goals as goal

abbrev branch_code : ℕ → List CodePart
branch_code line = instruction (Bltu a0 t1 (pos (bytes_of_words (suc (size (fault index_fault line)))))) ∷ []

pub returns-in_err-put_load_immediate : goal.returns-in_err-put_load_immediate
returns-in_err-put_load_immediate c =
    gave_up _ _ _ _ _ c.from_residual.ensures.1
    (prefix_of_more (load_immediate t1 c.args.size) (past (Bltu a0 t1) (fault index_fault c.args.line)) _ _
    (subst (λ n. AppendsPrefix (load_immediate t1 n) c.args.to.now.items c.put_load_immediate.new.to.items) c.from.ensures c.in_err-put_load_immediate.ensures))

pub returns-in_err-put_instruction : goal.returns-in_err-put_instruction
returns-in_err-put_instruction c =
    let d = past_fault index_fault c.args.line c.fault_words.result c.fault_words.ensures.words c.fault_words.ensures.few in
    gave_up _ _ _ _ _ c.from_residual-in_err-put_instruction.ensures.1
    (prefix_after (load_immediate t1 c.args.size) (past (Bltu a0 t1) (fault index_fault c.args.line)) _ _ _
    (subst (λ n. Appends (load_immediate t1 n) c.args.to.now.items c.put_load_immediate.new.to.items (Ok tt)) c.from.ensures c.in_ok-put_load_immediate.ensures)
    (prefix_of_more (branch_code c.args.line) (fault index_fault c.args.line) _ _
    (subst (λ z. AppendsPrefix (instruction (Bltu a0 t1 z) ∷ []) c.put_load_immediate.new.to.items c.put_instruction.new.to.items) d
    c.in_err-put_instruction.ensures)))

pub returns : goal.returns
returns c =
    let d = past_fault index_fault c.args.line c.fault_words.result c.fault_words.ensures.words c.fault_words.ensures.few in
    appends_after (load_immediate t1 c.args.size) (past (Bltu a0 t1) (fault index_fault c.args.line)) _ _ _ _
    (subst (λ n. Appends (load_immediate t1 n) c.args.to.now.items c.put_load_immediate.new.to.items (Ok tt)) c.from.ensures c.in_ok-put_load_immediate.ensures)
    (appends_after (branch_code c.args.line) (fault index_fault c.args.line) _ _ _ _
    (subst (λ z. Appends (instruction (Bltu a0 t1 z) ∷ []) c.put_load_immediate.new.to.items c.put_instruction.new.to.items (Ok tt)) d
    c.in_ok-put_instruction.ensures)
    c.put_fault.ensures)
