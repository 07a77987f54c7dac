-- The first store, and then the others.
use Rattle.std.proofs.Common.{◌≡◌, ℕ, Ok, ◌+◌, ◌*◌, ◌++◌, List, [], ◌∷◌, pos, arith, ◌-◌, ◌≤◌, append-nil, ap, subst, sym, ◌∙◌}
use Rattle.std.specs.Int.RustNames.{FitsSigned}
use Rattle.std.specs.Int.{w32}
use Rattle.std.proofs.lemmas.Int.{to_z-of_z}
use Rattle.pw_isa.specs.declared.instruction.Inst.TheVariants.{Sd}
use Rattle.pw_isa.specs.Registers.{sp, a0}
use Rattle.pw_code.specs.Items.{CodePart, instruction, items}
use Rattle.pw_code.specs.Frames.{local_slot}
use Rattle.pw_code.specs.FunctionCode.{store_parameters}
use Rattle.pw_genexpr.specs.Appends.{AppendsPrefix, Appends}
use Rattle.pw_genexpr.proofs.Appending.{prefix_of_more, appends_after, gave_up}
use Rattle.pw_gen.proofs.Parameters.{store_none, store_first}
use Rattle.pw_gen.proofs.function.+put_parameters.Goals as goal

pub returns-then-count-eq0 : goal.returns-then-count-eq0
returns-then-count-eq0 t c = rw (store_none c.args.number c.args.count c.if-count-eq0.true) (sym (append-nil c.args.to.now.items))

pub returns-in_err-put_instruction : goal.returns-in_err-put_instruction
returns-in_err-put_instruction t c =
    let some : 1 ≤ c.args.count = omega arith in
    let slot : FitsSigned w32 c.local_slot.result = record { sfits = c.local_slot.type_inv } in
    rw (store_first c.args.number c.args.count some)
    (gave_up _ _ _ _ _ c.from_residual.ensures.1
    (prefix_of_more (instruction (Sd sp (a0 + c.args.number) (local_slot c.args.number)) ∷ []) (store_parameters (c.args.number + 1) (c.args.count - 1)) _ _
    (subst (λ z. AppendsPrefix (instruction (Sd sp (a0 + c.args.number) z) ∷ []) c.args.to.now.items c.put_instruction.new.to.items) (c.local_slot.ensures ∙ ap local_slot c.from.ensures)
    (simp to_z-of_z at c.in_err-put_instruction.ensures))))

pub returns : goal.returns
returns t c =
    let some : 1 ≤ c.args.count = omega arith in
    let slot : FitsSigned w32 c.local_slot.result = record { sfits = c.local_slot.type_inv } in
    rw (store_first c.args.number c.args.count some)
    (appends_after (instruction (Sd sp (a0 + c.args.number) (local_slot c.args.number)) ∷ [])
    (store_parameters (c.args.number + 1) (c.args.count - 1)) _ _ _ _
    (subst (λ z. Appends (instruction (Sd sp (a0 + c.args.number) z) ∷ []) c.args.to.now.items c.put_instruction.new.to.items (Ok tt)) (c.local_slot.ensures ∙ ap local_slot c.from.ensures)
    (simp to_z-of_z at c.in_ok-put_instruction.ensures))
    c.put_parameters.ensures)
