-- The first load, and then the others.
use Rattle.std.proofs.Common.{◌≡◌, Ok, ◌+◌, ◌*◌, ◌++◌, [], ◌∷◌, arith, ◌-◌, ◌≤◌, append-nil, subst, sym, ◌∙◌}
use Rattle.pw_isa.specs.declared.instruction.Inst.TheVariants.{Ld}
use Rattle.std.specs.Int.RustNames.{FitsSigned}
use Rattle.std.specs.Int.{w32}
use Rattle.std.proofs.lemmas.Int.{to_z-of_z}
use Rattle.pw_isa.specs.Registers.{sp}
use Rattle.pw_code.specs.Items.{instruction, items}
use Rattle.pw_code.specs.Frames.{held_slot}
use Rattle.pw_code.specs.Pieces.{load_held}
use Rattle.pw_genexpr.specs.Appends.{AppendsPrefix, Appends}
use Rattle.pw_genexpr.proofs.Held.{load_none, load_first}
use Rattle.pw_genexpr.proofs.Appending.{prefix_of_more, appends_after, gave_up}
use Rattle.pw_genexpr.proofs.slots.+put_load_held.Goals as goal

pub returns-then-count-eq0 : goal.returns-then-count-eq0
returns-then-count-eq0 t c =
    rw (load_none c.args.frame.now c.args.number c.args.rd c.args.count c.if-count-eq0.true) (sym (append-nil c.args.to.now.items))

pub returns-in_err-put_instruction : goal.returns-in_err-put_instruction
returns-in_err-put_instruction t c =
    let some : 1 ≤ c.args.count = omega arith in
    let slot : FitsSigned w32 c.held_slot.result = record { sfits = c.held_slot.type_inv } in
    rw (load_first c.args.frame.now c.args.number c.args.rd c.args.count some)
    (gave_up _ _ _ _ _ c.from_residual.ensures.1
    (prefix_of_more (instruction (Ld c.args.rd sp (held_slot c.args.frame.now c.args.number)) ∷ []) (load_held c.args.frame.now (c.args.number + 1) (c.args.rd + 1) (c.args.count - 1)) _ _
    (subst (λ z. AppendsPrefix (instruction (Ld c.args.rd sp z) ∷ []) c.args.to.now.items c.put_instruction.new.to.items) c.held_slot.ensures
    (simp to_z-of_z at c.in_err-put_instruction.ensures))))

pub returns : goal.returns
returns t c =
    let some : 1 ≤ c.args.count = omega arith in
    let slot : FitsSigned w32 c.held_slot.result = record { sfits = c.held_slot.type_inv } in
    rw (load_first c.args.frame.now c.args.number c.args.rd c.args.count some)
    (appends_after (instruction (Ld c.args.rd sp (held_slot c.args.frame.now c.args.number)) ∷ [])
    (load_held c.args.frame.now (c.args.number + 1) (c.args.rd + 1) (c.args.count - 1)) _ _ _ _
    (subst (λ z. Appends (instruction (Ld c.args.rd sp z) ∷ []) c.args.to.now.items c.put_instruction.new.to.items (Ok tt)) c.held_slot.ensures
    (simp to_z-of_z at c.in_ok-put_instruction.ensures))
    c.put_load_held.ensures)
