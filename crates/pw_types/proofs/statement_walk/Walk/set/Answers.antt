-- The answers to the goals of `Walk::set` in `src/statement_walk.rt`.
use Rattle.pw_types.proofs.Assigning.{sets_local, sets_variable}
use Rattle.pw_types.proofs.statement_walk.Walk.set.Goals as goal

pub returns-in_ok-value-in-Local : goal.returns-in_ok-value-in-Local
returns-in_ok-value-in-Local c =
    let target = rw c.in-Local.is at c.in_ok-number.ensures.1 in
    rw c.into_inner.ensures (sets_local c.args.setting.now c.args.self.now c.whole.new.self _ _ _ _ c.in-Local.ty c.in_ok-value-in-Local.value
    c.in_ok-number.ensures.0 target (rw c.set_end-end.ensures at c.in_ok-value-in-Local.ensures.0) c.in_ok-value-in-Local.ensures.1)

pub returns-in_ok-value-in-Variable : goal.returns-in_ok-value-in-Variable
returns-in_ok-value-in-Variable c =
    let target = rw c.in-Variable.is at c.in_ok-number.ensures.1 in
    rw c.into_inner-in-Variable.ensures (sets_variable c.args.setting.now c.args.self.now c.note.new.self c.whole-in-Variable.new.self _ _ _ c.in-Variable.number _ c.in-Variable.ty c.in_ok-value-in-Variable.value
    c.in_ok-number.ensures.0 target c.in_ok-note-in-Variable.ensures (rw c.set_end-end.ensures at c.in_ok-value-in-Variable.ensures.0) c.in_ok-value-in-Variable.ensures.1)
