-- Each end of the machine's run is answered, and is what the unit means.
use Rattle.std.proofs.Common.{◌+◌, ◌*◌, refl, inl, rules}
use Rattle.pw_hart.specs.declared.ends.End.TheVariants as ends
use Rattle.pw_image.specs.Rows.{keep_of}
use Rattle.pw_build.specs.declared.run.Ended.TheVariants.{Exit, Checked, Spent, Trap, Limit, ReadFault, WriteFault}
use Rattle.pw_build.proofs.RowsOfUnits.{few_bytes, few_rows, limit_is, limit_fits, row_is_at}
use Rattle.pw_build.proofs.Finishing.{has_executed, finishes}
use Rattle.pw_build.proofs.Meaning.{rows_run_is_meant}
use Rattle.pw_build.proofs.run.execute.Goals as goal

-- what is asked: after three facts on lifetimes the clauses in order, that the project can be run, with its rows, image and bound of steps
pub words_of-requires : goal.words_of-requires
words_of-requires g c =
    let asked = c.requires.1.1.1 in
    record { few = few_bytes _ g.unit c.args.rows.now asked.0 asked.1.0.1 }

pub overflow_mul-limit : goal.overflow_mul-limit
overflow_mul-limit g c =
    let asked = c.requires.1.1.1 in
    let fits = limit_fits _ g.unit c.args.rows.now c.args.steps c.words_of.result asked.0 asked.1.0.1 asked.1.1.1 c.words_of.ensures in
    search rules

pub row_at-row-requires-clause-few : goal.row_at-row-requires-clause-few
row_at-row-requires-clause-few g c = let asked = c.requires.1.1.1 in few_bytes _ g.unit c.args.rows.now asked.0 asked.1.0.1

pub row_at-row-requires-clause-numbers : goal.row_at-row-requires-clause-numbers
row_at-row-requires-clause-numbers g c = let asked = c.requires.1.1.1 in few_rows _ g.unit c.args.rows.now asked.0 asked.1.0.1

pub returns-in-Exit-clause-executes : goal.returns-in-Exit-clause-executes
returns-in-Exit-clause-executes g c = λ store messages.
    let asked = c.requires.1.1.1 in
    finishes _ g.unit c.args.rows.now c.args.steps _ _ _ _ (ends.Exit c.in-Exit.value) (Exit c.in-Exit.value)
    c.flushed.result store messages asked.1.0.1 c.fresh-hart.ensures c.words_of.ensures c.in-Exit.ensures
    refl c.flushed.ensures

pub returns-in-Exit-clause-meant : goal.returns-in-Exit-clause-meant
returns-in-Exit-clause-meant g c = λ store messages bytes.
    let asked = c.requires.1.1.1 in
    rows_run_is_meant _ g.unit c.args.rows.now c.args.steps _ _ c.flushed.result asked.0 asked.1.0.1 asked.1.1.0 bytes
    (returns-in-Exit-clause-executes g c store messages)

pub returns-in-Checked-clause-executes : goal.returns-in-Checked-clause-executes
returns-in-Checked-clause-executes g c = λ store messages.
    let asked = c.requires.1.1.1 in
    finishes _ g.unit c.args.rows.now c.args.steps _ _ _ _ (ends.Checked c.in-Checked.kind c.in-Checked.line c.in-Checked.pc)
    (Checked c.in-Checked.kind c.row_at-row.result c.in-Checked.line) c.flushed-in-Checked.result store messages
    asked.1.0.1 c.fresh-hart.ensures c.words_of.ensures c.in-Checked.ensures
    (c.in-Checked.pc, refl, row_is_at _ g.unit c.args.rows.now (keep_of c.args.rows.now) asked.1.0.1 _ _ c.row_at-row.ensures)
    c.flushed-in-Checked.ensures

pub returns-in-Checked-clause-meant : goal.returns-in-Checked-clause-meant
returns-in-Checked-clause-meant g c = λ store messages bytes.
    let asked = c.requires.1.1.1 in
    rows_run_is_meant _ g.unit c.args.rows.now c.args.steps _ _ c.flushed-in-Checked.result asked.0 asked.1.0.1 asked.1.1.0 bytes
    (returns-in-Checked-clause-executes g c store messages)

pub returns-in-Spent-clause-executes : goal.returns-in-Spent-clause-executes
returns-in-Spent-clause-executes g c = λ store messages.
    let asked = c.requires.1.1.1 in
    finishes _ g.unit c.args.rows.now c.args.steps _ _ _ _ ends.Spent Spent
    c.flushed-in-Spent.result store messages asked.1.0.1 c.fresh-hart.ensures c.words_of.ensures c.in-Spent.ensures
    refl c.flushed-in-Spent.ensures

pub returns-in-Spent-clause-meant : goal.returns-in-Spent-clause-meant
returns-in-Spent-clause-meant g c = λ store messages bytes.
    let asked = c.requires.1.1.1 in
    rows_run_is_meant _ g.unit c.args.rows.now c.args.steps _ _ c.flushed-in-Spent.result asked.0 asked.1.0.1 asked.1.1.0 bytes
    (returns-in-Spent-clause-executes g c store messages)

pub returns-in-Trap-clause-executes : goal.returns-in-Trap-clause-executes
returns-in-Trap-clause-executes g c = λ store messages.
    let asked = c.requires.1.1.1 in
    finishes _ g.unit c.args.rows.now c.args.steps _ _ _ _ (ends.Trap c.in-Trap.cause c.in-Trap.pc c.in-Trap.value)
    (Trap c.in-Trap.cause c.in-Trap.pc c.in-Trap.value) c.flushed-in-Trap.result store messages
    asked.1.0.1 c.fresh-hart.ensures c.words_of.ensures c.in-Trap.ensures
    refl c.flushed-in-Trap.ensures

pub returns-in-Trap-clause-meant : goal.returns-in-Trap-clause-meant
returns-in-Trap-clause-meant g c = λ store messages bytes.
    let asked = c.requires.1.1.1 in
    rows_run_is_meant _ g.unit c.args.rows.now c.args.steps _ _ c.flushed-in-Trap.result asked.0 asked.1.0.1 asked.1.1.0 bytes
    (returns-in-Trap-clause-executes g c store messages)

pub returns-in-Limit-clause-executes : goal.returns-in-Limit-clause-executes
returns-in-Limit-clause-executes g c = λ store messages.
    let asked = c.requires.1.1.1 in
    finishes _ g.unit c.args.rows.now c.args.steps _ _ _ _ ends.Limit (Limit ((c.args.steps + 1) * c.words_of.result))
    c.flushed-in-Limit.result store messages asked.1.0.1 c.fresh-hart.ensures c.words_of.ensures c.in-Limit.ensures
    (refl, limit_is _ g.unit c.args.rows.now c.args.steps _ asked.1.0.1 c.words_of.ensures) c.flushed-in-Limit.ensures

pub returns-in-Limit-clause-meant : goal.returns-in-Limit-clause-meant
returns-in-Limit-clause-meant g c = λ store messages bytes.
    let asked = c.requires.1.1.1 in
    rows_run_is_meant _ g.unit c.args.rows.now c.args.steps _ _ c.flushed-in-Limit.result asked.0 asked.1.0.1 asked.1.1.0 bytes
    (returns-in-Limit-clause-executes g c store messages)

pub returns-in-ReadFault-clause-executes : goal.returns-in-ReadFault-clause-executes
returns-in-ReadFault-clause-executes g c = λ store messages.
    let asked = c.requires.1.1.1 in
    has_executed _ g.unit c.args.rows.now c.args.steps _ _ _ ends.ReadFault store messages asked.1.0.1 c.fresh-hart.ensures
    c.words_of.ensures c.in-ReadFault.ensures

pub returns-in-ReadFault-clause-meant : goal.returns-in-ReadFault-clause-meant
returns-in-ReadFault-clause-meant g c = λ store messages bytes.
    let asked = c.requires.1.1.1 in
    rows_run_is_meant _ g.unit c.args.rows.now c.args.steps _ _ ReadFault asked.0 asked.1.0.1 asked.1.1.0 bytes
    (returns-in-ReadFault-clause-executes g c store messages)

pub returns-in-WriteFault-clause-executes : goal.returns-in-WriteFault-clause-executes
returns-in-WriteFault-clause-executes g c = λ store messages.
    let asked = c.requires.1.1.1 in
    inl (has_executed _ g.unit c.args.rows.now c.args.steps _ _ _ ends.WriteFault store messages asked.1.0.1 c.fresh-hart.ensures
    c.words_of.ensures c.in-WriteFault.ensures)

pub returns-in-WriteFault-clause-meant : goal.returns-in-WriteFault-clause-meant
returns-in-WriteFault-clause-meant g c = λ store messages bytes.
    let asked = c.requires.1.1.1 in
    rows_run_is_meant _ g.unit c.args.rows.now c.args.steps _ _ WriteFault asked.0 asked.1.0.1 asked.1.1.0 bytes
    (returns-in-WriteFault-clause-executes g c store messages)
