-- The answers to the goals of `Walk::resume_then` in `src/statement_walk.rt`.
use Rattle.std.proofs.Common.{arith, Ok, None}
use Rattle.pw_types.specs.Steps.StatementWeights.{weight_of_maybe}
use Rattle.pw_types.proofs.EnteringStatements.{is_present, is_absent}
use Rattle.pw_types.proofs.ResumingStatements.{if_is_done, if_waits}
use Rattle.pw_types.proofs.StatementForms.{finished_steps, nothing_left}
use Rattle.pw_tree.specs.declared.tstmt.TStmt.TheVariants as kinds
use Rattle.pw_types.proofs.statement_walk.Walk.resume_then.Goals as goal

pub returns-in-Some-clause-judged : goal.returns-in-Some-clause-judged
returns-in-Some-clause-judged c =
    if_waits c.args.outer.now c.part.result c.args.self.now c.args.c c.args.typed _ c.get.result.now
    (is_present c.args.b.now c.in-Some.b c.get.result.now c.in-Some.is c.get.ensures) c.part.ensures

pub returns-in-Some-clause-less : goal.returns-in-Some-clause-less
unfolding weight_of_maybe
returns-in-Some-clause-less c =
    let is = is_present c.args.b.now c.in-Some.b c.get.result.now c.in-Some.is c.get.ensures in rw is (omega arith)

pub returns-in-None-clause-judged : goal.returns-in-None-clause-judged
returns-in-None-clause-judged c =
    finished_steps _ c.leave.new.self (Ok (kinds.If c.into_inner.result c.args.typed None)) c.done.result c.done.ensures
    (rw c.into_inner.ensures (if_is_done c.args.outer.now c.args.self.now c.leave.new.self c.args.c c.args.typed _ (is_absent c.args.b.now c.in-None.is) c.leave.ensures))

pub returns-in-None-clause-less : goal.returns-in-None-clause-less
returns-in-None-clause-less c = nothing_left _ (Ok (kinds.If c.into_inner.result c.args.typed None)) c.done.result c.done.ensures (omega arith)
