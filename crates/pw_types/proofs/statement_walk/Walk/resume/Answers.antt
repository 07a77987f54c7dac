-- The answers to the goals of `Walk::resume` in `src/statement_walk.rt`.
use Rattle.std.proofs.Common.{Ok, lit<}
use Rattle.pw_types.proofs.ResumingStatements.{resumed_as, less_resumed, resumed_whole, less_whole}
use Rattle.pw_types.proofs.statement_walk.Walk.resume.Goals as goal

pub returns-in-Block-clause-judged : goal.returns-in-Block-clause-judged
returns-in-Block-clause-judged c = resumed_as c.args.frame _ c.in-Block.is _ c.resume_block.new.self c.resume_block.result c.resume_block.ensures.judged

pub returns-in-Block-clause-less : goal.returns-in-Block-clause-less
returns-in-Block-clause-less c = less_resumed c.args.frame _ c.in-Block.is c.resume_block.result c.resume_block.ensures.less

pub returns-in-Then-clause-judged : goal.returns-in-Then-clause-judged
returns-in-Then-clause-judged c = resumed_as c.args.frame _ c.in-Then.is _ c.resume_then.new.self c.resume_then.result c.resume_then.ensures.judged

pub returns-in-Then-clause-less : goal.returns-in-Then-clause-less
returns-in-Then-clause-less c = less_resumed c.args.frame _ c.in-Then.is c.resume_then.result c.resume_then.ensures.less

pub returns-in-First-clause-judged : goal.returns-in-First-clause-judged
returns-in-First-clause-judged c = resumed_as c.args.frame _ c.in-First.is _ c.resume_first.new.self c.resume_first.result c.resume_first.ensures.judged

pub returns-in-First-clause-less : goal.returns-in-First-clause-less
returns-in-First-clause-less c = less_resumed c.args.frame _ c.in-First.is c.resume_first.result c.resume_first.ensures.less

pub returns-in-Last-clause-judged : goal.returns-in-Last-clause-judged
returns-in-Last-clause-judged c = resumed_as c.args.frame _ c.in-Last.is _ c.args.self.now (Ok c.resume_last.result) c.resume_last.ensures.judged

pub returns-in-Last-clause-less : goal.returns-in-Last-clause-less
returns-in-Last-clause-less c = less_resumed c.args.frame _ c.in-Last.is (Ok c.resume_last.result) c.resume_last.ensures.less

pub returns-in-Else-clause-judged : goal.returns-in-Else-clause-judged
returns-in-Else-clause-judged c =
    resumed_whole c.args.frame _ c.in-Else.is _ c.resume_else.new.self c.resume_else.result c.done.result c.done.ensures c.resume_else.ensures

pub returns-in-Else-clause-less : goal.returns-in-Else-clause-less
returns-in-Else-clause-less c = less_whole c.args.frame _ c.in-Else.is c.resume_else.result c.done.result c.done.ensures (lit< tt)

pub returns-in-While-clause-judged : goal.returns-in-While-clause-judged
returns-in-While-clause-judged c =
    resumed_whole c.args.frame _ c.in-While.is _ c.resume_while.new.self c.resume_while.result c.done-in-While.result c.done-in-While.ensures c.resume_while.ensures

pub returns-in-While-clause-less : goal.returns-in-While-clause-less
returns-in-While-clause-less c = less_whole c.args.frame _ c.in-While.is c.resume_while.result c.done-in-While.result c.done-in-While.ensures (lit< tt)

pub returns-in-Do-clause-judged : goal.returns-in-Do-clause-judged
returns-in-Do-clause-judged c =
    resumed_whole c.args.frame _ c.in-Do.is _ c.resume_do.new.self c.resume_do.result c.done-in-Do.result c.done-in-Do.ensures c.resume_do.ensures

pub returns-in-Do-clause-less : goal.returns-in-Do-clause-less
returns-in-Do-clause-less c = less_whole c.args.frame _ c.in-Do.is c.resume_do.result c.done-in-Do.result c.done-in-Do.ensures (lit< tt)

pub returns-in-For-clause-judged : goal.returns-in-For-clause-judged
returns-in-For-clause-judged c =
    resumed_whole c.args.frame _ c.in-For.is _ c.resume_for.new.self c.resume_for.result c.done-in-For.result c.done-in-For.ensures c.resume_for.ensures

pub returns-in-For-clause-less : goal.returns-in-For-clause-less
returns-in-For-clause-less c = less_whole c.args.frame _ c.in-For.is c.resume_for.result c.done-in-For.result c.done-in-For.ensures (lit< tt)
