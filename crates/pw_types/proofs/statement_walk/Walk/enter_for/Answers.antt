-- The answers to the goals of `Walk::enter_for` in `src/statement_walk.rt`.
use Rattle.std.proofs.Common.{arith, sym, subst}
use Rattle.pw_types.specs.Steps.StatementWeights.{weight_of_maybe}
use Rattle.pw_types.specs.Steps.CheckingStatements.{WalkResult, Steps}
use Rattle.pw_types.proofs.EnteringStatements.{enters_for, enters_bare_for, is_present, is_absent}
use Rattle.pw_types.proofs.statement_walk.Walk.enter_for.Goals as goal

pub returns-in-Some-clause-judged : goal.returns-in-Some-clause-judged
returns-in-Some-clause-judged c =
    λ at. enters_for c.args.setting.now c.head.result c.outer-outer.result c.args.self.now at _ c.get.result.now c.args.c c.args.last c.args.body
    (is_present c.args.first.now c.in-Some.first c.get.result.now c.in-Some.is c.get.ensures) c.outer-outer.ensures c.head.ensures

pub returns-in-Some-clause-less : goal.returns-in-Some-clause-less
unfolding weight_of_maybe
returns-in-Some-clause-less c =
    let is = is_present c.args.first.now c.in-Some.first c.get.result.now c.in-Some.is c.get.ensures in rw is (omega arith)

pub returns-in-None-clause-judged : goal.returns-in-None-clause-judged
returns-in-None-clause-judged c =
    λ at. subst (λ (w : WalkResult). Steps w c.after_first.new.self c.after_first.result)
    (sym (enters_bare_for c.args.setting.now c.outer-outer.result c.args.self.now at _ _ _ _ (is_absent c.args.first.now c.in-None.is) c.outer-outer.ensures))
    c.after_first.ensures.judged
