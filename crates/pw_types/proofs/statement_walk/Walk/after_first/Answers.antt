-- The answers to the goals of `Walk::after_first` in `src/statement_walk.rt`.
use Rattle.std.proofs.Common.{arith}
use Rattle.pw_types.specs.Steps.StatementWeights.{weight_of_maybe}
use Rattle.pw_types.proofs.EnteringStatements.{goes_to_last, goes_to_body, is_present, is_absent}
use Rattle.pw_types.proofs.statement_walk.Walk.after_first.Goals as goal

pub returns-in-Some-clause-judged : goal.returns-in-Some-clause-judged
returns-in-Some-clause-judged c =
    goes_to_last c.args.outer.now c.head.result c.args.self.now c.maybe_value.new.self c.args.first _ _ c.get.result.now c.args.body c.in_ok-c.c
    (is_present c.args.last.now c.in-Some.last c.get.result.now c.in-Some.is c.get.ensures) c.in_ok-c.ensures.0 c.in_ok-c.ensures.1 c.head.ensures

pub returns-in-Some-clause-less : goal.returns-in-Some-clause-less
unfolding weight_of_maybe
returns-in-Some-clause-less c =
    let is = is_present c.args.last.now c.in-Some.last c.get.result.now c.in-Some.is c.get.ensures in rw is (omega arith)

pub returns-in-None-clause-judged : goal.returns-in-None-clause-judged
returns-in-None-clause-judged c =
    goes_to_body c.args.outer.now c.body.result c.args.self.now c.maybe_value.new.self c.args.first _ _ c.args.body.now c.in_ok-c.c
    (is_absent c.args.last.now c.in-None.is) c.in_ok-c.ensures.0 c.in_ok-c.ensures.1 c.body.ensures
