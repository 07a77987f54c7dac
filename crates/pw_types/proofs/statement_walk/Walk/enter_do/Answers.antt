-- The answers to the goals of `Walk::enter_do` in `src/statement_walk.rt`.
use Rattle.pw_types.proofs.EnteringStatements.{enters_do}
use Rattle.pw_types.proofs.statement_walk.Walk.enter_do.Goals as goal

pub returns-clause-judged : goal.returns-clause-judged
returns-clause-judged c =
    λ at. enters_do c.args.setting.now c.body.result c.outer-outer.result c.args.self.now at c.args.c c.args.body.now c.outer-outer.ensures c.body.ensures
