-- The answers to the goals of `judge` in `src/expression.rt`.
use Rattle.pw_tree.specs.Expressions.{expression_of}
use Rattle.pw_types.proofs.Resuming.{judged, at_base}
use Rattle.pw_types.proofs.expression.judge.Goals as goal

pub returns : goal.returns
returns c =
    judged c.args.scope.now c.args.role (expression_of c.args.e.now) c.args.used.now.items c.walk.new.used.items c.walk.result
    (at_base c.args.role c.requires) c.walk.ensures
