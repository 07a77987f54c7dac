-- The answers to the goals of `judge_body` in `src/statement.rt`.
use Rattle.std.proofs.Common.{refl}
use Rattle.pw_types.specs.Declarations.{setting}
use Rattle.pw_types.proofs.StatementSequences.{judged_body}
use Rattle.pw_types.proofs.statement.judge_body.Goals as goal

pub returns : goal.returns
returns c =
    judged_body (setting c.args.lines.now c.args.ty) c.args.scope.now _ c.args.used.now.items _ c.args.count c.statements.new.self _ c.in_ok-statements.statements
    (rw c.replace.ensures.value c.scope.view_is) (rw c.replace-2.ensures.value refl) c.in_ok-statements.ensures
