-- The answers to the goals of `named_value` in `src/expression_name.rt`.
use Rattle.std.proofs.Common.{◌≡◌, ap, sym, ◌∙◌}
use Rattle.pw_types.specs.Scopes.{Meaning, missing, name_meaning}
use Rattle.pw_types.specs.Steps.Judging.{Judge}
use Rattle.pw_types.specs.Steps.CheckingExpressions.{Valued, named_value}
use Rattle.pw_types.proofs.Answered.{given}
use Rattle.pw_types.proofs.expression_name.named_value.Goals as goal

pub returns-in-Missing : goal.returns-in-Missing
returns-in-Missing c =
    let p : Meaning → Judge Valued = λ m. named_value c.args.scope.now c.args.head c.args.name.now m in
    let means : name_meaning c.args.scope.now c.args.name.now ≡ missing =
    ap (name_meaning c.args.scope.now) (sym c.bytes.ensures.bytes) ∙ c.in-Missing.ensures in
    given (p (name_meaning c.args.scope.now c.args.name.now)) (p missing) c.args.used.now.items c.args.used.now.items c.unknown.result
    (ap (λ m. p m c.args.used.now.items) means) c.unknown.ensures
