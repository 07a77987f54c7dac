-- The expression stands in the function's frame.
use Rattle.std.proofs.Common.{sym, ◌∙◌, ap, subst, Some}
use Rattle.std.specs.Option.{option_copied}
use Rattle.pw_tree.specs.declared.texpr.TExpr.{TExpr}
use Rattle.pw_tree.specs.TypedExpressions.{typed_expression_of}
use Rattle.pw_tree.specs.Units.{typed_function_of}
use Rattle.pw_genexpr.specs.Conditions.{StandsIn}
use Rattle.pw_code_tests.proofs.Standing.{frame, first_expression}
use Rattle.pw_code_tests.proofs.first.first_code.Goals as goal

pub emit_expr-requires : goal.emit_expr-requires
emit_expr-requires c =
    let Stands : TExpr → Type 0 = λ e. StandsIn (frame (typed_function_of c.in-Some.function.now)) 0 (typed_expression_of e) in
    subst Stands (sym c.in-Some-Eval.e-is)
    (first_expression c.args.unit.now c.in-Some.function.now c.in-Some-Eval.e c.requires
    (sym c.get.ensures.value ∙ ap option_copied c.in-Some.is)
    (sym c.get-in-Some.ensures.value ∙ ap option_copied c.in-Some-Eval.is ∙ ap Some c.in-Some-Eval.field-0-is))
