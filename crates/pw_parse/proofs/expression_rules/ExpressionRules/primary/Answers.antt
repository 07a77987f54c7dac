-- The answers to the goals of `ExpressionRules::primary` in `src/expression_rules.rt`.
use Rattle.std.proofs.Common.{sym, subst}
use Rattle.pw_grammar.specs.Reading.Steps.{ReadResult, Reads}
use Rattle.pw_grammar.specs.Reading.Expressions.{expression}
use Rattle.pw_tree.specs.declared.expr.Expr.{Expr}
use Rattle.pw_parse.proofs.Leaves.{at_name}
use Rattle.pw_parse.proofs.expression_rules.ExpressionRules.primary.Goals as goal

pub returns-in-Name : goal.returns-in-Name
returns-in-Name g c =
    let P : ReadResult Expr → Type 0 = λ o. Reads o c.identifier.result c.identifier.new.cursor in
    subst P (at_name (expression c.args.self.now.depth) c.args.cursor.now (sym c.in-Name.ensures)) c.identifier.ensures
