-- The answers to the goals of `expression` in `src/expression.rt`.
use Rattle.std.proofs.Common.{◌∙◌, sym, ap, subst, arith, Err}
use Rattle.pw_grammar.specs.Reading.Steps.{ReadResult, Reads}
use Rattle.pw_tree.specs.declared.expr.Expr.{Expr}
use Rattle.pw_parse.proofs.Levels.{less_deep, too_deep}
use Rattle.pw_parse.proofs.expression.+expression.Goals as goal

pub returns-then-depth-eq0 : goal.returns-then-depth-eq0
returns-then-depth-eq0 t c _ =
    too_deep c.args.depth c.args.cursor.now c.if-depth-eq0.true ∙ sym (ap (λ e. Err e) c.refuse.ensures)

pub returns : goal.returns
returns t c =
    let P : ReadResult Expr → Type 0 = λ o. Reads o c.choice.result c.choice.new.cursor in
    subst P (less_deep c.args.depth c.args.cursor.now (omega arith)) c.choice.ensures
