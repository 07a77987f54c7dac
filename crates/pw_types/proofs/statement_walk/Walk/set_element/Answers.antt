-- The answers to the goals of `Walk::set_element` in `src/statement_walk.rt`.
use Rattle.std.proofs.lemmas.Result.{err_from_is_err_and}
use Rattle.pw_tree.specs.Expressions.{expression_of}
use Rattle.pw_tree.specs.declared.texpr.TExpr.{TExpr}
use Rattle.pw_types.specs.declared.typed.Typed.{Typed}
use Rattle.pw_types.specs.Steps.StatementTargets.{IsIndex, IsElementValue}
use Rattle.pw_types.proofs.Assigning.{sets_element, value_fails, index_fails}
use Rattle.pw_types.proofs.Failing.{fails_of}
use Rattle.pw_types.proofs.statement_walk.Walk.set_element.Goals as goal

pub returns-in_err-index : goal.returns-in_err-index
returns-in_err-index c =
    let p = err_from_is_err_and c.from_residual-in_err-index.result c.from_residual-in_err-index.ensures.1 in
    rw (p.1, p.2)
    (index_fails c.args.setting.now c.args.self.now c.note.new.self _ _ _ _ _ c.in_err-index.field-0.0
    c.in_ok-array.ensures.0 c.in_ok-note.ensures (fails_of {A = Typed} _ (IsIndex (expression_of c.args.index.now) c.note.new.self c.index.new.self) _ c.in_err-index.ensures))

pub returns-in_err-value : goal.returns-in_err-value
returns-in_err-value c =
    let p = err_from_is_err_and c.from_residual-in_err-value.result c.from_residual-in_err-value.ensures.1 in
    rw (p.1, p.2)
    (value_fails c.args.setting.now c.args.self.now c.note.new.self c.index.new.self _ _ _ _ c.in_ok-array.array c.in_ok-index.index
    (record {
      free = c.in_ok-array.ensures.0;
      target = c.in_ok-array.ensures.1;
      note = c.in_ok-note.ensures;
      index_free = c.in_ok-index.ensures.0;
      index_is = c.in_ok-index.ensures.1;
    })
    c.in_err-value.field-0.0 (rw c.set_end-end.ensures at (fails_of {A = TExpr} _ (IsElementValue c.in_ok-index.index.held (expression_of c.args.value.now) c.index.new.self c.element_value.new.self) _ c.in_err-value.ensures)))

pub returns : goal.returns
returns c =
    rw (c.into_inner-index.ensures, c.into_inner-value.ensures) (sets_element c.args.setting.now c.args.self.now c.note.new.self c.index.new.self _ _ _ _ c.in_ok-array.array c.in_ok-index.index
    (record {
      free = c.in_ok-array.ensures.0;
      target = c.in_ok-array.ensures.1;
      note = c.in_ok-note.ensures;
      index_free = c.in_ok-index.ensures.0;
      index_is = c.in_ok-index.ensures.1;
    })
    c.element_value.new.self c.in_ok-value.value c.bracket_line-line.result
    (rw c.set_end-end.ensures at c.in_ok-value.ensures.0) c.in_ok-value.ensures.1 c.bracket_line-line.ensures)
