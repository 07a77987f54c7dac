-- The body can be measured, and a function's words are within reach.
use Rattle.std.proofs.Common.{◌≡◌, arith, sym, ap, subst, ◌∙◌}
use Rattle.pw_tree.specs.TypedStatements.{typed_statements_of}
use Rattle.pw_tree.specs.Units.{typed_function_of}
use Rattle.pw_code.specs.StatementCode.{statements_words}
use Rattle.pw_gen.specs.Steps.Measuring.{CanMeasureAll}
use Rattle.pw_gen.proofs.FunctionBodies.{body_near, body_can_measure}
use Rattle.pw_gen.proofs.function.body_place.Goals as goal

pub statements_words-requires : goal.statements_words-requires
statements_words-requires c =
    subst (λ l. CanMeasureAll (typed_statements_of l)) (sym c.as_slice.ensures) (body_can_measure (typed_function_of c.args.f.now) c.requires)

pub overflow_add-end : goal.overflow_add-end
overflow_add-end c =
    let words : c.statements_words.result ≡ statements_words (typed_statements_of c.args.f.now.body) =
    c.statements_words.ensures ∙ ap (λ l. statements_words (typed_statements_of l)) c.as_slice.ensures in
    omega (arith, words, body_near (typed_function_of c.args.f.now) c.requires)

pub overflow_add-end-2 : goal.overflow_add-end-2
overflow_add-end-2 c =
    let words : c.statements_words.result ≡ statements_words (typed_statements_of c.args.f.now.body) =
    c.statements_words.ensures ∙ ap (λ l. statements_words (typed_statements_of l)) c.as_slice.ensures in
    omega (arith, words, c.opens_words-opens.ensures, body_near (typed_function_of c.args.f.now) c.requires)
