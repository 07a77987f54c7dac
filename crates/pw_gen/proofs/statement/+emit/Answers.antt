-- The parts of statements are compiled where they stand, and their code is that of the statement.
use Rattle.std.proofs.Common.{◌≡◌, ℕ, suc, ◌+◌, ◌<◌, List, [], ◌∷◌, ◌++◌, Option, Some, None, refl, sym, ap, ◌∙◌, subst, arith, rules, append_assoc, drop, length, Ok}
use Rattle.std.specs.Prelude.{option_map}
use Rattle.std.proofs.lemmas.List.{drop_more}
use Rattle.pw_tree.proofs.CommandFolds.{command_of-If, command_of-For}
use Rattle.pw_tree.specs.TypedExpressions.{typed_expression_of}
use Rattle.pw_tree.specs.TypedStatements.{if_else, while_loop, do_loop, for_loop, typed_statement_of, typed_statements_of, optional_typed_statement}
use Rattle.pw_code.specs.Items.{items}
use Rattle.pw_code.specs.Pieces.{jump, skip}
use Rattle.pw_code.specs.ExpressionCode.{expression_words, expression_code}
use Rattle.pw_code.specs.StatementCode.{condition_words, statement_words, optional_words, else_jump, condition_code, statement_code, statements_code, else_code}
use Rattle.pw_genexpr.specs.Appends.{Appends}
use Rattle.pw_genexpr.proofs.Appending.{prefix_of_more, prefix_after, appends_after}
use Rattle.pw_gen.specs.Steps.Measuring.{reach}
use Rattle.pw_gen.specs.Steps.StatementPieces.{only_if, repeat_while, jump_if_nonzero}
use Rattle.pw_gen.specs.Steps.Places.{after, in_loop, code_at, code_of_all_at, optional_code_at, else_code_at, then_code_at, for_body_code_at}
use Rattle.pw_gen.specs.Steps.Emitting.{CanEmit, CanEmitElse}
use Rattle.pw_gen.proofs.Appended.{given_up, two_done, one_failed, three_done, first_failed, second_failed, rest_failed}
use Rattle.pw_gen.proofs.LoopPlaces.{while_place, do_place, for_place}
use Rattle.pw_gen.proofs.ForCode.{for_is}
use Rattle.pw_gen.proofs.EmittingParts.{then_parts, while_parts, do_parts, for_body_parts, present_parts}
use Rattle.pw_gen.proofs.statement.+emit.Goals as goal

-- ---- `if`

pub emit_then-emit_statement-requires : goal.emit_then-emit_statement-requires
emit_then-emit_statement-requires t c =
    let place = c.args.place in (
      search rules,
      subst (λ x. CanEmit c.after.result (typed_statement_of x)) (sym c.get-2.ensures)
          (then_parts place c.after.result (typed_expression_of c.args.c.now) (typed_statement_of c.args.a.now) c.args.jump_words c.requires
          (c.after.ensures ∙ ap (λ k. after place (k + 2)) c.expression_words.ensures.words)),
    )

pub emit_then-returns-in_err-put_only_if : goal.emit_then-returns-in_err-put_only_if
emit_then-returns-in_err-put_only_if t c =
    let place = c.args.place in
    let e = typed_expression_of c.args.c.now in
    let a = typed_statement_of c.args.a.now in
    let n = c.args.jump_words in
    one_failed c.args.to.now.items c.from_residual.result (only_if place.frame e (statement_words a + n)) (code_at (after place (expression_words e + 2)) a)
    (only_if place.frame e (c.statement_words-words.result + n)) c.put_only_if.new.to.items _
    (ap (λ k. only_if place.frame e (k + n)) (c.statement_words-words.ensures ∙ ap (λ x. statement_words (typed_statement_of x)) c.get.ensures))
    c.from_residual.ensures.1 c.in_err-put_only_if.ensures

pub emit_then-returns : goal.emit_then-returns
emit_then-returns t c =
    let place = c.args.place in
    let e = typed_expression_of c.args.c.now in
    let a = typed_statement_of c.args.a.now in
    let n = c.args.jump_words in
    two_done c.args.to.now.items c.emit_statement.result (only_if place.frame e (statement_words a + n)) (code_at (after place (expression_words e + 2)) a)
    (only_if place.frame e (c.statement_words-words.result + n)) (code_at c.after.result (typed_statement_of c.get-2.result.now))
    c.put_only_if.new.to.items c.emit_statement.new.to.items
    (ap (λ k. only_if place.frame e (k + n)) (c.statement_words-words.ensures ∙ ap (λ x. statement_words (typed_statement_of x)) c.get.ensures))
    (ap (λ p. code_at p (typed_statement_of c.get-2.result.now)) (c.after.ensures ∙ ap (λ k. after place (k + 2)) c.expression_words.ensures.words)
    ∙ ap (λ x. code_at (after place (expression_words e + 2)) (typed_statement_of x)) c.get-2.ensures)
    c.in_ok-put_only_if.ensures c.emit_statement.ensures

pub emit_else-emit_statement-requires : goal.emit_else-emit_statement-requires
emit_else-emit_statement-requires t c = (
  search rules,
  subst (λ x. CanEmit c.after.result (typed_statement_of x)) (sym c.get-in-Some.ensures)
      (present_parts c.args.place c.after.result (typed_statement_of c.in-Some.s) c.requires.limits
      (subst (λ o. CanEmitElse c.args.place (optional_typed_statement (option_map typed_statement_of o))) c.in-Some.is c.requires.parts) c.after.ensures),
)

pub emit_else-returns-in_err-put_skip-in-Some : goal.emit_else-returns-in_err-put_skip-in-Some
unfolding else_code
emit_else-returns-in_err-put_skip-in-Some t c =
    let s = typed_statement_of c.in-Some.s in
    subst (λ o. Appends (else_code_at c.args.place (optional_typed_statement (option_map typed_statement_of o))) c.args.to.now.items c.put_skip.new.to.items c.from_residual.result)
    (sym c.in-Some.is)
    (one_failed c.args.to.now.items c.from_residual.result (skip (statement_words s) ∷ []) (code_at (after c.args.place 1) s)
    (skip c.statement_words.result ∷ []) c.put_skip.new.to.items _
    (ap (λ n. skip n ∷ []) (c.statement_words.ensures ∙ ap (λ x. statement_words (typed_statement_of x)) c.get.ensures))
    c.from_residual.ensures.1 c.in_err-put_skip-in-Some.ensures)

pub emit_statement-returns-in_err-emit_then-in-If : goal.emit_statement-returns-in_err-emit_then-in-If
unfolding statement_code
emit_statement-returns-in_err-emit_then-in-If t c =
    let place = c.args.place in
    let e = typed_expression_of c.in-If.c in
    let a = typed_statement_of c.in-If.a in
    let b = optional_typed_statement (option_map typed_statement_of c.in-If.b) in
    subst (λ s. Appends (code_at place s) c.args.to.now.items c.emit_then.new.to.items c.from_residual.result)
    (sym (ap typed_statement_of c.in-If.is ∙ command_of-If c.in-If.c c.in-If.a c.in-If.b))
    (one_failed c.args.to.now.items c.from_residual.result (then_code_at place e a (else_jump b))
    (else_code_at (after (after place (expression_words e + 2)) (statement_words a)) b) (then_code_at place e a c.else_jump.result) c.emit_then.new.to.items _
    (ap (then_code_at place e a) c.else_jump.ensures.words) c.from_residual.ensures.1 c.in_err-emit_then-in-If.ensures)

pub emit_statement-returns-in_ok-emit_then-in-If : goal.emit_statement-returns-in_ok-emit_then-in-If
unfolding statement_code
emit_statement-returns-in_ok-emit_then-in-If t c =
    let place = c.args.place in
    let e = typed_expression_of c.in-If.c in
    let a = typed_statement_of c.in-If.a in
    let b = optional_typed_statement (option_map typed_statement_of c.in-If.b) in
    subst (λ s. Appends (code_at place s) c.args.to.now.items c.emit_else.new.to.items c.emit_else.result)
    (sym (ap typed_statement_of c.in-If.is ∙ command_of-If c.in-If.c c.in-If.a c.in-If.b))
    (two_done c.args.to.now.items c.emit_else.result (then_code_at place e a (else_jump b))
    (else_code_at (after (after place (expression_words e + 2)) (statement_words a)) b) (then_code_at place e a c.else_jump.result)
    (else_code_at c.else_place-else_place.result b) c.emit_then.new.to.items c.emit_else.new.to.items
    (ap (then_code_at place e a) c.else_jump.ensures.words)
    (ap (λ p. else_code_at p b) c.else_place-else_place.ensures.place)
    c.in_ok-emit_then-in-If.ensures c.emit_else.ensures)

-- ---- `while` and `do`

pub emit_while-emit_statement-requires : goal.emit_while-emit_statement-requires
emit_while-emit_statement-requires t c =
    let e = typed_expression_of c.args.c.now in
    let body = typed_statement_of c.args.body.now in (
      search rules,
      subst (λ x. CanEmit c.in_loop.result (typed_statement_of x)) (sym c.get-2.ensures)
          (while_parts c.args.place c.in_loop.result e body c.requires
          (while_place c.args.place c.after-body_place.result c.in_loop.result (c.expression_words.result + 2) c.statement_words-words.result
          (expression_words e + 2) (statement_words body) (ap (λ k. k + 2) c.expression_words.ensures.words)
          (c.statement_words-words.ensures ∙ ap (λ x. statement_words (typed_statement_of x)) c.get.ensures) c.after-body_place.ensures c.in_loop.ensures)),
    )

pub emit_while-returns-in_err-put_only_if : goal.emit_while-returns-in_err-put_only_if
unfolding statement_code
emit_while-returns-in_err-put_only_if t c =
    let place = c.args.place in
    let e = typed_expression_of c.args.c.now in
    let body = typed_statement_of c.args.body.now in
    let k : ℕ = expression_words e + 2 in
    let next : ℕ = place.at + k + statement_words body in
    first_failed c.args.to.now.items c.from_residual.result (only_if place.frame e (statement_words body + 1))
    (code_at (in_loop (next + 1) next (after place k)) body) (jump next place.at ∷ [])
    (only_if place.frame e (c.statement_words-words.result + 1)) c.put_only_if.new.to.items _
    (ap (λ n. only_if place.frame e (n + 1)) (c.statement_words-words.ensures ∙ ap (λ x. statement_words (typed_statement_of x)) c.get.ensures))
    c.from_residual.ensures.1 c.in_err-put_only_if.ensures

pub emit_while-returns-in_err-emit_statement : goal.emit_while-returns-in_err-emit_statement
unfolding statement_code
emit_while-returns-in_err-emit_statement t c =
    let place = c.args.place in
    let e = typed_expression_of c.args.c.now in
    let body = typed_statement_of c.args.body.now in
    let k : ℕ = expression_words e + 2 in
    let next : ℕ = place.at + k + statement_words body in
    let words : c.statement_words-words.result ≡ statement_words body =
    c.statement_words-words.ensures ∙ ap (λ x. statement_words (typed_statement_of x)) c.get.ensures in
    second_failed c.args.to.now.items c.from_residual-in_err-emit_statement.result (only_if place.frame e (statement_words body + 1))
    (code_at (in_loop (next + 1) next (after place k)) body) (jump next place.at ∷ [])
    (only_if place.frame e (c.statement_words-words.result + 1)) (code_at c.in_loop.result (typed_statement_of c.get-2.result.now))
    c.put_only_if.new.to.items c.emit_statement.new.to.items _
    (ap (λ n. only_if place.frame e (n + 1)) words)
    (ap (λ p. code_at p (typed_statement_of c.get-2.result.now))
    (while_place place c.after-body_place.result c.in_loop.result (c.expression_words.result + 2) c.statement_words-words.result
    k (statement_words body) (ap (λ n. n + 2) c.expression_words.ensures.words) words c.after-body_place.ensures c.in_loop.ensures)
    ∙ ap (λ x. code_at (in_loop (next + 1) next (after place k)) (typed_statement_of x)) c.get-2.ensures)
    c.in_ok-put_only_if.ensures c.from_residual-in_err-emit_statement.ensures.1 c.in_err-emit_statement.ensures

pub emit_while-returns : goal.emit_while-returns
unfolding statement_code
emit_while-returns t c =
    let place = c.args.place in
    let e = typed_expression_of c.args.c.now in
    let body = typed_statement_of c.args.body.now in
    let k : ℕ = expression_words e + 2 in
    let next : ℕ = place.at + k + statement_words body in
    let words : c.statement_words-words.result ≡ statement_words body =
    c.statement_words-words.ensures ∙ ap (λ x. statement_words (typed_statement_of x)) c.get.ensures in
    let inner : c.after-body_place.result ≡ after place k = c.after-body_place.ensures ∙ ap (λ n. after place (n + 2)) c.expression_words.ensures.words in
    three_done c.args.to.now.items c.put_jump.result (only_if place.frame e (statement_words body + 1))
    (code_at (in_loop (next + 1) next (after place k)) body) (jump next place.at ∷ [])
    (only_if place.frame e (c.statement_words-words.result + 1)) (code_at c.in_loop.result (typed_statement_of c.get-2.result.now))
    (jump (c.after-body_place.result.at + c.statement_words-words.result) place.at ∷ [])
    c.put_only_if.new.to.items c.emit_statement.new.to.items c.put_jump.new.to.items
    (ap (λ n. only_if place.frame e (n + 1)) words)
    (ap (λ p. code_at p (typed_statement_of c.get-2.result.now))
    (while_place place c.after-body_place.result c.in_loop.result (c.expression_words.result + 2) c.statement_words-words.result
    k (statement_words body) (ap (λ n. n + 2) c.expression_words.ensures.words) words c.after-body_place.ensures c.in_loop.ensures)
    ∙ ap (λ x. code_at (in_loop (next + 1) next (after place k)) (typed_statement_of x)) c.get-2.ensures)
    (ap (λ p. jump (p.at + c.statement_words-words.result) place.at ∷ []) inner ∙ ap (λ n. jump (place.at + k + n) place.at ∷ []) words)
    c.in_ok-put_only_if.ensures c.in_ok-emit_statement.ensures c.put_jump.ensures

pub emit_do-emit_statement-requires : goal.emit_do-emit_statement-requires
emit_do-emit_statement-requires t c =
    let e = typed_expression_of c.args.c.now in
    let body = typed_statement_of c.args.body.now in (
      search rules,
      subst (λ x. CanEmit c.in_loop.result (typed_statement_of x)) (sym c.get-2.ensures)
          (do_parts c.args.place c.in_loop.result e body c.requires
          (do_place c.args.place c.in_loop.result c.expression_words.result c.statement_words.result (expression_words e) (statement_words body)
          c.expression_words.ensures.words (c.statement_words.ensures ∙ ap (λ x. statement_words (typed_statement_of x)) c.get.ensures) c.in_loop.ensures)),
    )

pub emit_do-returns-in_err-emit_statement : goal.emit_do-returns-in_err-emit_statement
unfolding statement_code
emit_do-returns-in_err-emit_statement t c =
    let place = c.args.place in
    let e = typed_expression_of c.args.c.now in
    let body = typed_statement_of c.args.body.now in
    let next : ℕ = place.at + statement_words body in
    let last : ℕ = next + (expression_words e + 1) in
    let code = code_at (in_loop (last + 1) next place) body in
    subst (λ l. Appends l c.args.to.now.items c.emit_statement.new.to.items c.from_residual.result)
    (sym (append_assoc code (expression_code place.frame 0 e) (jump_if_nonzero last place.at)))
    (one_failed c.args.to.now.items c.from_residual.result (code_at (in_loop (last + 1) next place) body) (repeat_while place.frame e last place.at)
    (code_at c.in_loop.result (typed_statement_of c.get-2.result.now)) c.emit_statement.new.to.items _
    (ap (λ p. code_at p (typed_statement_of c.get-2.result.now))
    (do_place place c.in_loop.result c.expression_words.result c.statement_words.result (expression_words e) (statement_words body)
    c.expression_words.ensures.words (c.statement_words.ensures ∙ ap (λ x. statement_words (typed_statement_of x)) c.get.ensures) c.in_loop.ensures)
    ∙ ap (λ x. code_at (in_loop (last + 1) next place) (typed_statement_of x)) c.get-2.ensures)
    c.from_residual.ensures.1 c.in_err-emit_statement.ensures)

pub emit_do-returns : goal.emit_do-returns
unfolding statement_code
emit_do-returns t c =
    let place = c.args.place in
    let e = typed_expression_of c.args.c.now in
    let body = typed_statement_of c.args.body.now in
    let next : ℕ = place.at + statement_words body in
    let last : ℕ = next + (expression_words e + 1) in
    let words : c.statement_words.result ≡ statement_words body = c.statement_words.ensures ∙ ap (λ x. statement_words (typed_statement_of x)) c.get.ensures in
    let code = code_at (in_loop (last + 1) next place) body in
    subst (λ l. Appends l c.args.to.now.items c.put_repeat_while.new.to.items c.put_repeat_while.result)
    (sym (append_assoc code (expression_code place.frame 0 e) (jump_if_nonzero last place.at)))
    (two_done c.args.to.now.items c.put_repeat_while.result code (repeat_while place.frame e last place.at)
    (code_at c.in_loop.result (typed_statement_of c.get-2.result.now))
    (repeat_while place.frame e (place.at + c.statement_words.result + (c.expression_words.result + 1)) place.at)
    c.emit_statement.new.to.items c.put_repeat_while.new.to.items
    (ap (λ p. code_at p (typed_statement_of c.get-2.result.now))
    (do_place place c.in_loop.result c.expression_words.result c.statement_words.result (expression_words e) (statement_words body)
    c.expression_words.ensures.words words c.in_loop.ensures)
    ∙ ap (λ x. code_at (in_loop (last + 1) next place) (typed_statement_of x)) c.get-2.ensures)
    (ap (λ n. repeat_while place.frame e (place.at + n + (c.expression_words.result + 1)) place.at) words
    ∙ ap (λ n. repeat_while place.frame e (next + (n + 1)) place.at) c.expression_words.ensures.words)
    c.in_ok-emit_statement.ensures c.put_repeat_while.ensures)

-- ---- `for`

pub emit_for_body-put_for_condition-requires-clause-near : goal.emit_for_body-put_for_condition-requires-clause-near
emit_for_body-put_for_condition-requires-clause-near t c =
    let words : c.statement_words-words.result ≡ statement_words (typed_statement_of c.args.body.now) =
    c.statement_words-words.ensures ∙ ap (λ x. statement_words (typed_statement_of x)) c.get.ensures in
    omega (arith, c.requires.parts.near, words)

pub emit_for_body-emit_statement-requires : goal.emit_for_body-emit_statement-requires
emit_for_body-emit_statement-requires t c =
    let e = option_map typed_expression_of c.args.c.now in
    let body = typed_statement_of c.args.body.now in (
      search rules,
      subst (λ x. CanEmit c.in_loop.result (typed_statement_of x)) (sym c.get-2.ensures)
          (for_body_parts c.args.top c.in_loop.result e body c.args.last_words c.requires.limits c.requires.parts
          (for_place c.args.top c.after-body_place.result c.in_loop.result c.condition_words.result c.statement_words-words.result c.args.last_words
          (condition_words e) (statement_words body) c.condition_words.ensures.words
          (c.statement_words-words.ensures ∙ ap (λ x. statement_words (typed_statement_of x)) c.get.ensures) c.after-body_place.ensures c.in_loop.ensures)),
    )

pub emit_for_body-returns-in_err-put_for_condition : goal.emit_for_body-returns-in_err-put_for_condition
emit_for_body-returns-in_err-put_for_condition t c =
    let top = c.args.top in
    let e = option_map typed_expression_of c.args.c.now in
    let body = typed_statement_of c.args.body.now in
    let n = c.args.last_words in
    let next : ℕ = top.at + condition_words e + statement_words body in
    one_failed c.args.to.now.items c.from_residual.result (condition_code top.frame e (statement_words body + (n + 1)))
    (code_at (in_loop (next + n + 1) next (after top (condition_words e))) body)
    (condition_code top.frame e (c.statement_words-words.result + (n + 1))) c.put_for_condition.new.to.items _
    (ap (λ k. condition_code top.frame e (k + (n + 1))) (c.statement_words-words.ensures ∙ ap (λ x. statement_words (typed_statement_of x)) c.get.ensures))
    c.from_residual.ensures.1 c.in_err-put_for_condition.ensures

pub emit_for_body-returns : goal.emit_for_body-returns
emit_for_body-returns t c =
    let top = c.args.top in
    let e = option_map typed_expression_of c.args.c.now in
    let body = typed_statement_of c.args.body.now in
    let n = c.args.last_words in
    let next : ℕ = top.at + condition_words e + statement_words body in
    let words : c.statement_words-words.result ≡ statement_words body =
    c.statement_words-words.ensures ∙ ap (λ x. statement_words (typed_statement_of x)) c.get.ensures in
    two_done c.args.to.now.items c.emit_statement.result (condition_code top.frame e (statement_words body + (n + 1)))
    (code_at (in_loop (next + n + 1) next (after top (condition_words e))) body)
    (condition_code top.frame e (c.statement_words-words.result + (n + 1))) (code_at c.in_loop.result (typed_statement_of c.get-2.result.now))
    c.put_for_condition.new.to.items c.emit_statement.new.to.items
    (ap (λ k. condition_code top.frame e (k + (n + 1))) words)
    (ap (λ p. code_at p (typed_statement_of c.get-2.result.now))
    (for_place top c.after-body_place.result c.in_loop.result c.condition_words.result c.statement_words-words.result n
    (condition_words e) (statement_words body) c.condition_words.ensures.words words c.after-body_place.ensures c.in_loop.ensures)
    ∙ ap (λ x. code_at (in_loop (next + n + 1) next (after top (condition_words e))) (typed_statement_of x)) c.get-2.ensures)
    c.in_ok-put_for_condition.ensures c.emit_statement.ensures

pub emit_statement-returns-in_err-emit_optional-in-For : goal.emit_statement-returns-in_err-emit_optional-in-For
emit_statement-returns-in_err-emit_optional-in-For t c =
    let place = c.args.place in
    let first = optional_typed_statement (option_map typed_statement_of c.in-For.first) in
    let e = option_map typed_expression_of c.in-For.c in
    let last = optional_typed_statement (option_map typed_statement_of c.in-For.last) in
    let body = typed_statement_of c.in-For.body in
    let top = c.for_places-places.result.top in
    let behind = c.for_places-places.result.last in
    let n = c.for_places-places.result.last_words in
    let a = optional_code_at place first in
    let b = for_body_code_at top e body n in
    let l = optional_code_at behind last in
    let j = jump (behind.at + n) top.at ∷ [] in
    let old = c.args.to.now.items in
    let whole : a ++ b ++ l ++ j ≡ code_at place (typed_statement_of c.args.s.now) =
    for_is place top behind first e last body n c.for_places-places.ensures.top c.for_places-places.ensures.behind c.for_places-places.ensures.words
    ∙ ap (code_at place) (sym (ap typed_statement_of c.in-For.is ∙ command_of-For c.in-For.first c.in-For.c c.in-For.last c.in-For.body)) in
    subst (λ k. Appends k old c.emit_optional.new.to.items c.from_residual-in_err-emit_optional-in-For.result) whole
    (given_up (a ++ b ++ l ++ j) old c.emit_optional.new.to.items c.from_residual-in_err-emit_optional-in-For.result _ c.from_residual-in_err-emit_optional-in-For.ensures.1
    (prefix_of_more (a ++ b ++ l) j old c.emit_optional.new.to.items (prefix_of_more (a ++ b) l old c.emit_optional.new.to.items (prefix_of_more a b old c.emit_optional.new.to.items c.in_err-emit_optional-in-For.ensures))))

pub emit_statement-returns-in_err-emit_for_body-in-For : goal.emit_statement-returns-in_err-emit_for_body-in-For
emit_statement-returns-in_err-emit_for_body-in-For t c =
    let place = c.args.place in
    let first = optional_typed_statement (option_map typed_statement_of c.in-For.first) in
    let e = option_map typed_expression_of c.in-For.c in
    let last = optional_typed_statement (option_map typed_statement_of c.in-For.last) in
    let body = typed_statement_of c.in-For.body in
    let top = c.for_places-places.result.top in
    let behind = c.for_places-places.result.last in
    let n = c.for_places-places.result.last_words in
    let a = optional_code_at place first in
    let b = for_body_code_at top e body n in
    let l = optional_code_at behind last in
    let j = jump (behind.at + n) top.at ∷ [] in
    let old = c.args.to.now.items in
    let whole : a ++ b ++ l ++ j ≡ code_at place (typed_statement_of c.args.s.now) =
    for_is place top behind first e last body n c.for_places-places.ensures.top c.for_places-places.ensures.behind c.for_places-places.ensures.words
    ∙ ap (code_at place) (sym (ap typed_statement_of c.in-For.is ∙ command_of-For c.in-For.first c.in-For.c c.in-For.last c.in-For.body)) in
    subst (λ k. Appends k old c.emit_for_body.new.to.items c.from_residual-in_err-emit_for_body-in-For.result) whole
    (given_up (a ++ b ++ l ++ j) old c.emit_for_body.new.to.items c.from_residual-in_err-emit_for_body-in-For.result _ c.from_residual-in_err-emit_for_body-in-For.ensures.1
    (prefix_of_more (a ++ b ++ l) j old c.emit_for_body.new.to.items (prefix_of_more (a ++ b) l old c.emit_for_body.new.to.items (prefix_after a b old c.emit_optional.new.to.items c.emit_for_body.new.to.items c.in_ok-emit_optional-in-For.ensures c.in_err-emit_for_body-in-For.ensures))))

pub emit_statement-returns-in_err-emit_optional-in-For-2 : goal.emit_statement-returns-in_err-emit_optional-in-For-2
emit_statement-returns-in_err-emit_optional-in-For-2 t c =
    let place = c.args.place in
    let first = optional_typed_statement (option_map typed_statement_of c.in-For.first) in
    let e = option_map typed_expression_of c.in-For.c in
    let last = optional_typed_statement (option_map typed_statement_of c.in-For.last) in
    let body = typed_statement_of c.in-For.body in
    let top = c.for_places-places.result.top in
    let behind = c.for_places-places.result.last in
    let n = c.for_places-places.result.last_words in
    let a = optional_code_at place first in
    let b = for_body_code_at top e body n in
    let l = optional_code_at behind last in
    let j = jump (behind.at + n) top.at ∷ [] in
    let old = c.args.to.now.items in
    let whole : a ++ b ++ l ++ j ≡ code_at place (typed_statement_of c.args.s.now) =
    for_is place top behind first e last body n c.for_places-places.ensures.top c.for_places-places.ensures.behind c.for_places-places.ensures.words
    ∙ ap (code_at place) (sym (ap typed_statement_of c.in-For.is ∙ command_of-For c.in-For.first c.in-For.c c.in-For.last c.in-For.body)) in
    subst (λ k. Appends k old c.emit_optional-in-For.new.to.items c.from_residual-in_err-emit_optional-in-For-2.result) whole
    (given_up (a ++ b ++ l ++ j) old c.emit_optional-in-For.new.to.items c.from_residual-in_err-emit_optional-in-For-2.result _ c.from_residual-in_err-emit_optional-in-For-2.ensures.1
    (prefix_of_more (a ++ b ++ l) j old c.emit_optional-in-For.new.to.items (prefix_after (a ++ b) l old c.emit_for_body.new.to.items c.emit_optional-in-For.new.to.items (appends_after a b old c.emit_optional.new.to.items c.emit_for_body.new.to.items (Ok tt) c.in_ok-emit_optional-in-For.ensures c.in_ok-emit_for_body-in-For.ensures) c.in_err-emit_optional-in-For-2.ensures)))

pub emit_statement-returns-in_ok-emit_optional-in-For-2 : goal.emit_statement-returns-in_ok-emit_optional-in-For-2
emit_statement-returns-in_ok-emit_optional-in-For-2 t c =
    let place = c.args.place in
    let first = optional_typed_statement (option_map typed_statement_of c.in-For.first) in
    let e = option_map typed_expression_of c.in-For.c in
    let last = optional_typed_statement (option_map typed_statement_of c.in-For.last) in
    let body = typed_statement_of c.in-For.body in
    let top = c.for_places-places.result.top in
    let behind = c.for_places-places.result.last in
    let n = c.for_places-places.result.last_words in
    let a = optional_code_at place first in
    let b = for_body_code_at top e body n in
    let l = optional_code_at behind last in
    let j = jump (behind.at + n) top.at ∷ [] in
    let old = c.args.to.now.items in
    let whole : a ++ b ++ l ++ j ≡ code_at place (typed_statement_of c.args.s.now) =
    for_is place top behind first e last body n c.for_places-places.ensures.top c.for_places-places.ensures.behind c.for_places-places.ensures.words
    ∙ ap (code_at place) (sym (ap typed_statement_of c.in-For.is ∙ command_of-For c.in-For.first c.in-For.c c.in-For.last c.in-For.body)) in
    subst (λ k. Appends k old c.put_jump.new.to.items c.put_jump.result) whole
    (appends_after (a ++ b ++ l) j old c.emit_optional-in-For.new.to.items c.put_jump.new.to.items c.put_jump.result
    (appends_after (a ++ b) l old c.emit_for_body.new.to.items c.emit_optional-in-For.new.to.items (Ok tt)
    (appends_after a b old c.emit_optional.new.to.items c.emit_for_body.new.to.items (Ok tt) c.in_ok-emit_optional-in-For.ensures c.in_ok-emit_for_body-in-For.ensures)
    c.in_ok-emit_optional-in-For-2.ensures)
    c.put_jump.ensures)

-- ---- several

pub emit_statements-returns-in_err-emit_statement : goal.emit_statements-returns-in_err-emit_statement
unfolding statements_code
emit_statements-returns-in_err-emit_statement t c =
    let ss = c.args.ss.now in
    let i = c.loop-s.s-index in
    let s = c.s-item.result in
    let here = c.loop-s.here in
    let now = c.loop-s.to.items in
    let first = code_at here (typed_statement_of s) in
    let behind = code_of_all_at (after here (statement_words (typed_statement_of s))) (typed_statements_of (drop (i + 1) ss)) in
    let there : i < length ss = c.loop-s-test.true in
    let left : code_of_all_at here (typed_statements_of (drop i ss)) ≡ first ++ behind =
    ap (λ l. code_of_all_at here (typed_statements_of l)) (drop_more ss i s there ∙ ap (λ x. x ∷ drop (i + 1) ss) (sym c.s-item.is)) in
    rest_failed c.args.to.now.items now c.emit_statement.new.to.items (code_of_all_at c.args.place (typed_statements_of ss)) first behind
    c.from_residual.result _ (ap (λ k. now ++ items k) (sym left) ∙ c.loop-s.invariant.code) c.loop-s.invariant.grown c.from_residual.ensures.1
    c.in_err-emit_statement.ensures
