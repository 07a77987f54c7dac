-- The three parts of a function are appended, or the first ones of them.
use Rattle.std.proofs.Common.{◌≡◌, refl, sym, ap, subst, ◌∙◌}
use Rattle.pw_tree.specs.TypedStatements.{typed_statements_of}
use Rattle.pw_tree.specs.Units.{typed_function_of}
use Rattle.pw_code.specs.FunctionCode.{frame_of, opens}
use Rattle.pw_gen.specs.Steps.Places.{code_of_all_at}
use Rattle.pw_gen.specs.Steps.Emitting.{CanEmitAll}
use Rattle.pw_gen.specs.Steps.Functions.{falls_off_and_closes, place_of}
use Rattle.pw_gen.proofs.Appended.{three_done, first_failed, second_failed}
use Rattle.pw_gen.proofs.FunctionBodies.{body_can_emit}
use Rattle.pw_gen.proofs.function.put_function.Goals as goal

pub returns-in_err-put_opens : goal.returns-in_err-put_opens
returns-in_err-put_opens c =
    let f = typed_function_of c.args.f.now in
    first_failed c.args.to.now.items c.from_residual.result (opens f) (code_of_all_at (place_of f) f.body) (falls_off_and_closes (frame_of f))
    (opens f) c.put_opens.new.to.items _ refl c.from_residual.ensures.1 c.in_err-put_opens.ensures

pub emit_statements-requires : goal.emit_statements-requires
emit_statements-requires c =
    let f = typed_function_of c.args.f.now in
    subst (λ p. CanEmitAll p (typed_statements_of c.as_slice.result.now)) (sym c.body_place-place.ensures)
    (subst (λ l. CanEmitAll (place_of f) (typed_statements_of l)) (sym c.as_slice.ensures) (body_can_emit f c.requires))

pub returns-in_err-emit_statements : goal.returns-in_err-emit_statements
returns-in_err-emit_statements c =
    let f = typed_function_of c.args.f.now in
    second_failed c.args.to.now.items c.from_residual-in_err-emit_statements.result (opens f) (code_of_all_at (place_of f) f.body)
    (falls_off_and_closes (frame_of f)) (opens f) (code_of_all_at c.body_place-place.result (typed_statements_of c.as_slice.result.now))
    c.put_opens.new.to.items c.emit_statements.new.to.items _ refl
    (ap (λ p. code_of_all_at p (typed_statements_of c.as_slice.result.now)) c.body_place-place.ensures
    ∙ ap (λ l. code_of_all_at (place_of f) (typed_statements_of l)) c.as_slice.ensures)
    c.in_ok-put_opens.ensures c.from_residual-in_err-emit_statements.ensures.1 c.in_err-emit_statements.ensures

pub returns : goal.returns
returns c =
    let f = typed_function_of c.args.f.now in
    three_done c.args.to.now.items c.put_closes.result (opens f) (code_of_all_at (place_of f) f.body) (falls_off_and_closes (frame_of f))
    (opens f) (code_of_all_at c.body_place-place.result (typed_statements_of c.as_slice.result.now))
    (falls_off_and_closes c.body_place-place.result.frame)
    c.put_opens.new.to.items c.emit_statements.new.to.items c.put_closes.new.to.items refl
    (ap (λ p. code_of_all_at p (typed_statements_of c.as_slice.result.now)) c.body_place-place.ensures
    ∙ ap (λ l. code_of_all_at (place_of f) (typed_statements_of l)) c.as_slice.ensures)
    (ap (λ p. falls_off_and_closes p.frame) c.body_place-place.ensures)
    c.in_ok-put_opens.ensures c.in_ok-emit_statements.ensures c.put_closes.ensures
