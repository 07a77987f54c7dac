-- The value and the jump are appended, or the first items of them.
use Rattle.std.proofs.Common.{◌≡◌, ◌+◌, [], ◌∷◌, refl, ap}
use Rattle.std.specs.Prelude.{option_map}
use Rattle.pw_tree.specs.TypedExpressions.{typed_expression_of}
use Rattle.pw_code.specs.Pieces.{jump}
use Rattle.pw_code.specs.StatementCode.{value_words, value_code, statement_code}
use Rattle.pw_gen.proofs.Appended.{one_failed, two_done}
use Rattle.pw_gen.proofs.statement.put_return.Goals as goal

pub returns-in_err-put_value : goal.returns-in_err-put_value
unfolding statement_code
returns-in_err-put_value c =
    let place = c.args.place in
    let e = option_map typed_expression_of c.args.e.now in
    one_failed c.args.to.now.items c.from_residual.result (value_code place.frame e) (jump (place.at + value_words e) place.targets.return_to ∷ [])
    (value_code place.frame e) c.put_value.new.to.items _ refl c.from_residual.ensures.1 c.in_err-put_value.ensures

pub returns : goal.returns
unfolding statement_code
returns c =
    let place = c.args.place in
    let e = option_map typed_expression_of c.args.e.now in
    two_done c.args.to.now.items c.put_jump.result (value_code place.frame e) (jump (place.at + value_words e) place.targets.return_to ∷ [])
    (value_code place.frame e) (jump (place.at + c.value_words.result) place.targets.return_to ∷ []) c.put_value.new.to.items c.put_jump.new.to.items
    refl (ap (λ n. jump (place.at + n) place.targets.return_to ∷ []) c.value_words.ensures.words) c.in_ok-put_value.ensures c.put_jump.ensures
