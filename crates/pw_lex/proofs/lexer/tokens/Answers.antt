-- Each turn reads one more piece, or the first fault.
use Rattle.std.proofs.Common.{◌<◌, length, arith}
use Rattle.std.proofs.lemmas.Result.{err_from_is_err_and}
use Rattle.pw_lex.proofs.Whole.{some_left, read_fault, read_more, prefix_within, place_within_unless}
use Rattle.pw_lex.proofs.lexer.tokens.Goals as goal

pub returns-in_err-prefix-clause-first_fault : goal.returns-in_err-prefix-clause-first_fault
returns-in_err-prefix-clause-first_fault c =
    let some = some_left c.loop-rest.rest.now c.is_empty.result c.is_empty.ensures c.loop-rest-test.true in
    let p = err_from_is_err_and c.from_residual.result c.from_residual.ensures.1 in
    rw (p.1, p.2) (λ named. read_fault _ _ _ _ _ c.loop-rest.invariant some (c.in_err-prefix.ensures.fault named))

pub returns-in_err-prefix-clause-place : goal.returns-in_err-prefix-clause-place
returns-in_err-prefix-clause-place c =
    let some = some_left c.loop-rest.rest.now c.is_empty.result c.is_empty.ensures c.loop-rest-test.true in
    let p = err_from_is_err_and c.from_residual.result c.from_residual.ensures.1 in
    rw (p.1, p.2) (place_within_unless c.args.text.now c.in_err-prefix.field-0.0
    (λ named. read_fault _ _ _ _ _ c.loop-rest.invariant some (c.in_err-prefix.ensures.fault named)))

pub split_at-requires : goal.split_at-requires
split_at-requires c =
    let some = some_left c.loop-rest.rest.now c.is_empty.result c.is_empty.ensures c.loop-rest-test.true in
    let within = prefix_within _ c.loop-rest.rest.now c.in_ok-prefix.prefix some c.in_ok-prefix.ensures.prefix in
    rw c.len.ensures within.1

pub loop-rest-smaller : goal.loop-rest-smaller
loop-rest-smaller c =
    let some = some_left c.loop-rest.rest.now c.is_empty.result c.is_empty.ensures c.loop-rest-test.true in
    let within = prefix_within _ c.loop-rest.rest.now c.in_ok-prefix.prefix some c.in_ok-prefix.ensures.prefix in
    let len = c.len.ensures in
    let left = c.split_at.ensures.back_len in
    let smaller : length c.split_at.result.1.now < length c.loop-rest.rest.now = omega arith in
    smaller

pub loop-rest-preserved : goal.loop-rest-preserved
loop-rest-preserved c =
    let some = some_left c.loop-rest.rest.now c.is_empty.result c.is_empty.ensures c.loop-rest-test.true in
    let more = read_more _ _ _ _ c.in_ok-prefix.prefix c.loop-rest.invariant some c.in_ok-prefix.ensures.prefix in
    rw (c.split_at.ensures.back, c.in_ok-keep.ensures.kept, c.newlines-line.ensures.value, c.split_at.ensures.front, c.len.ensures) more
