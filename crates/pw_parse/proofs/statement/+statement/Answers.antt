-- The answers to the goals of `statement` in `src/statement.rt`.
use Rattle.std.specs.Prelude.{IfNone}
use Rattle.std.proofs.Common.{◌≡◌, ◌≢◌, sym, subst, ◌∙◌, ap, ◌-◌, ◌<◌, [], ◌∷◌, length, length-append, Ok, Err, rules, arith}
use Rattle.std.proofs.lemmas.Grind.{common_steps}
use Rattle.pw_grammar.specs.declared.error.SyntaxError.TheVariants.{NoMemory}
use Rattle.pw_grammar.specs.Reading.Statements.{statement}
use Rattle.pw_parse.specs.Steps.Nesting.{resume, unread, Resumes}
use Rattle.pw_parse.proofs.Nesting.{outermost, too_deep, front_fault, front_head, front_whole}
use Rattle.pw_parse.proofs.Shorter.{front_shorter}
use Rattle.pw_parse.proofs.statement.+statement.Goals as goal

pub inward-init : goal.inward-init
inward-init t c =
    let none = c.new-heads.ensures in
    (outermost c.args.depth c.args.cursor.now ∙ ap (λ hs. unread c.args.depth hs c.args.cursor.now) (sym none), omega (arith, ap length none))

pub returns-then-left-eq0 : goal.returns-then-left-eq0
returns-then-left-eq0 t c _ =
    let at : c.args.depth - length c.inward.heads ≡ 0 = omega (arith, c.len.ensures) in
    c.inward.invariant.0 ∙ (too_deep c.args.depth c.inward.heads c.inward.cursor at ∙ ap Err (sym c.refuse.ensures))

pub returns-in_err-head : goal.returns-in_err-head
returns-in_err-head t c =
    let depth = c.args.depth - c.len.result in
    let at : depth ≡ c.args.depth - length c.inward.heads = ap (λ m. c.args.depth - m) c.len.ensures in
    let some : 0 < depth = omega arith in
    let turn : c.in_err-head.field-0.0 ≢ NoMemory → statement c.args.depth c.args.cursor.now ≡ Err c.in_err-head.field-0.0 =
    λ known. c.inward.invariant.0 ∙ front_fault c.args.depth depth c.inward.heads c.inward.cursor _ at some (c.in_err-head.ensures known) in
    first_of (search rules, grind (arith, common_steps))

pub inward-smaller-in-Continue-branch-3 : goal.inward-smaller-in-Continue-branch-3
inward-smaller-in-Continue-branch-3 t c =
    let depth = c.args.depth - c.len.result in
    let some : 0 < depth = omega arith in
    front_shorter depth c.inward.cursor c.in_ok-head.field-0 c.front.new.cursor some c.in_ok-head.ensures

pub inward-preserved-in-Continue-branch-3 : goal.inward-preserved-in-Continue-branch-3
inward-preserved-in-Continue-branch-3 t c =
    let depth = c.args.depth - c.len.result in
    let at : depth ≡ c.args.depth - length c.inward.heads = ap (λ m. c.args.depth - m) c.len.ensures in
    let some : 0 < depth = omega arith in
    let is = c.in_ok-head.ensures ∙ ap (λ x. Ok (x, c.front.new.cursor)) c.in-Head.is in
    let turn = front_head c.args.depth depth c.inward.heads c.inward.cursor c.in-Head.head c.front.new.cursor at some is in
    let more = c.in_ok-push-in-Head.ensures.ok in
    let count = ap length more ∙ length-append c.inward.heads (c.in-Head.head ∷ []) in
    (c.inward.invariant.0 ∙ (turn ∙ ap (λ hs. unread c.args.depth hs c.front.new.cursor) (sym more)), omega (arith, count, some, c.len.ensures))

pub returns-in_err-whole-in-Whole : goal.returns-in_err-whole-in-Whole
returns-in_err-whole-in-Whole t c =
    let depth = c.args.depth - c.len.result in
    let at : depth ≡ c.args.depth - length c.inward.heads = ap (λ m. c.args.depth - m) c.len.ensures in
    let some : 0 < depth = omega arith in
    let is = c.in_ok-head.ensures ∙ ap (λ x. Ok (x, c.front.new.cursor)) c.in-Whole.is in
    let turn = c.inward.invariant.0 ∙ front_whole c.args.depth depth c.inward.heads c.inward.cursor c.in-Whole.stmt c.front.new.cursor at some is in
    let fault : c.in_err-whole-in-Whole.field-0.0 ≢ NoMemory → statement c.args.depth c.args.cursor.now ≡ Err c.in_err-whole-in-Whole.field-0.0 =
    λ known. turn ∙ c.in_err-whole-in-Whole.ensures.is known in
    first_of (search rules, grind (arith, common_steps))

pub returns-in-Some : goal.returns-in-Some
returns-in-Some t c =
    let depth = c.args.depth - c.len.result in
    let at : depth ≡ c.args.depth - length c.inward.heads = ap (λ m. c.args.depth - m) c.len.ensures in
    let some : 0 < depth = omega arith in
    let is = c.in_ok-head.ensures ∙ ap (λ x. Ok (x, c.front.new.cursor)) c.in-Whole.is in
    let turn = c.inward.invariant.0 ∙ front_whole c.args.depth depth c.inward.heads c.inward.cursor c.in-Whole.stmt c.front.new.cursor at some is in
    first_of (search rules, grind (arith, common_steps))

pub inward-smaller : goal.inward-smaller
inward-smaller t c =
    let depth = c.args.depth - c.len.result in
    let some : 0 < depth = omega arith in
    let shorter = front_shorter depth c.inward.cursor c.in_ok-head.field-0 c.front.new.cursor some c.in_ok-head.ensures in
    let behind = subst (λ x. IfNone x (length c.resume.new.cursor.rest < length c.front.new.cursor.rest)) c.in_default.is c.in_ok-whole-in-Whole.ensures.shorter in
    let fewer : length c.resume.new.cursor.rest < length c.inward.cursor.rest = omega (arith, shorter, behind) in
    fewer

pub inward-preserved : goal.inward-preserved
inward-preserved t c =
    let depth = c.args.depth - c.len.result in
    let at : depth ≡ c.args.depth - length c.inward.heads = ap (λ m. c.args.depth - m) c.len.ensures in
    let some : 0 < depth = omega arith in
    let is = c.in_ok-head.ensures ∙ ap (λ x. Ok (x, c.front.new.cursor)) c.in-Whole.is in
    let turn = c.inward.invariant.0 ∙ front_whole c.args.depth depth c.inward.heads c.inward.cursor c.in-Whole.stmt c.front.new.cursor at some is in
    let next = subst (λ x. Resumes c.args.depth (resume c.args.depth c.inward.heads (Ok (c.in-Whole.stmt, c.front.new.cursor))) (Ok x) c.resume.new.heads c.resume.new.cursor)
    c.in_default.is c.in_ok-whole-in-Whole.ensures.is in
    (turn ∙ next, omega (arith, c.in_ok-whole-in-Whole.ensures.near, c.inward.invariant.1))
