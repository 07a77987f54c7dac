-- The answers to the goals of `resume` in `src/control_head.rt`.
use Rattle.std.proofs.Common.{◌≡◌, ◌≢◌, Err, sym, ◌∙◌, ap, ◌-◌, length, Ok, arith}
use Rattle.std.proofs.Common.{[], ◌∷◌, length-append, rules}
use Rattle.std.proofs.lemmas.Grind.{common_steps}
use Rattle.pw_grammar.specs.declared.error.SyntaxError.TheVariants.{NoMemory}
use Rattle.pw_parse.specs.Steps.Nesting.{resume, unread}
use Rattle.pw_parse.proofs.Nesting.{closed_fault, closed_whole, closed_head}
use Rattle.pw_parse.proofs.Shorter.{whole_no_longer, else_shorter}
use Rattle.pw_parse.proofs.control_head.resume.Goals as goal

pub outward-preserved : goal.outward-preserved
outward-preserved c =
    let hs = c.pop.new.self in
    let depth = c.args.depth - c.len.result in
    let at : depth ≡ c.args.depth - length hs = ap (λ m. c.args.depth - m) c.len.ensures in
    let is = c.in_ok-whole.ensures ∙ ap (λ x. Ok (x, c.closed.new.cursor)) c.in-Whole.is in
    let split = ap (λ l. resume c.args.depth l (Ok (c.outward.stmt, c.outward.cursor))) c.in-Some.ensures in
    let turn = closed_whole c.args.depth depth hs c.in-Some.head c.outward.stmt c.outward.cursor c.in-Whole.whole c.closed.new.cursor at is in
    let fewer = ap length c.in-Some.ensures ∙ length-append hs (c.in-Some.head ∷ []) in
    let shorter = whole_no_longer depth c.in-Some.head c.outward.stmt c.outward.cursor c.in-Whole.whole c.closed.new.cursor is in
    (c.outward.invariant.0 ∙ split ∙ turn, omega (arith, fewer, c.outward.invariant.1), omega (arith, shorter, c.outward.invariant.2))

pub returns-in_err-whole-clause-is : goal.returns-in_err-whole-clause-is
returns-in_err-whole-clause-is c =
    let hs = c.pop.new.self in
    let depth = c.args.depth - c.len.result in
    let at : depth ≡ c.args.depth - length hs = ap (λ m. c.args.depth - m) c.len.ensures in
    let split = ap (λ l. resume c.args.depth l (Ok (c.outward.stmt, c.outward.cursor))) c.in-Some.ensures in
    let turn : c.in_err-whole.field-0.0 ≢ NoMemory → resume c.args.depth c.args.heads.now (Ok (c.args.inner, c.args.cursor.now)) ≡ Err c.in_err-whole.field-0.0 =
    λ known. c.outward.invariant.0 ∙ (split ∙ closed_fault c.args.depth depth hs c.in-Some.head c.outward.stmt c.outward.cursor _ at (c.in_err-whole.ensures known)) in
    first_of (search rules, grind (arith, common_steps))

pub returns-in-Head-clause-is : goal.returns-in-Head-clause-is
returns-in-Head-clause-is c =
    let hs = c.pop.new.self in
    let depth = c.args.depth - c.len.result in
    let at : depth ≡ c.args.depth - length hs = ap (λ m. c.args.depth - m) c.len.ensures in
    let split = ap (λ l. resume c.args.depth l (Ok (c.outward.stmt, c.outward.cursor))) c.in-Some.ensures in
    let is = c.in_ok-whole.ensures ∙ ap (λ x. Ok (x, c.closed.new.cursor)) c.in-Head.is in
    let turn = closed_head c.args.depth depth hs c.in-Some.head c.outward.stmt c.outward.cursor c.in-Head.head c.closed.new.cursor at is in
    c.outward.invariant.0 ∙ split ∙ turn ∙ ap (λ l. unread c.args.depth l c.closed.new.cursor) (sym c.in_ok-push-in-Head.ensures.ok)

pub returns-in-Head-clause-shorter : goal.returns-in-Head-clause-shorter
returns-in-Head-clause-shorter c =
    let depth = c.args.depth - c.len.result in
    let is = c.in_ok-whole.ensures ∙ ap (λ x. Ok (x, c.closed.new.cursor)) c.in-Head.is in
    let shorter = else_shorter depth c.in-Some.head c.outward.stmt c.outward.cursor c.in-Head.head c.closed.new.cursor is in
    omega (arith, shorter, c.outward.invariant.2)

pub returns-clause-is : goal.returns-clause-is
unfolding resume
returns-clause-is c = c.outward.invariant.0 ∙ ap (λ l. resume c.args.depth l (Ok (c.outward.stmt, c.outward.cursor))) c.in_default.ensures.0
