-- The answers to the goals of `walk` in `src/expression.rt`.
use Rattle.std.proofs.Common.{Err, ap, sym, ◌∙◌}
use Rattle.std.proofs.lemmas.Result.{err_from_is_err_and}
use Rattle.pw_tree.specs.Expressions.{expression_of}
use Rattle.pw_types.specs.Steps.CheckingExpressions.{checked}
use Rattle.pw_types.specs.Steps.ResumingExpressions.{valued, resume, resumed}
use Rattle.pw_types.proofs.Resuming.{at_part, at_instead, at_done, at_end, goes_on, refusals, as_used, part_smaller, done_smaller}
use Rattle.pw_types.proofs.expression.walk.Goals as goal

pub steps-init : goal.steps-init
unfolding resume
steps-init c = ap (λ fs. resume c.args.scope.now fs (checked c.args.scope.now c.args.role (expression_of c.args.e.now) c.args.used.now.items)) (sym c.new-frames.ensures)

pub returns-in_err-step-in-Part : goal.returns-in_err-step-in-Part
returns-in_err-step-in-Part c =
    let s = c.args.scope.now in
    let exit = err_from_is_err_and c.from_residual-in_err-step-in-Part.result c.from_residual-in_err-step-in-Part.ensures.1 in
    refusals s c.push.new.frames (checked s c.args.role (expression_of c.args.e.now)) (checked s c.in-Part.role (expression_of c.in-Part.e.now))
    c.args.used.now.items c.down.new.used.items c.steps.used.items c.down.new.used.items c.in_err-step-in-Part.field-0.0
    c.from_residual-in_err-step-in-Part.result (exit.1 ∙ ap (λ x. Err x) exit.2)
    (at_part s c.steps.frames c.push.new.frames c.steps.step c.steps.used.items c.in-Part.frame c.in-Part.role c.in-Part.e c.steps.invariant c.in-Part.is c.in_ok-push-in-Part.ensures)
    c.in_err-step-in-Part.ensures.continues

pub returns-in_err-step-in-Instead : goal.returns-in_err-step-in-Instead
returns-in_err-step-in-Instead c =
    let s = c.args.scope.now in
    let exit = err_from_is_err_and c.from_residual-in_err-step-in-Instead.result c.from_residual-in_err-step-in-Instead.ensures.1 in
    refusals s c.steps.frames (checked s c.args.role (expression_of c.args.e.now)) (checked s c.in-Instead.role (expression_of c.in-Instead.e.now))
    c.args.used.now.items c.down-in-Instead.new.used.items c.steps.used.items c.down-in-Instead.new.used.items c.in_err-step-in-Instead.field-0.0
    c.from_residual-in_err-step-in-Instead.result (exit.1 ∙ ap (λ x. Err x) exit.2)
    (at_instead s c.steps.frames c.steps.step c.steps.used.items c.in-Instead.role c.in-Instead.e c.steps.invariant c.in-Instead.is)
    c.in_err-step-in-Instead.ensures.continues

pub returns-in_err-step-in-Some : goal.returns-in_err-step-in-Some
returns-in_err-step-in-Some c =
    let s = c.args.scope.now in
    let exit = err_from_is_err_and c.from_residual-in_err-step-in-Some.result c.from_residual-in_err-step-in-Some.ensures.1 in
    refusals s c.pop.new.self (checked s c.args.role (expression_of c.args.e.now)) (resumed s c.in-Some.frame (valued c.in-Done.typed))
    c.args.used.now.items c.steps.used.items c.steps.used.items c.steps.used.items c.in_err-step-in-Some.field-0.0
    c.from_residual-in_err-step-in-Some.result (exit.1 ∙ ap (λ x. Err x) exit.2)
    (at_done s c.steps.frames c.pop.new.self c.steps.step c.steps.used.items c.in-Some.frame c.in-Done.typed c.steps.invariant c.in-Done.is c.in-Some.ensures)
    (as_used s (resumed s c.in-Some.frame (valued c.in-Done.typed)) c.steps.used.items (Err c.in_err-step-in-Some.field-0.0) (c.in_err-step-in-Some.ensures.continues s))

pub returns-in-None : goal.returns-in-None
returns-in-None c =
    at_end c.args.scope.now c.steps.frames c.steps.step c.steps.used.items c.in-Done.typed c.steps.invariant c.in-Done.is c.in-None.ensures.0

pub steps-smaller-in_ok-step-in-Part : goal.steps-smaller-in_ok-step-in-Part
steps-smaller-in_ok-step-in-Part c =
    part_smaller c.steps.frames c.push.new.frames c.steps.step c.in_ok-step-in-Part.step c.in-Part.frame c.in-Part.role c.in-Part.e c.in-Part.is
    c.in_ok-push-in-Part.ensures c.in_ok-step-in-Part.ensures.smaller

pub steps-preserved-in_ok-step-in-Part : goal.steps-preserved-in_ok-step-in-Part
steps-preserved-in_ok-step-in-Part c =
    let s = c.args.scope.now in
    goes_on s c.push.new.frames (checked s c.in-Part.role (expression_of c.in-Part.e.now)) c.steps.used.items c.down.new.used.items c.in_ok-step-in-Part.step
    (at_part s c.steps.frames c.push.new.frames c.steps.step c.steps.used.items c.in-Part.frame c.in-Part.role c.in-Part.e c.steps.invariant c.in-Part.is c.in_ok-push-in-Part.ensures)
    c.in_ok-step-in-Part.ensures.continues

pub steps-smaller : goal.steps-smaller
steps-smaller c =
    done_smaller c.steps.frames c.pop.new.self c.steps.step c.in_ok-step-in-Some.step c.in-Some.frame c.in-Done.typed c.in-Done.is
    c.in-Some.ensures c.in_ok-step-in-Some.ensures.smaller

pub steps-preserved : goal.steps-preserved
steps-preserved c =
    let s = c.args.scope.now in
    goes_on s c.pop.new.self (resumed s c.in-Some.frame (valued c.in-Done.typed)) c.steps.used.items c.steps.used.items c.in_ok-step-in-Some.step
    (at_done s c.steps.frames c.pop.new.self c.steps.step c.steps.used.items c.in-Some.frame c.in-Done.typed c.steps.invariant c.in-Done.is c.in-Some.ensures)
    (ap (λ p. p c.steps.used.items) (c.in_ok-step-in-Some.ensures.continues s))
