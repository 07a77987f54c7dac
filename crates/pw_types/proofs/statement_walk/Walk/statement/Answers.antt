-- The answers to the goals of `Walk::statement` in `src/statement_walk.rt`.
use Rattle.std.proofs.lemmas.Result.{err_from_is_err_and}
use Rattle.pw_types.specs.declared.statement_step.StatementStep.TheVariants.{Done}
use Rattle.pw_types.proofs.WaitingStatements.{none_wait, at_step, all_done, part_leads, part_stops, part_less, done_leads, done_stops, done_less}
use Rattle.pw_types.proofs.statement_walk.Walk.statement.Goals as goal

pub parts-init : goal.parts-init
parts-init c = none_wait _ c.new-frames.result _ c.in_ok-step.ensures.judged c.new-frames.ensures

pub returns-in_err-step-in-Part : goal.returns-in_err-step-in-Part
returns-in_err-step-in-Part c =
    let p = err_from_is_err_and c.from_residual-in_err-step-in-Part.result c.from_residual-in_err-step-in-Part.ensures.1 in
    rw (p.1, p.2) (part_stops _ c.parts.frames c.in-Part.frame c.in-Part.setting c.in-Part.part c.parts.self c.in_err-step-in-Part.field-0.0
    (at_step _ c.parts.frames c.parts.self c.parts.step _ c.parts.invariant c.in-Part.is) c.in_err-step-in-Part.ensures.judged)

pub parts-smaller-in-Part : goal.parts-smaller-in-Part
parts-smaller-in-Part c =
    part_less c.parts.frames c.push.new.items c.in-Part.frame c.in-Part.setting c.in-Part.part c.parts.step c.in_ok-step-in-Part.step
    c.in_ok-push-in-Part.ensures c.in-Part.is c.in_ok-step-in-Part.ensures.less

pub parts-preserved-in-Part : goal.parts-preserved-in-Part
parts-preserved-in-Part c =
    part_leads _ c.parts.frames c.push.new.items c.in-Part.frame c.in-Part.setting c.in-Part.part c.parts.self c.enter-in-Part.new.self c.in_ok-step-in-Part.step
    (at_step _ c.parts.frames c.parts.self c.parts.step _ c.parts.invariant c.in-Part.is) c.in_ok-push-in-Part.ensures c.in_ok-step-in-Part.ensures.judged

pub returns-in_err-step-in-Some : goal.returns-in_err-step-in-Some
returns-in_err-step-in-Some c =
    let p = err_from_is_err_and c.from_residual-in_err-step-in-Some.result c.from_residual-in_err-step-in-Some.ensures.1 in
    rw (p.1, p.2) (done_stops _ c.parts.frames c.pop.new.self c.in-Some.frame c.in-Done.typed c.parts.self c.in_err-step-in-Some.field-0.0
    (at_step _ c.parts.frames c.parts.self c.parts.step _ c.parts.invariant c.in-Done.is) c.in-Some.ensures c.in_err-step-in-Some.ensures.judged)

pub parts-smaller : goal.parts-smaller
parts-smaller c =
    done_less c.parts.frames c.pop.new.self c.in-Some.frame c.in-Done.typed c.parts.step c.in_ok-step-in-Some.step
    c.in-Some.ensures c.in-Done.is c.in_ok-step-in-Some.ensures.less

pub parts-preserved : goal.parts-preserved
parts-preserved c =
    done_leads _ c.parts.frames c.pop.new.self c.in-Some.frame c.in-Done.typed c.parts.self c.resume.new.self c.in_ok-step-in-Some.step
    (at_step _ c.parts.frames c.parts.self c.parts.step _ c.parts.invariant c.in-Done.is) c.in-Some.ensures c.in_ok-step-in-Some.ensures.judged

pub returns-in-None : goal.returns-in-None
returns-in-None c =
    all_done _ c.parts.frames _ (at_step _ c.parts.frames c.parts.self c.parts.step (Done c.in-Done.typed) c.parts.invariant c.in-Done.is) c.in-None.ensures.0
