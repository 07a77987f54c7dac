-- The parts of statements that can be compiled can be compiled where they stand.
use Rattle.std.proofs.Common.{◌≡◌, ℕ, suc, ◌+◌, ◌<◌, Option, sym, subst, arith}
use Rattle.pw_tree.specs.TypedExpressions.{TypedExpression}
use Rattle.pw_tree.specs.TypedStatements.{TypedStatement, while_loop, do_loop, present}
use Rattle.pw_tree.specs.WellTypedStatements.{Everywhere, EverywhereIf}
use Rattle.pw_code.specs.ExpressionCode.{expression_words}
use Rattle.pw_code.specs.StatementCode.{condition_words, statement_words, else_words}
use Rattle.pw_genexpr.specs.Conditions.{IsWithinLimits}
use Rattle.pw_gen.specs.declared.place.Place.{Place}
use Rattle.pw_gen.specs.Steps.Places.{after, in_loop}
use Rattle.pw_gen.specs.Steps.Measuring.{reach}
use Rattle.pw_gen.specs.Steps.Emitting.{AreNear, CanEmit, CanEmitElse, CanEmitThen, CanEmitForBody}

pub then_parts : (place here : Place) (c : TypedExpression) (a : TypedStatement) (n : ℕ) → CanEmitThen place c a n →
    here ≡ after place (expression_words c + 2) → CanEmit here a
then_parts place here c a n h e =
    subst (λ p. CanEmit p a) (sym e) (record {
      within_limits = h.within_limits;
      targets_near = h.targets_near;
      parts = h.parts;
      short = h.short;
      near = omega (arith, h.near);
    })

-- in the body of a loop, whose words are near
loop_targets : (place : Place) (end next : ℕ) → AreNear place.targets → end < reach → next < reach → AreNear (in_loop end next place).targets
loop_targets place end next h e n = record { break_near = e; continue_near = n; return_near = h.return_near }

pub while_parts : (place here : Place) (c : TypedExpression) (body : TypedStatement) → CanEmit place (while_loop c body) →
    here ≡ in_loop (place.at + (expression_words c + 2) + statement_words body + 1) (place.at + (expression_words c + 2) + statement_words body) (after place (expression_words c + 2)) →
    CanEmit here body
unfolding Everywhere statement_words
while_parts place here c body h e =
    let near : suc (place.at + (expression_words c + (2 + (statement_words body + 1)))) < reach = h.near in
    subst (λ p. CanEmit p body) (sym e) (record {
      within_limits = h.within_limits;
      targets_near = loop_targets (after place (expression_words c + 2)) (place.at + (expression_words c + 2) + statement_words body + 1)
          (place.at + (expression_words c + 2) + statement_words body) h.targets_near (omega arith) (omega arith);
      parts = h.parts.1;
      short = h.short.1;
      near = omega arith;
    })

pub do_parts : (place here : Place) (c : TypedExpression) (body : TypedStatement) → CanEmit place (do_loop body c) →
    here ≡ in_loop (place.at + statement_words body + (expression_words c + 1) + 1) (place.at + statement_words body) place →
    CanEmit here body
unfolding Everywhere statement_words
do_parts place here c body h e =
    let near : suc (place.at + (statement_words body + (expression_words c + 2))) < reach = h.near in
    subst (λ p. CanEmit p body) (sym e) (record {
      within_limits = h.within_limits;
      targets_near = loop_targets place (place.at + statement_words body + (expression_words c + 1) + 1)
          (place.at + statement_words body) h.targets_near (omega arith) (omega arith);
      parts = h.parts.1;
      short = h.short.1;
      near = omega arith;
    })

pub for_body_parts : (top here : Place) (c : Option TypedExpression) (body : TypedStatement) (last : ℕ) → IsWithinLimits top.frame → CanEmitForBody top c body last →
    here ≡ in_loop (top.at + condition_words c + statement_words body + last + 1) (top.at + condition_words c + statement_words body) (after top (condition_words c)) →
    CanEmit here body
for_body_parts top here c body last limits h e =
    subst (λ p. CanEmit p body) (sym e) (record {
      within_limits = limits;
      targets_near = loop_targets (after top (condition_words c)) (top.at + condition_words c + statement_words body + last + 1)
          (top.at + condition_words c + statement_words body) h.targets_near (omega (arith, h.near)) (omega (arith, h.near));
      parts = h.parts;
      short = h.short;
      near = omega (arith, h.near);
    })

pub present_parts : (place here : Place) (s : TypedStatement) → IsWithinLimits place.frame → CanEmitElse place (present s) → here ≡ after place 1 → CanEmit here s
unfolding EverywhereIf else_words
present_parts place here s limits h e =
    let near : suc (place.at + (1 + statement_words s)) < reach = h.near in
    subst (λ p. CanEmit p s) (sym e) (record {
      within_limits = limits;
      targets_near = h.targets_near;
      parts = h.parts;
      short = h.short;
      near = omega arith;
    })
