-- The body of a well-typed function can be compiled where it stands.
use Rattle.std.proofs.Common.{◌≡◌, ℕ, suc, ◌+◌, ◌<◌, ◌≤◌, ◌^◌, List, length, Option, Some, None, sym, ap, subst, arith}
use Rattle.pw_tree.specs.TypedExpressions.{TypedExpression}
use Rattle.pw_tree.specs.TypedStatements.{TypedStatement, evaluate, set_local, set_variable, set_element, block, if_else, while_loop, do_loop, for_loop, returns, breaks, continues}
use Rattle.pw_tree.specs.Held.{held_by_all}
use Rattle.pw_tree.specs.Units.{Function}
use Rattle.pw_tree.specs.WellTypedExpressions.{class_of}
use Rattle.pw_tree.specs.WellTypedStatements.{IfPresent}
use Rattle.pw_code.specs.declared.frame.Frame.{Frame}
use Rattle.pw_code.specs.Bounds.{HasShortCode}
use Rattle.pw_code.specs.StatementCode.{statements_words}
use Rattle.pw_code.specs.FunctionCode.{frame_of, opens_words, function_words}
use Rattle.pw_code.proofs.Exports.{well_typed_is_short, function_is_short}
use Rattle.pw_genexpr.specs.Conditions.{IsWithinLimits, StandsIn}
use Rattle.pw_gen.specs.Steps.Measuring.{reach, HasShortParts, CanMeasureAll}
use Rattle.pw_gen.specs.Steps.Emitting.{HasPartsIn, CanEmitAll}
use Rattle.pw_gen.specs.Steps.Functions.{IsOfUnit, place_of}
use Rattle.pw_gen.proofs.Conditions.{parts_of_all}
use Rattle.pw_gen.proofs.EachStatement.{all_weaker}

short_of : (frame : Frame) (h : ℕ) (e : TypedExpression) → StandsIn frame h e → HasShortCode e
short_of frame h e s = well_typed_is_short s.unit s.classes e s.class_values s.well_typed

short_if : (frame : Frame) (e : Option TypedExpression) → IfPresent (StandsIn frame 0) e → IfPresent HasShortCode e
short_if frame None h = tt
short_if frame (Some e) h = short_of frame 0 e h

short_parts : (frame : Frame) (s : TypedStatement) → HasPartsIn frame s → HasShortParts s
short_parts frame (evaluate e) h = short_of frame 0 e h
short_parts frame (set_local i e) h = short_if frame e h.1
short_parts frame (set_variable x e) h = short_of frame 0 e h
short_parts frame (set_element a size line i e) h = (short_of frame 0 i h.0, short_of frame 1 e h.1)
short_parts frame (block body) h = tt
short_parts frame (if_else c a b) h = short_of frame 0 c h
short_parts frame (while_loop c body) h = short_of frame 0 c h
short_parts frame (do_loop body c) h = short_of frame 0 c h
short_parts frame (for_loop first c last body) h = short_if frame c h
short_parts frame (returns e) h = short_if frame e h
short_parts frame breaks h = tt
short_parts frame continues h = tt

pub within_limits : (f : Function) → IsOfUnit f → IsWithinLimits (frame_of f)
within_limits f h = record { few_locals = h.well_typed.few_locals; few_held = h.well_typed.few_held }

at_most : (n m : ℕ) → n ≡ m → m ≤ n
at_most n m e = omega arith

pub body_can_emit : (f : Function) → IsOfUnit f → CanEmitAll (place_of f) f.body
body_can_emit f h =
    let w = h.well_typed in
    let short : opens_words f + (statements_words f.body + 5) < 2 ^ 18 = function_is_short h.unit f w in
    let parts = parts_of_all h.unit (class_of f.sig.result) w.classes (frame_of f) w.are_classes.values (within_limits f h)
    (at_most f.locals (length w.classes) (sym w.are_classes.each)) f.body w.fits w.numbers w.few_phrases
    (at_most f.held (held_by_all f.body) w.held) in
    record {
      within_limits = within_limits f h;
      targets_near = record { break_near = omega arith; continue_near = omega arith; return_near = omega arith };
      parts = parts;
      short = all_weaker (HasPartsIn (frame_of f)) HasShortParts (short_parts (frame_of f)) f.body parts;
      near = omega arith;
    }

pub body_can_measure : (f : Function) → IsOfUnit f → CanMeasureAll f.body
body_can_measure f h =
    let short : opens_words f + (statements_words f.body + 5) < 2 ^ 18 = function_is_short h.unit f h.well_typed in
    record { short = (body_can_emit f h).short; near = omega arith }

-- A function's words are within reach.
pub body_near : (f : Function) → IsOfUnit f → opens_words f + (statements_words f.body + 5) < 2 ^ 18
body_near f h = function_is_short h.unit f h.well_typed
