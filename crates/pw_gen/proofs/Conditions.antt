-- The statements of a well-typed function can be compiled.
use Rattle.std.proofs.Common.{◌≡◌, ℕ, suc, ◌+◌, ◌*◌, ◌^◌, ◌<◌, ◌≤◌, max, Bool, List, [], ◌∷◌, length, Option, Some, None, refl, sym, ap, subst, ◌∙◌, arith}
use Rattle.std.specs.Prelude.{⊤, slice_get}
use Rattle.std.specs.List.{AllByRecursion}
use Rattle.std.proofs.lemmas.Option.{slice_get_within}
use Rattle.pw_base.specs.Limits.{function_tokens}
use Rattle.pw_tree.specs.TypedExpressions.{TypedExpression}
use Rattle.pw_tree.specs.TypedStatements.{TypedStatement, TypedStatements, OptionalTypedStatement, evaluate, set_local, set_variable, set_element, block, if_else, while_loop, do_loop, for_loop, returns, breaks, continues, nil, cons, absent, present}
use Rattle.pw_tree.specs.Held.{held, held_option, held_by, held_by_all, held_by_maybe}
use Rattle.pw_tree.specs.Units.{Function, TypedUnit}
use Rattle.pw_tree.specs.WellTypedExpressions.{Class, class_of, IsValueClass, HasFittingParts, HasSmallNumbers, Throughout, expressions_in}
use Rattle.pw_tree.specs.WellTypedStatements.{IfPresent, LocalFits, StatementFits, StatementHasSmallNumbers, Everywhere, EverywhereIn, EverywhereIf, expressions_in_option, phrases_in, phrases_in_all, phrases_in_maybe}
use Rattle.pw_tree.specs.WellTypedUnits.{IsWellTypedFunction}
use Rattle.pw_code.specs.declared.frame.Frame.{Frame}
use Rattle.pw_code.specs.Bounds.{HasShortCode}
use Rattle.pw_code.specs.FunctionCode.{frame_of, opens_words, function_words}
use Rattle.pw_genexpr.specs.Conditions.{IsWithinLimits, StandsIn}
use Rattle.pw_gen.specs.Steps.Measuring.{HasShortParts}
use Rattle.pw_gen.specs.Steps.Emitting.{HasPartsIn}

module _ (unit : TypedUnit) (result : Class) (classes : List Class) (frame : Frame) (values : AllByRecursion IsValueClass classes)
    (limits : IsWithinLimits frame) (slots : length classes ≤ frame.locals) where
  abbrev Fits : TypedStatement → Type 0
  Fits s = StatementFits unit result classes s

  abbrev HasParts : TypedExpression → Type 0
  HasParts e = Throughout (HasFittingParts unit classes) e

  abbrev HasNumbers : TypedExpression → Type 0
  HasNumbers e = Throughout HasSmallNumbers e

  stands_in : (h : ℕ) (e : TypedExpression) → HasParts e → HasNumbers e → expressions_in e ≤ function_tokens → h + held e ≤ frame.held → StandsIn frame h e
  stands_in h e parts numbers few room = record {
    within_limits = limits;
    unit = unit;
    classes = classes;
    class_values = values;
    well_typed = record { parts = parts; numbers = numbers; few = few };
    locals_have_slots = slots;
    held_have_slots = room;
  }

  at_zero : (n m : ℕ) → n ≤ m → 0 + n ≤ m
  at_zero n m h = omega arith

  option_stands : (e : Option TypedExpression) → IfPresent HasParts e → IfPresent HasNumbers e → expressions_in_option e ≤ function_tokens →
      held_option e ≤ frame.held → IfPresent (StandsIn frame 0) e
  option_stands None parts numbers few room = tt
  option_stands (Some e) parts numbers few room = stands_in 0 e parts numbers few (at_zero (held e) frame.held room)

  local_there : (i : ℕ) (e : Option TypedExpression) → LocalFits classes i e → i < frame.locals
  local_there i None h = omega arith
  local_there i (Some e) h = let within : i < length classes = slice_get_within classes i _ h in omega arith

  mutual
    unfolding Everywhere EverywhereIn EverywhereIf phrases_in phrases_in_all phrases_in_maybe held_by held_by_all held_by_maybe

    parts_in : (s : TypedStatement) → Everywhere Fits s → Everywhere StatementHasSmallNumbers s → phrases_in s ≤ function_tokens →
        held_by s ≤ frame.held → Everywhere (HasPartsIn frame) s
    parts_in (evaluate e) f n few room = stands_in 0 e f.parts n.expressions (omega arith) (omega arith)
    parts_in (set_local i e) f n few room = (local_there i e f.classes_fit, option_stands e f.parts n.expressions (omega arith) room)
    parts_in (set_variable x e) f n few room = stands_in 0 e f.parts n.expressions (omega arith) (omega arith)
    parts_in (set_element a size line i e) f n few room =
        (stands_in 0 i f.parts.0 n.expressions.0 (omega arith) (omega arith), stands_in 1 e f.parts.1 n.expressions.1 (omega arith) (omega arith))
    parts_in (block body) f n few room = (tt, parts_of_all body f.1 n.1 (omega arith) room)
    parts_in (if_else c a b) f n few room = (
      stands_in 0 c f.0.parts n.0.expressions (omega arith) (omega arith),
      parts_in a f.1 n.1 (omega arith) (omega arith),
      parts_if b f.2 n.2 (omega arith) (omega arith),
    )
    parts_in (while_loop c body) f n few room =
        (stands_in 0 c f.0.parts n.0.expressions (omega arith) (omega arith), parts_in body f.1 n.1 (omega arith) (omega arith))
    parts_in (do_loop body c) f n few room =
        (stands_in 0 c f.0.parts n.0.expressions (omega arith) (omega arith), parts_in body f.1 n.1 (omega arith) (omega arith))
    parts_in (for_loop first c last body) f n few room = (
      option_stands c f.0.parts n.0.expressions (omega arith) (omega arith),
      parts_if first f.1 n.1 (omega arith) (omega arith),
      parts_if last f.2 n.2 (omega arith) (omega arith),
      parts_in body f.3 n.3 (omega arith) (omega arith),
    )
    parts_in (returns e) f n few room = option_stands e f.parts n.expressions (omega arith) room
    parts_in breaks f n few room = tt
    parts_in continues f n few room = tt

    pub parts_of_all : (ss : TypedStatements) → EverywhereIn Fits ss → EverywhereIn StatementHasSmallNumbers ss → phrases_in_all ss ≤ function_tokens →
        held_by_all ss ≤ frame.held → EverywhereIn (HasPartsIn frame) ss
    parts_of_all nil f n few room = tt
    parts_of_all (cons s ss) f n few room =
        (parts_in s f.0 n.0 (omega arith) (omega arith), parts_of_all ss f.1 n.1 (omega arith) (omega arith))

    parts_if : (s : OptionalTypedStatement) → EverywhereIf Fits s → EverywhereIf StatementHasSmallNumbers s → phrases_in_maybe s ≤ function_tokens →
        held_by_maybe s ≤ frame.held → EverywhereIf (HasPartsIn frame) s
    parts_if absent f n few room = tt
    parts_if (present s) f n few room = parts_in s f n few room
