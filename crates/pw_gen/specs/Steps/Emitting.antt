-- What statements rest on while their code is appended.
use Rattle.std.specs.Prelude.{ℕ, suc, ◌+◌, ◌<◌, Option, None, Some, ⊤}
use Rattle.pw_tree.specs.TypedExpressions.{TypedExpression}
use Rattle.pw_tree.specs.TypedStatements.{TypedStatement, TypedStatements, OptionalTypedStatement, evaluate, set_local, set_variable, set_element, block, if_else, while_loop, do_loop, for_loop, returns, breaks, continues}
use Rattle.pw_tree.specs.WellTypedStatements.{IfPresent, Everywhere, EverywhereIn, EverywhereIf}
use Rattle.pw_code.specs.declared.frame.Frame.{Frame}
use Rattle.pw_code.specs.Bounds.{HasShortCode}
use Rattle.pw_code.specs.ExpressionCode.{expression_words}
use Rattle.pw_code.specs.StatementCode.{condition_words, statement_words, statements_words, optional_words, else_words}
use Rattle.pw_genexpr.specs.Conditions.{IsWithinLimits, StandsIn}
use Rattle.pw_gen.specs.declared.place.Targets.{Targets}
use Rattle.pw_gen.specs.declared.place.Place.{Place}
use Rattle.pw_gen.specs.Steps.Measuring.{reach, HasShortParts}

-- Jumps reach their targets.
pub record AreNear (targets : Targets) : Type 0 where
  pub break_near : targets.break_to < reach
  pub continue_near : targets.continue_to < reach
  pub return_near : targets.return_to < reach

-- The expressions right in a statement can stand in a function with this frame, and a local that it sets has a slot there.
abbrev pub HasPartsIn : Frame → TypedStatement → Type 0
HasPartsIn frame (evaluate e) = StandsIn frame 0 e
HasPartsIn frame (set_local i e) = (i < frame.locals) × IfPresent (StandsIn frame 0) e
HasPartsIn frame (set_variable x e) = StandsIn frame 0 e
HasPartsIn frame (set_element a array_size line i e) = StandsIn frame 0 i × StandsIn frame 1 e
HasPartsIn frame (block body) = ⊤
HasPartsIn frame (if_else c a b) = StandsIn frame 0 c
HasPartsIn frame (while_loop c body) = StandsIn frame 0 c
HasPartsIn frame (do_loop body c) = StandsIn frame 0 c
HasPartsIn frame (for_loop first c last body) = IfPresent (StandsIn frame 0) c
HasPartsIn frame (returns e) = IfPresent (StandsIn frame 0) e
HasPartsIn frame breaks = ⊤
HasPartsIn frame continues = ⊤

-- The code of a statement can be appended at a place: its words, and the one after them, are within reach.
pub record CanEmit (place : Place) (s : TypedStatement) : Type 0 where
  pub within_limits : IsWithinLimits place.frame
  pub targets_near : AreNear place.targets
  pub parts : Everywhere (HasPartsIn place.frame) s
  pub short : Everywhere HasShortParts s
  pub near : suc (place.at + statement_words s) < reach

-- So can that of several.
pub record CanEmitAll (place : Place) (ss : TypedStatements) : Type 0 where
  pub within_limits : IsWithinLimits place.frame
  pub targets_near : AreNear place.targets
  pub parts : EverywhereIn (HasPartsIn place.frame) ss
  pub short : EverywhereIn HasShortParts ss
  pub near : suc (place.at + statements_words ss) < reach

-- And that of one that may be absent.
pub record CanEmitOptional (place : Place) (s : OptionalTypedStatement) : Type 0 where
  pub targets_near : AreNear place.targets
  pub parts : EverywhereIf (HasPartsIn place.frame) s
  pub short : EverywhereIf HasShortParts s
  pub near : suc (place.at + optional_words s) < reach

-- And that of an `else`.
pub record CanEmitElse (place : Place) (s : OptionalTypedStatement) : Type 0 where
  pub targets_near : AreNear place.targets
  pub parts : EverywhereIf (HasPartsIn place.frame) s
  pub short : EverywhereIf HasShortParts s
  pub near : suc (place.at + else_words s) < reach

-- And that of the condition of an `if` and its first branch.
pub record CanEmitThen (place : Place) (c : TypedExpression) (a : TypedStatement) (jump_words : ℕ) : Type 0 where
  pub within_limits : IsWithinLimits place.frame
  pub targets_near : AreNear place.targets
  pub condition : StandsIn place.frame 0 c
  pub condition_short : HasShortCode c
  pub parts : Everywhere (HasPartsIn place.frame) a
  pub short : Everywhere HasShortParts a
  pub near : suc (place.at + (expression_words c + (2 + (statement_words a + jump_words)))) < reach

-- And that of the condition of a `for` and its body.
pub record CanEmitForBody (top : Place) (c : Option TypedExpression) (body : TypedStatement) (last_words : ℕ) : Type 0 where
  pub targets_near : AreNear top.targets
  pub condition : IfPresent (StandsIn top.frame 0) c
  pub condition_short : IfPresent HasShortCode c
  pub parts : Everywhere (HasPartsIn top.frame) body
  pub short : Everywhere HasShortParts body
  pub near : suc (top.at + (condition_words c + (statement_words body + (last_words + 1)))) < reach
