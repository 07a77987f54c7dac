-- What the code of an expression, and the pieces of it, can be made of.
use Rattle.std.specs.Prelude.{ℕ, ◌+◌, ◌<◌, ◌≤◌, List, length}
use Rattle.std.specs.List.{AllByRecursion}
use Rattle.pw_base.specs.Limits as limits
use Rattle.pw_tree.specs.TypedExpressions.{TypedExpression}
use Rattle.pw_tree.specs.Held.{held}
use Rattle.pw_tree.specs.Units.{TypedUnit}
use Rattle.pw_tree.specs.WellTypedExpressions.{Class, IsValueClass, IsWellTypedExpression}
use Rattle.pw_code.specs.declared.frame.Frame.{Frame}

-- A frame is within the limits.
pub record IsWithinLimits (frame : Frame) : Type 0 where
  pub few_locals : frame.locals ≤ limits.locals
  pub few_held : frame.held ≤ limits.held_values

-- An expression can stand in a function with this frame, where the held slots from h on are free: it is well typed, and its
-- locals and the values that it holds have slots in the frame.
pub record StandsIn (frame : Frame) (h : ℕ) (e : TypedExpression) : Type 0 where
  pub within_limits : IsWithinLimits frame
  pub unit : TypedUnit
  pub classes : List Class
  pub class_values : AllByRecursion IsValueClass classes
  pub well_typed : IsWellTypedExpression unit classes e
  pub locals_have_slots : length classes ≤ frame.locals
  pub held_have_slots : h + held e ≤ frame.held
