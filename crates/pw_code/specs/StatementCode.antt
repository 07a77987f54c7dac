-- The code of statements.
use Rattle.std.specs.Prelude.{ℕ, ◌+◌, pos, List, [], ◌∷◌, ◌++◌, Option, Some, None}
use Rattle.pw_isa.specs.declared.instruction.Inst.TheVariants.{Beq, Ld, Sd, Slli, Add}
use Rattle.pw_isa.specs.Registers.{x0, sp, t0, t1, a0}
use Rattle.pw_tree.specs.TypedExpressions.{TypedExpression}
use Rattle.pw_tree.specs.TypedStatements.{TypedStatement, TypedStatements, OptionalTypedStatement, evaluate, set_local, set_variable, set_element, block, if_else, while_loop, do_loop, for_loop, returns, breaks, continues, nil, cons, absent, present}
use Rattle.pw_code.specs.declared.frame.Frame.{Frame}
use Rattle.pw_code.specs.Items.{CodePart, instruction, address}
use Rattle.pw_code.specs.Frames.{local_slot, held_slot}
use Rattle.pw_code.specs.Pieces.{bytes_of_words, skip, jump, unless_zero, check_index, check_index_words, hold}
use Rattle.pw_code.specs.ExpressionCode.{expression_words, expression_code}

-- ---- sizes

-- of the value that a local is set to, zero where there is none
abbrev pub set_local_words : Option TypedExpression → ℕ
set_local_words None = 1
set_local_words (Some e) = expression_words e + 1

-- of the value that is returned, before the jump
abbrev pub value_words : Option TypedExpression → ℕ
value_words None = 0
value_words (Some e) = expression_words e

-- of a `for`'s condition with the jump that leaves the loop, where there is one
abbrev pub condition_words : Option TypedExpression → ℕ
condition_words None = 0
condition_words (Some c) = expression_words c + 2

unfoldable mutual
  -- How many words the code of a statement is.
  pub statement_words : TypedStatement → ℕ
  statement_words (evaluate e) = expression_words e
  statement_words (set_local i e) = set_local_words e
  statement_words (set_variable x e) = expression_words e + 3
  statement_words (set_element a array_size line i e) =
      expression_words i + (check_index_words array_size line + (1 + (expression_words e + 6)))
  statement_words (block body) = statements_words body
  statement_words (if_else c a b) = expression_words c + (2 + (statement_words a + else_words b))
  statement_words (while_loop c body) = expression_words c + (2 + (statement_words body + 1))
  statement_words (do_loop body c) = statement_words body + (expression_words c + 2)
  statement_words (for_loop first c last body) =
      optional_words first + (condition_words c + (statement_words body + (optional_words last + 1)))
  statement_words (returns e) = value_words e + 1
  statement_words breaks = 1
  statement_words continues = 1

  -- how many words several statements have
  pub statements_words : TypedStatements → ℕ
  statements_words nil = 0
  statements_words (cons s ss) = statement_words s + statements_words ss

  -- how many words a statement has that may be absent
  pub optional_words : OptionalTypedStatement → ℕ
  optional_words absent = 0
  optional_words (present s) = statement_words s

  -- of an `else`, with the jump before it that goes past it
  pub else_words : OptionalTypedStatement → ℕ
  else_words absent = 0
  else_words (present s) = 1 + statement_words s

-- of that jump alone
abbrev pub else_jump : OptionalTypedStatement → ℕ
else_jump absent = 0
else_jump (present s) = 1

-- ---- code

-- The words of a function, counted from its start, that `break`, `continue` and `return` jump to.
pub record Targets : Type 0 where
  pub break_to : ℕ
  pub continue_to : ℕ
  pub return_to : ℕ

-- In the body of a loop, `break` and `continue` are the loop's.
abbrev pub targets_in_loop : (end next : ℕ) → Targets → Targets
targets_in_loop end next targets = record targets { break_to = end; continue_to = next }

-- A local is set to a value, or to zero.
abbrev pub set_local_code : Frame → (i : ℕ) → Option TypedExpression → List CodePart
set_local_code frame i None = instruction (Sd sp x0 (local_slot i)) ∷ []
set_local_code frame i (Some e) = expression_code frame 0 e ++ instruction (Sd sp a0 (local_slot i)) ∷ []

-- The value that is returned.
abbrev pub value_code : Frame → Option TypedExpression → List CodePart
value_code frame None = []
value_code frame (Some e) = expression_code frame 0 e

-- A `for`'s condition; the loop's other words follow it.
abbrev pub condition_code : Frame → Option TypedExpression → (loop_words : ℕ) → List CodePart
condition_code frame None loop_words = []
condition_code frame (Some c) loop_words = expression_code frame 0 c ++ unless_zero loop_words

unfoldable mutual
  -- The code of a statement, in a function with this frame, whose first word has this number.
  pub statement_code : Frame → Targets → (at : ℕ) → TypedStatement → List CodePart
  statement_code frame targets at (evaluate e) = expression_code frame 0 e
  statement_code frame targets at (set_local i e) = set_local_code frame i e
  statement_code frame targets at (set_variable x e) =
      expression_code frame 0 e ++ address t0 x ∷ instruction (Sd t0 a0 (pos 0)) ∷ []
  statement_code frame targets at (set_element a array_size line i e) =
      expression_code frame 0 i ++ check_index array_size line ++ hold frame 0 ∷ expression_code frame 1 e
      ++ instruction (Ld t1 sp (held_slot frame 0)) ∷ instruction (Slli t1 t1 3) ∷ address t0 a ∷ instruction (Add t0 t0 t1)
      ∷ instruction (Sd t0 a0 (pos 0)) ∷ []
  statement_code frame targets at (block body) = statements_code frame targets at body
  statement_code frame targets at (if_else c a b) =
      let then_at : ℕ = at + (expression_words c + 2) in
      expression_code frame 0 c ++ unless_zero (statement_words a + else_jump b) ++ statement_code frame targets then_at a
      ++ else_code frame targets (then_at + statement_words a) b
  statement_code frame targets at (while_loop c body) =
      let body_at : ℕ = at + (expression_words c + 2) in
      let next : ℕ = body_at + statement_words body in
      expression_code frame 0 c ++ unless_zero (statement_words body + 1)
      ++ statement_code frame (targets_in_loop (next + 1) next targets) body_at body ++ jump next at ∷ []
  statement_code frame targets at (do_loop body c) =
      let next : ℕ = at + statement_words body in
      let jump_at : ℕ = next + (expression_words c + 1) in
      statement_code frame (targets_in_loop (jump_at + 1) next targets) at body ++ expression_code frame 0 c
      ++ instruction (Beq a0 x0 (pos (bytes_of_words 2))) ∷ jump jump_at at ∷ []
  statement_code frame targets at (for_loop first c last body) =
      let top : ℕ = at + optional_words first in
      let body_at : ℕ = top + condition_words c in
      let next : ℕ = body_at + statement_words body in
      let jump_at : ℕ = next + optional_words last in
      optional_code frame targets at first ++ condition_code frame c (statement_words body + (optional_words last + 1))
      ++ statement_code frame (targets_in_loop (jump_at + 1) next targets) body_at body ++ optional_code frame targets next last
      ++ jump jump_at top ∷ []
  statement_code frame targets at (returns e) = value_code frame e ++ jump (at + value_words e) targets.return_to ∷ []
  statement_code frame targets at breaks = jump at targets.break_to ∷ []
  statement_code frame targets at continues = jump at targets.continue_to ∷ []

  -- The code of statements, one after the other.
  pub statements_code : Frame → Targets → (at : ℕ) → TypedStatements → List CodePart
  statements_code frame targets at nil = []
  statements_code frame targets at (cons s ss) =
      statement_code frame targets at s ++ statements_code frame targets (at + statement_words s) ss

  -- the code of a statement that may be absent
  pub optional_code : Frame → Targets → (at : ℕ) → OptionalTypedStatement → List CodePart
  optional_code frame targets at absent = []
  optional_code frame targets at (present s) = statement_code frame targets at s

  -- The code of an `else`, before which the first branch goes past it.
  pub else_code : Frame → Targets → (at : ℕ) → OptionalTypedStatement → List CodePart
  else_code frame targets at absent = []
  else_code frame targets at (present s) = skip (statement_words s) ∷ statement_code frame targets (at + 1) s
