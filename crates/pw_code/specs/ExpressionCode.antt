-- The code of expressions: it leaves the value in a0.
use Rattle.std.specs.Prelude.{ℕ, suc, ◌+◌, ◌*◌, pos, Bool, if◌then◌else◌, List, [], ◌∷◌, ◌++◌}
use Rattle.pw_isa.specs.declared.instruction.Inst.TheVariants.{Jalr, Ld, Addi, Slli, Add, Bne, Ecall}
use Rattle.pw_isa.specs.Registers.{x0, ra, sp, t0, a0, a7}
use Rattle.pw_isa.specs.EnvironmentCalls.{input_call, output_call, null_call_fault}
use Rattle.pw_tree.specs.declared.operator.Bin.{Bin}
use Rattle.pw_tree.specs.declared.operator.Bin.TheVariants.{AndAnd, OrOr}
use Rattle.pw_tree.specs.TypedExpressions.{TypedExpression, TypedExpressions, constant, local, variable, designator, element, unary, binary, conditional, call, call_pointer, input, output, nil, cons}
use Rattle.pw_tree.specs.Held.{count, holds_left}
use Rattle.pw_code.specs.declared.frame.Frame.{Frame}
use Rattle.pw_code.specs.Items.{CodePart, instruction, address}
use Rattle.pw_code.specs.Frames.{local_slot, held_slot}
use Rattle.pw_code.specs.LoadImmediate.{load_immediate, immediate_words}
use Rattle.pw_code.specs.Pieces.{skip, unless_zero, unless_nonzero, past, fault, fault_words, check_index, check_index_words, unary_code, unary_words, binary_code, binary_words, truth_code, hold, load_held}

-- ---- sizes

-- How many words a binary operator's code is, given those of its operands.
abbrev pub operator_words : (line : ℕ) → Bin → (left right : ℕ) → ℕ
operator_words line AndAnd left right = left + (2 + (right + 1))
operator_words line OrOr left right = left + (3 + (right + 1))
operator_words line op left right = left + (1 + (right + (1 + binary_words line op)))

unfoldable mutual
  -- How many words the code of an expression is. This depends on neither the frame nor the values that are held.
  pub expression_words : TypedExpression → ℕ
  expression_words (constant at value) = immediate_words value
  expression_words (local at i) = 1
  expression_words (variable at x) = 3
  expression_words (designator at f) = 2
  expression_words (element at a array_size i) = expression_words i + (check_index_words array_size at.line + 5)
  expression_words (unary at op e) = expression_words e + unary_words op
  expression_words (binary at op unsigned l r) = operator_words at.line op (expression_words l) (expression_words r)
  expression_words (conditional at c a b) = expression_words c + (2 + (expression_words a + (1 + expression_words b)))
  expression_words (call at f es) = arguments_words es + (count es + 3)
  expression_words (call_pointer at e es) =
      arguments_words es + (expression_words e + (2 + (fault_words at.line + (count es + 1))))
  expression_words (input at) = 2
  expression_words (output at e) = expression_words e + 2

  -- How many words the code is that evaluates arguments.
  pub arguments_words : TypedExpressions → ℕ
  arguments_words nil = 0
  arguments_words (cons e es) = expression_words e + (1 + arguments_words es)

-- ---- code

-- The first slot that is free while a right operand is evaluated: the left value is held in the slot h, but for `&&` and `||`.
abbrev pub right_slot : Bin → ℕ → ℕ
right_slot op h = if holds_left op then suc h else h

-- A binary operator, given the code of its operands and the words of the right one: the left value is held while the right one
-- is evaluated. `&&` and `||` hold nothing, and go past the right operand where the left one decides.
abbrev pub operator_code : Frame → (h line : ℕ) → Bin → Bool → (left right : List CodePart) → (right_words : ℕ) → List CodePart
operator_code frame h line AndAnd unsigned left right right_words =
    left ++ unless_zero (right_words + 1) ++ right ++ truth_code ∷ []
operator_code frame h line OrOr unsigned left right right_words =
    left ++ truth_code ∷ unless_nonzero (right_words + 1) ++ right ++ truth_code ∷ []
operator_code frame h line op unsigned left right right_words =
    left ++ hold frame h ∷ right ++ instruction (Ld t0 sp (held_slot frame h)) ∷ binary_code line op unsigned

unfoldable mutual
  -- The code of an expression, in a function with this frame, where the held slots from h on are free.
  pub expression_code : Frame → ℕ → TypedExpression → List CodePart
  expression_code frame h (constant at value) = load_immediate a0 value
  expression_code frame h (local at i) = instruction (Ld a0 sp (local_slot i)) ∷ []
  expression_code frame h (variable at x) = address t0 x ∷ instruction (Ld a0 t0 (pos 0)) ∷ []
  expression_code frame h (designator at f) = address a0 f ∷ []
  expression_code frame h (element at a array_size i) =
      expression_code frame h i ++ check_index array_size at.line ++ instruction (Slli a0 a0 3) ∷ address t0 a
      ∷ instruction (Add t0 t0 a0) ∷ instruction (Ld a0 t0 (pos 0)) ∷ []
  expression_code frame h (unary at op e) = expression_code frame h e ++ unary_code op
  expression_code frame h (binary at op unsigned l r) =
      operator_code frame h at.line op unsigned (expression_code frame h l)
      (expression_code frame (right_slot op h) r) (expression_words r)
  expression_code frame h (conditional at c a b) =
      expression_code frame h c ++ unless_zero (expression_words a + 1) ++ expression_code frame h a
      ++ skip (expression_words b) ∷ expression_code frame h b
  expression_code frame h (call at f es) =
      arguments_code frame h es ++ load_held frame h a0 (count es) ++ address t0 f ∷ instruction (Jalr ra t0 (pos 0)) ∷ []
  expression_code frame h (call_pointer at e es) =
      arguments_code frame h es ++ expression_code frame (h + count es) e ++ instruction (Addi t0 a0 (pos 0))
      ∷ past (Bne t0 x0) (fault null_call_fault at.line) ++ load_held frame h a0 (count es)
      ++ instruction (Jalr ra t0 (pos 0)) ∷ []
  expression_code frame h (input at) = instruction (Addi a7 x0 (pos input_call)) ∷ instruction Ecall ∷ []
  expression_code frame h (output at e) =
      expression_code frame h e ++ instruction (Addi a7 x0 (pos output_call)) ∷ instruction Ecall ∷ []

  -- The code of arguments: each value is held in a slot of its own, from h on.
  pub arguments_code : Frame → ℕ → TypedExpressions → List CodePart
  arguments_code frame h nil = []
  arguments_code frame h (cons e es) = expression_code frame h e ++ hold frame h ∷ arguments_code frame (suc h) es
