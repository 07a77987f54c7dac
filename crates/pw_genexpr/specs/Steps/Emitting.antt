-- What the code of an expression rests on while it is appended, and the code of forms by their operands.
use Rattle.std.specs.Prelude.{◌≡◌, ℕ, suc, ◌+◌, ◌<◌, ◌≤◌, ⊤, pos, Bool, true, List, [], ◌∷◌, ◌++◌, Option, Some, None}
use Rattle.pw_base.specs.Limits.{function_tokens, parameters}
use Rattle.pw_isa.specs.declared.instruction.Inst.TheVariants.{Ld, Addi, Slli, Add, Jalr, Bne}
use Rattle.pw_isa.specs.Registers.{x0, ra, sp, t0, a0}
use Rattle.pw_isa.specs.EnvironmentCalls.{null_call_fault}
use Rattle.pw_tree.specs.declared.operator.Bin.{Bin}
use Rattle.pw_tree.specs.declared.operator.Bin.TheVariants.{AndAnd, OrOr}
use Rattle.pw_tree.specs.declared.ty.Ref.{Ref}
use Rattle.pw_tree.specs.TypedExpressions.{TypedExpression, TypedExpressions, local}
use Rattle.pw_tree.specs.Held.{held, held_arguments, holds_left, count}
use Rattle.pw_tree.specs.WellTypedExpressions.{Throughout, ThroughoutAll, expressions_in_all}
use Rattle.pw_code.specs.declared.frame.Frame.{Frame}
use Rattle.pw_code.specs.Items.{CodePart, instruction, address}
use Rattle.pw_code.specs.Frames.{held_slot}
use Rattle.pw_code.specs.Pieces.{skip, unless_zero, unless_nonzero, past, fault, check_index, truth_code, hold, load_held}
use Rattle.pw_code.specs.ExpressionCode.{expression_words, expression_code, operator_code, right_slot}
use Rattle.pw_code.specs.Bounds.{HasSmallOperands, HasShortCode}
use Rattle.pw_genexpr.specs.declared.operators.Logical.{Logical}
use Rattle.pw_genexpr.specs.declared.operators.Logical.TheVariants.{And, Or}
use Rattle.pw_genexpr.specs.Conditions.{IsWithinLimits}

-- ---- conditions

-- A local that is read has a slot in the frame.
abbrev pub HasSlot : Frame → TypedExpression → Type 0
HasSlot frame (local at i) = i < frame.locals
HasSlot frame e = ⊤

-- An expression's code can be appended: it is short, and what it reads and holds has slots.
pub record CanEmit (frame : Frame) (h : ℕ) (e : TypedExpression) : Type 0 where
  pub within_limits : IsWithinLimits frame
  pub short : HasShortCode e
  pub locals : Throughout (HasSlot frame) e
  pub values : h + held e ≤ frame.held

-- The code of arguments is short.
pub record HaveShortCode (es : TypedExpressions) : Type 0 where
  pub operands : ThroughoutAll HasSmallOperands es
  pub few : expressions_in_all es ≤ function_tokens
  pub arguments : count es ≤ parameters

-- The code of arguments can be appended; each of them is held.
pub record CanEmitAll (frame : Frame) (h : ℕ) (es : TypedExpressions) : Type 0 where
  pub within_limits : IsWithinLimits frame
  pub short : HaveShortCode es
  pub locals : ThroughoutAll (HasSlot frame) es
  pub values : held_arguments h es ≤ frame.held

-- ---- operators

-- An operator is `&&` or `||`, or holds its left operand.
abbrev pub IsLogical : Bin → Option Logical → Type 0
IsLogical op None = holds_left op ≡ true
IsLogical op (Some And) = op ≡ AndAnd
IsLogical op (Some Or) = op ≡ OrOr

-- ---- code

-- of a binary operator
abbrev pub binary_expression_code : Frame → (h line : ℕ) → Bin → Bool → (l r : TypedExpression) → List CodePart
binary_expression_code frame h line op unsigned l r =
    operator_code frame h line op unsigned (expression_code frame h l) (expression_code frame (right_slot op h) r) (expression_words r)

-- of the operands of an operator that holds the left one, which ends in t0
abbrev pub operands_code : Frame → ℕ → (l r : TypedExpression) → List CodePart
operands_code frame h l r =
    expression_code frame h l ++ hold frame h ∷ expression_code frame (suc h) r ++ instruction (Ld t0 sp (held_slot frame h)) ∷ []

-- of `&&`
abbrev pub and_code : Frame → ℕ → (l r : TypedExpression) → List CodePart
and_code frame h l r =
    expression_code frame h l ++ unless_zero (expression_words r + 1) ++ expression_code frame h r ++ truth_code ∷ []

-- of `||`
abbrev pub or_code : Frame → ℕ → (l r : TypedExpression) → List CodePart
or_code frame h l r =
    expression_code frame h l ++ truth_code ∷ unless_nonzero (expression_words r + 1) ++ expression_code frame h r ++ truth_code ∷ []

-- of `c ? a : b`
abbrev pub conditional_code : Frame → ℕ → (c a b : TypedExpression) → List CodePart
conditional_code frame h c a b =
    expression_code frame h c ++ unless_zero (expression_words a + 1) ++ expression_code frame h a
    ++ skip (expression_words b) ∷ expression_code frame h b

-- of an element, once its index is in a0
abbrev pub element_code : Ref → (array_size line : ℕ) → List CodePart
element_code a array_size line =
    check_index array_size line ++ instruction (Slli a0 a0 3) ∷ address t0 a ∷ instruction (Add t0 t0 a0)
    ∷ instruction (Ld a0 t0 (pos 0)) ∷ []

-- of a call by name, once its n arguments are held
abbrev pub call_code : Frame → (h n : ℕ) → Ref → List CodePart
call_code frame h n f = load_held frame h a0 n ++ address t0 f ∷ instruction (Jalr ra t0 (pos 0)) ∷ []

-- of a call through a pointer, once its n arguments are held and the pointer is in a0
abbrev pub call_pointer_code : Frame → (h n line : ℕ) → List CodePart
call_pointer_code frame h n line =
    instruction (Addi t0 a0 (pos 0)) ∷ past (Bne t0 x0) (fault null_call_fault line) ++ load_held frame h a0 n
    ++ instruction (Jalr ra t0 (pos 0)) ∷ []
