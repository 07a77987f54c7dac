-- What the code of well-typed statements refers to is known in the unit.
use Rattle.std.proofs.Common.{◌≡◌, ℕ, zero, suc, ◌+◌, pos, List, [], ◌∷◌, ◌++◌, Option, Some, None, lit<}
use Rattle.pw_isa.specs.declared.instruction.Inst.TheVariants.{Beq, Ld, Sd, Slli, Add}
use Rattle.pw_isa.specs.Registers.{x0, sp, t0, t1, a0}
use Rattle.pw_tree.specs.declared.ty.Ref.{Ref}
use Rattle.pw_tree.specs.TypedExpressions.{TypedExpression}
use Rattle.pw_tree.specs.TypedStatements.{TypedStatement, TypedStatements, OptionalTypedStatement, evaluate, set_local, set_variable, set_element, block, if_else, while_loop, do_loop, for_loop, returns, breaks, continues, nil, cons, absent, present}
use Rattle.pw_tree.specs.Units.{TypedUnit}
use Rattle.pw_tree.specs.WellTypedExpressions.{Class, HasFittingParts, Throughout}
use Rattle.pw_tree.specs.WellTypedStatements.{StatementFits, IfPresent, Everywhere, EverywhereIn, EverywhereIf}
use Rattle.pw_code.specs.declared.frame.Frame.{Frame}
use Rattle.pw_code.specs.Items.{CodePart, instruction, address}
use Rattle.pw_code.specs.Frames.{local_slot, held_slot}
use Rattle.pw_code.specs.Pieces.{bytes_of_words, skip, jump, unless_zero, check_index, hold}
use Rattle.pw_code.specs.ExpressionCode.{expression_words, expression_code}
use Rattle.pw_code.specs.StatementCode.{Targets, targets_in_loop, condition_words, value_words, statement_words, optional_words, else_jump, set_local_code, value_code, condition_code, statement_code, statements_code, optional_code, else_code}
use Rattle.pw_gen.proofs.References.{IsKnownIn, known_variable}
use Rattle.pw_gen.proofs.SoundPieces.{IsSoundPart, AreSound, both, sound_jump, sound_check_index}
use Rattle.pw_gen.proofs.SoundExpressions.{sound_expression}

module _ (unit : TypedUnit) where
  -- ---- rows over any code of the parts

  sound_set_element : (frame : Frame) (x : Ref) (array_size line : ℕ) (i e : List CodePart) → IsKnownIn unit x → AreSound unit i → AreSound unit e →
      AreSound unit (i ++ check_index array_size line ++ hold frame 0 ∷ e ++ instruction (Ld t1 sp (held_slot frame 0)) ∷ instruction (Slli t1 t1 3)
      ∷ address t0 x ∷ instruction (Add t0 t0 t1) ∷ instruction (Sd t0 a0 (pos 0)) ∷ [])
  sound_set_element frame x array_size line i e known hi he =
      both unit (i ++ check_index array_size line ++ hold frame 0 ∷ e)
      (instruction (Ld t1 sp (held_slot frame 0)) ∷ instruction (Slli t1 t1 3) ∷ address t0 x ∷ instruction (Add t0 t0 t1)
      ∷ instruction (Sd t0 a0 (pos 0)) ∷ [])
      (both unit (i ++ check_index array_size line) (hold frame 0 ∷ e)
      (both unit i (check_index array_size line) hi (sound_check_index unit array_size line)) (tt, he))
      (tt, (tt, ((lit< tt, known), (tt, (tt, tt)))))

  sound_if : (c a b : List CodePart) (n : ℕ) → AreSound unit c → AreSound unit a → AreSound unit b → AreSound unit (c ++ unless_zero n ++ a ++ b)
  sound_if c a b n hc ha hb =
      both unit (c ++ unless_zero n ++ a) b (both unit (c ++ unless_zero n) a (both unit c (unless_zero n) hc (tt, (tt, tt))) ha) hb

  sound_while : (c body : List CodePart) (n from to : ℕ) → AreSound unit c → AreSound unit body →
      AreSound unit (c ++ unless_zero n ++ body ++ jump from to ∷ [])
  sound_while c body n from to hc hb = sound_if c body (jump from to ∷ []) n hc hb (sound_jump unit from to, tt)

  sound_do : (body c : List CodePart) (from to : ℕ) → AreSound unit body → AreSound unit c →
      AreSound unit (body ++ c ++ instruction (Beq a0 x0 (pos (bytes_of_words 2))) ∷ jump from to ∷ [])
  sound_do body c from to hb hc =
      both unit (body ++ c) (instruction (Beq a0 x0 (pos (bytes_of_words 2))) ∷ jump from to ∷ []) (both unit body c hb hc)
      (tt, (sound_jump unit from to, tt))

  sound_for : (first c body last : List CodePart) (from to : ℕ) → AreSound unit first → AreSound unit c → AreSound unit body → AreSound unit last →
      AreSound unit (first ++ c ++ body ++ last ++ jump from to ∷ [])
  sound_for first c body last from to hf hc hb hl =
      both unit (first ++ c ++ body ++ last) (jump from to ∷ [])
      (both unit (first ++ c ++ body) last (both unit (first ++ c) body (both unit first c hf hc) hb) hl) (sound_jump unit from to, tt)

  -- ---- statements

  module _ (result : Class) (classes : List Class) (frame : Frame) where
    abbrev Fits : TypedStatement → Type 0
    Fits s = StatementFits unit result classes s

    abbrev HasParts : TypedExpression → Type 0
    HasParts e = Throughout (HasFittingParts unit classes) e

    sound_condition : (c : Option TypedExpression) (n : ℕ) → IfPresent HasParts c → AreSound unit (condition_code frame c n)
    sound_condition None n h = tt
    sound_condition (Some c) n h =
        both unit (expression_code frame 0 c) (unless_zero n) (sound_expression unit classes frame 0 c h) (tt, (tt, tt))

    sound_value : (e : Option TypedExpression) → IfPresent HasParts e → AreSound unit (value_code frame e)
    sound_value None h = tt
    sound_value (Some e) h = sound_expression unit classes frame 0 e h

    sound_set_local : (i : ℕ) (e : Option TypedExpression) → IfPresent HasParts e → AreSound unit (set_local_code frame i e)
    sound_set_local i None h = (tt, tt)
    sound_set_local i (Some e) h =
        both unit (expression_code frame 0 e) (instruction (Sd sp a0 (local_slot i)) ∷ []) (sound_expression unit classes frame 0 e h) (tt, tt)

    mutual
      unfolding statement_code statements_code optional_code else_code Everywhere EverywhereIn EverywhereIf

      pub sound_statement : (targets : Targets) (at : ℕ) (s : TypedStatement) → Everywhere Fits s → AreSound unit (statement_code frame targets at s)
      sound_statement targets at (evaluate e) h = sound_expression unit classes frame 0 e h.parts
      sound_statement targets at (set_local i e) h = sound_set_local i e h.parts
      sound_statement targets at (set_variable x e) h =
          both unit (expression_code frame 0 e) (address t0 x ∷ instruction (Sd t0 a0 (pos 0)) ∷ []) (sound_expression unit classes frame 0 e h.parts)
          ((lit< tt, known_variable unit x _ _ h.classes_fit), (tt, tt))
      sound_statement targets at (set_element a array_size line i e) h =
          sound_set_element frame a array_size line (expression_code frame 0 i) (expression_code frame 1 e)
          (known_variable unit a _ _ h.classes_fit.0) (sound_expression unit classes frame 0 i h.parts.0) (sound_expression unit classes frame 1 e h.parts.1)
      sound_statement targets at (block body) h = sound_statements targets at body h.1
      sound_statement targets at (if_else c a b) h =
          sound_if (expression_code frame 0 c) (statement_code frame targets (at + (expression_words c + 2)) a)
          (else_code frame targets (at + (expression_words c + 2) + statement_words a) b) (statement_words a + else_jump b)
          (sound_expression unit classes frame 0 c h.0.parts) (sound_statement targets (at + (expression_words c + 2)) a h.1)
          (sound_else targets (at + (expression_words c + 2) + statement_words a) b h.2)
      sound_statement targets at (while_loop c body) h =
          let body_at : ℕ = at + (expression_words c + 2) in
          let next : ℕ = body_at + statement_words body in
          sound_while (expression_code frame 0 c) (statement_code frame (targets_in_loop (next + 1) next targets) body_at body) (statement_words body + 1)
          next at (sound_expression unit classes frame 0 c h.0.parts) (sound_statement (targets_in_loop (next + 1) next targets) body_at body h.1)
      sound_statement targets at (do_loop body c) h =
          let next : ℕ = at + statement_words body in
          let jump_at : ℕ = next + (expression_words c + 1) in
          sound_do (statement_code frame (targets_in_loop (jump_at + 1) next targets) at body) (expression_code frame 0 c) jump_at at
          (sound_statement (targets_in_loop (jump_at + 1) next targets) at body h.1) (sound_expression unit classes frame 0 c h.0.parts)
      sound_statement targets at (for_loop first c last body) h =
          let top : ℕ = at + optional_words first in
          let body_at : ℕ = top + condition_words c in
          let next : ℕ = body_at + statement_words body in
          let jump_at : ℕ = next + optional_words last in
          sound_for (optional_code frame targets at first) (condition_code frame c (statement_words body + (optional_words last + 1)))
          (statement_code frame (targets_in_loop (jump_at + 1) next targets) body_at body) (optional_code frame targets next last) jump_at top
          (sound_optional targets at first h.1) (sound_condition c (statement_words body + (optional_words last + 1)) h.0.parts)
          (sound_statement (targets_in_loop (jump_at + 1) next targets) body_at body h.3) (sound_optional targets next last h.2)
      sound_statement targets at (returns e) h =
          both unit (value_code frame e) (jump (at + value_words e) targets.return_to ∷ []) (sound_value e h.parts)
          (sound_jump unit (at + value_words e) targets.return_to, tt)
      sound_statement targets at breaks h = (sound_jump unit at targets.break_to, tt)
      sound_statement targets at continues h = (sound_jump unit at targets.continue_to, tt)

      pub sound_statements : (targets : Targets) (at : ℕ) (ss : TypedStatements) → EverywhereIn Fits ss → AreSound unit (statements_code frame targets at ss)
      sound_statements targets at nil h = tt
      sound_statements targets at (cons s ss) h =
          both unit (statement_code frame targets at s) (statements_code frame targets (at + statement_words s) ss) (sound_statement targets at s h.0)
          (sound_statements targets (at + statement_words s) ss h.1)

      pub sound_optional : (targets : Targets) (at : ℕ) (s : OptionalTypedStatement) → EverywhereIf Fits s → AreSound unit (optional_code frame targets at s)
      sound_optional targets at absent h = tt
      sound_optional targets at (present s) h = sound_statement targets at s h

      pub sound_else : (targets : Targets) (at : ℕ) (s : OptionalTypedStatement) → EverywhereIf Fits s → AreSound unit (else_code frame targets at s)
      sound_else targets at absent h = tt
      sound_else targets at (present s) h = (tt, sound_statement targets (at + 1) s h)
