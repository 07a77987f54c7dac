-- What the code of a well-typed expression refers to is known in the unit.
use Rattle.std.proofs.Common.{◌≡◌, ℕ, zero, suc, ◌+◌, pos, Bool, List, [], ◌∷◌, ◌++◌, lit<}
use Rattle.pw_isa.specs.declared.instruction.Inst.TheVariants.{Jalr, Bne, Ld, Addi, Slli, Add, Ecall}
use Rattle.pw_isa.specs.Registers.{x0, ra, sp, t0, a0, a7}
use Rattle.pw_isa.specs.EnvironmentCalls.{input_call, output_call, null_call_fault}
use Rattle.pw_tree.specs.declared.ty.Ref.{Ref}
use Rattle.pw_tree.specs.declared.operator.Bin.{Bin}
use Rattle.pw_tree.specs.declared.operator.Bin.TheVariants as operators
use Rattle.pw_tree.specs.Held.{count}
use Rattle.pw_tree.specs.TypedExpressions.{TypedExpression, TypedExpressions, constant, local, variable, designator, element, unary, binary, conditional, call, call_pointer, input, output, nil, cons}
use Rattle.pw_tree.specs.Units.{TypedUnit}
use Rattle.pw_tree.specs.WellTypedExpressions.{Class, class_of, HasFittingParts, Throughout, ThroughoutAll}
use Rattle.pw_code.specs.declared.frame.Frame.{Frame}
use Rattle.pw_code.specs.Items.{CodePart, instruction, address}
use Rattle.pw_code.specs.Frames.{local_slot, held_slot}
use Rattle.pw_code.specs.Pieces.{skip, unless_zero, unless_nonzero, past, fault, check_index, unary_code, binary_code, truth_code, hold, load_held}
use Rattle.pw_code.specs.ExpressionCode.{expression_words, right_slot, operator_code, expression_code, arguments_code}
use Rattle.pw_gen.proofs.References.{IsKnownIn, IsFunctionIn, function_in, known_function, known_variable}
use Rattle.pw_gen.proofs.SoundPieces.{IsSoundPart, AreSound, both, sound_number, sound_fault, sound_check_index, sound_unary, sound_binary, sound_held}

module _ (unit : TypedUnit) where
  -- ---- rows over any code of the parts

  sound_and : (left right : List CodePart) (n : ℕ) → AreSound unit left → AreSound unit right →
      AreSound unit (left ++ unless_zero n ++ right ++ truth_code ∷ [])
  sound_and left right n l r =
      both unit (left ++ unless_zero n ++ right) (truth_code ∷ [])
      (both unit (left ++ unless_zero n) right (both unit left (unless_zero n) l (tt, (tt, tt))) r) (tt, tt)

  sound_or : (left right : List CodePart) (n : ℕ) → AreSound unit left → AreSound unit right →
      AreSound unit (left ++ truth_code ∷ unless_nonzero n ++ right ++ truth_code ∷ [])
  sound_or left right n l r =
      both unit (left ++ truth_code ∷ unless_nonzero n ++ right) (truth_code ∷ [])
      (both unit (left ++ truth_code ∷ unless_nonzero n) right (both unit left (truth_code ∷ unless_nonzero n) l (tt, (tt, (tt, tt)))) r) (tt, tt)

  sound_operation : (frame : Frame) (h line : ℕ) (op : Bin) (unsigned : Bool) (left right : List CodePart) → AreSound unit left → AreSound unit right →
      AreSound unit (left ++ hold frame h ∷ right ++ instruction (Ld t0 sp (held_slot frame h)) ∷ binary_code line op unsigned)
  sound_operation frame h line op unsigned left right l r =
      both unit (left ++ hold frame h ∷ right) (instruction (Ld t0 sp (held_slot frame h)) ∷ binary_code line op unsigned)
      (both unit left (hold frame h ∷ right) l (tt, r)) (tt, sound_binary unit line op unsigned)

  sound_operator : (frame : Frame) (h line : ℕ) (op : Bin) (unsigned : Bool) (left right : List CodePart) (n : ℕ) → AreSound unit left →
      AreSound unit right → AreSound unit (operator_code frame h line op unsigned left right n)
  sound_operator frame h line operators.AndAnd unsigned left right n l r = sound_and left right (n + 1) l r
  sound_operator frame h line operators.OrOr unsigned left right n l r = sound_or left right (n + 1) l r
  sound_operator frame h line op unsigned left right n l r = sound_operation frame h line op unsigned left right l r

  sound_choice : (c a b : List CodePart) (m n : ℕ) → AreSound unit c → AreSound unit a → AreSound unit b →
      AreSound unit (c ++ unless_zero m ++ a ++ skip n ∷ b)
  sound_choice c a b m n hc ha hb =
      both unit (c ++ unless_zero m ++ a) (skip n ∷ b)
      (both unit (c ++ unless_zero m) a (both unit c (unless_zero m) hc (tt, (tt, tt))) ha) (tt, hb)

  sound_element : (x : Ref) (array_size line : ℕ) (i : List CodePart) → IsKnownIn unit x → AreSound unit i →
      AreSound unit (i ++ check_index array_size line ++ instruction (Slli a0 a0 3) ∷ address t0 x ∷ instruction (Add t0 t0 a0)
      ∷ instruction (Ld a0 t0 (pos 0)) ∷ [])
  sound_element x array_size line i known h =
      both unit (i ++ check_index array_size line)
      (instruction (Slli a0 a0 3) ∷ address t0 x ∷ instruction (Add t0 t0 a0) ∷ instruction (Ld a0 t0 (pos 0)) ∷ [])
      (both unit i (check_index array_size line) h (sound_check_index unit array_size line))
      (tt, ((lit< tt, known), (tt, (tt, tt))))

  sound_call : (frame : Frame) (h n : ℕ) (f : Ref) (es : List CodePart) → IsKnownIn unit f → AreSound unit es →
      AreSound unit (es ++ load_held frame h a0 n ++ address t0 f ∷ instruction (Jalr ra t0 (pos 0)) ∷ [])
  sound_call frame h n f es known hs =
      both unit (es ++ load_held frame h a0 n) (address t0 f ∷ instruction (Jalr ra t0 (pos 0)) ∷ [])
      (both unit es (load_held frame h a0 n) hs (sound_held unit frame h a0 n)) ((lit< tt, known), (tt, tt))

  sound_call_pointer : (frame : Frame) (h n line : ℕ) (e es : List CodePart) → AreSound unit e → AreSound unit es →
      AreSound unit (es ++ e ++ instruction (Addi t0 a0 (pos 0)) ∷ past (Bne t0 x0) (fault null_call_fault line) ++ load_held frame h a0 n
      ++ instruction (Jalr ra t0 (pos 0)) ∷ [])
  sound_call_pointer frame h n line e es he hs =
      both unit (es ++ e ++ instruction (Addi t0 a0 (pos 0)) ∷ past (Bne t0 x0) (fault null_call_fault line) ++ load_held frame h a0 n)
      (instruction (Jalr ra t0 (pos 0)) ∷ [])
      (both unit (es ++ e ++ instruction (Addi t0 a0 (pos 0)) ∷ past (Bne t0 x0) (fault null_call_fault line)) (load_held frame h a0 n)
      (both unit (es ++ e) (instruction (Addi t0 a0 (pos 0)) ∷ past (Bne t0 x0) (fault null_call_fault line)) (both unit es e hs he)
      (tt, (tt, sound_fault unit null_call_fault line))) (sound_held unit frame h a0 n))
      (tt, tt)

  -- ---- expressions

  mutual
    unfolding expression_code arguments_code Throughout ThroughoutAll

    pub sound_expression : (classes : List Class) (frame : Frame) (h : ℕ) (e : TypedExpression) →
        Throughout (HasFittingParts unit classes) e → AreSound unit (expression_code frame h e)
    sound_expression classes frame h (constant at value) t = sound_number unit a0 value
    sound_expression classes frame h (local at i) t = (tt, tt)
    sound_expression classes frame h (variable at x) t = ((lit< tt, known_variable unit x _ _ t), (tt, tt))
    sound_expression classes frame h (designator at f) t = ((lit< tt, known_function unit f (function_in unit f t.sig t.function)), tt)
    sound_expression classes frame h (element at a array_size i) t =
        sound_element a array_size at.line (expression_code frame h i) (known_variable unit a _ _ t.0.0) (sound_expression classes frame h i t.1)
    sound_expression classes frame h (unary at op e) t =
        both unit (expression_code frame h e) (unary_code op) (sound_expression classes frame h e t.1) (sound_unary unit op)
    sound_expression classes frame h (binary at op unsigned l r) t =
        sound_operator frame h at.line op unsigned (expression_code frame h l) (expression_code frame (right_slot op h) r) (expression_words r)
        (sound_expression classes frame h l t.1) (sound_expression classes frame (right_slot op h) r t.2)
    sound_expression classes frame h (conditional at c a b) t =
        sound_choice (expression_code frame h c) (expression_code frame h a) (expression_code frame h b) (expression_words a + 1) (expression_words b)
        (sound_expression classes frame h c t.1) (sound_expression classes frame h a t.2) (sound_expression classes frame h b t.3)
    sound_expression classes frame h (call at f es) t =
        sound_call frame h (count es) f (arguments_code frame h es) (known_function unit f (function_in unit f t.0.sig t.0.function))
        (sound_arguments classes frame h es t.1)
    sound_expression classes frame h (call_pointer at e es) t =
        sound_call_pointer frame h (count es) at.line (expression_code frame (h + count es) e) (arguments_code frame h es)
        (sound_expression classes frame (h + count es) e t.1) (sound_arguments classes frame h es t.2)
    sound_expression classes frame h (input at) t = (tt, (tt, tt))
    sound_expression classes frame h (output at e) t =
        both unit (expression_code frame h e) (instruction (Addi a7 x0 (pos output_call)) ∷ instruction Ecall ∷ [])
        (sound_expression classes frame h e t.1) (tt, (tt, tt))

    pub sound_arguments : (classes : List Class) (frame : Frame) (h : ℕ) (es : TypedExpressions) →
        ThroughoutAll (HasFittingParts unit classes) es → AreSound unit (arguments_code frame h es)
    sound_arguments classes frame h nil t = tt
    sound_arguments classes frame h (cons e es) t =
        both unit (expression_code frame h e) (hold frame h ∷ arguments_code frame (suc h) es) (sound_expression classes frame h e t.0)
        (tt, sound_arguments classes frame (suc h) es t.1)
