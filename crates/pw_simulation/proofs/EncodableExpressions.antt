-- The code of a well-typed expression has words.
use Rattle.std.proofs.Common.{◌≡◌, ℕ, suc, ◌+◌, ◌^◌, ◌<◌, ◌≤◌, Bool, true, false, cond, List, ◌∷◌, ◌++◌, length, refl, arith, lit<}
use Rattle.std.specs.Prelude.{pos}
use Rattle.pw_isa.specs.declared.instruction.Inst.TheVariants.{Bne, Ld, Addi}
use Rattle.pw_isa.specs.Registers.{x0, sp, a0, t0}
use Rattle.pw_isa.specs.EnvironmentCalls.{null_call_fault}
use Rattle.pw_tree.specs.declared.operator.Bin.{Bin}
use Rattle.pw_tree.specs.declared.operator.Bin.TheVariants.{Mul, Div, Rem, Add, Sub, Shl, Shr, Lt, Gt, Le, Ge, Eq, Ne, And, Xor, Or, AndAnd, OrOr}
use Rattle.pw_tree.specs.TypedExpressions.{TypedExpression, TypedExpressions, constant, local, variable, designator, element, unary, binary, conditional, call, call_pointer, input, output, nil, cons}
use Rattle.pw_tree.specs.Units.{TypedUnit}
use Rattle.pw_tree.specs.Held.{held, held_arguments, held_both, holds_left, count}
use Rattle.pw_tree.specs.WellTypedExpressions.{Class, class_of, HasFittingParts, Throughout, ThroughoutAll}
use Rattle.pw_code.specs.declared.frame.Frame.{Frame}
use Rattle.pw_code.specs.Items.{CodePart, instruction}
use Rattle.pw_code.specs.Frames.{held_slot}
use Rattle.pw_code.specs.Pieces.{fault, check_index, past, hold, truth_code, load_held, binary_code, unary_code, unless_zero, unless_nonzero}
use Rattle.pw_code.specs.ExpressionCode.{operator_code, operator_words, right_slot, expression_words, expression_code, arguments_words, arguments_code}
use Rattle.pw_code.specs.Bounds.{HasSmallOperands}
use Rattle.pw_simulation.specs.Encodable.{CodeHasWords}
use Rattle.pw_simulation.proofs.Joined.{got_below}
use Rattle.pw_simulation.proofs.EncodablePieces.{words_both, words_of_number, words_of_skip, words_of_unless_zero, words_of_unless_nonzero, words_of_check, words_of_check_index, words_of_unary, words_of_binary, words_of_hold, words_of_load_held}

-- ---- operators

-- of an operator that holds its left operand
held_operator : (frame : Frame) (h line : ℕ) (op : Bin) (unsigned : Bool) (left right : List CodePart) → frame.locals + h < 256 → line < 2 ^ 32 → CodeHasWords left → CodeHasWords right
    → CodeHasWords (left ++ hold frame h ∷ right ++ instruction (Ld t0 sp (held_slot frame h)) ∷ binary_code line op unsigned)
held_operator frame h line op unsigned left right few small l r =
    words_both (left ++ hold frame h ∷ right) _ (words_both left (hold frame h ∷ right) l (words_of_hold frame h few, r)) ((lit< tt, lit< tt, omega arith), words_of_binary line op unsigned small)

words_of_operator : (frame : Frame) (h line : ℕ) (op : Bin) (unsigned : Bool) (left right : List CodePart) (right_words : ℕ) → (holds_left op ≡ true → frame.locals + h < 256) → line < 2 ^ 32
    → right_words + 2 < 2 ^ 18 → CodeHasWords left → CodeHasWords right → CodeHasWords (operator_code frame h line op unsigned left right right_words)
words_of_operator frame h line AndAnd unsigned left right n few small short l r =
    words_both (left ++ unless_zero (n + 1) ++ right) _ (words_both (left ++ unless_zero (n + 1)) right (words_both left _ l (words_of_unless_zero (n + 1) (omega arith))) r) ((lit< tt, lit< tt, lit< tt), tt)
words_of_operator frame h line OrOr unsigned left right n few small short l r =
    words_both (left ++ truth_code ∷ unless_nonzero (n + 1) ++ right) _
    (words_both (left ++ truth_code ∷ unless_nonzero (n + 1)) right (words_both left (truth_code ∷ unless_nonzero (n + 1)) l ((lit< tt, lit< tt, lit< tt), words_of_unless_nonzero (n + 1) (omega arith))) r)
    ((lit< tt, lit< tt, lit< tt), tt)
words_of_operator frame h line Mul unsigned left right n few small short l r = held_operator frame h line Mul unsigned left right (few refl) small l r
words_of_operator frame h line Div unsigned left right n few small short l r = held_operator frame h line Div unsigned left right (few refl) small l r
words_of_operator frame h line Rem unsigned left right n few small short l r = held_operator frame h line Rem unsigned left right (few refl) small l r
words_of_operator frame h line Add unsigned left right n few small short l r = held_operator frame h line Add unsigned left right (few refl) small l r
words_of_operator frame h line Sub unsigned left right n few small short l r = held_operator frame h line Sub unsigned left right (few refl) small l r
words_of_operator frame h line Shl unsigned left right n few small short l r = held_operator frame h line Shl unsigned left right (few refl) small l r
words_of_operator frame h line Shr unsigned left right n few small short l r = held_operator frame h line Shr unsigned left right (few refl) small l r
words_of_operator frame h line Lt unsigned left right n few small short l r = held_operator frame h line Lt unsigned left right (few refl) small l r
words_of_operator frame h line Gt unsigned left right n few small short l r = held_operator frame h line Gt unsigned left right (few refl) small l r
words_of_operator frame h line Le unsigned left right n few small short l r = held_operator frame h line Le unsigned left right (few refl) small l r
words_of_operator frame h line Ge unsigned left right n few small short l r = held_operator frame h line Ge unsigned left right (few refl) small l r
words_of_operator frame h line Eq unsigned left right n few small short l r = held_operator frame h line Eq unsigned left right (few refl) small l r
words_of_operator frame h line Ne unsigned left right n few small short l r = held_operator frame h line Ne unsigned left right (few refl) small l r
words_of_operator frame h line And unsigned left right n few small short l r = held_operator frame h line And unsigned left right (few refl) small l r
words_of_operator frame h line Xor unsigned left right n few small short l r = held_operator frame h line Xor unsigned left right (few refl) small l r
words_of_operator frame h line Or unsigned left right n few small short l r = held_operator frame h line Or unsigned left right (few refl) small l r

-- what an operator holds of its operands' needs
pub record Holds (h most : ℕ) (t : Bool) (l r : ℕ) : Type 0 where
  pub left : h + l ≤ most
  pub right : cond t (suc h) h + r ≤ most
  pub slot : t ≡ true → suc h ≤ most

holds_parts : (h most : ℕ) (t : Bool) (l r : ℕ) → h + held_both t l r ≤ most → Holds h most t l r
holds_parts h most true l r few = record { left = omega arith; right = omega arith; slot = λ e. omega arith }
holds_parts h most false l r few = record { left = omega arith; right = omega arith; slot = λ e. absurd (cc) }

operator_sizes : (line : ℕ) (op : Bin) (l r : ℕ) → l + r ≤ operator_words line op l r
operator_sizes line AndAnd l r = omega arith
operator_sizes line OrOr l r = omega arith
operator_sizes line Mul l r = omega arith
operator_sizes line Div l r = omega arith
operator_sizes line Rem l r = omega arith
operator_sizes line Add l r = omega arith
operator_sizes line Sub l r = omega arith
operator_sizes line Shl l r = omega arith
operator_sizes line Shr l r = omega arith
operator_sizes line Lt l r = omega arith
operator_sizes line Gt l r = omega arith
operator_sizes line Le l r = omega arith
operator_sizes line Ge l r = omega arith
operator_sizes line Eq l r = omega arith
operator_sizes line Ne l r = omega arith
operator_sizes line And l r = omega arith
operator_sizes line Xor l r = omega arith
operator_sizes line Or l r = omega arith

-- ---- arguments

counted_at_most : (n : ℕ) (es : TypedExpressions) → n + count es ≤ held_arguments n es
unfolding count held_arguments
counted_at_most n nil = omega arith
counted_at_most n (cons e es) = let r = counted_at_most (suc n) es in omega arith

-- ---- expressions

-- a frame is small, and so are the numbers of locals
pub record IsSmallFrame (frame : Frame) (classes : List Class) : Type 0 where
  pub slots : frame.locals + frame.held < 256
  pub locals : length classes < 256

module _ (unit : TypedUnit) (classes : List Class) (frame : Frame) (fits : IsSmallFrame frame classes) where
  mutual
    unfolding Throughout ThroughoutAll held held_arguments count expression_code arguments_code expression_words arguments_words

    pub words_of_expression : (h : ℕ) (e : TypedExpression) → Throughout (HasFittingParts unit classes) e → Throughout HasSmallOperands e → h + held e ≤ frame.held
        → expression_words e + 8 < 2 ^ 18 → CodeHasWords (expression_code frame h e)
    words_of_expression h (constant at value) p o few short = words_of_number a0 value (lit< tt) o
    words_of_expression h (local at i) p o few short =
        let below = got_below classes i (class_of at.ty) p in
        let small = fits.locals in ((lit< tt, lit< tt, omega arith), tt)
    words_of_expression h (variable at x) p o few short = (lit< tt, ((lit< tt, lit< tt, lit< tt), tt))
    words_of_expression h (designator at f) p o few short = (lit< tt, tt)
    words_of_expression h (element at a array_size i) p o few short =
        let size_is = o.0.0 in
        words_both (expression_code frame h i ++ check_index array_size at.line) _
        (words_both (expression_code frame h i) (check_index array_size at.line) (words_of_expression h i p.1 o.1 few (omega arith)) (words_of_check_index array_size at.line (omega arith) o.0.1))
        ((lit< tt, lit< tt, lit< tt), (lit< tt, ((lit< tt, lit< tt, lit< tt), ((lit< tt, lit< tt, lit< tt), tt))))
    words_of_expression h (unary at op e) p o few short = words_both (expression_code frame h e) (unary_code op) (words_of_expression h e p.1 o.1 few (omega arith)) (words_of_unary op)
    words_of_expression h (binary at op unsigned l r) p o few short =
        let slots = fits.slots in
        let parts = holds_parts h frame.held (holds_left op) (held l) (held r) few in
        let sizes = operator_sizes at.line op (expression_words l) (expression_words r) in
        words_of_operator frame h at.line op unsigned (expression_code frame h l) (expression_code frame (right_slot op h) r) (expression_words r)
        (λ holds. let slot = parts.slot holds in omega arith) o.0 (omega arith) (words_of_expression h l p.1 o.1 parts.left (omega arith)) (words_of_expression (right_slot op h) r p.2 o.2 parts.right (omega arith))
    words_of_expression h (conditional at c a b) p o few short =
        words_both (expression_code frame h c ++ unless_zero (expression_words a + 1) ++ expression_code frame h a) _
        (words_both (expression_code frame h c ++ unless_zero (expression_words a + 1)) (expression_code frame h a)
        (words_both (expression_code frame h c) (unless_zero (expression_words a + 1)) (words_of_expression h c p.1 o.1 (omega arith) (omega arith)) (words_of_unless_zero (expression_words a + 1) (omega arith)))
        (words_of_expression h a p.2 o.2 (omega arith) (omega arith)))
        (words_of_skip (expression_words b) (omega arith), words_of_expression h b p.3 o.3 (omega arith) (omega arith))
    words_of_expression h (call at f es) p o few short =
        let slots = fits.slots in
        let counted = counted_at_most 0 es in
        let few_arguments = o.0 in
        words_both (arguments_code frame h es ++ load_held frame h a0 (count es)) _
        (words_both (arguments_code frame h es) (load_held frame h a0 (count es)) (words_of_arguments h 0 h es p.1 o.1 (omega arith) few (omega arith)) (words_of_load_held frame h a0 (count es) (omega arith) (omega arith)))
        (lit< tt, ((lit< tt, lit< tt, lit< tt), tt))
    words_of_expression h (call_pointer at e es) p o few short =
        let slots = fits.slots in
        let counted = counted_at_most 0 es in
        let few_arguments = o.0.0 in
        let callee : List CodePart = arguments_code frame h es ++ expression_code frame (h + count es) e in
        let check : List CodePart = instruction (Addi t0 a0 (pos 0)) ∷ past (Bne t0 x0) (fault null_call_fault at.line) in
        words_both (callee ++ check ++ load_held frame h a0 (count es)) _
        (words_both (callee ++ check) (load_held frame h a0 (count es))
        (words_both callee check
        (words_both (arguments_code frame h es) (expression_code frame (h + count es) e) (words_of_arguments h 0 h es p.2 o.2 (omega arith) (omega arith) (omega arith)) (words_of_expression (h + count es) e p.1 o.1 (omega arith) (omega arith)))
        ((lit< tt, lit< tt, lit< tt), words_of_check t0 x0 null_call_fault at.line (lit< tt) (lit< tt) (lit< tt) o.0.1))
        (words_of_load_held frame h a0 (count es) (omega arith) (omega arith)))
        ((lit< tt, lit< tt, lit< tt), tt)
    words_of_expression h (input at) p o few short = ((lit< tt, lit< tt, lit< tt), (tt, tt))
    words_of_expression h (output at e) p o few short = words_both (expression_code frame h e) _ (words_of_expression h e p.1 o.1 few (omega arith)) ((lit< tt, lit< tt, lit< tt), (tt, tt))

    -- so many are held before these arguments, from a slot on
    words_of_arguments : (first n h : ℕ) (es : TypedExpressions) → ThroughoutAll (HasFittingParts unit classes) es → ThroughoutAll HasSmallOperands es → h ≡ first + n
        → first + held_arguments n es ≤ frame.held → arguments_words es + 8 < 2 ^ 18 → CodeHasWords (arguments_code frame h es)
    words_of_arguments first n h nil p o is few short = tt
    words_of_arguments first n h (cons e es) p o is few short =
        let slots = fits.slots in
        let counted = counted_at_most (suc n) es in
        words_both (expression_code frame h e) _ (words_of_expression h e p.0 o.0 (omega arith) (omega arith))
        (words_of_hold frame h (omega arith), words_of_arguments first (suc n) (suc h) es p.1 o.1 (omega arith) (omega arith) (omega arith))
