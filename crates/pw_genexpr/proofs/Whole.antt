-- The code of forms by their parts, as it is appended.
use Rattle.std.proofs.Common.{◌≡◌, ℕ, suc, ◌+◌, ◌++◌, Bool, true, List, [], ◌∷◌, length, refl, sym, ap, ◌∙◌, append_assoc}
use Rattle.pw_isa.specs.declared.instruction.Inst.TheVariants.{Ld}
use Rattle.pw_isa.specs.Registers.{sp, t0, a0}
use Rattle.pw_tree.specs.declared.operator.Bin.{Bin}
use Rattle.pw_tree.specs.declared.operator.Bin.TheVariants.{Mul, Div, Rem, Add, Sub, Shl, Shr, Lt, Gt, Le, Ge, Eq, Ne, And, Xor, Or, AndAnd, OrOr}
use Rattle.pw_tree.specs.declared.texpr.TExpr.{TExpr}
use Rattle.pw_tree.specs.declared.ty.Ref.{Ref}
use Rattle.pw_tree.specs.TypedExpressions.{Mark, TypedExpression, element, call, call_pointer, typed_expressions_of}
use Rattle.pw_tree.specs.Held.{holds_left, count}
use Rattle.pw_code.specs.declared.frame.Frame.{Frame}
use Rattle.pw_code.specs.Items.{CodePart, instruction}
use Rattle.pw_code.specs.Frames.{held_slot}
use Rattle.pw_code.specs.Pieces.{hold, binary_code, check_index, load_held}
use Rattle.pw_code.specs.ExpressionCode.{expression_words, expression_code, arguments_code, operator_code, right_slot}
use Rattle.pw_genexpr.specs.Steps.Emitting.{binary_expression_code, operands_code, element_code, call_code, call_pointer_code}
use Rattle.pw_genexpr.proofs.Arguments.{count_of}

pub element_whole : (frame : Frame) (h : ℕ) (at : Mark) (a : Ref) (n : ℕ) (i : TypedExpression) →
    expression_code frame h (element at a n i) ≡ expression_code frame h i ++ element_code a n at.line
unfolding expression_code
element_whole frame h at a n i = append_assoc (expression_code frame h i) (check_index n at.line) _

pub call_whole : (frame : Frame) (h : ℕ) (at : Mark) (f : Ref) (es : List TExpr) →
    expression_code frame h (call at f (typed_expressions_of es))
    ≡ arguments_code frame h (typed_expressions_of es) ++ call_code frame h (length es) f
unfolding expression_code
call_whole frame h at f es =
    append_assoc (arguments_code frame h (typed_expressions_of es)) (load_held frame h a0 (count (typed_expressions_of es))) _
    ∙ ap (λ n. arguments_code frame h (typed_expressions_of es) ++ call_code frame h n f) (count_of es)

pub call_pointer_whole : (frame : Frame) (h : ℕ) (at : Mark) (e : TypedExpression) (es : List TExpr) →
    expression_code frame h (call_pointer at e (typed_expressions_of es))
    ≡ arguments_code frame h (typed_expressions_of es)
    ++ (expression_code frame (h + length es) e ++ call_pointer_code frame h (length es) at.line)
unfolding expression_code
call_pointer_whole frame h at e es = rw (count_of es) (simp append_assoc)

held_operator : (frame : Frame) (h line : ℕ) (op : Bin) (unsigned : Bool) (l r : List CodePart) (words : ℕ) → holds_left op ≡ true →
    operator_code frame h line op unsigned l r words
    ≡ (l ++ hold frame h ∷ r ++ instruction (Ld t0 sp (held_slot frame h)) ∷ []) ++ binary_code line op unsigned
held_operator frame h line Mul unsigned l r words e = sym (append_assoc (l ++ hold frame h ∷ r) (instruction (Ld t0 sp (held_slot frame h)) ∷ []) (binary_code line Mul unsigned))
held_operator frame h line Div unsigned l r words e = sym (append_assoc (l ++ hold frame h ∷ r) (instruction (Ld t0 sp (held_slot frame h)) ∷ []) (binary_code line Div unsigned))
held_operator frame h line Rem unsigned l r words e = sym (append_assoc (l ++ hold frame h ∷ r) (instruction (Ld t0 sp (held_slot frame h)) ∷ []) (binary_code line Rem unsigned))
held_operator frame h line Add unsigned l r words e = sym (append_assoc (l ++ hold frame h ∷ r) (instruction (Ld t0 sp (held_slot frame h)) ∷ []) (binary_code line Add unsigned))
held_operator frame h line Sub unsigned l r words e = sym (append_assoc (l ++ hold frame h ∷ r) (instruction (Ld t0 sp (held_slot frame h)) ∷ []) (binary_code line Sub unsigned))
held_operator frame h line Shl unsigned l r words e = sym (append_assoc (l ++ hold frame h ∷ r) (instruction (Ld t0 sp (held_slot frame h)) ∷ []) (binary_code line Shl unsigned))
held_operator frame h line Shr unsigned l r words e = sym (append_assoc (l ++ hold frame h ∷ r) (instruction (Ld t0 sp (held_slot frame h)) ∷ []) (binary_code line Shr unsigned))
held_operator frame h line Lt unsigned l r words e = sym (append_assoc (l ++ hold frame h ∷ r) (instruction (Ld t0 sp (held_slot frame h)) ∷ []) (binary_code line Lt unsigned))
held_operator frame h line Gt unsigned l r words e = sym (append_assoc (l ++ hold frame h ∷ r) (instruction (Ld t0 sp (held_slot frame h)) ∷ []) (binary_code line Gt unsigned))
held_operator frame h line Le unsigned l r words e = sym (append_assoc (l ++ hold frame h ∷ r) (instruction (Ld t0 sp (held_slot frame h)) ∷ []) (binary_code line Le unsigned))
held_operator frame h line Ge unsigned l r words e = sym (append_assoc (l ++ hold frame h ∷ r) (instruction (Ld t0 sp (held_slot frame h)) ∷ []) (binary_code line Ge unsigned))
held_operator frame h line Eq unsigned l r words e = sym (append_assoc (l ++ hold frame h ∷ r) (instruction (Ld t0 sp (held_slot frame h)) ∷ []) (binary_code line Eq unsigned))
held_operator frame h line Ne unsigned l r words e = sym (append_assoc (l ++ hold frame h ∷ r) (instruction (Ld t0 sp (held_slot frame h)) ∷ []) (binary_code line Ne unsigned))
held_operator frame h line And unsigned l r words e = sym (append_assoc (l ++ hold frame h ∷ r) (instruction (Ld t0 sp (held_slot frame h)) ∷ []) (binary_code line And unsigned))
held_operator frame h line Xor unsigned l r words e = sym (append_assoc (l ++ hold frame h ∷ r) (instruction (Ld t0 sp (held_slot frame h)) ∷ []) (binary_code line Xor unsigned))
held_operator frame h line Or unsigned l r words e = sym (append_assoc (l ++ hold frame h ∷ r) (instruction (Ld t0 sp (held_slot frame h)) ∷ []) (binary_code line Or unsigned))
held_operator frame h line AndAnd unsigned l r words e = absurd cc
held_operator frame h line OrOr unsigned l r words e = absurd cc

held_right : (op : Bin) (h : ℕ) → holds_left op ≡ true → right_slot op h ≡ suc h
held_right op h e = rw e refl

pub held_binary : (frame : Frame) (h line : ℕ) (op : Bin) (unsigned : Bool) (l r : TypedExpression) → holds_left op ≡ true →
    binary_expression_code frame h line op unsigned l r ≡ operands_code frame h l r ++ binary_code line op unsigned
held_binary frame h line op unsigned l r e =
    held_operator frame h line op unsigned (expression_code frame h l) (expression_code frame (right_slot op h) r) (expression_words r) e
    ∙ ap (λ n. (expression_code frame h l ++ hold frame h ∷ expression_code frame n r ++ instruction (Ld t0 sp (held_slot frame h)) ∷ []) ++ binary_code line op unsigned) (held_right op h e)
