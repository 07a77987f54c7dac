-- The size of code is the size that is computed before it.
use Rattle.std.proofs.Common.{◌≡◌, ℕ, zero, suc, ◌+◌, ◌*◌, Bool, true, false, List, [], ◌∷◌, ◌++◌, Option, Some, None, length, refl, ◌∙◌, ap, arith, nat_lt}
use Rattle.std.specs.Prelude.{ℤ, if◌then◌else◌}
use Rattle.std.specs.Int.{cast_signed, w64}
use Rattle.pw_isa.specs.declared.instruction.Inst.TheVariants.{Jal}
use Rattle.pw_isa.specs.Registers.{x0, a0, a1, t1}
use Rattle.pw_tree.specs.declared.operator.Un.{Un}
use Rattle.pw_tree.specs.declared.operator.Un.TheVariants.{Neg, Plus, Not, Bang}
use Rattle.pw_tree.specs.declared.operator.Bin.{Bin}
use Rattle.pw_tree.specs.declared.operator.Bin.TheVariants.{Mul, Div, Rem, Add, Sub, Shl, Shr, Lt, Gt, Le, Ge, Eq, Ne, And, Xor, Or, AndAnd, OrOr}
use Rattle.pw_tree.specs.TypedExpressions.{TypedExpression, TypedExpressions, constant, local, variable, designator, element, unary, binary, conditional, call, call_pointer, input, output, nil, cons}
use Rattle.pw_tree.specs.TypedStatements as statements
use Rattle.pw_tree.specs.TypedStatements.{TypedStatement, TypedStatements, OptionalTypedStatement}
use Rattle.pw_tree.specs.Held.{count}
use Rattle.pw_tree.specs.Units.{Function}
use Rattle.pw_code.specs.declared.frame.Frame.{Frame}
use Rattle.pw_code.specs.Items.{CodePart, instruction, words_of_code_part, size}
use Rattle.pw_code.specs.LoadImmediate.{is_within, rest, load_32_bits, load_signed, load_immediate, signed_words, immediate_words}
use Rattle.pw_code.specs.Pieces.{jump, back, fault, fault_words, check_index, check_index_words, binary_code, binary_words, unary_code, unary_words, load_held}
use Rattle.pw_code.specs.ExpressionCode.{operator_words, operator_code, right_slot, expression_words, expression_code, arguments_words, arguments_code}
use Rattle.pw_code.specs.StatementCode.{Targets, targets_in_loop, statement_words, statements_words, optional_words, else_words, set_local_words, value_words, condition_words, set_local_code, value_code, condition_code, statement_code, statements_code, optional_code, else_code}
use Rattle.pw_code.specs.FunctionCode.{store_parameters, opens_words, function_code, function_words, function_targets, frame_of}

-- ---- lists of parts

-- Code after code has both sizes.
pub size-append : (a b : List CodePart) → size (a ++ b) ≡ size a + size b
unfolding size
size-append [] b = omega arith
size-append (part ∷ a) b = omega (arith, size-append a b)

-- Either code by a test has the size by that test.
size-either : (t : Bool) (a b : List CodePart) (m n : ℕ) → size a ≡ m → size b ≡ n →
    size (if t then a else b) ≡ (if t then m else n)
size-either true a b m n ea eb = ea
size-either false a b m n ea eb = eb

-- ---- pieces

size-load_32_bits : (rd : ℕ) (v : ℤ) → size (load_32_bits rd v) ≡ (if is_within 11 v then 1 else 2)
unfolding size
size-load_32_bits rd v = size-either (is_within 11 v) _ _ 1 2 refl refl

pub size-load_signed : (times rd : ℕ) (v : ℤ) → size (load_signed times rd v) ≡ signed_words times v
unfolding size load_signed signed_words
size-load_signed zero rd v = size-load_32_bits rd v
size-load_signed (suc times) rd v =
    size-either (is_within 31 v) _ _ _ _ (size-load_32_bits rd v)
    (size-append (load_signed times rd (rest v)) _ ∙ ap (λ n. n + 2) (size-load_signed times rd (rest v)))

pub size-load_immediate : (rd v : ℕ) → size (load_immediate rd v) ≡ immediate_words v
size-load_immediate rd v = size-load_signed 3 rd (cast_signed w64 v)

pub size-fault : (kind line : ℕ) → size (fault kind line) ≡ fault_words line
unfolding size
size-fault kind line = simp size-append (omega (arith, size-load_immediate a1 line))

pub size-check_index : (array_size line : ℕ) → size (check_index array_size line) ≡ check_index_words array_size line
unfolding size
size-check_index array_size line =
    simp size-append (omega (arith, size-load_immediate t1 array_size, size-load_immediate a1 line))

pub size-load_held : (frame : Frame) (h rd n : ℕ) → size (load_held frame h rd n) ≡ n
unfolding size load_held
size-load_held frame h rd zero = refl
size-load_held frame h rd (suc n) = omega (arith, size-load_held frame (suc h) (suc rd) n)

size-unary : (op : Un) → size (unary_code op) ≡ unary_words op
unfolding size
size-unary Neg = refl
size-unary Plus = refl
size-unary Not = refl
size-unary Bang = refl

-- A jump is one word, whichever way it goes.
word-either : (t : Bool) (n : ℕ) (ahead : ℤ) → words_of_code_part (if t then back n else instruction (Jal x0 ahead)) ≡ 1
word-either true zero ahead = refl
word-either true (suc n) ahead = refl
word-either false n ahead = refl

word-jump : (from to : ℕ) → words_of_code_part (jump from to) ≡ 1
word-jump from to = word-either (nat_lt to from) _ _

-- ---- operators

size-binary : (line : ℕ) (op : Bin) (unsigned : Bool) → size (binary_code line op unsigned) ≡ binary_words line op
unfolding size
size-binary line Mul unsigned = refl
size-binary line Div unsigned = simp size-append (omega (arith, size-load_immediate a1 line))
size-binary line Rem unsigned = simp size-append (omega (arith, size-load_immediate a1 line))
size-binary line Add unsigned = refl
size-binary line Sub unsigned = refl
size-binary line Shl unsigned = refl
size-binary line Shr unsigned = refl
size-binary line Lt unsigned = refl
size-binary line Gt unsigned = refl
size-binary line Le unsigned = refl
size-binary line Ge unsigned = refl
size-binary line Eq unsigned = refl
size-binary line Ne unsigned = refl
size-binary line And unsigned = refl
size-binary line Xor unsigned = refl
size-binary line Or unsigned = refl
size-binary line AndAnd unsigned = refl
size-binary line OrOr unsigned = refl

size-operator : (frame : Frame) (h line : ℕ) (op : Bin) (unsigned : Bool) (left right : List CodePart) (words : ℕ) →
    size (operator_code frame h line op unsigned left right words) ≡ operator_words line op (size left) (size right)
unfolding size
size-operator frame h line Mul unsigned left right words = simp size-append (omega (arith, size-binary line Mul unsigned))
size-operator frame h line Div unsigned left right words = simp size-append (omega (arith, size-binary line Div unsigned))
size-operator frame h line Rem unsigned left right words = simp size-append (omega (arith, size-binary line Rem unsigned))
size-operator frame h line Add unsigned left right words = simp size-append (omega (arith, size-binary line Add unsigned))
size-operator frame h line Sub unsigned left right words = simp size-append (omega (arith, size-binary line Sub unsigned))
size-operator frame h line Shl unsigned left right words = simp size-append (omega (arith, size-binary line Shl unsigned))
size-operator frame h line Shr unsigned left right words = simp size-append (omega (arith, size-binary line Shr unsigned))
size-operator frame h line Lt unsigned left right words = simp size-append (omega (arith, size-binary line Lt unsigned))
size-operator frame h line Gt unsigned left right words = simp size-append (omega (arith, size-binary line Gt unsigned))
size-operator frame h line Le unsigned left right words = simp size-append (omega (arith, size-binary line Le unsigned))
size-operator frame h line Ge unsigned left right words = simp size-append (omega (arith, size-binary line Ge unsigned))
size-operator frame h line Eq unsigned left right words = simp size-append (omega (arith, size-binary line Eq unsigned))
size-operator frame h line Ne unsigned left right words = simp size-append (omega (arith, size-binary line Ne unsigned))
size-operator frame h line And unsigned left right words = simp size-append (omega (arith, size-binary line And unsigned))
size-operator frame h line Xor unsigned left right words = simp size-append (omega (arith, size-binary line Xor unsigned))
size-operator frame h line Or unsigned left right words = simp size-append (omega (arith, size-binary line Or unsigned))
size-operator frame h line AndAnd unsigned left right words = simp size-append (omega arith)
size-operator frame h line OrOr unsigned left right words = simp size-append (omega arith)

same_operands : (line : ℕ) (op : Bin) (l m r s : ℕ) → l ≡ m → r ≡ s → operator_words line op l r ≡ operator_words line op m s
same_operands line op l m r s el er = ap (λ n. operator_words line op n r) el ∙ ap (λ n. operator_words line op m n) er

-- ---- expressions

mutual
  unfolding size expression_code expression_words arguments_code arguments_words

  pub size-expression : (frame : Frame) (h : ℕ) (e : TypedExpression) → size (expression_code frame h e) ≡ expression_words e
  size-expression frame h (constant at value) = size-load_immediate a0 value
  size-expression frame h (local at i) = refl
  size-expression frame h (variable at x) = refl
  size-expression frame h (designator at f) = refl
  size-expression frame h (element at a array_size i) =
      simp size-append (omega (arith, size-expression frame h i, size-load_immediate t1 array_size, size-load_immediate a1 at.line))
  size-expression frame h (unary at op e) = simp size-append (omega (arith, size-expression frame h e, size-unary op))
  size-expression frame h (binary at op unsigned l r) =
      size-operator frame h at.line op unsigned (expression_code frame h l) (expression_code frame (right_slot op h) r) (expression_words r)
      ∙ same_operands at.line op _ _ _ _ (size-expression frame h l) (size-expression frame (right_slot op h) r)
  size-expression frame h (conditional at c a b) =
      simp size-append (omega (arith, size-expression frame h c, size-expression frame h a, size-expression frame h b))
  size-expression frame h (call at f es) =
      simp size-append (omega (arith, size-arguments frame h es, size-load_held frame h a0 (count es)))
  size-expression frame h (call_pointer at e es) =
      simp size-append
      (omega (
        arith,
        size-arguments frame h es,
        size-expression frame (h + count es) e,
        size-load_immediate a1 at.line,
        size-load_held frame h a0 (count es),
      ))
  size-expression frame h (input at) = refl
  size-expression frame h (output at e) = simp size-append (omega (arith, size-expression frame h e))

  pub size-arguments : (frame : Frame) (h : ℕ) (es : TypedExpressions) → size (arguments_code frame h es) ≡ arguments_words es
  size-arguments frame h nil = refl
  size-arguments frame h (cons e es) =
      simp size-append (omega (arith, size-expression frame h e, size-arguments frame (suc h) es))

-- ---- statements

size-set_local : (frame : Frame) (i : ℕ) (e : Option TypedExpression) → size (set_local_code frame i e) ≡ set_local_words e
unfolding size
size-set_local frame i None = refl
size-set_local frame i (Some e) = simp size-append (omega (arith, size-expression frame 0 e))

size-value : (frame : Frame) (e : Option TypedExpression) → size (value_code frame e) ≡ value_words e
unfolding size
size-value frame None = refl
size-value frame (Some e) = size-expression frame 0 e

size-condition : (frame : Frame) (c : Option TypedExpression) (words : ℕ) →
    size (condition_code frame c words) ≡ condition_words c
unfolding size
size-condition frame None words = refl
size-condition frame (Some c) words = simp size-append (omega (arith, size-expression frame 0 c))

mutual
  unfolding size statement_code statement_words statements_code statements_words optional_code optional_words else_code else_words

  pub size-statement : (frame : Frame) (targets : Targets) (at : ℕ) (s : TypedStatement) →
      size (statement_code frame targets at s) ≡ statement_words s
  size-statement frame targets at (statements.evaluate e) = size-expression frame 0 e
  size-statement frame targets at (statements.set_local i e) = size-set_local frame i e
  size-statement frame targets at (statements.set_variable x e) = simp size-append (omega (arith, size-expression frame 0 e))
  size-statement frame targets at (statements.set_element a array_size line i e) =
      simp size-append
      (omega (arith, size-expression frame 0 i, size-load_immediate t1 array_size, size-load_immediate a1 line, size-expression frame 1 e))
  size-statement frame targets at (statements.block body) = size-statements frame targets at body
  size-statement frame targets at (statements.if_else c a b) =
      let then_at : ℕ = at + (expression_words c + 2) in
      simp size-append
      (omega (
        arith,
        size-expression frame 0 c,
        size-statement frame targets then_at a,
        size-else frame targets (then_at + statement_words a) b,
      ))
  size-statement frame targets at (statements.while_loop c body) =
      let body_at : ℕ = at + (expression_words c + 2) in
      let next : ℕ = body_at + statement_words body in
      simp size-append
      (omega (arith, word-jump next at, size-expression frame 0 c, size-statement frame (targets_in_loop (next + 1) next targets) body_at body))
  size-statement frame targets at (statements.do_loop body c) =
      let next : ℕ = at + statement_words body in
      let jump_at : ℕ = next + (expression_words c + 1) in
      simp size-append
      (omega (arith, word-jump jump_at at, size-expression frame 0 c, size-statement frame (targets_in_loop (jump_at + 1) next targets) at body))
  size-statement frame targets at (statements.for_loop first c last body) =
      let top : ℕ = at + optional_words first in
      let body_at : ℕ = top + condition_words c in
      let next : ℕ = body_at + statement_words body in
      let jump_at : ℕ = next + optional_words last in
      simp size-append
      (omega (
        arith,
        word-jump jump_at top,
        size-optional frame targets at first,
        size-condition frame c (statement_words body + (optional_words last + 1)),
        size-statement frame (targets_in_loop (jump_at + 1) next targets) body_at body,
        size-optional frame targets next last,
      ))
  size-statement frame targets at (statements.returns e) = simp size-append (omega (arith, word-jump (at + value_words e) targets.return_to, size-value frame e))
  size-statement frame targets at statements.breaks = omega (arith, word-jump at targets.break_to)
  size-statement frame targets at statements.continues = omega (arith, word-jump at targets.continue_to)

  pub size-statements : (frame : Frame) (targets : Targets) (at : ℕ) (ss : TypedStatements) →
      size (statements_code frame targets at ss) ≡ statements_words ss
  size-statements frame targets at statements.nil = refl
  size-statements frame targets at (statements.cons s ss) =
      simp size-append (omega (arith, size-statement frame targets at s, size-statements frame targets (at + statement_words s) ss))

  pub size-optional : (frame : Frame) (targets : Targets) (at : ℕ) (s : OptionalTypedStatement) →
      size (optional_code frame targets at s) ≡ optional_words s
  size-optional frame targets at statements.absent = refl
  size-optional frame targets at (statements.present s) = size-statement frame targets at s

  pub size-else : (frame : Frame) (targets : Targets) (at : ℕ) (s : OptionalTypedStatement) →
      size (else_code frame targets at s) ≡ else_words s
  size-else frame targets at statements.absent = refl
  size-else frame targets at (statements.present s) = ap (λ n. 1 + n) (size-statement frame targets (at + 1) s)

-- ---- functions

size-store_parameters : (i n : ℕ) → size (store_parameters i n) ≡ n
unfolding size store_parameters
size-store_parameters i zero = refl
size-store_parameters i (suc n) = omega (arith, size-store_parameters (suc i) n)

pub size-function : (f : Function) → size (function_code f) ≡ function_words f
unfolding size
size-function f =
    simp size-append
    (omega (
      arith,
      size-load_immediate a1 f.line,
      size-store_parameters 0 (length f.sig.params),
      size-statements (frame_of f) (function_targets f) (opens_words f) f.body,
    ))
