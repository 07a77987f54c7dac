-- What a typed expression evaluates to (C17, 6.5), from left to right.
use Rattle.std.specs.Prelude.{ℕ, Bool, not, List, [], ◌∷◌, nat_eq, nat_lt, ◌-◌, ◌^◌}
use Rattle.pw_tree.specs.Numbers.{truth, unary_result, binary_result}
use Rattle.pw_tree.specs.Names.{Definition}
use Rattle.pw_tree.specs.TypedExpressions.{TypedExpression, TypedExpressions, constant, local, variable, designator, element, unary, binary, conditional, call, call_pointer, input, output, nil, cons}
use Rattle.pw_tree.specs.States.{Value, number, pointer, holds, as_number, same_value, Locals, value_or_zero, State, with_input, with_output, Fault, index, division, null_call, checked, Outcome, gives, stops, and_then, chosen}
use Rattle.pw_tree.specs.declared.operator.Un.{Un}
use Rattle.pw_tree.specs.declared.operator.Un.TheVariants.{Bang}
use Rattle.pw_tree.specs.declared.operator.Bin.{Bin}
use Rattle.pw_tree.specs.declared.operator.Bin.TheVariants.{Div, Rem, Eq, Ne, AndAnd, OrOr}
use Rattle.pw_tree.specs.declared.ty.Ref.{Ref}

-- What a function's body is run in: the function itself, what its unit's names designate, what a call of a
-- function with some arguments comes to, and how often a loop may go back to its start.
pub record Context : Type 0 where
  pub self : Definition
  pub named : Ref → Definition
  pub called : Definition → List Value → State → Outcome Value
  pub iterations_left : ℕ

-- A check that fails stops the run, with the function whose body runs and the line.
abbrev pub fails : {A : Type 0} → Context → Fault → ℕ → State → Outcome A
fails x fault line st = stops (checked fault x.self line) st

-- The value of a unary operator.
abbrev pub unary_value : Un → Value → Value
unary_value Bang v = number (truth (not (holds v)))
unary_value op v = number (unary_result op (as_number v))

-- An operator that divides stops at the divisor 0.
abbrev pub divided : Context → ℕ → Bin → Bool → ℕ → ℕ → State → Outcome Value
divided x line op unsigned a b =
    chosen (nat_eq b 0) (fails x division line) (gives (number (binary_result op unsigned a b)))

-- The value of a binary operator both of whose operands are evaluated.
abbrev pub binary_value : Context → ℕ → Bin → Bool → Value → Value → State → Outcome Value
binary_value x line Eq unsigned a b = gives (number (truth (same_value a b)))
binary_value x line Ne unsigned a b = gives (number (truth (not (same_value a b))))
binary_value x line Div unsigned a b = divided x line Div unsigned (as_number a) (as_number b)
binary_value x line Rem unsigned a b = divided x line Rem unsigned (as_number a) (as_number b)
binary_value x line op unsigned a b = gives (number (binary_result op unsigned (as_number a) (as_number b)))

-- The long that says whether the right operand of `&&` or `||` holds.
abbrev pub truth_of : Value → State → Outcome Value
truth_of v = gives (number (truth (holds v)))

-- What follows the left operand: `&&` and `||` evaluate the right one only where the left one does not decide.
abbrev pub operated : Context → ℕ → Bin → Bool → Value → (State → Outcome Value) → State → Outcome Value
operated x line AndAnd unsigned a right st = chosen (holds a) (λ st. and_then (right st) truth_of) (gives (number 0)) st
operated x line OrOr unsigned a right st = chosen (holds a) (gives (number 1)) (λ st. and_then (right st) truth_of) st
operated x line op unsigned a right st = and_then (right st) (binary_value x line op unsigned a)

-- The element of an array at an index, which is tested: as an unsigned long it is below the array's size.
abbrev pub indexed : {A : Type 0} → Context → ℕ → ℕ → Value → (ℕ → State → Outcome A) → State → Outcome A
indexed x size line v next = chosen (nat_lt (as_number v) size) (next (as_number v)) (fails x index line)

-- `__in()` takes the next byte of the input, or gives -1 at its end.
abbrev pub next_byte : List ℕ → State → Outcome Value
next_byte [] st = gives (number (2 ^ 64 - 1)) st
next_byte (byte ∷ rest) st = gives (number byte) (with_input rest st)

-- A call through a pointer, which is tested: it is not null.
abbrev pub call_through : Context → ℕ → List Value → Value → State → Outcome Value
call_through x line arguments (pointer f) = x.called f arguments
call_through x line arguments _ = fails x null_call line

-- What an expression comes to; a callee that is evaluated comes after the arguments.
abbrev mutual
  pub eval : Context → TypedExpression → Locals → State → Outcome Value
  eval x (constant at value) locals st = gives (number value) st
  eval x (local at i) locals st = gives (value_or_zero at.ty (locals i)) st
  eval x (variable at v) locals st = gives (st.variables (x.named v) 0) st
  eval x (designator at f) locals st = gives (pointer (x.named f)) st
  eval x (element at a size i) locals st =
      and_then (eval x i locals st) (λ v. indexed x size at.line v (λ k st. gives (st.variables (x.named a) k) st))
  eval x (unary at op e) locals st = and_then (eval x e locals st) (λ v. gives (unary_value op v))
  eval x (binary at op unsigned l r) locals st =
      and_then (eval x l locals st) (λ v. operated x at.line op unsigned v (eval x r locals))
  eval x (conditional at c a b) locals st =
      and_then (eval x c locals st) (λ v. chosen (holds v) (eval x a locals) (eval x b locals))
  eval x (call at f es) locals st = and_then (eval_all x es locals st) (x.called (x.named f))
  eval x (call_pointer at e es) locals st =
      and_then (eval_all x es locals st) (λ vs st. and_then (eval x e locals st) (call_through x at.line vs))
  eval x (input at) locals st = next_byte st.input st
  eval x (output at e) locals st =
      and_then (eval x e locals st) (λ v st. gives (number 0) (with_output (as_number v) st))

  -- What several expressions come to, one after another.
  pub eval_all : Context → TypedExpressions → Locals → State → Outcome (List Value)
  eval_all x nil locals st = gives [] st
  eval_all x (cons e es) locals st =
      and_then (eval x e locals st) (λ v st. and_then (eval_all x es locals st) (λ vs. gives (v ∷ vs)))
