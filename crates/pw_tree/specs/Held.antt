-- How many values an expression holds at a time while it is evaluated from left to right.
use Rattle.std.specs.Prelude.{ℕ, suc, ◌+◌, max, Bool, true, false, Option, Some, None}
use Rattle.pw_tree.specs.declared.operator.Bin.{Bin}
use Rattle.pw_tree.specs.declared.operator.Bin.TheVariants.{Mul, Div, Rem, Add, Sub, Shl, Shr, Lt, Gt, Le, Ge, Eq, Ne, And, Xor, Or, AndAnd, OrOr}
use Rattle.pw_tree.specs.TypedExpressions.{TypedExpression, TypedExpressions, constant, local, variable, designator, element, unary, binary, conditional, call, call_pointer, input, output, nil, cons}
use Rattle.pw_tree.specs.TypedStatements.{TypedStatement, TypedStatements, OptionalTypedStatement, evaluate, set_local, set_variable, set_element, block, if_else, while_loop, do_loop, for_loop, returns, breaks, continues, absent, present}
use Rattle.pw_tree.specs.TypedStatements as statement

-- `&&` and `||` hold nothing while the right operand is evaluated
abbrev pub holds_left : Bin → Bool
holds_left AndAnd = false
holds_left OrOr = false
holds_left Mul = true
holds_left Div = true
holds_left Rem = true
holds_left Add = true
holds_left Sub = true
holds_left Shl = true
holds_left Shr = true
holds_left Lt = true
holds_left Gt = true
holds_left Le = true
holds_left Ge = true
holds_left Eq = true
holds_left Ne = true
holds_left And = true
holds_left Xor = true
holds_left Or = true

-- what is held where the left operand is kept, or not
abbrev pub held_both : Bool → ℕ → ℕ → ℕ
held_both true l r = max l (1 + r)
held_both false l r = max l r

unfoldable mutual
  -- the greatest number of values that an expression holds
  pub held : TypedExpression → ℕ
  held (constant at value) = 0
  held (local at i) = 0
  held (variable at x) = 0
  held (designator at f) = 0
  held (element at a size i) = held i
  held (unary at op e) = held e
  held (binary at op unsigned l r) = held_both (holds_left op) (held l) (held r)
  held (conditional at c a b) = max (held c) (max (held a) (held b))
  held (call at f es) = held_arguments 0 es
  held (call_pointer at e es) = max (held_arguments 0 es) (count es + held e)
  held (input at) = 0
  held (output at e) = held e

  -- arguments are held as they come, after the n that are held already; a call holds them all
  pub held_arguments : ℕ → TypedExpressions → ℕ
  held_arguments n nil = n
  held_arguments n (cons e es) = max (n + held e) (held_arguments (suc n) es)

  -- how many there are
  pub count : TypedExpressions → ℕ
  count nil = 0
  count (cons e es) = suc (count es)

-- an assignment to an element holds the index while the value is evaluated
abbrev pub held_element : TypedExpression → TypedExpression → ℕ
held_element i e = max (held i) (1 + held e)

-- the same of an expression that may be absent
abbrev pub held_option : Option TypedExpression → ℕ
held_option None = 0
held_option (Some e) = held e

unfoldable mutual
  -- the greatest number over the expressions of a statement
  pub held_by : TypedStatement → ℕ
  held_by (evaluate e) = held e
  held_by (set_local i e) = held_option e
  held_by (set_variable x e) = held e
  held_by (set_element a size line i e) = held_element i e
  held_by (block body) = held_by_all body
  held_by (if_else c a b) = max (held c) (max (held_by a) (held_by_maybe b))
  held_by (while_loop c body) = max (held c) (held_by body)
  held_by (do_loop body c) = max (held_by body) (held c)
  held_by (for_loop first c last body) =
      max (held_by_maybe first) (max (held_option c) (max (held_by_maybe last) (held_by body)))
  held_by (returns e) = held_option e
  held_by breaks = 0
  held_by continues = 0

  -- over those of several statements
  pub held_by_all : TypedStatements → ℕ
  held_by_all statement.nil = 0
  held_by_all (statement.cons s ss) = max (held_by s) (held_by_all ss)

  -- of a statement that may be absent
  pub held_by_maybe : OptionalTypedStatement → ℕ
  held_by_maybe absent = 0
  held_by_maybe (present s) = held_by s
