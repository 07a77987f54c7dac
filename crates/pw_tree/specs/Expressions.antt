-- Expressions as they are written, as a plain tree.
use Rattle.std.specs.Prelude.{ℕ, Bool, List, [], ◌∷◌, map}
use Rattle.pw_tree.specs.declared.operator.Un.{Un}
use Rattle.pw_tree.specs.declared.operator.Bin.{Bin}
use Rattle.pw_tree.specs.declared.expr.ExprKind.{ExprKind}
use Rattle.pw_tree.specs.declared.expr.Expr.{Expr}
use Rattle.pw_tree.specs.declared.expr.ExprKind.TheOpen.{ExprKind-F, Expr-F}
use Rattle.pw_tree.specs.declared.expr.ExprKind.TheFolds.{fold-ExprKind, fold-Expr}

-- Where a phrase stands: its first and last token, counted from 0, and its line, from 1.
pub record Span : Type 0 where
  pub first : ℕ
  pub last : ℕ
  pub line : ℕ

-- An expression, by its form (C17, 6.5).
mutual
  pub data Expression : Type 0 where
    -- a constant, and whether it is unsigned
    constant : Span → ℕ → Bool → Expression
    -- an identifier
    word : Span → List ℕ → Expression
    unary : Span → Un → Expression → Expression
    binary : Span → Bin → Expression → Expression → Expression
    -- the condition, and the values where it holds and where it does not
    conditional : Span → Expression → Expression → Expression → Expression
    -- the callee and the arguments
    call : Span → Expression → Expressions → Expression
    -- the base and the index
    index : Span → Expression → Expression → Expression
    -- `__in()`
    input : Span → Expression
    -- `__out(e)`
    output : Span → Expression → Expression

  -- Several expressions, as arguments.
  pub data Expressions : Type 0 where
    nil : Expressions
    cons : Expression → Expressions → Expressions

-- The expressions of a list.
abbrev pub expressions : List Expression → Expressions
expressions [] = nil
expressions (e ∷ es) = cons e (expressions es)

-- One form at its place, with each operand's tree in place of the operand.
abbrev pub expression_form : ExprKind-F (Span → Expression) Expression → Span → Expression
expression_form (ExprKind-F.Num value unsigned) at = constant at value unsigned
expression_form (ExprKind-F.Word name) at = word at name
expression_form (ExprKind-F.Unary op e) at = unary at op e
expression_form (ExprKind-F.Binary op l r) at = binary at op l r
expression_form (ExprKind-F.Cond c a b) at = conditional at c a b
expression_form (ExprKind-F.Call callee arguments) at = call at callee (expressions arguments)
expression_form (ExprKind-F.Index base i) at = index at base i
expression_form ExprKind-F.Input at = input at
expression_form (ExprKind-F.Output e) at = output at e

-- A form with its place given.
abbrev pub expression_step : Expr-F (Span → Expression) Expression → Expression
expression_step e = e.kind (record { first = e.first; last = e.last; line = e.line })

-- The plain tree of an expression.
abbrev pub expression_of : Expr → Expression
expression_of = fold-Expr (Span → Expression) Expression expression_form expression_step

-- The plain tree of a form that stands at a place.
abbrev pub expression_form_of : ExprKind → Span → Expression
expression_form_of = fold-ExprKind (Span → Expression) Expression expression_form expression_step

-- The plain trees of several expressions.
abbrev pub expressions_of : List Expr → Expressions
expressions_of es = expressions (map expression_of es)
