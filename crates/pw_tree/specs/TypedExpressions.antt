-- Typed expressions, as a plain tree.
use Rattle.std.specs.Prelude.{ℕ, Bool, List, [], ◌∷◌, map}
use Rattle.pw_tree.specs.declared.operator.Un.{Un}
use Rattle.pw_tree.specs.declared.operator.Bin.{Bin}
use Rattle.pw_tree.specs.declared.ty.Ty.{Ty}
use Rattle.pw_tree.specs.declared.ty.Ref.{Ref}
use Rattle.pw_tree.specs.declared.texpr.TKind.{TKind}
use Rattle.pw_tree.specs.declared.texpr.TExpr.{TExpr}
use Rattle.pw_tree.specs.declared.texpr.TKind.TheOpen.{TKind-F, TExpr-F}
use Rattle.pw_tree.specs.declared.texpr.TKind.TheFolds.{fold-TKind, fold-TExpr}

-- An expression's type, and the line that its faults are reported at.
pub record Mark : Type 0 where
  pub ty : Ty
  pub line : ℕ

-- A typed expression, by its form (C17, 6.5).
mutual
  pub data TypedExpression : Type 0 where
    constant : Mark → ℕ → TypedExpression
    -- the parameter or local of this number, parameters first
    local : Mark → ℕ → TypedExpression
    -- the value of a variable
    variable : Mark → Ref → TypedExpression
    -- a function designator
    designator : Mark → Ref → TypedExpression
    -- an array, its size and the index
    element : Mark → Ref → ℕ → TypedExpression → TypedExpression
    unary : Mark → Un → TypedExpression → TypedExpression
    -- the operator, whether it is the unsigned one, and the operands
    binary : Mark → Bin → Bool → TypedExpression → TypedExpression → TypedExpression
    -- the condition, and the values where it holds and where it does not
    conditional : Mark → TypedExpression → TypedExpression → TypedExpression → TypedExpression
    -- a call of a function by its name
    call : Mark → Ref → TypedExpressions → TypedExpression
    -- a call through a pointer
    call_pointer : Mark → TypedExpression → TypedExpressions → TypedExpression
    -- `__in()`
    input : Mark → TypedExpression
    -- `__out(e)`
    output : Mark → TypedExpression → TypedExpression

  -- Several typed expressions, as arguments.
  pub data TypedExpressions : Type 0 where
    nil : TypedExpressions
    cons : TypedExpression → TypedExpressions → TypedExpressions

-- The mark of an expression.
abbrev pub mark_of : TypedExpression → Mark
mark_of (constant at value) = at
mark_of (local at i) = at
mark_of (variable at x) = at
mark_of (designator at f) = at
mark_of (element at a size i) = at
mark_of (unary at op e) = at
mark_of (binary at op unsigned l r) = at
mark_of (conditional at c a b) = at
mark_of (call at f es) = at
mark_of (call_pointer at e es) = at
mark_of (input at) = at
mark_of (output at e) = at

-- The type of an expression.
abbrev pub type_of : TypedExpression → Ty
type_of e = (mark_of e).ty

-- The typed expressions of a list.
abbrev pub typed_expressions : List TypedExpression → TypedExpressions
typed_expressions [] = nil
typed_expressions (e ∷ es) = cons e (typed_expressions es)

-- One form under its mark, with each operand's tree in place of the operand.
abbrev pub typed_expression_form : TKind-F (Mark → TypedExpression) TypedExpression → Mark → TypedExpression
typed_expression_form (TKind-F.Num value) at = constant at value
typed_expression_form (TKind-F.Local i) at = local at i
typed_expression_form (TKind-F.Var x) at = variable at x
typed_expression_form (TKind-F.Fun f) at = designator at f
typed_expression_form (TKind-F.Elem x size i) at = element at x size i
typed_expression_form (TKind-F.Unary op e) at = unary at op e
typed_expression_form (TKind-F.Binary op unsigned l r) at = binary at op unsigned l r
typed_expression_form (TKind-F.Cond c a b) at = conditional at c a b
typed_expression_form (TKind-F.Call f arguments) at = call at f (typed_expressions arguments)
typed_expression_form (TKind-F.CallPtr callee arguments) at = call_pointer at callee (typed_expressions arguments)
typed_expression_form TKind-F.Input at = input at
typed_expression_form (TKind-F.Output e) at = output at e

-- A form with its mark given.
abbrev pub typed_expression_step : TExpr-F (Mark → TypedExpression) TypedExpression → TypedExpression
typed_expression_step e = e.kind (record { ty = e.ty; line = e.line })

-- The plain tree of a typed expression.
abbrev pub typed_expression_of : TExpr → TypedExpression
typed_expression_of = fold-TExpr (Mark → TypedExpression) TypedExpression typed_expression_form typed_expression_step

-- The plain tree of a form that has a mark.
abbrev pub typed_expression_form_of : TKind → Mark → TypedExpression
typed_expression_form_of = fold-TKind (Mark → TypedExpression) TypedExpression typed_expression_form typed_expression_step

-- The plain typed expressions of several typed expressions.
abbrev pub typed_expressions_of : List TExpr → TypedExpressions
typed_expressions_of es = typed_expressions (map typed_expression_of es)
