-- The equations of plain trees of expressions, for the proofs of code that reads them.
use Rattle.std.proofs.Common.{◌≡◌, List, ap, ◌∙◌}
use Rattle.pw_tree.specs.declared.operator.Un.{Un}
use Rattle.pw_tree.specs.declared.operator.Bin.{Bin}
use Rattle.pw_tree.specs.declared.expr.Expr.{Expr, out-Expr}
use Rattle.pw_tree.specs.declared.expr.ExprKind.{ExprKind}
use Rattle.pw_tree.specs.declared.expr.ExprKind.TheVariants as kinds
use Rattle.pw_tree.specs.Expressions.{Span, Expression, unary, binary, conditional, call, expression_of, expression_form_of, expressions_of}
use Rattle.pw_tree.proofs.PhraseFolds.{phrase_of-out, form_of-Num, form_of-Word, form_of-Unary, form_of-Binary, form_of-Cond, form_of-Call, form_of-Index, form_of-Input, form_of-Output}

pub ruleset phrase_forms = (phrase_of-out, form_of-Num, form_of-Word, form_of-Unary, form_of-Binary, form_of-Cond, form_of-Call, form_of-Index, form_of-Input, form_of-Output)

-- where an expression stands
abbrev pub place : Expr → Span
place e = record { first = (out-Expr e).first; last = (out-Expr e).last; line = (out-Expr e).line }

by_kind : (e : Expr) (kind : ExprKind) (form : Span → Expression) → (out-Expr e).kind ≡ kind → expression_form_of kind ≡ form →
    expression_of e ≡ form (place e)
by_kind e kind form is forms = phrase_of-out e ∙ ap (λ k. expression_form_of k (place e)) is ∙ ap (λ (f : Span → Expression). f (place e)) forms

pub as_unary : (e : Expr) (op : Un) (x y : Expr) → (out-Expr e).kind ≡ kinds.Unary op x → x ≡ y →
    expression_of e ≡ unary (place e) op (expression_of y)
as_unary e op x y is same =
    by_kind e (kinds.Unary op x) (λ at. unary at op (expression_of x)) is (form_of-Unary op x) ∙ ap (λ z. unary (place e) op (expression_of z)) same

pub as_binary : (e : Expr) (op : Bin) (l r m s : Expr) → (out-Expr e).kind ≡ kinds.Binary op l r → l ≡ m → r ≡ s
    → expression_of e ≡ binary (place e) op (expression_of m) (expression_of s)
as_binary e op l r m s is left right =
    by_kind e (kinds.Binary op l r) (λ at. binary at op (expression_of l) (expression_of r)) is (form_of-Binary op l r)
    ∙ ap (λ z. binary (place e) op (expression_of z) (expression_of r)) left ∙ ap (λ z. binary (place e) op (expression_of m) (expression_of z)) right

pub as_choice : (e c a b d f g : Expr) → (out-Expr e).kind ≡ kinds.Cond c a b → c ≡ d → a ≡ f → b ≡ g
    → expression_of e ≡ conditional (place e) (expression_of d) (expression_of f) (expression_of g)
as_choice e c a b d f g is test first second =
    by_kind e (kinds.Cond c a b) (λ at. conditional at (expression_of c) (expression_of a) (expression_of b)) is (form_of-Cond c a b)
    ∙ ap (λ z. conditional (place e) (expression_of z) (expression_of a) (expression_of b)) test
    ∙ ap (λ z. conditional (place e) (expression_of d) (expression_of z) (expression_of b)) first
    ∙ ap (λ z. conditional (place e) (expression_of d) (expression_of f) (expression_of z)) second

pub as_call : (e f g : Expr) (es fs : List Expr) → (out-Expr e).kind ≡ kinds.Call f es → f ≡ g → es ≡ fs
    → expression_of e ≡ call (place e) (expression_of g) (expressions_of fs)
as_call e f g es fs is callee arguments =
    by_kind e (kinds.Call f es) (λ at. call at (expression_of f) (expressions_of es)) is (form_of-Call f es)
    ∙ ap (λ z. call (place e) (expression_of z) (expressions_of es)) callee ∙ ap (λ z. call (place e) (expression_of g) (expressions_of z)) arguments
