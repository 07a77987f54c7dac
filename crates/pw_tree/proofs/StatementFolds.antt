-- The equations of the plain trees of statements, one for each form.
use Rattle.std.proofs.Common.{◌≡◌, ℕ, List, Option, Some, None, sym, ap, ◌∙◌}
use Rattle.std.specs.Option.{option_map}
use Rattle.pw_tree.specs.Expressions.{Span, expression_of}
use Rattle.pw_tree.specs.Statements.{Statement, empty, block, local, set, evaluate, if_else, while_loop, do_loop, for_loop, returns, breaks, continues, optional_statement, statement_form, statement_step, statement_of, statement_form_of, statements_of}
use Rattle.pw_tree.specs.declared.ty.Ty.{Ty}
use Rattle.pw_tree.specs.declared.expr.Expr.{Expr}
use Rattle.pw_tree.specs.declared.stmt.Stmt.{Stmt, out-Stmt, fold_out-Stmt}
use Rattle.pw_tree.specs.declared.stmt.StmtKind.{fold-roll-StmtKind}
use Rattle.pw_tree.specs.declared.stmt.StmtKind.TheOpen.{StmtKind-F}
use Rattle.pw_tree.specs.declared.stmt.StmtKind.TheVariants as kinds
use Rattle.pw_tree.specs.declared.stmt.StmtKind.TheVariants.{rolls-Empty, rolls-Block, rolls-Local, rolls-Set, rolls-Eval, rolls-If, rolls-While, rolls-Do, rolls-For, rolls-Return, rolls-Break, rolls-Continue}

-- A statement is its form at its place.
pub statement_of-out : (s : Stmt) →
    statement_of s ≡ statement_form_of (out-Stmt s).kind (record { first = (out-Stmt s).first; last = (out-Stmt s).last; line = (out-Stmt s).line })
statement_of-out s = fold_out-Stmt (Span → Statement) Statement statement_form statement_step s

pub statement_form_of-Empty : statement_form_of kinds.Empty ≡ (λ at. empty at)
statement_form_of-Empty = ap statement_form_of (sym rolls-Empty) ∙ fold-roll-StmtKind (Span → Statement) Statement statement_form statement_step StmtKind-F.Empty

pub statement_form_of-Block : (body : List Stmt) → statement_form_of (kinds.Block body) ≡ (λ at. block at (statements_of body))
statement_form_of-Block body = ap statement_form_of (sym (rolls-Block body)) ∙ fold-roll-StmtKind (Span → Statement) Statement statement_form statement_step (StmtKind-F.Block body)

pub statement_form_of-Local : (ty : Ty) (name : List ℕ) (value : Option Expr) →
    statement_form_of (kinds.Local ty name value) ≡ (λ at. local at ty name (option_map expression_of value))
statement_form_of-Local ty name value = ap statement_form_of (sym (rolls-Local ty name value)) ∙ fold-roll-StmtKind (Span → Statement) Statement statement_form statement_step (StmtKind-F.Local ty name value)

pub statement_form_of-Set : (name : List ℕ) (i : Option Expr) (value : Expr) →
    statement_form_of (kinds.Set name i value) ≡ (λ at. set at name (option_map expression_of i) (expression_of value))
statement_form_of-Set name i value = ap statement_form_of (sym (rolls-Set name i value)) ∙ fold-roll-StmtKind (Span → Statement) Statement statement_form statement_step (StmtKind-F.Set name i value)

pub statement_form_of-Eval : (e : Expr) → statement_form_of (kinds.Eval e) ≡ (λ at. evaluate at (expression_of e))
statement_form_of-Eval e = ap statement_form_of (sym (rolls-Eval e)) ∙ fold-roll-StmtKind (Span → Statement) Statement statement_form statement_step (StmtKind-F.Eval e)

pub statement_form_of-If : (c : Expr) (a : Stmt) (b : Option Stmt) →
    statement_form_of (kinds.If c a b) ≡ (λ at. if_else at (expression_of c) (statement_of a) (optional_statement (option_map statement_of b)))
statement_form_of-If c a None = ap statement_form_of (sym (rolls-If c a None)) ∙ fold-roll-StmtKind (Span → Statement) Statement statement_form statement_step (StmtKind-F.If c a None)
statement_form_of-If c a (Some b) = ap statement_form_of (sym (rolls-If c a (Some b))) ∙ fold-roll-StmtKind (Span → Statement) Statement statement_form statement_step (StmtKind-F.If c a (Some b))

pub statement_form_of-While : (c : Expr) (body : Stmt) →
    statement_form_of (kinds.While c body) ≡ (λ at. while_loop at (expression_of c) (statement_of body))
statement_form_of-While c body = ap statement_form_of (sym (rolls-While c body)) ∙ fold-roll-StmtKind (Span → Statement) Statement statement_form statement_step (StmtKind-F.While c body)

pub statement_form_of-Do : (body : Stmt) (c : Expr) → statement_form_of (kinds.Do body c) ≡ (λ at. do_loop at (statement_of body) (expression_of c))
statement_form_of-Do body c = ap statement_form_of (sym (rolls-Do body c)) ∙ fold-roll-StmtKind (Span → Statement) Statement statement_form statement_step (StmtKind-F.Do body c)

pub statement_form_of-For : (first : Option Stmt) (c : Option Expr) (last : Option Stmt) (body : Stmt) →
    statement_form_of (kinds.For first c last body) ≡ (λ at. for_loop at (optional_statement (option_map statement_of first)) (option_map expression_of c) (optional_statement (option_map statement_of last)) (statement_of body))
statement_form_of-For None c None body = ap statement_form_of (sym (rolls-For None c None body)) ∙ fold-roll-StmtKind (Span → Statement) Statement statement_form statement_step (StmtKind-F.For None c None body)
statement_form_of-For None c (Some last) body = ap statement_form_of (sym (rolls-For None c (Some last) body)) ∙ fold-roll-StmtKind (Span → Statement) Statement statement_form statement_step (StmtKind-F.For None c (Some last) body)
statement_form_of-For (Some first) c None body = ap statement_form_of (sym (rolls-For (Some first) c None body)) ∙ fold-roll-StmtKind (Span → Statement) Statement statement_form statement_step (StmtKind-F.For (Some first) c None body)
statement_form_of-For (Some first) c (Some last) body = ap statement_form_of (sym (rolls-For (Some first) c (Some last) body)) ∙ fold-roll-StmtKind (Span → Statement) Statement statement_form statement_step (StmtKind-F.For (Some first) c (Some last) body)

pub statement_form_of-Return : (value : Option Expr) → statement_form_of (kinds.Return value) ≡ (λ at. returns at (option_map expression_of value))
statement_form_of-Return value = ap statement_form_of (sym (rolls-Return value)) ∙ fold-roll-StmtKind (Span → Statement) Statement statement_form statement_step (StmtKind-F.Return value)

pub statement_form_of-Break : statement_form_of kinds.Break ≡ (λ at. breaks at)
statement_form_of-Break = ap statement_form_of (sym rolls-Break) ∙ fold-roll-StmtKind (Span → Statement) Statement statement_form statement_step StmtKind-F.Break

pub statement_form_of-Continue : statement_form_of kinds.Continue ≡ (λ at. continues at)
statement_form_of-Continue = ap statement_form_of (sym rolls-Continue) ∙ fold-roll-StmtKind (Span → Statement) Statement statement_form statement_step StmtKind-F.Continue
