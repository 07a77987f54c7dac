-- The parts of statements, one equation for each form.
use Rattle.std.proofs.Common.{◌≡◌, ℕ, List, [], ◌∷◌, Option, sym, ap, ◌∙◌}
use Rattle.pw_tree.specs.Steps.Nested.{put_before, parts_of_form, parts_of_kind, typed_parts_of_form, typed_parts_of}
use Rattle.pw_tree.specs.declared.ty.Ty.{Ty}
use Rattle.pw_tree.specs.declared.ty.Ref.{Ref}
use Rattle.pw_tree.specs.declared.expr.Expr.{Expr}
use Rattle.pw_tree.specs.declared.texpr.TExpr.{TExpr}
use Rattle.pw_tree.specs.declared.stmt.Stmt.{Stmt}
use Rattle.pw_tree.specs.declared.stmt.StmtKind.{StmtKind, roll-StmtKind, out-roll-StmtKind}
use Rattle.pw_tree.specs.declared.stmt.StmtKind.TheOpen.{StmtKind-F}
use Rattle.pw_tree.specs.declared.stmt.StmtKind.TheVariants as kinds
use Rattle.pw_tree.specs.declared.stmt.StmtKind.TheVariants.{rolls-Empty, rolls-Block, rolls-Local, rolls-Set, rolls-Eval, rolls-If, rolls-While, rolls-Do, rolls-For, rolls-Return, rolls-Break, rolls-Continue}
use Rattle.pw_tree.specs.declared.tstmt.TStmt.{TStmt, roll-TStmt, out-roll-TStmt}
use Rattle.pw_tree.specs.declared.tstmt.TStmt.TheOpen.{TStmt-F}
use Rattle.pw_tree.specs.declared.tstmt.TStmt.TheVariants as typed

of_form : (k : StmtKind) (f : StmtKind-F StmtKind Stmt) → roll-StmtKind f ≡ k → parts_of_kind k ≡ parts_of_form f
unfolding parts_of_kind
of_form k f is = ap parts_of_kind (sym is) ∙ ap parts_of_form (out-roll-StmtKind f)

pub parts_of_empty : parts_of_kind kinds.Empty ≡ []
parts_of_empty = of_form kinds.Empty StmtKind-F.Empty rolls-Empty

pub parts_of_block : (body : List Stmt) → parts_of_kind (kinds.Block body) ≡ body
parts_of_block body = of_form (kinds.Block body) (StmtKind-F.Block body) (rolls-Block body)

pub parts_of_local : (ty : Ty) (name : List ℕ) (value : Option Expr) → parts_of_kind (kinds.Local ty name value) ≡ []
parts_of_local ty name value = of_form (kinds.Local ty name value) (StmtKind-F.Local ty name value) (rolls-Local ty name value)

pub parts_of_set : (name : List ℕ) (i : Option Expr) (value : Expr) → parts_of_kind (kinds.Set name i value) ≡ []
parts_of_set name i value = of_form (kinds.Set name i value) (StmtKind-F.Set name i value) (rolls-Set name i value)

pub parts_of_eval : (e : Expr) → parts_of_kind (kinds.Eval e) ≡ []
parts_of_eval e = of_form (kinds.Eval e) (StmtKind-F.Eval e) (rolls-Eval e)

pub parts_of_if : (c : Expr) (a : Stmt) (b : Option Stmt) → parts_of_kind (kinds.If c a b) ≡ a ∷ put_before b []
parts_of_if c a b = of_form (kinds.If c a b) (StmtKind-F.If c a b) (rolls-If c a b)

pub parts_of_while : (c : Expr) (body : Stmt) → parts_of_kind (kinds.While c body) ≡ body ∷ []
parts_of_while c body = of_form (kinds.While c body) (StmtKind-F.While c body) (rolls-While c body)

pub parts_of_do : (body : Stmt) (c : Expr) → parts_of_kind (kinds.Do body c) ≡ body ∷ []
parts_of_do body c = of_form (kinds.Do body c) (StmtKind-F.Do body c) (rolls-Do body c)

pub parts_of_for : (first : Option Stmt) (c : Option Expr) (last : Option Stmt) (body : Stmt) →
    parts_of_kind (kinds.For first c last body) ≡ put_before first (put_before last (body ∷ []))
parts_of_for first c last body = of_form (kinds.For first c last body) (StmtKind-F.For first c last body) (rolls-For first c last body)

pub parts_of_return : (value : Option Expr) → parts_of_kind (kinds.Return value) ≡ []
parts_of_return value = of_form (kinds.Return value) (StmtKind-F.Return value) (rolls-Return value)

pub parts_of_break : parts_of_kind kinds.Break ≡ []
parts_of_break = of_form kinds.Break StmtKind-F.Break rolls-Break

pub parts_of_continue : parts_of_kind kinds.Continue ≡ []
parts_of_continue = of_form kinds.Continue StmtKind-F.Continue rolls-Continue

of_typed : (k : TStmt) (f : TStmt-F TStmt) → roll-TStmt f ≡ k → typed_parts_of k ≡ typed_parts_of_form f
unfolding typed_parts_of
of_typed k f is = ap typed_parts_of (sym is) ∙ ap typed_parts_of_form (out-roll-TStmt f)

pub typed_parts_of_eval : (e : TExpr) → typed_parts_of (typed.Eval e) ≡ []
typed_parts_of_eval e = of_typed (typed.Eval e) (TStmt-F.Eval e) (typed.rolls-Eval e)

pub typed_parts_of_set_local : (i : ℕ) (value : Option TExpr) → typed_parts_of (typed.SetLocal i value) ≡ []
typed_parts_of_set_local i value = of_typed (typed.SetLocal i value) (TStmt-F.SetLocal i value) (typed.rolls-SetLocal i value)

pub typed_parts_of_set_var : (x : Ref) (value : TExpr) → typed_parts_of (typed.SetVar x value) ≡ []
typed_parts_of_set_var x value = of_typed (typed.SetVar x value) (TStmt-F.SetVar x value) (typed.rolls-SetVar x value)

pub typed_parts_of_set_elem : (x : Ref) (size line : ℕ) (i value : TExpr) → typed_parts_of (typed.SetElem x size line i value) ≡ []
typed_parts_of_set_elem x size line i value = of_typed (typed.SetElem x size line i value) (TStmt-F.SetElem x size line i value) (typed.rolls-SetElem x size line i value)

pub typed_parts_of_block : (body : List TStmt) → typed_parts_of (typed.Block body) ≡ body
typed_parts_of_block body = of_typed (typed.Block body) (TStmt-F.Block body) (typed.rolls-Block body)

pub typed_parts_of_if : (c : TExpr) (a : TStmt) (b : Option TStmt) → typed_parts_of (typed.If c a b) ≡ a ∷ put_before b []
typed_parts_of_if c a b = of_typed (typed.If c a b) (TStmt-F.If c a b) (typed.rolls-If c a b)

pub typed_parts_of_while : (c : TExpr) (body : TStmt) → typed_parts_of (typed.While c body) ≡ body ∷ []
typed_parts_of_while c body = of_typed (typed.While c body) (TStmt-F.While c body) (typed.rolls-While c body)

pub typed_parts_of_do : (body : TStmt) (c : TExpr) → typed_parts_of (typed.Do body c) ≡ body ∷ []
typed_parts_of_do body c = of_typed (typed.Do body c) (TStmt-F.Do body c) (typed.rolls-Do body c)

pub typed_parts_of_for : (first : Option TStmt) (c : Option TExpr) (last : Option TStmt) (body : TStmt) →
    typed_parts_of (typed.For first c last body) ≡ put_before first (put_before last (body ∷ []))
typed_parts_of_for first c last body = of_typed (typed.For first c last body) (TStmt-F.For first c last body) (typed.rolls-For first c last body)

pub typed_parts_of_return : (value : Option TExpr) → typed_parts_of (typed.Return value) ≡ []
typed_parts_of_return value = of_typed (typed.Return value) (TStmt-F.Return value) (typed.rolls-Return value)

pub typed_parts_of_break : typed_parts_of typed.Break ≡ []
typed_parts_of_break = of_typed typed.Break TStmt-F.Break typed.rolls-Break

pub typed_parts_of_continue : typed_parts_of typed.Continue ≡ []
typed_parts_of_continue = of_typed typed.Continue TStmt-F.Continue typed.rolls-Continue
