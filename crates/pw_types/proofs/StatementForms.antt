-- Which form a statement has, and what entering it answers.
use Rattle.std.proofs.Common.{◌≡◌, ℕ, ◌<◌, List, Option, option_map, Result, Ok, Err, IfOk, sym, ap, ◌∙◌, subst}
use Rattle.pw_tree.specs.Expressions.{Span, expression_of}
use Rattle.pw_tree.specs.Statements.{Statement, empty, block, local, set, evaluate, if_else, while_loop, do_loop, for_loop, returns, breaks, continues, optional_statement, statement_of, statement_form_of, statements_of}
use Rattle.pw_tree.specs.declared.ty.Ty.{Ty}
use Rattle.pw_tree.specs.declared.expr.Expr.{Expr}
use Rattle.pw_tree.specs.declared.stmt.Stmt.{Stmt, out-Stmt}
use Rattle.pw_tree.specs.declared.stmt.StmtKind.{StmtKind}
use Rattle.pw_tree.specs.declared.stmt.StmtKind.TheVariants as kinds
use Rattle.pw_tree.proofs.StatementFolds.{statement_of-out, statement_form_of-Empty, statement_form_of-Block, statement_form_of-Local, statement_form_of-Set, statement_form_of-Eval, statement_form_of-If, statement_form_of-While, statement_form_of-Do, statement_form_of-For, statement_form_of-Return, statement_form_of-Break, statement_form_of-Continue}
use Rattle.pw_tree.specs.declared.tstmt.TStmt.{TStmt}
use Rattle.pw_types.specs.declared.fault.Refusal.{Refusal}
use Rattle.pw_types.specs.declared.statement_walk.Walk.{Walk}
use Rattle.pw_types.specs.declared.statement_step.Setting.{Setting as Given}
use Rattle.pw_types.specs.declared.statement_step.StatementStep.{StatementStep}
use Rattle.pw_types.specs.Steps.CheckingStatements.{WalkResult, outcome_at, Finishes, Leads, Steps, IsWhole}
use Rattle.pw_types.specs.Steps.StatementWeights.{weight, weight_of_step}
use Rattle.pw_types.specs.Steps.Refusals.{Fails}

abbrev pub place_at : Stmt → Span
place_at s = record { first = (out-Stmt s).first; last = (out-Stmt s).last; line = (out-Stmt s).line }

of_kind : (s : Stmt) (k : StmtKind) (f : Span → Statement) → (out-Stmt s).kind ≡ k → statement_form_of k ≡ f →
    statement_of s ≡ f (place_at s)
of_kind s k f is form =
    statement_of-out s
    ∙ (ap (λ (l : StmtKind). statement_form_of l (place_at s)) is ∙ ap (λ (g : Span → Statement). g (place_at s)) form)

pub is_empty : (s : Stmt) → (out-Stmt s).kind ≡ kinds.Empty → statement_of s ≡ empty (place_at s)
is_empty s is = of_kind s _ _ is statement_form_of-Empty

pub is_block : (s : Stmt) (body given : List Stmt) → (out-Stmt s).kind ≡ kinds.Block body → given ≡ body →
    statement_of s ≡ block (place_at s) (statements_of given)
is_block s body given is given_is =
    of_kind s _ _ is (statement_form_of-Block body) ∙ ap (λ (ss : List Stmt). block (place_at s) (statements_of ss)) (sym given_is)

pub is_local : (s : Stmt) (ty : Ty) (name : List ℕ) (e : Option Expr) → (out-Stmt s).kind ≡ kinds.Local ty name e
    → statement_of s ≡ local (place_at s) ty name (option_map expression_of e)
is_local s ty name e is = of_kind s _ _ is (statement_form_of-Local ty name e)

pub is_set : (s : Stmt) (name : List ℕ) (i : Option Expr) (e : Expr) → (out-Stmt s).kind ≡ kinds.Set name i e
    → statement_of s ≡ set (place_at s) name (option_map expression_of i) (expression_of e)
is_set s name i e is = of_kind s _ _ is (statement_form_of-Set name i e)

pub is_evaluate : (s : Stmt) (e : Expr) → (out-Stmt s).kind ≡ kinds.Eval e →
    statement_of s ≡ evaluate (place_at s) (expression_of e)
is_evaluate s e is = of_kind s _ _ is (statement_form_of-Eval e)

pub is_if : (s : Stmt) (c : Expr) (a given : Stmt) (b : Option Stmt) → (out-Stmt s).kind ≡ kinds.If c a b → given ≡ a
    → statement_of s ≡ if_else (place_at s) (expression_of c) (statement_of given) (optional_statement (option_map statement_of b))
is_if s c a given b is given_is =
    of_kind s _ _ is (statement_form_of-If c a b)
    ∙ ap (λ (u : Stmt). if_else (place_at s) (expression_of c) (statement_of u) (optional_statement (option_map statement_of b))) (sym given_is)

pub is_while : (s : Stmt) (c : Expr) (body given : Stmt) → (out-Stmt s).kind ≡ kinds.While c body → given ≡ body
    → statement_of s ≡ while_loop (place_at s) (expression_of c) (statement_of given)
is_while s c body given is given_is =
    of_kind s _ _ is (statement_form_of-While c body) ∙ ap (λ (u : Stmt). while_loop (place_at s) (expression_of c) (statement_of u)) (sym given_is)

pub is_do : (s : Stmt) (body given : Stmt) (c : Expr) → (out-Stmt s).kind ≡ kinds.Do body c → given ≡ body
    → statement_of s ≡ do_loop (place_at s) (statement_of given) (expression_of c)
is_do s body given c is given_is =
    of_kind s _ _ is (statement_form_of-Do body c) ∙ ap (λ (u : Stmt). do_loop (place_at s) (statement_of u) (expression_of c)) (sym given_is)

pub is_for : (s : Stmt) (first : Option Stmt) (c : Option Expr) (last : Option Stmt) (body given : Stmt) →
    (out-Stmt s).kind ≡ kinds.For first c last body
    → given ≡ body
    → statement_of s ≡ for_loop (place_at s) (optional_statement (option_map statement_of first)) (option_map expression_of c) (optional_statement (option_map statement_of last)) (statement_of given)
is_for s first c last body given is given_is =
    of_kind s _ _ is (statement_form_of-For first c last body)
    ∙ ap (λ (u : Stmt). for_loop (place_at s) (optional_statement (option_map statement_of first)) (option_map expression_of c) (optional_statement (option_map statement_of last)) (statement_of u)) (sym given_is)

pub is_return : (s : Stmt) (e : Option Expr) → (out-Stmt s).kind ≡ kinds.Return e →
    statement_of s ≡ returns (place_at s) (option_map expression_of e)
is_return s e is = of_kind s _ _ is (statement_form_of-Return e)

pub is_break : (s : Stmt) → (out-Stmt s).kind ≡ kinds.Break → statement_of s ≡ breaks (place_at s)
is_break s is = of_kind s _ _ is statement_form_of-Break

pub is_continue : (s : Stmt) → (out-Stmt s).kind ≡ kinds.Continue → statement_of s ≡ continues (place_at s)
is_continue s is = of_kind s _ _ is statement_form_of-Continue

-- ---- what is said of a form is said of the statement

pub finished_steps : (w : WalkResult) (new : Walk) (r : Result TStmt Refusal) (r' : Result StatementStep Refusal) →
    IsWhole r r' → Finishes w new r → Steps w new r'
finished_steps w new (Ok t) (Ok step) whole holds = subst (λ (s : StatementStep). Leads w new s) (sym whole) holds
finished_steps w new (Ok t) (Err stop) whole holds = subst (λ (s : Refusal). Fails w.faults s) (sym whole) tt
finished_steps w new (Err stop) r' whole holds = subst (λ (u : Result StatementStep Refusal). Steps w new u) (sym whole) holds

pub nothing_left : (n : ℕ) (r : Result TStmt Refusal) (r' : Result StatementStep Refusal) → IsWhole r r' → 0 < n →
    IfOk r' (λ step. weight_of_step step < n)
nothing_left n (Ok t) (Ok step) whole some = subst (λ (s : StatementStep). weight_of_step s < n) (sym whole) some
nothing_left n (Ok t) (Err stop) whole some = tt
nothing_left n (Err stop) r' whole some = subst (λ (u : Result StatementStep Refusal). IfOk u (λ step. weight_of_step step < n)) (sym whole) tt

module _ (x : Given) (old new : Walk) (s y : Statement) (is : s ≡ y) where
  pub leads_as : (r : StatementStep) → Leads (outcome_at x old y) new r → Leads (outcome_at x old s) new r
  leads_as r holds = subst (λ (z : Statement). Leads (outcome_at x old z) new r) (sym is) holds

  pub steps_as : (r : Result StatementStep Refusal) → Steps (outcome_at x old y) new r → Steps (outcome_at x old s) new r
  steps_as r holds = subst (λ (z : Statement). Steps (outcome_at x old z) new r) (sym is) holds

  -- a statement without parts
  pub whole_as : (r : Result TStmt Refusal) (r' : Result StatementStep Refusal) → IsWhole r r' →
      Finishes (outcome_at x old y) new r → Steps (outcome_at x old s) new r'
  whole_as r r' whole holds = steps_as r' (finished_steps _ new r r' whole holds)

pub less_as : (s y : Statement) (r : Result StatementStep Refusal) → s ≡ y → IfOk r (λ step. weight_of_step step < weight y) →
    IfOk r (λ step. weight_of_step step < weight s)
less_as s y r is holds = subst (λ (z : Statement). IfOk r (λ step. weight_of_step step < weight z)) (sym is) holds

pub whole_less : (s y : Statement) (r : Result TStmt Refusal) (r' : Result StatementStep Refusal) → s ≡ y → IsWhole r r' →
    0 < weight y
    → IfOk r' (λ step. weight_of_step step < weight s)
whole_less s y r r' is whole some = less_as s y r' is (nothing_left (weight y) r r' whole some)
