-- After its last part a statement is judged; after another it waits for the next.
use Rattle.std.proofs.Common.{◌≡◌, ℕ, ◌<◌, false, IfOk, List, [], ◌∷◌, ◌++◌, map, Option, Some, None, Result, Err, refl, sym, ap, ◌∙◌, subst}
use Rattle.std.proofs.lemmas.List.{map-append}
use Rattle.pw_tree.specs.Expressions.{Expression}
use Rattle.pw_tree.specs.TypedExpressions.{typed_expression_of}
use Rattle.pw_tree.specs.Statements.{Statements, OptionalStatement, nil, cons, absent, present, statement_of, statements_of}
use Rattle.pw_tree.specs.TypedStatements.{TypedStatement}
use Rattle.pw_tree.specs.TypedStatements as tree
use Rattle.pw_tree.specs.declared.stmt.Stmt.{Stmt}
use Rattle.pw_tree.specs.declared.texpr.TExpr.{TExpr}
use Rattle.pw_tree.specs.declared.tstmt.TStmt.{TStmt}
use Rattle.pw_tree.specs.declared.tstmt.TStmt.TheVariants as kinds
use Rattle.pw_tree.proofs.CommandFolds.{command_of-Block, command_of-If, command_of-While, command_of-Do, command_of-For}
use Rattle.pw_types.specs.declared.fault.Refusal.{Refusal}
use Rattle.pw_types.specs.declared.role.Role.TheVariants as roles
use Rattle.pw_types.specs.declared.statement_walk.Walk.{Walk}
use Rattle.pw_types.specs.declared.statement_step.Setting.{Setting as Given}
use Rattle.pw_types.specs.declared.statement_step.Outer.{Outer}
use Rattle.pw_types.specs.declared.statement_step.StatementForm.{StatementForm}
use Rattle.pw_types.specs.declared.statement_step.StatementForm.TheVariants as forms
use Rattle.pw_types.specs.declared.statement_step.StatementFrame.{StatementFrame}
use Rattle.pw_types.specs.declared.statement_step.StatementStep.{StatementStep}
use Rattle.pw_types.specs.Steps.StatementWeights.{weight_of_form, weight_of_step}
use Rattle.pw_types.specs.Blocks.{Block}
use Rattle.pw_types.specs.Steps.StatementFaults.{faults_of_whole}
use Rattle.pw_types.specs.Steps.CheckingStatements.{WalkResult, judged, block_of, outcome_at, judged_at, setting_of, resumed_at, leave, block_at, rest_of_block, rest_of_if, rest_of_do, Leaves, Finishes, Steps, resumed, IsWhole}
use Rattle.pw_types.specs.Steps.StatementValues.{IsJudgedValue, JudgesValue}
use Rattle.pw_types.proofs.EnclosingStatements.{same, tree_is, block_ends, block_goes_on, if_ends, if_goes_on, do_ends}
use Rattle.pw_types.proofs.Failing.{fails_as}
use Rattle.pw_types.proofs.SimpleStatements.{noted}
use Rattle.pw_types.proofs.EnteringStatements.{value_fails}
use Rattle.pw_types.proofs.StatementForms.{finished_steps, nothing_left}
use Rattle.pw_types.specs.Steps.Refusals.{Fails}

-- out of the statement, whose typed statement this is
pub left_as : (o : Outer) (c d : TypedStatement) (old new : Walk) → c ≡ d → Leaves o old new
    → judged c (leave o.start o.visible (block_of old)) old.used.items old.held ≡ judged_at d new
left_as o c d old new is left = same refl is (sym left.used) (sym left.held) (sym left.block)

-- ---- blocks

mapped : (done all : List TStmt) (t : TStmt) → all ≡ done ++ t ∷ [] →
    map tree.typed_statement_of done ++ tree.typed_statement_of t ∷ [] ≡ map tree.typed_statement_of all
mapped done all t is = sym (map-append tree.typed_statement_of done (t ∷ [])) ∙ ap (map tree.typed_statement_of) (sym is)

pub block_is_done : (o : Outer) (old new : Walk) (done all : List TStmt) (t : TStmt) (rest : List Stmt)
    → statements_of rest ≡ nil → all ≡ done ++ t ∷ [] → Leaves o old new
    → block_at done rest o (judged_at (tree.typed_statement_of t) old) ≡ judged_at (tree.typed_statement_of (kinds.Block all)) new
block_is_done o old new done all t rest none all_is left =
    ap (λ (ss : Statements). rest_of_block (setting_of o.setting) (leave o.start o.visible) (map tree.typed_statement_of done) ss (judged_at (tree.typed_statement_of t) old)) none
    ∙ (block_ends (setting_of o.setting) (leave o.start o.visible) (map tree.typed_statement_of done) (tree.typed_statement_of t) (block_of old) old.used.items old.held
    ∙ left_as o _ _ old new
    (ap (λ (cs : List TypedStatement). tree.block (tree.typed_statements cs)) (mapped done all t all_is) ∙ sym (command_of-Block all)) left)

pub block_waits : (o : Outer) (x' : Given) (old : Walk) (done all : List TStmt) (t : TStmt) (rest more : List Stmt) (s : Stmt)
    → statements_of rest ≡ cons (statement_of s) (statements_of more) → all ≡ done ++ t ∷ [] → x' ≡ record o.setting { in_head = false }
    → block_at done rest o (judged_at (tree.typed_statement_of t) old) ≡ block_at all more o (outcome_at x' old (statement_of s))
block_waits o x' old done all t rest more s rest_is all_is x_is =
    ap (λ (ss : Statements). rest_of_block (setting_of o.setting) (leave o.start o.visible) (map tree.typed_statement_of done) ss (judged_at (tree.typed_statement_of t) old)) rest_is
    ∙ (block_goes_on (setting_of o.setting) (leave o.start o.visible) (map tree.typed_statement_of done) (statement_of s) (statements_of more) (tree.typed_statement_of t)
    (block_of old) old.used.items old.held
    ∙ (ap (λ (cs : List TypedStatement). rest_of_block (setting_of o.setting) (leave o.start o.visible) cs (statements_of more) (outcome_at (record o.setting { in_head = false }) old (statement_of s)))
    (mapped done all t all_is)
    ∙ ap (λ (z : Given). block_at all more o (outcome_at z old (statement_of s))) (sym x_is)))

-- ---- `if`

pub if_is_done : (o : Outer) (old new : Walk) (c : TExpr) (a : TStmt) (d : OptionalStatement) → d ≡ absent → Leaves o old new
    → rest_of_if (setting_of o.setting) (leave o.start o.visible) (typed_expression_of c) d (judged_at (tree.typed_statement_of a) old)
    ≡ judged_at (tree.typed_statement_of (kinds.If c a None)) new
if_is_done o old new c a d none left =
    ap (λ (m : OptionalStatement). rest_of_if (setting_of o.setting) (leave o.start o.visible) (typed_expression_of c) m (judged_at (tree.typed_statement_of a) old)) none
    ∙ (if_ends (setting_of o.setting) (leave o.start o.visible) (typed_expression_of c) (tree.typed_statement_of a) (block_of old) old.used.items old.held
    ∙ left_as o _ _ old new (sym (command_of-If c a None)) left)

pub if_waits : (o : Outer) (x' : Given) (old : Walk) (c : TExpr) (a : TStmt) (d : OptionalStatement) (s : Stmt)
    → d ≡ present (statement_of s) → x' ≡ record o.setting { in_head = false }
    → rest_of_if (setting_of o.setting) (leave o.start o.visible) (typed_expression_of c) d (judged_at (tree.typed_statement_of a) old)
    ≡ resumed_at o (forms.Else c a) (outcome_at x' old (statement_of s))
if_waits o x' old c a d s d_is x_is =
    ap (λ (m : OptionalStatement). rest_of_if (setting_of o.setting) (leave o.start o.visible) (typed_expression_of c) m (judged_at (tree.typed_statement_of a) old)) d_is
    ∙ (if_goes_on (setting_of o.setting) (leave o.start o.visible) (typed_expression_of c) (statement_of s) (tree.typed_statement_of a) (block_of old) old.used.items old.held
    ∙ ap (λ (z : Given). resumed_at o (forms.Else c a) (outcome_at z old (statement_of s))) (sym x_is))

pub else_is_done : (o : Outer) (old new : Walk) (c : TExpr) (a b : TStmt) → Leaves o old new
    → resumed_at o (forms.Else c a) (judged_at (tree.typed_statement_of b) old) ≡ judged_at (tree.typed_statement_of (kinds.If c a (Some b))) new
else_is_done o old new c a b left = left_as o _ _ old new (sym (command_of-If c a (Some b))) left

-- ---- loops

pub while_is_done : (o : Outer) (old new : Walk) (c : TExpr) (s : TStmt) → Leaves o old new
    → resumed_at o (forms.While c) (judged_at (tree.typed_statement_of s) old) ≡ judged_at (tree.typed_statement_of (kinds.While c s)) new
while_is_done o old new c s left = left_as o _ _ old new (sym (command_of-While c s)) left

pub do_is_done : (o : Outer) (old mid new : Walk) (c : Expression) (s : TStmt) (t : TExpr) → Leaves o old mid
    → faults_of_whole mid.scope roles.Value c ≡ [] → IsJudgedValue c mid new t
    → rest_of_do (leave o.start o.visible) c (judged_at (tree.typed_statement_of s) old) ≡ judged_at (tree.typed_statement_of (kinds.Do s t)) new
do_is_done o old mid new c s t left none value =
    ap (λ (b : Block). of_block b old.used.items old.held) (sym left.block)
    ∙ (ap (λ (u : List ℕ). of_block (block_of mid) u old.held) (sym left.used)
    ∙ (ap (λ (h : ℕ). of_block (block_of mid) mid.used.items h) (sym left.held)
    ∙ (do_ends (λ b. b) c (tree.typed_statement_of s) (block_of mid) mid.used.items mid.held (typed_expression_of t) none (tree_is mid.scope c (typed_expression_of t) value.tree)
    ∙ (noted _ _ _ mid new value.notes ∙ ap (λ (d : TypedStatement). judged_at d new) (sym (command_of-Do s t))))))
  where
    of_block : Block → List ℕ → ℕ → WalkResult
    of_block b u h = rest_of_do (λ b'. b') c (judged (tree.typed_statement_of s) b u h)

pub do_fails : (o : Outer) (old mid new : Walk) (c : Expression) (s : TypedStatement) (stop : Refusal) → Leaves o old mid →
    JudgesValue roles.Value c mid new (Err stop)
    → let w : WalkResult = rest_of_do (leave o.start o.visible) c (judged_at s old) in Fails w.faults stop
do_fails o old mid new c s stop left is =
    fails_as _ _ stop (ap (λ (b : Block). faults_of_whole b.scope roles.Value c) left.block) (value_fails roles.Value c mid new stop is)

pub for_is_done : (o : Outer) (old new : Walk) (first : Option TStmt) (c : Option TExpr) (last : Option TStmt) (s : TStmt) →
    Leaves o old new
    → resumed_at o (forms.For first c last) (judged_at (tree.typed_statement_of s) old) ≡ judged_at (tree.typed_statement_of (kinds.For first c last s)) new
for_is_done o old new first c last s left = left_as o _ _ old new (sym (command_of-For first c last s)) left

-- ---- what is said of a form is said of the frame

module _ (f : StatementFrame) (form : StatementForm) (is : f.form ≡ form) where
  pub resumed_as : (w : WalkResult) (new : Walk) (r : Result StatementStep Refusal) → Steps (resumed_at f.outer form w) new r →
      Steps (resumed f w) new r
  resumed_as w new r holds = subst (λ (g : StatementForm). Steps (resumed_at f.outer g w) new r) (sym is) holds

  pub less_resumed : (r : Result StatementStep Refusal) → IfOk r (λ step. weight_of_step step < weight_of_form form) →
      IfOk r (λ step. weight_of_step step < weight_of_form f.form)
  less_resumed r holds = subst (λ (g : StatementForm). IfOk r (λ step. weight_of_step step < weight_of_form g)) (sym is) holds

  -- a statement that is judged after this part
  pub resumed_whole : (w : WalkResult) (new : Walk) (r : Result TStmt Refusal) (r' : Result StatementStep Refusal) →
      IsWhole r r' → Finishes (resumed_at f.outer form w) new r
      → Steps (resumed f w) new r'
  resumed_whole w new r r' whole holds = resumed_as w new r' (finished_steps _ new r r' whole holds)

  pub less_whole : (r : Result TStmt Refusal) (r' : Result StatementStep Refusal) → IsWhole r r' → 0 < weight_of_form form
      → IfOk r' (λ step. weight_of_step step < weight_of_form f.form)
  less_whole r r' whole some = less_resumed r' (nothing_left (weight_of_form form) r r' whole some)
