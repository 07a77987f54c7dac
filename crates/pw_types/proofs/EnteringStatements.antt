-- A statement that holds others is what its first part leads to.
use Rattle.std.proofs.Common.{◌≡◌, ℕ, true, false, ◌-◌, ◌<◌, ◌≤◌, max, List, [], ◌∷◌, ◌++◌, length, take, drop, get_or, Option, Some, None, option_map, Err, refl, sym, ap, ◌∙◌, arith}
use Rattle.std.specs.Borrow.{Bor}
use Rattle.std.proofs.lemmas.Grind.{common_steps}
use Rattle.pw_tree.specs.Expressions.{Span, Expression, expression_of}
use Rattle.pw_tree.specs.TypedExpressions.{typed_expression_of}
use Rattle.pw_tree.specs.Statements.{Statement, Statements, OptionalStatement, block, if_else, while_loop, do_loop, for_loop, nil, cons, absent, present, optional_statement, statement_of, statements_of}
use Rattle.pw_tree.specs.TypedStatements.{TypedStatement}
use Rattle.pw_tree.specs.TypedStatements as tree
use Rattle.pw_tree.specs.declared.expr.Expr.{Expr}
use Rattle.pw_tree.specs.declared.stmt.Stmt.{Stmt}
use Rattle.pw_tree.specs.declared.texpr.TExpr.{TExpr}
use Rattle.pw_tree.specs.declared.tstmt.TStmt.{TStmt}
use Rattle.pw_tree.specs.declared.tstmt.TStmt.TheVariants as kinds
use Rattle.pw_tree.proofs.CommandFolds.{command_of-Block}
use Rattle.pw_types.specs.declared.fault.Refusal.{Refusal}
use Rattle.pw_types.specs.declared.role.Role.{Role}
use Rattle.pw_types.specs.declared.role.Role.TheVariants as roles
use Rattle.pw_types.specs.declared.statement_walk.Walk.{Walk}
use Rattle.pw_types.specs.declared.statement_step.Setting.{Setting as Given}
use Rattle.pw_types.specs.declared.statement_step.Outer.{Outer}
use Rattle.pw_types.specs.declared.statement_step.StatementForm.{StatementForm}
use Rattle.pw_types.specs.declared.statement_step.StatementForm.TheVariants as forms
use Rattle.pw_types.specs.Blocks.{Setting, body, head, Block}
use Rattle.pw_types.specs.Steps.StatementFaults.{faults_of_whole, faults_of_option, faults_by}
use Rattle.pw_types.specs.Steps.CheckingStatements.{WalkResult, outcome, block_of, outer_at, outcome_at, judged_at, setting_of, resumed_at, leave, after_first_at, typed_maybe, block_at}
use Rattle.pw_types.specs.Steps.StatementValues.{Notes, IsJudgedValue, IsMaybeValue, JudgesValue, JudgesMaybeValue}
use Rattle.pw_types.proofs.EnclosingStatements.{tree_is, block_begins, block_of_none, if_begins, while_begins, do_begins, for_begins, for_begins_bare, for_goes_on, for_has_no_last}
use Rattle.pw_types.proofs.Failing.{fails_of, fails_on_left}
use Rattle.pw_types.specs.Steps.Refusals.{Fails}

-- ---- values

pub value_fails : (role : Role) (e : Expression) (old new : Walk) (stop : Refusal) → JudgesValue role e old new (Err stop)
    → Fails (faults_of_whole old.scope role e) stop
value_fails role e old new stop is = fails_of {A = TExpr} (faults_of_whole old.scope role e) (IsJudgedValue e old new) stop is

pub maybe_value_fails : (role : Role) (e : Option Expression) (old new : Walk) (stop : Refusal) →
    JudgesMaybeValue role e old new (Err stop)
    → Fails (faults_of_option old.scope role e) stop
maybe_value_fails role e old new stop is = fails_of {A = Option TExpr} (faults_of_option old.scope role e) (IsMaybeValue e old new) stop is

-- ---- the part that is entered

noted_block : (us : List ℕ) (k : ℕ) (old new : Walk) → Notes us k old new → block_of old ≡ block_of new
noted_block us k old new notes = let a = notes.scope in let b = notes.start in let d = notes.count in cc

-- after a condition
pub noted_part : (y : Setting) (us : List ℕ) (k : ℕ) (old new : Walk) (s : Statement) → Notes us k old new
    → outcome y (block_of old) (old.used.items ++ us) (max old.held k) s ≡ outcome y (block_of new) new.used.items new.held s
noted_part y us k old new s notes =
    ap (λ (b : Block). outcome y b (old.used.items ++ us) (max old.held k) s) (noted_block us k old new notes)
    ∙ (ap (λ (u : List ℕ). outcome y (block_of new) u (max old.held k) s) (sym notes.used)
    ∙ ap (λ (h : ℕ). outcome y (block_of new) new.used.items h s) (sym notes.held))

noted_outer : (x : Given) (us : List ℕ) (k : ℕ) (old new : Walk) → Notes us k old new → outer_at x old ≡ outer_at x new
noted_outer x us k old new notes = ap (outer_of x) (noted_block us k old new notes)
  where
    outer_of : Given → Block → Outer
    outer_of y b = record { setting = y; start = b.start; visible = length b.scope.locals }

pub entered : (form : StatementForm) (o : Outer) (x x' y : Given) (us : List ℕ) (k : ℕ) (old new : Walk) (s : Statement)
    → Notes us k old new → o ≡ outer_at x new → x' ≡ y
    → resumed_at (outer_at x old) form (outcome (setting_of y) (block_of old) (old.used.items ++ us) (max old.held k) s)
    ≡ resumed_at o form (outcome_at x' new s)
entered form o x x' y us k old new s notes o_is x_is =
    ap (resumed_at (outer_at x old) form) (noted_part (setting_of y) us k old new s notes)
    ∙ (ap (λ (p : Outer). resumed_at p form (outcome_at y new s)) (noted_outer x us k old new notes ∙ sym o_is)
    ∙ ap (λ (z : Given). resumed_at o form (outcome_at z new s)) (sym x_is))

pub enters_if : (x x' : Given) (o : Outer) (old new : Walk) (at : Span) (c : Expression) (a : Stmt) (d : Bor (Option Stmt)) (t : TExpr)
    → faults_of_whole old.scope roles.Value c ≡ [] → IsJudgedValue c old new t → o ≡ outer_at x new → x' ≡ record x { in_head = false }
    → outcome_at x old (if_else at c (statement_of a) (optional_statement (option_map statement_of d.now)))
    ≡ resumed_at o (forms.Then t d) (outcome_at x' new (statement_of a))
enters_if x x' o old new at c a d t none value o_is x_is =
    if_begins (setting_of x) (block_of old) old.used.items old.held at c (statement_of a) _ (typed_expression_of t) none (tree_is old.scope c (typed_expression_of t) value.tree)
    ∙ entered (forms.Then t d) o x x' (record x { in_head = false }) _ _ old new (statement_of a) value.notes o_is x_is

pub enters_while : (x x' : Given) (o : Outer) (old new : Walk) (at : Span) (c : Expression) (s : Stmt) (t : TExpr)
    → faults_of_whole old.scope roles.Value c ≡ [] → IsJudgedValue c old new t → o ≡ outer_at x new → x' ≡ record x { in_loop = true; in_head = false }
    → outcome_at x old (while_loop at c (statement_of s)) ≡ resumed_at o (forms.While t) (outcome_at x' new (statement_of s))
enters_while x x' o old new at c s t none value o_is x_is =
    while_begins (setting_of x) (block_of old) old.used.items old.held at c (statement_of s) (typed_expression_of t) none (tree_is old.scope c (typed_expression_of t) value.tree)
    ∙ entered (forms.While t) o x x' (record x { in_loop = true; in_head = false }) _ _ old new (statement_of s) value.notes o_is x_is

pub if_fails :
    (x : Given) (old new : Walk) (at : Span) (c : Expression) (a : Statement) (d : OptionalStatement) (stop : Refusal) →
    JudgesValue roles.Value c old new (Err stop)
    → Fails (faults_by (setting_of x) (block_of old) (if_else at c a d)) stop
unfolding faults_by
if_fails x old new at c a d stop is = fails_on_left _ _ stop (value_fails roles.Value c old new stop is)

pub while_fails : (x : Given) (old new : Walk) (at : Span) (c : Expression) (s : Statement) (stop : Refusal) →
    JudgesValue roles.Value c old new (Err stop)
    → Fails (faults_by (setting_of x) (block_of old) (while_loop at c s)) stop
unfolding faults_by
while_fails x old new at c s stop is = fails_on_left _ _ stop (value_fails roles.Value c old new stop is)

-- a part that is entered at once
entered_at_once : (form : StatementForm) (o : Outer) (x x' y : Given) (old new : Walk) (s : Statement) → o ≡ outer_at x old →
    x' ≡ y
    → resumed_at (outer_at x old) form (outcome_at y new s) ≡ resumed_at o form (outcome_at x' new s)
entered_at_once form o x x' y old new s o_is x_is =
    ap (λ (p : Outer). resumed_at p form (outcome_at y new s)) (sym o_is)
    ∙ ap (λ (z : Given). resumed_at o form (outcome_at z new s)) (sym x_is)

pub enters_do : (x x' : Given) (o : Outer) (old : Walk) (at : Span) (c : Bor Expr) (s : Stmt)
    → o ≡ outer_at x old → x' ≡ record x { in_loop = true; in_head = false }
    → outcome_at x old (do_loop at (statement_of s) (expression_of c.now)) ≡ resumed_at o (forms.Do c) (outcome_at x' old (statement_of s))
enters_do x x' o old at c s o_is x_is =
    do_begins (setting_of x) (block_of old) old.used.items old.held at (expression_of c.now) (statement_of s)
    ∙ entered_at_once (forms.Do c) o x x' (record x { in_loop = true; in_head = false }) old old (statement_of s) o_is x_is

-- ---- blocks

first_and_rest : {A : Type 0} (xs : List A) (x : A) → 1 ≤ length xs → x ≡ get_or xs 0 x →
    xs ≡ x ∷ take (length xs - 1) (drop 1 xs)
first_and_rest [] x some is = absurd (omega arith)
first_and_rest (y ∷ ys) x some is = grind (arith, common_steps)

pub parted : (xs : List Stmt) (x : Stmt) → 1 ≤ length xs → x ≡ get_or xs 0 x
    → statements_of xs ≡ cons (statement_of x) (statements_of (take (length xs - 1) (drop 1 xs)))
parted xs x some is = ap statements_of (first_and_rest xs x some is)

pub none_left : (xs : List Stmt) → length xs < 1 → statements_of xs ≡ nil
none_left [] few = refl
none_left (x ∷ xs) few = absurd (omega arith)

pub enters_block : (x x' : Given) (o : Outer) (old : Walk) (at : Span) (ss : Statements) (s : Stmt) (rest : List Stmt) (done : List TStmt)
    → ss ≡ cons (statement_of s) (statements_of rest) → done ≡ [] → o ≡ outer_at x old → x' ≡ record x { in_head = false }
    → outcome_at x old (block at ss) ≡ block_at done rest o (outcome_at x' (record old { start = o.visible }) (statement_of s))
enters_block x x' o old at ss s rest done ss_is done_is o_is x_is =
    ap (λ (ts : Statements). outcome_at x old (block at ts)) ss_is
    ∙ (block_begins (setting_of x) (block_of old) old.used.items old.held at (statement_of s) (statements_of rest)
    ∙ (ap (λ (n : ℕ). block_at [] rest (outer_at x old) (outcome_at (record x { in_head = false }) (record old { start = n }) (statement_of s)))
    (sym (ap (λ (p : Outer). p.visible) o_is))
    ∙ (ap (λ (p : Outer). block_at [] rest p (outcome_at (record x { in_head = false }) (record old { start = o.visible }) (statement_of s))) (sym o_is)
    ∙ (ap (λ (z : Given). block_at [] rest o (outcome_at z (record old { start = o.visible }) (statement_of s))) (sym x_is)
    ∙ ap (λ (ts : List TStmt). block_at ts rest o (outcome_at x' (record old { start = o.visible }) (statement_of s))) (sym done_is)))))

pub enters_no_block : (x : Given) (old : Walk) (at : Span) (ss : Statements) (done : List TStmt) → ss ≡ nil → done ≡ []
    → outcome_at x old (block at ss) ≡ judged_at (tree.typed_statement_of (kinds.Block done)) old
enters_no_block x old at ss done ss_is done_is =
    ap (λ (ts : Statements). outcome_at x old (block at ts)) ss_is
    ∙ (block_of_none (setting_of x) (block_of old) old.used.items old.held at
    ∙ ap (λ (c : TypedStatement). judged_at c old) (sym (command_of-Block []) ∙ ap (λ (ts : List TStmt). tree.typed_statement_of (kinds.Block ts)) (sym done_is)))

-- ---- `for`

-- the statement that an optional one is
pub is_present : (m : Option Stmt) (s t : Stmt) → m ≡ Some s → t ≡ s →
    optional_statement (option_map statement_of m) ≡ present (statement_of t)
is_present m s t m_is t_is = ap (λ (o : Option Stmt). optional_statement (option_map statement_of o)) m_is ∙ ap (λ (u : Stmt). present (statement_of u)) (sym t_is)

pub is_absent : (m : Option Stmt) → m ≡ None → optional_statement (option_map statement_of m) ≡ absent
is_absent m m_is = ap (λ (o : Option Stmt). optional_statement (option_map statement_of o)) m_is

pub enters_for : (x x' : Given) (o : Outer) (old : Walk) (at : Span) (m : OptionalStatement) (first : Stmt)
    (c : Bor (Option Expr)) (last : Bor (Option Stmt)) (s : Bor Stmt)
    → m ≡ present (statement_of first) → o ≡ outer_at x old → x' ≡ record x { in_head = true }
    → outcome_at x old (for_loop at m (option_map expression_of c.now) (optional_statement (option_map statement_of last.now)) (statement_of s.now))
    ≡ resumed_at o (forms.First c last s) (outcome_at x' (record old { start = o.visible }) (statement_of first))
enters_for x x' o old at m first c last s m_is o_is x_is =
    ap (λ (l : OptionalStatement). outcome_at x old (for_loop at l (option_map expression_of c.now) (optional_statement (option_map statement_of last.now)) (statement_of s.now))) m_is
    ∙ (for_begins (setting_of x) (block_of old) old.used.items old.held at (statement_of first) _ _ (statement_of s.now)
    ∙ (ap (λ (n : ℕ). resumed_at (outer_at x old) (forms.First c last s) (outcome_at (record x { in_head = true }) (record old { start = n }) (statement_of first)))
    (sym (ap (λ (p : Outer). p.visible) o_is))
    ∙ entered_at_once (forms.First c last s) o x x' (record x { in_head = true }) old (record old { start = o.visible }) (statement_of first) o_is x_is))

pub enters_bare_for :
    (x : Given) (o : Outer) (old : Walk) (at : Span) (m : OptionalStatement) (c : Option Expression) (last : OptionalStatement) (s : Statement) →
    m ≡ absent → o ≡ outer_at x old
    → outcome_at x old (for_loop at m c last s) ≡ after_first_at o tree.absent c last s (record old { start = o.visible })
enters_bare_for x o old at m c last s m_is o_is =
    ap (λ (l : OptionalStatement). outcome_at x old (for_loop at l c last s)) m_is
    ∙ (for_begins_bare (setting_of x) (block_of old) old.used.items old.held at c last s (tree.block tree.nil)
    ∙ ap (λ (p : Outer). after_first_at p tree.absent c last s (record old { start = p.visible })) (sym o_is))

pub goes_to_last : (o : Outer) (x' : Given) (old new : Walk) (first : Option TStmt) (c : Option Expression)
    (m : OptionalStatement) (last : Stmt) (s : Bor Stmt) (t : Option TExpr)
    → m ≡ present (statement_of last) → faults_of_option old.scope roles.Value c ≡ [] → IsMaybeValue c old new t → x' ≡ record o.setting { in_head = true }
    → after_first_at o (typed_maybe first) c m (statement_of s.now) old
    ≡ resumed_at o (forms.Last first t s) (outcome_at x' new (statement_of last))
goes_to_last o x' old new first c m last s t m_is none value x_is =
    ap (λ (l : OptionalStatement). after_first_at o (typed_maybe first) c l (statement_of s.now) old) m_is
    ∙ (for_goes_on (setting_of o.setting) (leave o.start o.visible) (typed_maybe first) c (statement_of last) (statement_of s.now) (tree.block tree.nil)
    (block_of old) old.used.items old.held (option_map typed_expression_of t) none value.tree
    ∙ (ap (resumed_at o (forms.Last first t s)) (noted_part (head (setting_of o.setting)) _ _ old new (statement_of last) value.notes)
    ∙ ap (λ (z : Given). resumed_at o (forms.Last first t s) (outcome_at z new (statement_of last))) (sym x_is)))

pub goes_to_body : (o : Outer) (x' : Given) (old new : Walk) (first : Option TStmt) (c : Option Expression)
    (m : OptionalStatement) (s : Stmt) (t : Option TExpr)
    → m ≡ absent → faults_of_option old.scope roles.Value c ≡ [] → IsMaybeValue c old new t → x' ≡ record o.setting { in_loop = true; in_head = false }
    → after_first_at o (typed_maybe first) c m (statement_of s) old
    ≡ resumed_at o (forms.For first t None) (outcome_at x' new (statement_of s))
goes_to_body o x' old new first c m s t m_is none value x_is =
    ap (λ (l : OptionalStatement). after_first_at o (typed_maybe first) c l (statement_of s) old) m_is
    ∙ (for_has_no_last (setting_of o.setting) (leave o.start o.visible) (typed_maybe first) c (statement_of s) (tree.block tree.nil)
    (block_of old) old.used.items old.held (option_map typed_expression_of t) none value.tree
    ∙ (ap (resumed_at o (forms.For first t None)) (noted_part (body (setting_of o.setting)) _ _ old new (statement_of s) value.notes)
    ∙ ap (λ (z : Given). resumed_at o (forms.For first t None) (outcome_at z new (statement_of s))) (sym x_is)))

pub for_fails :
    (o : Outer) (old new : Walk) (first : tree.OptionalTypedStatement) (c : Option Expression) (last : OptionalStatement) (s : Statement) (stop : Refusal) →
    JudgesMaybeValue roles.Value c old new (Err stop)
    → let w : WalkResult = after_first_at o first c last s old in Fails w.faults stop
for_fails o old new first c last s stop is = fails_on_left _ _ stop (maybe_value_fails roles.Value c old new stop is)
