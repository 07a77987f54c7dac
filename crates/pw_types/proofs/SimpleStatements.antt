-- What a statement without parts comes to.
use Rattle.std.proofs.Common.{◌≡◌, ℕ, max, Bool, true, false, List, [], ◌++◌, ◌||◌, not, Option, Some, None, refl, sym, ap, ◌∙◌}
use Rattle.std.proofs.Math.Nat.{max-zero}
use Rattle.std.proofs.lemmas.List.{append-nil}
use Rattle.pw_tree.specs.Expressions.{Span, Expression}
use Rattle.pw_tree.specs.TypedExpressions.{TypedExpression, typed_expression_of}
use Rattle.pw_tree.specs.Statements.{empty, evaluate, returns, breaks, continues}
use Rattle.pw_tree.specs.TypedStatements.{TypedStatement}
use Rattle.pw_tree.specs.TypedStatements as tree
use Rattle.pw_tree.specs.declared.ty.Ty.{Ty}
use Rattle.pw_tree.specs.declared.texpr.TExpr.{TExpr, out-TExpr}
use Rattle.pw_tree.specs.declared.tstmt.TStmt.TheVariants as kinds
use Rattle.pw_tree.proofs.CommandFolds.{command_of-Eval, command_of-Block, command_of-Return, command_of-Break, command_of-Continue}
use Rattle.pw_types.specs.declared.fault.Fault.{Fault}
use Rattle.pw_types.specs.declared.rule.Rule.TheVariants as rules
use Rattle.pw_types.specs.Faults.{broken}
use Rattle.pw_tree.specs.Types.{is_void, converts}
use Rattle.pw_types.specs.Expressions.{has_type}
use Rattle.pw_types.specs.declared.role.Role.TheVariants as roles
use Rattle.pw_types.specs.declared.statement_walk.Walk.{Walk}
use Rattle.pw_types.specs.declared.statement_step.Setting.{Setting as Given}
use Rattle.pw_tree.specs.Held.{held, held_by, held_by_all}
use Rattle.pw_types.specs.Steps.Uses.{uses, uses_by}
use Rattle.pw_types.specs.Statements.{returns_other}
use Rattle.pw_types.specs.Steps.StatementFaults.{faults_of_whole, faults_by}
use Rattle.pw_types.specs.TypedStatements.{typed_statement}
use Rattle.pw_types.specs.Steps.CheckingStatements.{WalkResult, judged, block_of, outcome_at, judged_at}
use Rattle.pw_types.specs.Steps.StatementValues.{Notes, IsJudgedValue}
use Rattle.pw_types.proofs.EnclosingStatements.{same, on_left, tree_is}
use Rattle.pw_types.proofs.TreeTypes.{type_is}

-- after expressions
pub noted : (c : TypedStatement) (uses : List ℕ) (most : ℕ) (old new : Walk) → Notes uses most old new
    → judged c (block_of old) (old.used.items ++ uses) (max old.held most) ≡ judged_at c new
noted c uses most old new notes =
    same refl refl (sym notes.used) (sym notes.held)
    (let a = notes.scope in let b = notes.start in let d = notes.count in cc)

-- after no expression
pub unnoted : (c : TypedStatement) (old : Walk) →
    judged c (block_of old) (old.used.items ++ []) (max old.held 0) ≡ judged_at c old
unnoted c old = same refl refl (append-nil old.used.items) (max-zero old.held) refl

both_none : {xs ys : List Fault} → xs ≡ [] → ys ≡ [] → xs ++ ys ≡ []
both_none {ys} first second = on_left first ∙ second

pub evaluates : (x : Given) (old new : Walk) (at : Span) (e : Expression) (t : TExpr)
    → faults_of_whole old.scope roles.Statement e ≡ [] → IsJudgedValue e old new t
    → outcome_at x old (evaluate at e) ≡ judged_at (tree.typed_statement_of (kinds.Eval t)) new
unfolding faults_by typed_statement uses_by held_by
evaluates x old new at e t none value =
    let is = tree_is old.scope e (typed_expression_of t) value.tree in
    same none (ap (λ (v : TypedExpression). tree.evaluate v) is) refl (ap (λ (v : TypedExpression). max old.held (held v)) is) refl
    ∙ (noted (tree.evaluate (typed_expression_of t)) _ _ old new value.notes ∙ ap (λ (c : TypedStatement). judged_at c new) (sym (command_of-Eval t)))

pub empty_is : (x : Given) (old : Walk) (at : Span) →
    outcome_at x old (empty at) ≡ judged_at (tree.typed_statement_of (kinds.Block [])) old
unfolding faults_by typed_statement uses_by held_by held_by_all
empty_is x old at = unnoted (tree.block tree.nil) old ∙ ap (λ (c : TypedStatement). judged_at c old) (sym (command_of-Block []))

pub breaks_is : (x : Given) (old : Walk) (at : Span) → x.in_loop ≡ true →
    outcome_at x old (breaks at) ≡ judged_at (tree.typed_statement_of kinds.Break) old
unfolding faults_by typed_statement uses_by held_by
breaks_is x old at inside =
    ap (λ (b : Bool). let w : WalkResult = record (judged tree.breaks (block_of old) (old.used.items ++ []) (max old.held 0)) { faults = broken rules.OutsideLoop at.last (not b) } in w) inside
    ∙ (unnoted tree.breaks old ∙ ap (λ (c : TypedStatement). judged_at c old) (sym command_of-Break))

pub continues_is : (x : Given) (old : Walk) (at : Span) → x.in_loop ≡ true →
    outcome_at x old (continues at) ≡ judged_at (tree.typed_statement_of kinds.Continue) old
unfolding faults_by typed_statement uses_by held_by
continues_is x old at inside =
    ap (λ (b : Bool). let w : WalkResult = record (judged tree.continues (block_of old) (old.used.items ++ []) (max old.held 0)) { faults = broken rules.OutsideLoop at.last (not b) } in w) inside
    ∙ (unnoted tree.continues old ∙ ap (λ (c : TypedStatement). judged_at c old) (sym command_of-Continue))

pub returns_none : (x : Given) (old : Walk) (at : Span) → is_void x.result ≡ true →
    outcome_at x old (returns at None) ≡ judged_at (tree.typed_statement_of (kinds.Return None)) old
unfolding faults_by typed_statement uses_by held_by
returns_none x old at void =
    ap (λ (b : Bool). let w : WalkResult = record (judged (tree.returns None) (block_of old) (old.used.items ++ []) (max old.held 0)) { faults = broken rules.ReturnType at.last (not b) } in w) void
    ∙ (unnoted (tree.returns None) old ∙ ap (λ (c : TypedStatement). judged_at c old) (sym (command_of-Return None)))

-- whether a value is returned at another type
other_result : (result : Ty) (old new : Walk) (e : Expression) (t : TExpr) → IsJudgedValue e old new t
    → returns_other result old.scope (Some e) ≡ is_void result || not (converts (out-TExpr t).ty result)
other_result result old new e t value =
    ap (λ (o : Option TypedExpression). has_type (λ ty. is_void result || not (converts ty result)) o) value.tree
    ∙ ap (λ (ty : Ty). is_void result || not (converts ty result)) (type_is t)

pub returns_value : (x : Given) (old new : Walk) (at : Span) (e : Expression) (t : TExpr)
    → faults_of_whole old.scope roles.Value e ≡ [] → IsJudgedValue e old new t → is_void x.result ≡ false → converts (out-TExpr t).ty x.result ≡ true
    → outcome_at x old (returns at (Some e)) ≡ judged_at (tree.typed_statement_of (kinds.Return (Some t))) new
unfolding faults_by typed_statement uses_by held_by
returns_value x old new at e t none value not_void fits =
    let is = tree_is old.scope e (typed_expression_of t) value.tree in
    let no_other : returns_other x.result old.scope (Some e) ≡ false =
    other_result x.result old new e t value
    ∙ (ap (λ (v : Bool). v || not (converts (out-TExpr t).ty x.result)) not_void ∙ ap not fits) in
    same (both_none none (ap (broken rules.ReturnType at.last) no_other))
    (ap (λ (v : TypedExpression). tree.returns (Some v)) is) refl (ap (λ (v : TypedExpression). max old.held (held v)) is) refl
    ∙ (noted (tree.returns (Some (typed_expression_of t))) _ _ old new value.notes ∙ ap (λ (c : TypedStatement). judged_at c new) (sym (command_of-Return (Some t))))
