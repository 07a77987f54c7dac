-- What a local's declaration comes to.
use Rattle.std.proofs.Common.{◌≡◌, ℕ, suc, max, List, [], Option, Some, option_map, sym, ap, ◌∙◌}
use Rattle.pw_tree.specs.Expressions.{Span, Expression}
use Rattle.pw_tree.specs.TypedExpressions.{TypedExpression}
use Rattle.pw_tree.specs.Statements.{local}
use Rattle.pw_tree.specs.Placed.{local_name_at}
use Rattle.pw_tree.specs.TypedStatements as tree
use Rattle.pw_tree.specs.declared.ty.Ty.{Ty}
use Rattle.pw_tree.specs.declared.texpr.TExpr.{TExpr}
use Rattle.pw_tree.specs.declared.tstmt.TStmt.TheVariants as kinds
use Rattle.pw_tree.proofs.CommandFolds.{command_of-SetLocal}
use Rattle.pw_types.specs.declared.role.Role.TheVariants as roles
use Rattle.pw_types.specs.declared.statement_walk.Walk.{Walk}
use Rattle.pw_types.specs.declared.statement_step.Setting.{Setting as Given}
use Rattle.pw_tree.specs.Held.{held_option, held_by}
use Rattle.pw_types.specs.Blocks.{with_local, declaring}
use Rattle.pw_types.specs.Steps.Uses.{uses_by}
use Rattle.pw_types.specs.Statements.{faults_of_name}
use Rattle.pw_types.specs.Steps.StatementFaults.{faults_of_option, faults_by}
use Rattle.pw_types.specs.TypedStatements.{typed_expression, typed_statement}
use Rattle.pw_types.specs.Steps.CheckingStatements.{block_of, outcome_at, judged_at}
use Rattle.pw_types.specs.Steps.StatementValues.{IsMaybeValue, Declares}
use Rattle.pw_types.proofs.EnclosingStatements.{same, on_left}

same_block : (old new : Walk) (name : List ℕ) (ty : Ty)
    → new.scope ≡ with_local name ty old.count old.scope → new.start ≡ old.start → new.count ≡ suc old.count
    → declaring name ty (block_of old) ≡ block_of new
same_block old new name ty scope start count = cc

after_value : (name : List ℕ) (ty : Ty) (old mid : Walk) → mid.scope ≡ old.scope → mid.start ≡ old.start → mid.count ≡ old.count
    → declaring name ty (block_of old) ≡ declaring name ty (block_of mid)
after_value name ty old mid scope start count =
    let same_blocks : block_of old ≡ block_of mid = cc in ap (declaring name ty) same_blocks

pub declares_local : (x : Given) (old mid new : Walk) (at : Span) (ty : Ty) (name : List ℕ) (e : Option Expression) (t : Option TExpr) (n : ℕ)
    → faults_of_name (block_of old) name (local_name_at at ty) ≡ [] → faults_of_option old.scope (roles.Assigned (Some ty)) e ≡ []
    → IsMaybeValue e old mid t → Declares name ty mid new n
    → outcome_at x old (local at ty name e) ≡ judged_at (tree.typed_statement_of (kinds.SetLocal n t)) new
unfolding faults_by typed_statement uses_by held_by
declares_local x old mid new at ty name e t n free none value declared =
    let number : old.count ≡ n = sym (declared.number ∙ value.notes.count) in
    let ends : declaring name ty (block_of old) ≡ block_of new =
    after_value name ty old mid value.notes.scope value.notes.start value.notes.count
    ∙ same_block mid new name ty declared.scope declared.start declared.count in
    same (on_left free ∙ none)
    (ap (λ (m : ℕ). tree.set_local m (option_map (typed_expression old.scope) e)) number
    ∙ (ap (λ (v : Option TypedExpression). tree.set_local n v) value.tree ∙ sym (command_of-SetLocal n t)))
    (sym (declared.used ∙ value.notes.used))
    (ap (λ (v : Option TypedExpression). max old.held (held_option v)) value.tree ∙ sym (declared.held ∙ value.notes.held))
    ends
