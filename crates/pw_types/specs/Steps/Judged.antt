-- What judging an expression and the statements of a body answers.
use Rattle.std.specs.Prelude.{suc, ◌≡◌, ℕ, ◌+◌, min, List, ◌++◌, Some, Result}
use Rattle.pw_base.specs.Limits as limits
use Rattle.pw_tree.specs.Expressions.{Expression}
use Rattle.pw_tree.specs.Statements.{Statements}
use Rattle.pw_tree.specs.TypedExpressions.{typed_expression_of}
use Rattle.pw_tree.specs.TypedStatements as trees
use Rattle.pw_types.specs.declared.role.Role.{Role}
use Rattle.pw_types.specs.declared.fault.Refusal.{Refusal}
use Rattle.pw_types.specs.declared.typed.Typed.{Typed}
use Rattle.pw_types.specs.declared.typed.Body.{Body}
use Rattle.pw_types.specs.Scopes.{Scope}
use Rattle.pw_tree.specs.Held.{held, held_by_all}
use Rattle.pw_types.specs.Typed.{typed}
use Rattle.pw_types.specs.Steps.Uses.{uses, uses_by_all}
use Rattle.pw_types.specs.Steps.ExpressionFaults.{faults}
use Rattle.pw_types.specs.Blocks.{Setting, Block, locals_in_all}
use Rattle.pw_types.specs.Steps.StatementFaults.{faults_by_all}
use Rattle.pw_types.specs.TypedStatements.{typed_statements}
use Rattle.pw_types.specs.Steps.Refusals.{Judges}

-- the expression's typed tree, and what it holds; the names that it uses were noted after the others
pub record IsTypedTree (scope : Scope) (e : Expression) (old new : List ℕ) (t : Typed) : Type 0 where
  pub tree : typed scope e ≡ Some (typed_expression_of t.tree)
  pub held : t.held ≡ min (held (typed_expression_of t.tree)) (suc limits.held_values)
  pub used : new ≡ old ++ uses scope e

-- the typed tree of an expression, or its first fault
abbrev pub JudgesExpression : Scope → Role → Expression → (old new : List ℕ) → Result Typed Refusal → Type 0
JudgesExpression scope role e old new = Judges (faults scope role e) (IsTypedTree scope e old new)

-- the typed statements of a body, and how many locals the function has after them
pub record IsTypedBody (x : Setting) (b : Block) (ss : Statements) (old new : List ℕ) (body : Body) : Type 0 where
  pub statements : trees.typed_statements_of body.statements ≡ typed_statements x b ss
  pub held : body.held ≡ held_by_all (typed_statements x b ss)
  pub count : body.count ≡ b.count + locals_in_all ss
  pub used : new ≡ old ++ uses_by_all b ss

-- the typed statements of a body, or its first fault
abbrev pub JudgesBody : Setting → Block → Statements → (old new : List ℕ) → Result Body Refusal → Type 0
JudgesBody x b ss old new = Judges (faults_by_all x b ss) (IsTypedBody x b ss old new)
