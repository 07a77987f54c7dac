-- A function value that reads what nests in a phrase: expressions in an expression, statements in a statement.
use Rattle.std.specs.Prelude.{ℕ, Result}
use Rattle.std.specs.declared.alloc.Global.{Global}
use denote.Ref.{MutBor}
use Rattle.pw_tree.specs.declared.expr.Expr.{Expr}
use Rattle.pw_tree.specs.declared.stmt.Stmt.{Stmt}
use Rattle.pw_grammar.specs.declared.error.SyntaxError.{SyntaxError}
use Rattle.pw_grammar.specs.Reading.Steps.{Position, Reads}
use Rattle.pw_grammar.specs.Reading.Expressions.{expression}
use Rattle.pw_grammar.specs.Reading.Statements.{statement}

-- the function with this precondition and this postcondition may be called with the depth, and reads an expression to it
pub record Nests (depth : ℕ) (pre : Global → MutBor Position → ℕ → Type 0)
    (post : Global → MutBor Position → ℕ → Result Expr SyntaxError → MutBor Position → Type 0) : Type 0 where
  pub callable : (alloc : Global) (old : MutBor Position) → pre alloc old depth
  pub reads : (alloc : Global) (old new : MutBor Position) (r : Result Expr SyntaxError) → post alloc old depth r new
      → Reads (expression depth old.now) r new.now

-- the function may be called with the depth, and reads a statement to it
pub record NestsStatements (depth : ℕ) (pre : Global → MutBor Position → ℕ → Type 0)
    (post : Global → MutBor Position → ℕ → Result Stmt SyntaxError → MutBor Position → Type 0) : Type 0 where
  pub callable : (alloc : Global) (old : MutBor Position) → pre alloc old depth
  pub reads : (alloc : Global) (old new : MutBor Position) (r : Result Stmt SyntaxError) → post alloc old depth r new
      → Reads (statement depth old.now) r new.now
