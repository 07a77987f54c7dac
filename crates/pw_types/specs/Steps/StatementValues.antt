-- What judging the expressions of a statement answers.
use Rattle.std.specs.Prelude.{◌≡◌, ℕ, suc, max, List, ◌++◌, Option, Some, option_map, Result}
use Rattle.pw_tree.specs.declared.ty.Ty.{Ty}
use Rattle.pw_tree.specs.Expressions.{Expression}
use Rattle.pw_tree.specs.TypedExpressions.{typed_expression_of}
use Rattle.pw_tree.specs.declared.texpr.TExpr.{TExpr}
use Rattle.pw_types.specs.declared.role.Role.{Role}
use Rattle.pw_types.specs.declared.fault.Refusal.{Refusal}
use Rattle.pw_types.specs.declared.statement_walk.Walk.{Walk}
use Rattle.pw_types.specs.Faults.{broken}
use Rattle.pw_types.specs.Steps.ExpressionFaults.{faults}
use Rattle.pw_types.specs.declared.rule.Rule.TheVariants as rules
use Rattle.pw_tree.specs.Held.{held, held_option}
use Rattle.pw_types.specs.Steps.Uses.{uses, uses_of_option}
use Rattle.pw_types.specs.Typed.{typed}
use Rattle.pw_types.specs.Blocks.{with_local}
use Rattle.pw_types.specs.Statements.{holds_too_many}
use Rattle.pw_types.specs.Steps.StatementFaults.{faults_of_whole, faults_of_option}
use Rattle.pw_types.specs.TypedStatements.{typed_expression}
use Rattle.pw_types.specs.Steps.Refusals.{Judges}

-- What an expression leaves of the state: nothing declared, its names noted, and what it holds.
pub record Notes (uses : List ℕ) (most : ℕ) (old new : Walk) : Type 0 where
  pub scope : new.scope ≡ old.scope
  pub start : new.start ≡ old.start
  pub count : new.count ≡ old.count
  pub used : new.used.items ≡ old.used.items ++ uses
  pub held : new.held ≡ max old.held most

-- the typed tree of an expression, and the names that it uses
pub record IsJudgedValue (e : Expression) (old new : Walk) (t : TExpr) : Type 0 where
  pub tree : typed old.scope e ≡ Some (typed_expression_of t)
  pub notes : Notes (uses old.scope e) (held (typed_expression_of t)) old new

-- an expression with nothing round it, and the token to blame where it holds too many values
abbrev pub JudgesWhole : Role → Expression → ℕ → (old new : Walk) → Result TExpr Refusal → Type 0
JudgesWhole role e end old new =
    Judges (faults old.scope role e ++ broken rules.TooDeep end (holds_too_many (typed old.scope e))) (IsJudgedValue e old new)

-- a whole expression of a statement, which holds no more values than may be held at once
abbrev pub JudgesValue : Role → Expression → (old new : Walk) → Result TExpr Refusal → Type 0
JudgesValue role e old new = Judges (faults_of_whole old.scope role e) (IsJudgedValue e old new)

-- the same of an expression that may be absent
pub record IsMaybeValue (e : Option Expression) (old new : Walk) (t : Option TExpr) : Type 0 where
  pub tree : option_map (typed_expression old.scope) e ≡ option_map typed_expression_of t
  pub notes : Notes (uses_of_option old.scope e) (held_option (option_map typed_expression_of t)) old new

-- the same where there is one
abbrev pub JudgesMaybeValue : Role → Option Expression → (old new : Walk) → Result (Option TExpr) Refusal → Type 0
JudgesMaybeValue role e old new = Judges (faults_of_option old.scope role e) (IsMaybeValue e old new)

-- a local joins those that are visible, and has the number of those before it
pub record Declares (name : List ℕ) (ty : Ty) (old new : Walk) (n : ℕ) : Type 0 where
  pub number : n ≡ old.count
  pub scope : new.scope ≡ with_local name ty old.count old.scope
  pub start : new.start ≡ old.start
  pub count : new.count ≡ suc old.count
  pub used : new.used.items ≡ old.used.items
  pub held : new.held ≡ old.held
