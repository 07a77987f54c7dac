-- What an assignment sets.
use Rattle.std.specs.Prelude.{suc, ◌≡◌, ℕ, ◌+◌, min, max, Bool, false, not, List, ◌++◌, Option, Some, None, Result, nat_lt}
use Rattle.std.specs.Option.{option_map_or}
use Rattle.pw_base.specs.Limits as limits
use Rattle.pw_tree.specs.Expressions.{Span, Expression}
use Rattle.pw_tree.specs.Placed.{index_end}
use Rattle.pw_tree.specs.declared.ty.Ty.{Ty}
use Rattle.pw_tree.specs.declared.ty.Ref.{Ref}
use Rattle.pw_tree.specs.TypedExpressions.{TypedExpression, typed_expression_of}
use Rattle.pw_tree.specs.declared.texpr.TExpr.{TExpr}
use Rattle.pw_types.specs.declared.fault.Fault.{Fault}
use Rattle.pw_types.specs.declared.fault.Refusal.{Refusal}
use Rattle.pw_types.specs.declared.role.Role.TheVariants as roles
use Rattle.pw_types.specs.declared.typed.Typed.{Typed}
use Rattle.pw_types.specs.declared.names.Kind.TheVariants as kinds
use Rattle.pw_types.specs.declared.names.Local.{Local}
use Rattle.pw_types.specs.declared.names.File.{File}
use Rattle.pw_types.specs.declared.rule.Rule.TheVariants as rules
use Rattle.pw_types.specs.declared.statement_set.AssignTarget.{AssignTarget}
use Rattle.pw_types.specs.declared.statement_set.AssignTarget.TheVariants as targets
use Rattle.pw_types.specs.declared.statement_set.Array.{Array}
use Rattle.pw_types.specs.Scopes.{Scope, a_local, declared, name_meaning, variable_reference}
use Rattle.pw_types.specs.declared.statement_walk.Walk.{Walk}
use Rattle.pw_types.specs.Faults.{broken}
use Rattle.pw_tree.specs.Types.{is_number}
use Rattle.pw_tree.specs.Held.{held}
use Rattle.pw_types.specs.Typed.{typed}
use Rattle.pw_types.specs.Steps.Uses.{uses, file_number}
use Rattle.pw_types.specs.Expressions.{has_type}
use Rattle.pw_types.specs.Steps.ExpressionFaults.{faults}
use Rattle.pw_types.specs.Steps.StatementValues.{Notes}
use Rattle.pw_types.specs.Steps.Refusals.{Judges}

-- the name is a variable or array of the unit: its number among the names, and how the unit names it
pub record IsFile (scope : Scope) (name : List ℕ) (n : ℕ) (r : Ref) (ty : Ty) (size : Option ℕ) : Type 0 where
  pub file : File
  pub means : name_meaning scope name ≡ declared file
  pub kind : file.kind ≡ kinds.Variable ty size
  pub number : n ≡ file_number file.name scope.files
  pub reference : r ≡ variable_reference scope file

-- the name is a local
pub record IsLocal (scope : Scope) (name : List ℕ) (n : ℕ) (ty : Ty) : Type 0 where
  pub local : Local
  pub means : name_meaning scope name ≡ a_local local
  pub number : n ≡ local.number
  pub type_is : ty ≡ local.ty

-- what a name is assigned at
abbrev pub IsTarget : Scope → List ℕ → AssignTarget → Type 0
IsTarget scope name (targets.Local n ty) = IsLocal scope name n ty
IsTarget scope name (targets.Variable n r ty) = IsFile scope name n r ty None

-- the array whose element is assigned to
abbrev pub IsArray : Scope → List ℕ → Array → Type 0
IsArray scope name a = IsFile scope name a.number a.reference a.ty (Some a.size)

-- ---- elements

-- The typed tree of an index, and what it holds, or one more than the limit where that is more.
pub record IsIndex (i : Expression) (old new : Walk) (t : Typed) : Type 0 where
  pub tree : typed old.scope i ≡ Some (typed_expression_of t.tree)
  pub held : t.held ≡ min (held (typed_expression_of t.tree)) (suc limits.held_values)
  pub notes : Notes (uses old.scope i) 0 old new

-- an index is a number
abbrev pub faults_of_index : Scope → Span → Expression → List Fault
faults_of_index scope at i =
    faults scope roles.Value i ++ broken rules.Operands (index_end at i) (has_type (λ t. not (is_number t)) (typed scope i))

-- the index of a target, or its first fault
abbrev pub JudgesIndex : Span → Expression → (old new : Walk) → Result Typed Refusal → Type 0
JudgesIndex at i old new = Judges (faults_of_index old.scope at i) (IsIndex i old new)

-- the value that an element is assigned, and the names that it uses
pub record IsElementValue (beside : ℕ) (e : Expression) (old new : Walk) (t : TExpr) : Type 0 where
  pub tree : typed old.scope e ≡ Some (typed_expression_of t)
  pub notes : Notes (uses old.scope e) (max beside (1 + held (typed_expression_of t))) old new

-- a value holds too many beside an index, which holds so many
abbrev pub holds_too_many_beside : ℕ → Option TypedExpression → Bool
holds_too_many_beside beside t = option_map_or (λ v. nat_lt limits.held_values (max beside (1 + held v))) t false

-- the faults of that value, and of the assignment where it holds too many
abbrev pub faults_of_element_value : Scope → ℕ → Ty → Expression → ℕ → List Fault
faults_of_element_value scope beside ty e end =
    faults scope (roles.Assigned (Some ty)) e ++ broken rules.TooDeep end (holds_too_many_beside beside (typed scope e))

-- the value that an element is assigned, and the token to blame where the assignment holds too many values
abbrev pub JudgesElementValue : ℕ → Ty → Expression → ℕ → (old new : Walk) → Result TExpr Refusal → Type 0
JudgesElementValue beside ty e end old new = Judges (faults_of_element_value old.scope beside ty e end) (IsElementValue beside e old new)
