-- The faults of a statement's own, and of the names in it (C17, 6.8).
use Rattle.std.specs.Prelude.{ℕ, Bool, false, ◌&&◌, ◌||◌, not, List, ◌++◌, Option, Some, None, is_some, is_none, nat_le, nat_lt}
use Rattle.std.specs.Option.{option_map_or}
use Rattle.pw_base.specs.Limits as limits
use Rattle.pw_tree.specs.declared.ty.Ty.{Ty}
use Rattle.pw_tree.specs.Expressions.{Expression}
use Rattle.pw_tree.specs.TypedExpressions.{TypedExpression}
use Rattle.pw_types.specs.declared.rule.Rule.TheVariants as rules
use Rattle.pw_types.specs.declared.fault.Fault.{Fault}
use Rattle.pw_types.specs.Faults.{broken, broken_by}
use Rattle.pw_tree.specs.Types.{is_number, is_void, converts}
use Rattle.pw_types.specs.Reserved.{is_reserved}
use Rattle.pw_types.specs.declared.names.Kind.{Kind}
use Rattle.pw_types.specs.declared.names.Kind.TheVariants.{Function, Variable}
use Rattle.pw_types.specs.Scopes.{Scope, Meaning, missing, a_local, declared, name_meaning}
use Rattle.pw_types.specs.Typed.{array_named, function_named, typed}
use Rattle.pw_tree.specs.Held.{held, held_element}
use Rattle.pw_types.specs.Expressions.{has_type, is_missing}
use Rattle.pw_types.specs.Blocks.{Setting, Block, has_own}

-- ---- expressions of statements

-- TooDeep: it holds more values than may be held at once
abbrev pub holds_too_many : Option TypedExpression → Bool
holds_too_many t = option_map_or (λ e. nat_lt limits.held_values (held e)) t false

-- TooDeep of an element's assignment: its index and its value together hold too many
abbrev pub element_holds_too_many : Option TypedExpression → Option TypedExpression → Bool
element_holds_too_many (Some i) e = option_map_or (λ t. nat_lt limits.held_values (held_element i t)) e false
element_holds_too_many None e = false

-- ---- declarations of locals

-- TooManyLocals: a parameter or local of a function that has as many before it as a function may have
abbrev pub is_local_too_many : ℕ → Bool
is_local_too_many before = nat_le limits.locals before

-- Redeclared, TooManyLocals and Reserved, of a local's name
abbrev pub faults_of_name : Block → List ℕ → ℕ → List Fault
faults_of_name b name at =
    broken_by rules.Redeclared at name (has_own b name)
    ++ (broken rules.TooManyLocals at (is_local_too_many b.count) ++ broken_by rules.Reserved at name (is_reserved name))

-- ---- assignments

-- the type that a name is assigned at: a local's, or that of a variable that is no array
abbrev pub type_of_kind : Kind → Option Ty
type_of_kind (Function sig) = None
type_of_kind (Variable ty None) = Some ty
type_of_kind (Variable ty (Some size)) = None

-- the type that a name is assigned at, by its meaning
abbrev pub type_of_target : Meaning → Option Ty
type_of_target missing = None
type_of_target (a_local l) = Some l.ty
type_of_target (declared f) = type_of_kind f.kind

-- Unknown, of the name that is assigned to, or whose element is
abbrev pub is_unknown_target : Scope → List ℕ → Bool
is_unknown_target scope name = is_missing (name_meaning scope name)

-- NeedsIndex: an array's name is assigned to
abbrev pub is_array_target : Scope → List ℕ → Bool
is_array_target scope name = is_some (array_named scope name)

-- AssignType, of the target: it is a function
abbrev pub is_function_target : Scope → List ℕ → Bool
is_function_target scope name = is_some (function_named scope name)

-- NotArray: what an element is assigned to is no array
abbrev pub is_no_array_target : Scope → List ℕ → Bool
is_no_array_target scope name = is_none (array_named scope name)

-- Operands: the index of the element that is assigned to is no number
abbrev pub has_other_index : Scope → List ℕ → Expression → Bool
has_other_index scope name i = is_some (array_named scope name) && has_type (λ t. not (is_number t)) (typed scope i)

-- TooDeep, of an assignment to a name
abbrev pub set_holds_too_many : Scope → List ℕ → Expression → Bool
set_holds_too_many scope name e = is_some (type_of_target (name_meaning scope name)) && holds_too_many (typed scope e)

-- TooDeep, of an assignment to an element
abbrev pub set_element_holds_too_many : Scope → List ℕ → Expression → Expression → Bool
set_element_holds_too_many scope name i e = is_some (array_named scope name) && element_holds_too_many (typed scope i) (typed scope e)

-- Unknown, NeedsIndex and AssignType, of a name that is assigned to
abbrev pub faults_of_target : Scope → List ℕ → ℕ → List Fault
faults_of_target scope name at =
    broken_by rules.Unknown at name (is_unknown_target scope name)
    ++ (broken rules.NeedsIndex at (is_array_target scope name) ++ broken rules.AssignType at (is_function_target scope name))

-- Unknown and NotArray, of a name whose element is assigned to
abbrev pub faults_of_array : Scope → List ℕ → ℕ → List Fault
faults_of_array scope name at =
    broken_by rules.Unknown at name (is_unknown_target scope name) ++ broken rules.NotArray at (is_no_array_target scope name)

-- ---- leaving

-- ReturnType: a value in a void function, none in another, or one that does not convert
abbrev pub returns_other : Ty → Scope → Option Expression → Bool
returns_other result scope None = not (is_void result)
returns_other result scope (Some e) = has_type (λ t. is_void result || not (converts t result)) (typed scope e)

-- OutsideLoop: `break` or `continue` outside a loop
abbrev pub is_outside_loop : Setting → Bool
is_outside_loop x = not x.in_loop
