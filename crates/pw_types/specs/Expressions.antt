-- The faults of an expression's own, by ascending rule, in its place. A phrase is judged by a rule only where its parts have types.
use Rattle.std.specs.Prelude.{ℕ, suc, Bool, true, false, ◌&&◌, ◌||◌, not, List, [], ◌∷◌, ◌++◌, length, Option, Some, None, is_some, is_none, nat_eq}
use Rattle.std.specs.Option.{option_map_or}
use Rattle.pw_tree.specs.declared.ty.Ty.{Ty}
use Rattle.pw_tree.specs.Expressions.{Expression, Expressions, constant, word, unary, binary, conditional, call, index, input, output, nil, cons}
use Rattle.pw_tree.specs.TypedExpressions.{TypedExpression}
use Rattle.pw_tree.specs.Placed.{span_of}
use Rattle.pw_types.specs.declared.rule.Rule.TheVariants as rules
use Rattle.pw_types.specs.declared.role.Role.{Role}
use Rattle.pw_types.specs.declared.role.Role.TheVariants.{Statement, Value, Callee, Base, Argument, Written, Assigned}
use Rattle.pw_types.specs.declared.fault.Fault.{Fault}
use Rattle.pw_types.specs.Faults.{broken, broken_by}
use Rattle.pw_tree.specs.Types.{is_number, is_void, is_pointer, converts, unary_type, binary_type, choice_type}
use Rattle.pw_types.specs.Scopes.{Scope, Meaning, missing, a_local, declared, name_meaning}
use Rattle.pw_types.specs.Typed.{array_of, function_of, callee_of, parameters_of, typed, typed_all, Callee as Called}
use Rattle.pw_tree.specs.TypedExpressions.{type_of}

-- ---- places

-- the base of an index, which is an array's name and no value
abbrev pub is_base : Role → Bool
is_base Base = true
is_base Statement = false
is_base Value = false
is_base Callee = false
is_base (Argument want) = false
is_base Written = false
is_base (Assigned want) = false

-- a value is needed but in a statement and as a base
abbrev pub needs_value : Role → Bool
needs_value Statement = false
needs_value Base = false
needs_value Value = true
needs_value Callee = true
needs_value (Argument want) = true
needs_value Written = true
needs_value (Assigned want) = true

-- the callee of a call
abbrev pub is_callee : Role → Bool
is_callee Callee = true
is_callee Statement = false
is_callee Value = false
is_callee Base = false
is_callee (Argument want) = false
is_callee Written = false
is_callee (Assigned want) = false

-- ---- phrases

-- its last token
abbrev pub end_of : Expression → ℕ
end_of e = (span_of e).last

-- a name has no parts, so each rule that its place breaks is judged
abbrev pub is_word : Expression → Bool
is_word (word at name) = true
is_word (constant at value unsigned) = false
is_word (unary at op e) = false
is_word (binary at op l r) = false
is_word (conditional at c a b) = false
is_word (call at f es) = false
is_word (index at b i) = false
is_word (input at) = false
is_word (output at e) = false

-- the name that it is, where it is one
abbrev pub word_of : Expression → List ℕ
word_of (word at name) = name
word_of (constant at value unsigned) = []
word_of (unary at op e) = []
word_of (binary at op l r) = []
word_of (conditional at c a b) = []
word_of (call at f es) = []
word_of (index at b i) = []
word_of (input at) = []
word_of (output at e) = []

-- it has a type, or is a name, so that its place can ask something of it
abbrev pub is_judged : Scope → Expression → Bool
is_judged scope e = is_some (typed scope e) || is_word e

-- the expression has a type, of which this holds
abbrev pub has_type : (Ty → Bool) → Option TypedExpression → Bool
has_type f t = option_map_or (λ e. f (type_of e)) t false

-- no declaration is visible
abbrev pub is_missing : Meaning → Bool
is_missing missing = true
is_missing (a_local l) = false
is_missing (declared f) = false

-- how many expressions a list has
abbrev pub how_many : Expressions → ℕ
how_many nil = 0
how_many (cons e es) = suc (how_many es)

-- ---- the rules, one by one

-- Unknown: a name has no visible declaration
abbrev pub is_unknown : Scope → Expression → Bool
is_unknown scope e = is_word e && is_missing (name_meaning scope (word_of e))

-- NotValue: void where a value is needed; a function of no pointer type as a value
abbrev pub is_no_value : Scope → Role → Expression → Bool
is_no_value scope role e =
    (needs_value role && has_type is_void (typed scope e))
    || (not (is_base role) && is_some (function_of scope e) && is_none (typed scope e))

-- an operand has a type, and it is none that the operator takes
abbrev pub no_unary : (Ty → Option Ty) → Option TypedExpression → Bool
no_unary f e = has_type (λ t. is_none (f t)) e

-- both operands have types, and they are none that the operator takes
abbrev pub no_binary : {A : Type 0} → (Ty → Ty → Option A) → Option TypedExpression → Option TypedExpression → Bool
no_binary f l r = has_type (λ t. has_type (λ u. is_none (f t u)) r) l

-- Operands: an operator or an index has operands of other types than it takes
abbrev pub has_other_operands : Scope → Expression → Bool
has_other_operands scope (unary at op e) = no_unary (unary_type op) (typed scope e)
has_other_operands scope (binary at op l r) = no_binary (binary_type op) (typed scope l) (typed scope r)
has_other_operands scope (conditional at c a b) = is_some (typed scope c) && no_binary choice_type (typed scope a) (typed scope b)
has_other_operands scope (index at b i) = is_some (array_of scope b) && has_type (λ t. not (is_number t)) (typed scope i)
has_other_operands scope (constant at value unsigned) = false
has_other_operands scope (word at name) = false
has_other_operands scope (call at f es) = false
has_other_operands scope (input at) = false
has_other_operands scope (output at e) = false

-- what an expression calls as a callee
abbrev pub callee_in : Scope → Expression → Called
callee_in scope f = callee_of (function_of scope f) (typed scope f)

-- ArgCount: a call has another number of arguments
abbrev pub has_other_count : Scope → Expression → Bool
has_other_count scope (call at f es) =
    is_some (typed_all scope es)
    && option_map_or (λ params. not (nat_eq (length params) (how_many es))) (parameters_of (callee_in scope f)) false
has_other_count scope (unary at op e) = false
has_other_count scope (binary at op l r) = false
has_other_count scope (conditional at c a b) = false
has_other_count scope (index at b i) = false
has_other_count scope (constant at value unsigned) = false
has_other_count scope (word at name) = false
has_other_count scope (input at) = false
has_other_count scope (output at e) = false

-- a phrase does not convert to a type
abbrev pub does_not_convert : Scope → Expression → Option Ty → Bool
does_not_convert scope e None = false
does_not_convert scope e (Some to) = is_judged scope e && not (has_type (λ t. converts t to) (typed scope e))

-- ArgType: an argument does not convert; `__out` of a pointer
abbrev pub has_other_argument : Scope → Role → Expression → Bool
has_other_argument scope (Argument want) e = does_not_convert scope e want
has_other_argument scope Written e = has_type is_pointer (typed scope e)
has_other_argument scope Statement e = false
has_other_argument scope Value e = false
has_other_argument scope Callee e = false
has_other_argument scope Base e = false
has_other_argument scope (Assigned want) e = false

-- NotCallable: a callee is neither a function's name nor a pointer
abbrev pub is_not_callable : Scope → Role → Expression → Bool
is_not_callable scope role e = is_callee role && is_judged scope e && not (has_type is_pointer (typed scope e))

-- NotArray: an index's base is not an array's name
abbrev pub is_no_array : Scope → Role → Expression → Bool
is_no_array scope role e = is_base role && (is_judged scope e && is_none (array_of scope e))

-- NeedsIndex: an array's name is not an index's base
abbrev pub needs_index : Scope → Role → Expression → Bool
needs_index scope role e = not (is_base role) && is_some (array_of scope e)

-- AssignType, of the value: it does not convert
abbrev pub does_not_fit : Scope → Role → Expression → Bool
does_not_fit scope (Assigned want) e = does_not_convert scope e want
does_not_fit scope Statement e = false
does_not_fit scope Value e = false
does_not_fit scope Callee e = false
does_not_fit scope Base e = false
does_not_fit scope (Argument want) e = false
does_not_fit scope Written e = false

-- an expression's own faults
unfoldable pub own : Scope → Role → Expression → List Fault
own scope role e =
    broken_by rules.Unknown (end_of e) (word_of e) (is_unknown scope e)
    ++ (broken rules.NotValue (end_of e) (is_no_value scope role e)
    ++ (broken rules.Operands (end_of e) (has_other_operands scope e)
    ++ (broken rules.ArgCount (end_of e) (has_other_count scope e)
    ++ (broken rules.ArgType (end_of e) (has_other_argument scope role e)
    ++ (broken rules.NotCallable (end_of e) (is_not_callable scope role e)
    ++ (broken rules.NotArray (end_of e) (is_no_array scope role e)
    ++ (broken rules.NeedsIndex (end_of e) (needs_index scope role e)
    ++ broken rules.AssignType (end_of e) (does_not_fit scope role e))))))))

-- ---- arguments

-- the type of the first parameter, where there is one, and the parameters after it
abbrev pub first_parameter : Option (List Ty) → Option Ty
first_parameter None = None
first_parameter (Some []) = None
first_parameter (Some (ty ∷ tys)) = Some ty

-- the parameters after the first
abbrev pub other_parameters : Option (List Ty) → Option (List Ty)
other_parameters None = None
other_parameters (Some []) = Some []
other_parameters (Some (ty ∷ tys)) = Some tys
