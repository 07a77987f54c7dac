-- Judging an expression from left to right: its parts first, and then what its form and its place ask of it.
use Rattle.std.specs.Prelude.{suc, ℕ, ◌+◌, max, min, Bool, false, ◌&&◌, not, if◌then◌else◌, List, [], ◌∷◌, ◌++◌, length, replicate, Option, Some, None, nat_eq}
use Rattle.pw_base.specs.Limits as limits
use Rattle.pw_tree.specs.declared.ty.Ty.{Ty}
use Rattle.pw_tree.specs.declared.ty.Ty.TheVariants.{Void, Long, Ulong, Fn}
use Rattle.pw_tree.specs.declared.ty.Ref.{Ref}
use Rattle.pw_tree.specs.declared.operator.Un.{Un}
use Rattle.pw_tree.specs.declared.operator.Bin.{Bin}
use Rattle.pw_tree.specs.Expressions.{Span, Expression, Expressions, constant, word, unary, binary, conditional, call, index, input, output, nil, cons}
use Rattle.pw_tree.specs.TypedExpressions.{Mark, TypedExpression, TypedExpressions, typed_expressions}
use Rattle.pw_tree.specs.TypedExpressions as tree
use Rattle.pw_types.specs.declared.rule.Rule.{Rule}
use Rattle.pw_types.specs.declared.rule.Rule.TheVariants as rules
use Rattle.pw_types.specs.declared.role.Role.{Role}
use Rattle.pw_types.specs.declared.role.Role.TheVariants.{Statement, Value, Callee, Base, Argument, Written, Assigned}
use Rattle.pw_types.specs.declared.fault.Fault.{Fault}
use Rattle.pw_types.specs.declared.names.Kind.{Kind}
use Rattle.pw_types.specs.declared.names.Kind.TheVariants.{Function, Variable}
use Rattle.pw_types.specs.declared.names.File.{File}
use Rattle.pw_types.specs.declared.expression_step.Head.{Head}
use Rattle.pw_tree.specs.Types.{is_number, is_void, is_pointer, converts, unary_type, binary_type, choice_type, pointer_to}
use Rattle.pw_types.specs.Scopes.{Scope, Meaning, missing, a_local, declared, name_meaning, function_reference, variable_reference}
use Rattle.pw_tree.specs.Held.{holds_left, held_both}
use Rattle.pw_types.specs.Typed.{Array, array_of, Designated, function_of, constant_type}
use Rattle.pw_tree.specs.TypedExpressions.{type_of}
use Rattle.pw_types.specs.Expressions.{is_base, is_callee, needs_value, first_parameter, how_many}
use Rattle.pw_types.specs.Steps.Uses.{file_number, uses}
use Rattle.pw_types.specs.Steps.Judging.{Judge, ◌>>=◌, pure, refuse, noting, on_option}

-- ---- what is judged

-- A typed tree, and how many values it holds at a time, or one more than the limit where these are more.
pub record Valued : Type 0 where
  pub tree : TypedExpression
  pub held : ℕ

-- a number of held values, or one more than the limit
abbrev pub capped : ℕ → ℕ
capped n = min n (suc limits.held_values)

-- what is known of an expression in its role
abbrev pub head : Role → Span → Head
head role at = record { role = role; last = at.last; line = at.line }

-- the mark of an expression of this type
abbrev pub mark_under : Head → Ty → Mark
mark_under h ty = record { ty = ty; line = h.line }

-- a rule that is broken at the expression's last token
abbrev pub fault_under : Head → Rule → Fault
fault_under h rule = record { rule = rule; at = h.last; name = None }

-- ---- what a place asks of an expression that has a type

-- a value of the type does not convert to the type that is wanted, if one is
abbrev pub does_not_become : Option Ty → Ty → Bool
does_not_become None ty = false
does_not_become (Some to) ty = not (converts ty to)

-- the place is that of an argument, to which the type does not convert
abbrev pub is_other_argument : Role → Ty → Bool
is_other_argument (Argument want) ty = does_not_become want ty
is_other_argument Written ty = is_pointer ty
is_other_argument Statement ty = false
is_other_argument Value ty = false
is_other_argument Callee ty = false
is_other_argument Base ty = false
is_other_argument (Assigned want) ty = false

-- the place is that of an assigned value, to which the type does not convert
abbrev pub is_other_value : Role → Ty → Bool
is_other_value (Assigned want) ty = does_not_become want ty
is_other_value Statement ty = false
is_other_value Value ty = false
is_other_value Callee ty = false
is_other_value Base ty = false
is_other_value (Argument want) ty = false
is_other_value Written ty = false

-- a broken rule, or the first after it
abbrev pub rule_where : Rule → Bool → Option Rule → Option Rule
rule_where rule b next = if b then Some rule else next

-- the first rule that an expression of a type breaks in its role, where it is no array's name; whether it is a call with
-- another number of arguments
abbrev pub first_rule : Role → Bool → Ty → Option Rule
first_rule role other_count ty =
    rule_where rules.NotValue (needs_value role && is_void ty)
    (rule_where rules.ArgCount other_count
    (rule_where rules.ArgType (is_other_argument role ty)
    (rule_where rules.NotCallable (is_callee role && not (is_pointer ty))
    (rule_where rules.NotArray (is_base role)
    (rule_where rules.AssignType (is_other_value role ty) None)))))

-- an expression whose parts are judged, unless it breaks a rule of its place; whether it is a call with another number of arguments
abbrev pub finished_by : Head → Bool → Valued → Judge Valued
finished_by h other_count v =
    on_option (first_rule h.role other_count (type_of v.tree)) (pure v) (λ rule. refuse (fault_under h rule))

-- an expression that is no call, unless it breaks a rule of its place
abbrev pub finished : Head → Valued → Judge Valued
finished h v = finished_by h false v

-- ---- names

-- the first rule that an array's name breaks where it is no base
abbrev pub array_rule : Role → Rule
array_rule Callee = rules.NotCallable
array_rule (Argument None) = rules.NeedsIndex
array_rule (Argument (Some to)) = rules.ArgType
array_rule Statement = rules.NeedsIndex
array_rule Value = rules.NeedsIndex
array_rule Base = rules.NotArray
array_rule Written = rules.NeedsIndex
array_rule (Assigned want) = rules.NeedsIndex

-- the rule that a function's name breaks which has no value
abbrev pub function_rule : Role → Rule
function_rule role = if is_base role then rules.NotArray else rules.NotValue

-- an expression without parts
abbrev pub leaf : Head → TypedExpression → Judge Valued
leaf h t = finished h (record { tree = t; held = 0 })

-- a function's name, by the pointer type that fits it, if one does
abbrev pub function_value : Scope → Head → File → Option Ty → Judge Valued
function_value scope h f None = refuse (fault_under h (function_rule h.role))
function_value scope h f (Some ty) = leaf h (tree.designator (mark_under h ty) (function_reference scope f))

-- a variable's name, which is no array's where it is a value
abbrev pub variable_value : Scope → Head → File → Ty → Option ℕ → Judge Valued
variable_value scope h f ty None = leaf h (tree.variable (mark_under h ty) (variable_reference scope f))
variable_value scope h f ty (Some size) = refuse (fault_under h (array_rule h.role))

-- a name that is declared at file scope
abbrev pub file_value : Scope → Head → File → Kind → Judge Valued
file_value scope h f (Function sig) = function_value scope h f (pointer_to sig)
file_value scope h f (Variable ty size) = variable_value scope h f ty size

-- a local's name
abbrev pub local_value : Head → Ty → ℕ → Judge Valued
local_value h ty number = leaf h (tree.local (mark_under h ty) number)

-- a name, by what it means
abbrev pub named_value : Scope → Head → List ℕ → Meaning → Judge Valued
named_value scope h name missing = refuse (record { rule = rules.Unknown; at = h.last; name = Some name })
named_value scope h name (a_local l) = local_value h l.ty l.number
named_value scope h name (declared f) = noting (file_number f.name scope.files ∷ []) (file_value scope h f f.kind)

-- ---- forms without parts

-- a constant
abbrev pub constant_value : Head → ℕ → Bool → Judge Valued
constant_value h value unsigned = leaf h (tree.constant (mark_under h (constant_type unsigned)) value)

-- `__in()`
abbrev pub input_value : Head → Judge Valued
input_value h = leaf h (tree.input (mark_under h Long))

-- ---- forms whose parts are judged

-- the expression of the type that its operands give it, where they give one
abbrev pub of_type : {A : Type 0} → Head → Option A → (A → Valued) → Judge Valued
of_type h ty v = on_option ty (refuse (fault_under h rules.Operands)) (λ a. finished h (v a))

-- an expression of a unary operator
abbrev pub unary_operation_value : Head → Un → Valued → Judge Valued
unary_operation_value h op e =
    of_type h (unary_type op (type_of e.tree)) (λ ty. record { tree = tree.unary (mark_under h ty) op e.tree; held = e.held })

-- an expression of a binary operator
abbrev pub binary_operation_value : Head → Bin → Valued → Valued → Judge Valued
binary_operation_value h op l r = of_type h (binary_type op (type_of l.tree) (type_of r.tree)) (λ o. record {
  tree = tree.binary (mark_under h o.ty) op o.unsigned l.tree r.tree;
  held = capped (held_both (holds_left op) l.held r.held);
})

-- a choice
abbrev pub choice_value : Head → Valued → Valued → Valued → Judge Valued
choice_value h c a b = of_type h (choice_type (type_of a.tree) (type_of b.tree)) (λ ty. record {
  tree = tree.conditional (mark_under h ty) c.tree a.tree b.tree;
  held = max c.held (max a.held b.held);
})

-- the type of an element, where the index is a number
abbrev pub element_type : Array → Ty → Option Ty
element_type a ty = if is_number ty then Some a.ty else None

-- an element of an array
abbrev pub element_value : Head → Array → Valued → Judge Valued
element_value h a i = of_type h (element_type a (type_of i.tree)) (λ ty. record {
  tree = tree.element (mark_under h ty) a.reference a.size i.tree;
  held = i.held;
})

-- `__out` of an expression
abbrev pub output_value : Head → Valued → Judge Valued
output_value h e = finished h (record { tree = tree.output (mark_under h Void) e.tree; held = e.held })

-- ---- calls

-- What is called: a function by its name, with its result's type, or a pointer.
pub data Aim : Type 0 where
  named : Ref → Ty → Aim
  through : Valued → Aim

-- A call whose callee is judged, and whether it has another number of arguments than the callee takes.
pub record Calling : Type 0 where
  pub head : Head
  pub aim : Aim
  pub other_count : Bool

-- Arguments that were judged, and how many values they hold at a time.
pub record Taken : Type 0 where
  pub trees : List TypedExpression
  pub held : ℕ

-- no argument yet
abbrev pub none_taken : Taken
none_taken = record { trees = []; held = 0 }

-- arguments are held as they come, and a call holds them all
abbrev pub taking : Taken → Valued → Taken
taking taken v = record {
  trees = taken.trees ++ v.tree ∷ [];
  held = max taken.held (capped (length taken.trees + max v.held 1));
}

-- the typed tree of a call
abbrev pub call_tree : Head → Aim → TypedExpressions → TypedExpression
call_tree h (named f ty) es = tree.call (mark_under h ty) f es
call_tree h (through v) es = tree.call_pointer (mark_under h Long) v.tree es

-- how many values a call holds: a callee that is evaluated comes after the arguments
abbrev pub call_held : Aim → Taken → ℕ
call_held (named f ty) taken = taken.held
call_held (through v) taken = max taken.held (capped (length taken.trees + v.held))

-- a call with all of its arguments
abbrev pub called : Aim → Head → Taken → Valued
called aim h taken = record { tree = call_tree h aim (typed_expressions taken.trees); held = call_held aim taken }

-- a call whose arguments are judged
abbrev pub call_value : Calling → Taken → Judge Valued
call_value c taken = finished_by c.head c.other_count (called c.aim c.head taken)

-- a call of a callee that takes parameters of these types
abbrev pub calling : Head → Aim → List Ty → Expressions → Calling
calling h aim params es = record { head = h; aim = aim; other_count = not (nat_eq (length params) (how_many es)) }

-- the number of parameters of a pointer
abbrev pub pointer_parameters : Ty → Option ℕ
pointer_parameters (Fn k) = Some k
pointer_parameters Void = None
pointer_parameters Long = None
pointer_parameters Ulong = None

-- what judges the arguments of a call, for these parameters, and the call
abbrev pub After : Type 0
After = Calling → List Ty → Judge Valued

-- a call of a function by its name
abbrev pub direct_call : Head → Expressions → After → Designated → Judge Valued
direct_call h es after d = after (calling h (named d.reference d.sig.result) d.sig.params es) d.sig.params

-- a call through a value, which has to be a pointer
abbrev pub pointer_call : Head → Expressions → After → Valued → Judge Valued
pointer_call h es after v = on_option (pointer_parameters (type_of v.tree)) (refuse (fault_under h rules.NotCallable))
    (λ k. after (calling h (through v) (replicate k Long) es) (replicate k Long))

-- ---- all forms

-- the place of the first of the arguments that are left
abbrev pub first_wanted : List Ty → Role
first_wanted params = Argument (first_parameter (Some params))

-- the types that the arguments after it have to convert to
abbrev pub others_wanted : List Ty → List Ty
others_wanted [] = []
others_wanted (ty ∷ tys) = tys

unfoldable mutual
  -- an expression in its role
  pub checked : Scope → Role → Expression → Judge Valued
  checked scope role (constant at value unsigned) = constant_value (head role at) value unsigned
  checked scope role (word at name) = named_value scope (head role at) name (name_meaning scope name)
  checked scope role (unary at op e) = checked scope Value e >>= unary_operation_value (head role at) op
  checked scope role (binary at op l r) =
      checked scope Value l >>= (λ a. checked scope Value r >>= binary_operation_value (head role at) op a)
  checked scope role (conditional at c a b) =
      checked scope Value c >>= (λ x. checked scope Value a >>= (λ y. checked scope Value b >>= choice_value (head role at) x y))
  checked scope role (call at f es) = on_option (function_of scope f)
      (checked scope Callee f >>= pointer_call (head role at) es (λ c params. checked_arguments scope c none_taken params es))
      (λ d. noting (uses scope f) (direct_call (head role at) es (λ c params. checked_arguments scope c none_taken params es) d))
  checked scope role (index at b i) = on_option (array_of scope b) (checked scope Base b)
      (λ a. noting (uses scope b) (checked scope Value i >>= element_value (head role at) a))
  checked scope role (input at) = input_value (head role at)
  checked scope role (output at e) = checked scope Written e >>= output_value (head role at)

  -- the arguments of a call that are left, and the call
  pub checked_arguments : Scope → Calling → Taken → List Ty → Expressions → Judge Valued
  checked_arguments scope c taken params nil = call_value c taken
  checked_arguments scope c taken params (cons e es) =
      checked scope (first_wanted params) e
      >>= (λ v. checked_arguments scope c (taking taken v) (others_wanted params) es)
