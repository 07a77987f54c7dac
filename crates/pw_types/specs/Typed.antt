-- The typed tree of an expression, where its parts have types and it breaks no rule of operands (C17, 6.5).
use Rattle.std.specs.Prelude.{ℕ, Bool, if◌then◌else◌, List, replicate, Option, Some, None, option_map, option_and_then}
use Rattle.pw_tree.specs.declared.ty.Ty.{Ty}
use Rattle.pw_tree.specs.declared.ty.Ty.TheVariants.{Void, Long, Ulong, Fn}
use Rattle.pw_tree.specs.declared.ty.Ref.{Ref}
use Rattle.pw_tree.specs.declared.ty.Sig.{Sig}
use Rattle.pw_tree.specs.declared.operator.Un.{Un}
use Rattle.pw_tree.specs.declared.operator.Bin.{Bin}
use Rattle.pw_tree.specs.Expressions.{Span, Expression, Expressions, constant, word, unary, binary, conditional, call, index, input, output, nil, cons}
use Rattle.pw_tree.specs.TypedExpressions.{Mark, TypedExpression, TypedExpressions, type_of}
use Rattle.pw_tree.specs.TypedExpressions as tree
use Rattle.pw_tree.specs.Types.{is_number, unary_type, binary_type, choice_type, pointer_to}
use Rattle.pw_types.specs.declared.names.Kind.{Kind}
use Rattle.pw_types.specs.declared.names.Kind.TheVariants.{Function, Variable}
use Rattle.pw_types.specs.declared.names.File.{File}
use Rattle.pw_types.specs.Scopes.{Scope, Meaning, missing, a_local, declared, name_meaning, function_reference, variable_reference}

-- the mark of a phrase that has a type
abbrev pub mark : Ty → Span → Mark
mark ty at = record { ty = ty; line = at.line }

-- ---- names

-- the value that a name is: a local's, a variable's, or a pointer to a function of a signature that has pointers
abbrev pub typed_file : Scope → Span → File → Kind → Option TypedExpression
typed_file scope at f (Function sig) = option_map (λ ty. tree.designator (mark ty at) (function_reference scope f)) (pointer_to sig)
typed_file scope at f (Variable ty None) = Some (tree.variable (mark ty at) (variable_reference scope f))
typed_file scope at f (Variable ty (Some size)) = None

-- the value that a name is by its meaning: what is missing has none
abbrev pub typed_name : Scope → Span → Meaning → Option TypedExpression
typed_name scope at missing = None
typed_name scope at (a_local l) = Some (tree.local (mark l.ty at) l.number)
typed_name scope at (declared f) = typed_file scope at f f.kind

-- An array that a name designates: how the unit names it, its elements' type and its size.
pub record Array : Type 0 where
  pub reference : Ref
  pub ty : Ty
  pub size : ℕ

-- the array that a name at file scope is
abbrev pub array_of_kind : Scope → File → Kind → Option Array
array_of_kind scope f (Function sig) = None
array_of_kind scope f (Variable ty None) = None
array_of_kind scope f (Variable ty (Some size)) = Some (record { reference = variable_reference scope f; ty = ty; size = size })

-- the array that a name is by its meaning; no local is an array
abbrev pub array_of_meaning : Scope → Meaning → Option Array
array_of_meaning scope missing = None
array_of_meaning scope (a_local l) = None
array_of_meaning scope (declared f) = array_of_kind scope f f.kind

-- the array that a name designates in a scope
abbrev pub array_named : Scope → List ℕ → Option Array
array_named scope name = array_of_meaning scope (name_meaning scope name)

-- A function that a name designates: how the unit names it, and its signature.
pub record Designated : Type 0 where
  pub reference : Ref
  pub sig : Sig

-- the function that a name at file scope is
abbrev pub function_of_kind : Scope → File → Kind → Option Designated
function_of_kind scope f (Function sig) = Some (record { reference = function_reference scope f; sig = sig })
function_of_kind scope f (Variable ty size) = None

-- the function that a name is by its meaning; no local is a function
abbrev pub function_of_meaning : Scope → Meaning → Option Designated
function_of_meaning scope missing = None
function_of_meaning scope (a_local l) = None
function_of_meaning scope (declared f) = function_of_kind scope f f.kind

-- the function that a name designates in a scope
abbrev pub function_named : Scope → List ℕ → Option Designated
function_named scope name = function_of_meaning scope (name_meaning scope name)

-- ---- phrases that are names

-- the array that an expression names; only a name does
abbrev pub array_of : Scope → Expression → Option Array
array_of scope (word at name) = array_named scope name
array_of scope (constant at value unsigned) = None
array_of scope (unary at op e) = None
array_of scope (binary at op l r) = None
array_of scope (conditional at c a b) = None
array_of scope (call at f es) = None
array_of scope (index at b i) = None
array_of scope (input at) = None
array_of scope (output at e) = None

-- the function that an expression names; only a name does
abbrev pub function_of : Scope → Expression → Option Designated
function_of scope (word at name) = function_named scope name
function_of scope (constant at value unsigned) = None
function_of scope (unary at op e) = None
function_of scope (binary at op l r) = None
function_of scope (conditional at c a b) = None
function_of scope (call at f es) = None
function_of scope (index at b i) = None
function_of scope (input at) = None
function_of scope (output at e) = None

-- ---- calls

-- What is called: a function by its name, a pointer, or nothing that can be called.
pub data Callee : Type 0 where
  direct : Designated → Callee
  through : TypedExpression → ℕ → Callee
  neither : Callee

-- a value of a pointer type is called through
abbrev pub pointer_of_type : TypedExpression → Ty → Callee
pointer_of_type t (Fn k) = through t k
pointer_of_type t Void = neither
pointer_of_type t Long = neither
pointer_of_type t Ulong = neither

-- a callee by its value, where it has one
abbrev pub pointer_callee : Option TypedExpression → Callee
pointer_callee (Some t) = pointer_of_type t (type_of t)
pointer_callee None = neither

-- a function's name comes before its value: it is called directly
abbrev pub callee_of : Option Designated → Option TypedExpression → Callee
callee_of (Some f) value = direct f
callee_of None value = pointer_callee value

-- the parameters that a callee has; a pointer's are longs
abbrev pub parameters_of : Callee → Option (List Ty)
parameters_of (direct f) = Some f.sig.params
parameters_of (through t k) = Some (replicate k Long)
parameters_of neither = None

-- the typed call: a pointer gives a long
abbrev pub called : Span → Callee → TypedExpressions → Option TypedExpression
called at (direct f) es = Some (tree.call (mark f.sig.result at) f.reference es)
called at (through t k) es = Some (tree.call_pointer (mark Long at) t es)
called at neither es = None

-- ---- all forms

-- a unary operator, where its operand has a type that it takes
abbrev pub typed_unary : Span → Un → TypedExpression → Option TypedExpression
typed_unary at op e = option_map (λ ty. tree.unary (mark ty at) op e) (unary_type op (type_of e))

-- a binary operator, where its operands have types that it takes; it keeps whether it is unsigned
abbrev pub typed_binary : Span → Bin → TypedExpression → TypedExpression → Option TypedExpression
typed_binary at op l r = option_map (λ o. tree.binary (mark o.ty at) op o.unsigned l r) (binary_type op (type_of l) (type_of r))

-- a choice, where its two values have a common type
abbrev pub typed_choice : Span → TypedExpression → TypedExpression → TypedExpression → Option TypedExpression
typed_choice at c a b = option_map (λ ty. tree.conditional (mark ty at) c a b) (choice_type (type_of a) (type_of b))

-- an element of an array, at an index that is a number
abbrev pub typed_element : Span → Array → TypedExpression → Option TypedExpression
typed_element at a i = if is_number (type_of i) then Some (tree.element (mark a.ty at) a.reference a.size i) else None

-- two results, where both are there
abbrev pub with_both : {A B C : Type 0} → (A → B → Option C) → Option A → Option B → Option C
with_both f (Some a) (Some b) = f a b
with_both f (Some a) None = None
with_both f None b = None

-- three results, where all are there
abbrev pub with_three : {A B C D : Type 0} → (A → B → C → Option D) → Option A → Option B → Option C → Option D
with_three f (Some a) b c = with_both (f a) b c
with_three f None b c = None

-- a typed expression before others
abbrev pub both_trees : TypedExpression → TypedExpressions → Option TypedExpressions
both_trees e es = Some (tree.cons e es)

-- a constant with the suffix `u` is unsigned
abbrev pub constant_type : Bool → Ty
constant_type unsigned = if unsigned then Ulong else Long

unfoldable mutual
  -- the typed tree of an expression
  pub typed : Scope → Expression → Option TypedExpression
  typed scope (constant at value unsigned) = Some (tree.constant (mark (constant_type unsigned) at) value)
  typed scope (word at name) = typed_name scope at (name_meaning scope name)
  typed scope (unary at op e) = option_and_then (typed_unary at op) (typed scope e)
  typed scope (binary at op l r) = with_both (typed_binary at op) (typed scope l) (typed scope r)
  typed scope (conditional at c a b) = with_three (typed_choice at) (typed scope c) (typed scope a) (typed scope b)
  typed scope (call at f es) =
      option_and_then (called at (callee_of (function_of scope f) (typed scope f))) (typed_all scope es)
  typed scope (index at b i) = with_both (typed_element at) (array_of scope b) (typed scope i)
  typed scope (input at) = Some (tree.input (mark Long at))
  typed scope (output at e) = option_map (λ t. tree.output (mark Void at) t) (typed scope e)

  -- the typed trees of several
  pub typed_all : Scope → Expressions → Option TypedExpressions
  typed_all scope nil = Some tree.nil
  typed_all scope (cons e es) = with_both both_trees (typed scope e) (typed_all scope es)
