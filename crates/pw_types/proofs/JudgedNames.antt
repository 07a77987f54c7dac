-- What judging makes of a name.
use Rattle.std.proofs.Common.{◌≡◌, ℕ, Bool, true, false, List, [], ◌∷◌, Option, Some, None, refl, sym, ◌∙◌, subst}
use Rattle.std.proofs.Math.Bool.{and-false}
use Rattle.std.specs.Option.{option_map}
use Rattle.pw_tree.specs.declared.ty.Ty.{Ty}
use Rattle.pw_tree.specs.Expressions.{Span, Expression, constant, word, unary, binary, conditional, call, index, input, output}
use Rattle.pw_tree.specs.TypedExpressions.{TypedExpression}
use Rattle.pw_tree.specs.TypedExpressions as tree
use Rattle.pw_types.specs.declared.rule.Rule.TheVariants as rules
use Rattle.pw_types.specs.declared.role.Role.{Role}
use Rattle.pw_types.specs.declared.role.Role.TheVariants.{Statement, Value, Callee, Base, Argument, Written, Assigned}
use Rattle.pw_types.specs.declared.fault.Fault.{Fault}
use Rattle.pw_types.specs.declared.names.Kind.{Kind}
use Rattle.pw_types.specs.declared.names.Kind.TheVariants.{Function, Variable}
use Rattle.pw_types.specs.declared.names.File.{File}
use Rattle.pw_tree.specs.Types.{pointer_to}
use Rattle.pw_types.specs.Scopes.{Scope, Meaning, missing, a_local, declared, name_meaning, function_reference, variable_reference}
use Rattle.pw_tree.specs.Held.{held}
use Rattle.pw_types.specs.Faults.{first_of}
use Rattle.pw_types.specs.Typed.{mark, Array, array_of, typed, array_of_kind, array_of_meaning, Designated, function_of_kind, function_of_meaning, typed_file, typed_name}
use Rattle.pw_types.specs.Steps.Uses.{file_number, uses_of_meaning}
use Rattle.pw_types.specs.Expressions.{is_base, is_missing}
use Rattle.pw_types.specs.Steps.ExpressionFaults.{faults}
use Rattle.pw_types.specs.Steps.CheckingExpressions.{head, fault_under, array_rule, function_rule, leaf, function_value, file_value, named_value}
use Rattle.pw_types.proofs.JudgedPhrases.{Judged, faulty, noted, no_more}
use Rattle.pw_types.proofs.OwnRules.{rules_by, rules_of, own_rules}
use Rattle.pw_types.proofs.JudgedForms.{leaf_judged}

-- the own faults of a name
abbrev pub rules_of_name : Role → ℕ → List ℕ → Bool → Option Designated → Option Array → Option TypedExpression → List Fault
rules_of_name role at name unknown function array t = rules_by role at name true unknown function array t false false

-- ---- names of values

same_of_value : (role : Role) (at : ℕ) (name : List ℕ) (v : TypedExpression)
    → rules_of role at (Some v) false false ≡ rules_of_name role at name false None None (Some v)
same_of_value Statement at name v = refl
same_of_value Value at name v = refl
same_of_value Callee at name v = refl
same_of_value Base at name v = refl
same_of_value (Argument None) at name v = refl
same_of_value (Argument (Some to)) at name v = refl
same_of_value Written at name v = refl
same_of_value (Assigned None) at name v = refl
same_of_value (Assigned (Some to)) at name v = refl

value_judged : (role : Role) (at : Span) (name : List ℕ) (v : TypedExpression) → held v ≡ 0
    → Judged role (rules_of_name role at.last name false None None (Some v)) (Some v) [] (leaf (head role at) v)
value_judged role at name v none =
    let P : List Fault → Type 0 = λ fs. Judged role fs (Some v) [] (leaf (head role at) v) in
    subst P (same_of_value role at.last name v) (leaf_judged role at v none)

same_of_function : (role : Role) (at : ℕ) (name : List ℕ) (d : Designated) (v : TypedExpression)
    → rules_of_name role at name false None None (Some v) ≡ rules_of_name role at name false (Some d) None (Some v)
same_of_function role at name d v = simp (and-false)

-- ---- names of functions

function_first : (role : Role) (at : Span) (name : List ℕ) (d : Designated)
    → first_of (rules_of_name role at.last name false (Some d) None None) ≡ Some (fault_under (head role at) (function_rule role))
function_first Statement at name d = refl
function_first Value at name d = refl
function_first Callee at name d = refl
function_first Base at name d = refl
function_first (Argument want) at name d = refl
function_first Written at name d = refl
function_first (Assigned want) at name d = refl

function_judged : (scope : Scope) (role : Role) (at : Span) (name : List ℕ) (f : File) (d : Designated) (o : Option Ty)
    → Judged role (rules_of_name role at.last name false (Some d) None (option_map (λ ty. tree.designator (mark ty at) (function_reference scope f)) o))
    (option_map (λ ty. tree.designator (mark ty at) (function_reference scope f)) o) [] (function_value scope (head role at) f o)
unfolding held
function_judged scope role at name f d None =
    faulty (fault_under (head role at) (function_rule role)) (function_first role at name d) (λ used. refl)
function_judged scope role at name f d (Some ty) =
    let v : TypedExpression = tree.designator (mark ty at) (function_reference scope f) in
    let P : List Fault → Type 0 = λ fs. Judged role fs (Some v) [] (leaf (head role at) v) in
    subst P (same_of_function role at.last name d v) (value_judged role at name v refl)

-- ---- names of arrays

array_first : (role : Role) (at : Span) (name : List ℕ) (a : Array) →
    (is_base role ≡ true → ◌≡◌ {A = Option Array} (Some a) None)
    → first_of (rules_of_name role at.last name false None (Some a) None) ≡ Some (fault_under (head role at) (array_rule role))
array_first Statement at name a h = refl
array_first Value at name a h = refl
array_first Callee at name a h = refl
array_first Base at name a h = let e : ◌≡◌ {A = Option Array} (Some a) None = h refl in cc
array_first (Argument None) at name a h = refl
array_first (Argument (Some to)) at name a h = refl
array_first Written at name a h = refl
array_first (Assigned None) at name a h = refl
array_first (Assigned (Some to)) at name a h = refl

-- ---- all names

file_judged : (scope : Scope) (role : Role) (at : Span) (name : List ℕ) (f : File) (k : Kind) →
    (is_base role ≡ true → array_of_kind scope f k ≡ None)
    → Judged role (rules_of_name role at.last name false (function_of_kind scope f k) (array_of_kind scope f k) (typed_file scope at f k))
    (typed_file scope at f k) [] (file_value scope (head role at) f k)
unfolding held
file_judged scope role at name f (Function sig) h =
    function_judged scope role at name f (record { reference = function_reference scope f; sig = sig }) (pointer_to sig)
file_judged scope role at name f (Variable ty None) h = value_judged role at name (tree.variable (mark ty at) (variable_reference scope f)) refl
file_judged scope role at name f (Variable ty (Some size)) h =
    faulty (fault_under (head role at) (array_rule role)) (array_first role at name _ h) (λ used. refl)

pub name_judged : (scope : Scope) (role : Role) (at : Span) (name : List ℕ) (m : Meaning) →
    (is_base role ≡ true → array_of_meaning scope m ≡ None)
    → Judged role (rules_of_name role at.last name (is_missing m) (function_of_meaning scope m) (array_of_meaning scope m) (typed_name scope at m))
    (typed_name scope at m) (uses_of_meaning scope m) (named_value scope (head role at) name m)
unfolding held
name_judged scope role at name missing h = faulty (record { rule = rules.Unknown; at = at.last; name = Some name }) refl (λ used. refl)
name_judged scope role at name (a_local l) h = value_judged role at name (tree.local (mark l.ty at) l.number) refl
name_judged scope role at name (declared f) h =
    no_more (noted (file_number f.name scope.files ∷ []) (file_judged scope role at name f f.kind h))

-- an array's name as a base breaks no rule
of_kind : (scope : Scope) (at : ℕ) (name : List ℕ) (f : File) (place : Span) (k : Kind) (a : Array) →
    array_of_kind scope f k ≡ Some a
    → rules_of_name Base at name false (function_of_kind scope f k) (array_of_kind scope f k) (typed_file scope place f k) ≡ []
of_kind scope at name f place (Function sig) a h = cc
of_kind scope at name f place (Variable ty None) a h = cc
of_kind scope at name f place (Variable ty (Some size)) a h = refl

of_meaning : (scope : Scope) (at : Span) (name : List ℕ) (m : Meaning) (a : Array) → array_of_meaning scope m ≡ Some a
    → rules_of_name Base at.last name (is_missing m) (function_of_meaning scope m) (array_of_meaning scope m) (typed_name scope at m) ≡ []
of_meaning scope at name missing a h = cc
of_meaning scope at name (a_local l) a h = cc
of_meaning scope at name (declared f) a h = of_kind scope at.last name f at f.kind a h

pub array_base : (scope : Scope) (e : Expression) (a : Array) → array_of scope e ≡ Some a → faults scope Base e ≡ []
unfolding faults typed
array_base scope (word at name) a h = sym (own_rules scope Base (word at name)) ∙ of_meaning scope at name (name_meaning scope name) a h
array_base scope (constant at value unsigned) a h = cc
array_base scope (unary at op e) a h = cc
array_base scope (binary at op l r) a h = cc
array_base scope (conditional at c x y) a h = cc
array_base scope (call at f es) a h = cc
array_base scope (index at b i) a h = cc
array_base scope (input at) a h = cc
array_base scope (output at e) a h = cc
