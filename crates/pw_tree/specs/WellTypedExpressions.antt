-- When a typed expression is well typed: the classes of its parts, what its references name, the locals that it reads, and its
-- numbers.
use Rattle.std.specs.Prelude.{◌≡◌, ℕ, suc, ◌+◌, ◌^◌, ◌<◌, ◌≤◌, Bool, true, false, ◌||◌, if◌then◌else◌, List, [], ◌∷◌, length, Option, Some, None, ⊤, nat_eq, bytes_eq, find, slice_get, option_map, option_and_then}
use Rattle.std.specs.List.{list_any}
use Rattle.pw_base.specs.Limits.{parameters, function_tokens}
use Rattle.pw_tree.specs.declared.operator.Un.{Un}
use Rattle.pw_tree.specs.declared.operator.Un.TheVariants.{Neg, Plus, Not, Bang}
use Rattle.pw_tree.specs.declared.operator.Bin.{Bin}
use Rattle.pw_tree.specs.declared.operator.Bin.TheVariants.{AndAnd, OrOr, Eq, Ne}
use Rattle.pw_tree.specs.declared.ty.Ty.{Ty}
use Rattle.pw_tree.specs.declared.ty.Ty.TheVariants.{Void, Long, Ulong, Fn}
use Rattle.pw_tree.specs.declared.ty.Sig.{Sig}
use Rattle.pw_tree.specs.declared.ty.Ref.{Ref}
use Rattle.pw_tree.specs.declared.ty.Ref.TheVariants.{Global, LocalFun, LocalVar}
use Rattle.pw_tree.specs.declared.tunit.TVar.{TVar}
use Rattle.pw_tree.specs.declared.tunit.Ext.{Ext}
use Rattle.pw_tree.specs.Types.{IsResultType, IsValueType, AreValueTypes, IsArraySize, pointer_to}
use Rattle.pw_tree.specs.TypedExpressions.{Mark, TypedExpression, TypedExpressions, constant, local, variable, designator, element, unary, binary, conditional, call, call_pointer, input, output, nil, cons, mark_of, type_of}
use Rattle.pw_tree.specs.Held.{count}
use Rattle.pw_tree.specs.TypeTexts.{text_of_function, text_of_variable}
use Rattle.pw_tree.specs.Units.{Function, TypedUnit}

-- ---- classes

-- What a type says of a value: that there is none, that it is a number, signed or not, or that it is a pointer to functions
-- of so many parameters.
pub data Class : Type 0 where
  nothing : Class
  number : Class
  pointer : ℕ → Class

-- the class of a type
abbrev pub class_of : Ty → Class
class_of Void = nothing
class_of Long = number
class_of Ulong = number
class_of (Fn k) = pointer k

-- the class of an expression
abbrev pub class : TypedExpression → Class
class e = class_of (type_of e)

-- there is a value
abbrev pub IsValue : Class → Type 0
IsValue nothing = ⊥
IsValue number = ⊤
IsValue (pointer k) = ⊤

-- the class of a value that a variable, a parameter or a local may have
abbrev pub IsValueClass : Class → Type 0
IsValueClass nothing = ⊥
IsValueClass number = ⊤
IsValueClass (pointer k) = k ≤ parameters

-- ---- what references name

-- the type's text that a list has for a name
abbrev pub text_named : List ℕ → List Ext → Option (List ℕ)
text_named name names = option_map (λ n. n.text) (find (λ n. bytes_eq n.name name) names)

-- A signature has a result's type, and at most 6 parameters, none of them void.
pub record IsSignature (sig : Sig) : Type 0 where
  pub result : IsResultType sig.result
  pub params : AreValueTypes sig.params
  pub few : length sig.params ≤ parameters

-- the signature of a function with internal linkage
abbrev pub static_sig : Function → Option Sig
static_sig f = if f.global then None else Some f.sig

-- A reference names a function of this signature: an external one by the text of its name, a static one by its number.
abbrev pub NamesFunction : TypedUnit → Ref → Sig → Type 0
NamesFunction unit (Global name) sig = text_named name unit.names ≡ Some (text_of_function sig)
NamesFunction unit (LocalFun i) sig = option_and_then static_sig (slice_get unit.functions i) ≡ Some sig
NamesFunction unit (LocalVar i) sig = ⊥

-- A reference names a function, of a signature that a function may have.
pub record IsFunction (unit : TypedUnit) (f : Ref) (sig : Sig) : Type 0 where
  pub types : IsSignature sig
  pub names : NamesFunction unit f sig

-- The type of a variable or of an array's elements, and the array's size.
pub record Shape : Type 0 where
  pub ty : Ty
  pub size : Option ℕ

-- the shape of a variable with internal linkage
abbrev pub static_shape : TVar → Option Shape
static_shape x = if x.global then None else Some (record { ty = x.ty; size = x.count })

-- A reference names a variable of this shape.
abbrev pub NamesVariable : TypedUnit → Ref → Shape → Type 0
NamesVariable unit (Global name) shape = text_named name unit.names ≡ Some (text_of_variable shape.ty shape.size)
NamesVariable unit (LocalVar i) shape = option_and_then static_shape (slice_get unit.variables i) ≡ Some shape
NamesVariable unit (LocalFun i) shape = ⊥

-- A reference names a variable or an array, of a shape that one may have.
pub record IsVariable (unit : TypedUnit) (x : Ref) (shape : Shape) : Type 0 where
  pub type : IsValueType shape.ty
  pub size : IsArraySize shape.size
  pub names : NamesVariable unit x shape

-- A reference names a variable of this class, or an array of this size of such.
pub record HasClass (unit : TypedUnit) (x : Ref) (size : Option ℕ) (c : Class) : Type 0 where
  pub ty : Ty
  pub variable : IsVariable unit x (record { ty = ty; size = size })
  pub class_is : c ≡ class_of ty

-- ---- the classes of parts

-- `!` takes any value, the others a number
abbrev pub OperandFits : Un → Class → Type 0
OperandFits Bang c = IsValue c
OperandFits Neg c = c ≡ number
OperandFits Plus c = c ≡ number
OperandFits Not c = c ≡ number

-- `&&` and `||` take any two values, `==` and `!=` two of one class, the others two numbers
abbrev pub OperandsFit : Bin → Class → Class → Type 0
OperandsFit AndAnd l r = IsValue l × IsValue r
OperandsFit OrOr l r = IsValue l × IsValue r
OperandsFit Eq l r = IsValue l × (r ≡ l)
OperandsFit Ne l r = IsValue l × (r ≡ l)
OperandsFit op l r = (l ≡ number) × (r ≡ number)

-- as many arguments as parameters, each of its parameter's class
unfoldable pub ArgumentsFit : List Ty → TypedExpressions → Type 0
ArgumentsFit [] nil = ⊤
ArgumentsFit (ty ∷ tys) (cons e es) = (class e ≡ class_of ty) × ArgumentsFit tys es
ArgumentsFit [] (cons e es) = ⊥
ArgumentsFit (ty ∷ tys) nil = ⊥

-- each is a number
unfoldable pub AreNumbers : TypedExpressions → Type 0
AreNumbers nil = ⊤
AreNumbers (cons e es) = (class e ≡ number) × AreNumbers es

-- A call by name: the function's signature, its result and its arguments.
pub record Calls (unit : TypedUnit) (at : Mark) (f : Ref) (es : TypedExpressions) : Type 0 where
  pub sig : Sig
  pub function : IsFunction unit f sig
  pub result : class_of at.ty ≡ class_of sig.result
  pub arguments : ArgumentsFit sig.params es

-- A call through a pointer: it takes numbers, as many as there are, and gives a number.
pub record CallsPointer (at : Mark) (e : TypedExpression) (es : TypedExpressions) : Type 0 where
  pub result : class_of at.ty ≡ number
  pub callee : class e ≡ pointer (count es)
  pub arguments : AreNumbers es

-- A function's name as a value: a pointer to functions of its signature.
pub record Points (unit : TypedUnit) (at : Mark) (f : Ref) : Type 0 where
  pub sig : Sig
  pub function : IsFunction unit f sig
  pub type : pointer_to sig ≡ Some at.ty

-- The expression's class, and those of the expressions right in it, are as its form asks, where the function's locals have
-- these classes.
abbrev pub HasFittingParts : TypedUnit → List Class → TypedExpression → Type 0
HasFittingParts unit classes (constant at value) = class_of at.ty ≡ number
HasFittingParts unit classes (local at i) = slice_get classes i ≡ Some (class_of at.ty)
HasFittingParts unit classes (variable at x) = HasClass unit x None (class_of at.ty)
HasFittingParts unit classes (designator at f) = Points unit at f
HasFittingParts unit classes (element at a size i) = HasClass unit a (Some size) (class_of at.ty) × (class i ≡ number)
HasFittingParts unit classes (unary at op e) = (class_of at.ty ≡ number) × OperandFits op (class e)
HasFittingParts unit classes (binary at op unsigned l r) = (class_of at.ty ≡ number) × OperandsFit op (class l) (class r)
HasFittingParts unit classes (conditional at c a b) =
    IsValue (class c) × IsValue (class_of at.ty) × (class a ≡ class_of at.ty) × (class b ≡ class_of at.ty)
HasFittingParts unit classes (call at f es) = Calls unit at f es
HasFittingParts unit classes (call_pointer at e es) = CallsPointer at e es
HasFittingParts unit classes (input at) = class_of at.ty ≡ number
HasFittingParts unit classes (output at e) = (class_of at.ty ≡ nothing) × (class e ≡ number)

-- ---- the locals that are read

-- A local is known at a place if it is a parameter, or a value was given to it on the way there.
abbrev pub IsKnown : List ℕ → ℕ → Type 0
IsKnown known i = list_any (λ j. nat_eq j i) known ≡ true

-- only a known local is read
abbrev pub ReadsKnown : List ℕ → TypedExpression → Type 0
ReadsKnown known (local at i) = IsKnown known i
ReadsKnown known e = ⊤

-- ---- numbers

-- a constant has 64 bits
abbrev pub IsSmallConstant : TypedExpression → Type 0
IsSmallConstant (constant at value) = value < 2 ^ 64
IsSmallConstant e = ⊤

-- a constant has 64 bits, and a line 32; the size of an array is bounded by what its reference names
pub record HasSmallNumbers (e : TypedExpression) : Type 0 where
  pub line : (mark_of e).line < 2 ^ 32
  pub value : IsSmallConstant e

-- ---- throughout an expression

unfoldable mutual
  -- this holds of the expression, and of each expression in it
  pub Throughout : (TypedExpression → Type 0) → TypedExpression → Type 0
  Throughout P (constant at value) = P (constant at value)
  Throughout P (local at i) = P (local at i)
  Throughout P (variable at x) = P (variable at x)
  Throughout P (designator at f) = P (designator at f)
  Throughout P (element at a size i) = P (element at a size i) × Throughout P i
  Throughout P (unary at op e) = P (unary at op e) × Throughout P e
  Throughout P (binary at op unsigned l r) = P (binary at op unsigned l r) × Throughout P l × Throughout P r
  Throughout P (conditional at c a b) = P (conditional at c a b) × Throughout P c × Throughout P a × Throughout P b
  Throughout P (call at f es) = P (call at f es) × ThroughoutAll P es
  Throughout P (call_pointer at e es) = P (call_pointer at e es) × Throughout P e × ThroughoutAll P es
  Throughout P (input at) = P (input at)
  Throughout P (output at e) = P (output at e) × Throughout P e

  -- throughout several expressions
  pub ThroughoutAll : (TypedExpression → Type 0) → TypedExpressions → Type 0
  ThroughoutAll P nil = ⊤
  ThroughoutAll P (cons e es) = Throughout P e × ThroughoutAll P es

unfoldable mutual
  -- how many expressions there are in an expression, itself included
  pub expressions_in : TypedExpression → ℕ
  expressions_in (constant at value) = 1
  expressions_in (local at i) = 1
  expressions_in (variable at x) = 1
  expressions_in (designator at f) = 1
  expressions_in (element at a size i) = suc (expressions_in i)
  expressions_in (unary at op e) = suc (expressions_in e)
  expressions_in (binary at op unsigned l r) = suc (expressions_in l + expressions_in r)
  expressions_in (conditional at c a b) = suc (expressions_in c + (expressions_in a + expressions_in b))
  expressions_in (call at f es) = suc (expressions_in_all es)
  expressions_in (call_pointer at e es) = suc (expressions_in e + expressions_in_all es)
  expressions_in (input at) = 1
  expressions_in (output at e) = suc (expressions_in e)

  -- in several expressions
  pub expressions_in_all : TypedExpressions → ℕ
  expressions_in_all nil = 0
  expressions_in_all (cons e es) = expressions_in e + expressions_in_all es

-- ---- all

-- An expression by itself is well typed, in a function of the unit whose locals have these classes. Which locals are known at its
-- place is a matter of the statements round it.
pub record IsWellTypedExpression (unit : TypedUnit) (classes : List Class) (e : TypedExpression) : Type 0 where
  pub parts : Throughout (HasFittingParts unit classes) e
  pub numbers : Throughout HasSmallNumbers e
  pub few : expressions_in e ≤ function_tokens
