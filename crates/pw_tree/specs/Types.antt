-- The types of expressions, and which of them convert (C17, 6.3 and 6.5, in this language's profile).
use Rattle.std.specs.Prelude.{ℕ, ◌≤◌, Bool, true, false, ◌&&◌, ◌||◌, not, if◌then◌else◌, List, [], ◌∷◌, length, Option, Some, None, ⊤, nat_eq, nat_le}
use Rattle.std.specs.List.{list_all}
use Rattle.pw_base.specs.Limits.{parameters, array_elements}
use Rattle.pw_tree.specs.declared.ty.Ty.{Ty}
use Rattle.pw_tree.specs.declared.ty.Ty.TheVariants.{Void, Long, Ulong, Fn}
use Rattle.pw_tree.specs.declared.ty.Sig.{Sig}
use Rattle.pw_tree.specs.declared.operator.Un.{Un}
use Rattle.pw_tree.specs.declared.operator.Un.TheVariants.{Neg, Plus, Not, Bang}
use Rattle.pw_tree.specs.declared.operator.Bin.{Bin}
use Rattle.pw_tree.specs.declared.operator.Bin.TheVariants.{Mul, Div, Rem, Add, Sub, Shl, Shr, Lt, Gt, Le, Ge, Eq, Ne, And, Xor, Or, AndAnd, OrOr}

-- ---- sorts of types

-- long or unsigned long
abbrev pub is_number : Ty → Bool
is_number Long = true
is_number Ulong = true
is_number Void = false
is_number (Fn k) = false

-- unsigned long
abbrev pub is_unsigned : Ty → Bool
is_unsigned Ulong = true
is_unsigned Long = false
is_unsigned Void = false
is_unsigned (Fn k) = false

-- no value
abbrev pub is_void : Ty → Bool
is_void Void = true
is_void Long = false
is_void Ulong = false
is_void (Fn k) = false

-- a pointer to a function
abbrev pub is_pointer : Ty → Bool
is_pointer (Fn k) = true
is_pointer Void = false
is_pointer Long = false
is_pointer Ulong = false

-- a pointer to functions of k parameters
abbrev pub same_pointer_as : ℕ → Ty → Bool
same_pointer_as k (Fn j) = nat_eq k j
same_pointer_as k Void = false
same_pointer_as k Long = false
same_pointer_as k Ulong = false

-- two equal types of pointers
abbrev pub same_pointers : Ty → Ty → Bool
same_pointers (Fn k) b = same_pointer_as k b
same_pointers Void b = false
same_pointers Long b = false
same_pointers Ulong b = false

-- Two types are one.
abbrev pub same_type : Ty → Ty → Bool
same_type Void b = is_void b
same_type Long b = is_number b && not (is_unsigned b)
same_type Ulong b = is_unsigned b
same_type (Fn k) b = same_pointer_as k b

-- ---- conversions

-- Numbers convert to numbers, without change of bits; a pointer to an equal type.
abbrev pub converts : Ty → Ty → Bool
converts from to = (is_number from && is_number to) || same_pointers from to

-- what two numbers become: unsigned long where one of them is
abbrev pub common : Ty → Ty → Ty
common a b = if is_unsigned a || is_unsigned b then Ulong else Long

-- ---- types that may stand in a declaration

-- pointers are to functions with at most 6 parameters
abbrev pub IsResultType : Ty → Type 0
IsResultType Void = ⊤
IsResultType Long = ⊤
IsResultType Ulong = ⊤
IsResultType (Fn k) = k ≤ parameters

-- the same, and it is not void
abbrev pub IsValueType : Ty → Type 0
IsValueType Void = ⊥
IsValueType Long = ⊤
IsValueType Ulong = ⊤
IsValueType (Fn k) = k ≤ parameters

-- none of the types is void
unfoldable pub AreValueTypes : List Ty → Type 0
AreValueTypes [] = ⊤
AreValueTypes (ty ∷ tys) = IsValueType ty × AreValueTypes tys

-- an array's size, where there is one
abbrev pub IsArraySize : Option ℕ → Type 0
IsArraySize None = ⊤
IsArraySize (Some size) = (1 ≤ size) × (size ≤ array_elements)

-- ---- operators

-- `!` takes any value and gives long; the others take a number and have its type
abbrev pub unary_type : Un → Ty → Option Ty
unary_type Bang t = Some Long
unary_type Neg t = if is_number t then Some t else None
unary_type Plus t = if is_number t then Some t else None
unary_type Not t = if is_number t then Some t else None

-- A binary operator's type, and whether it is the unsigned one.
pub record Operation : Type 0 where
  pub ty : Ty
  pub unsigned : Bool

-- both are numbers, and so is the result
abbrev pub on_numbers : (Ty → Ty → Operation) → Ty → Ty → Option Operation
on_numbers f l r = if is_number l && is_number r then Some (f l r) else None

-- arithmetic has the type that both numbers become
abbrev pub arithmetic : Ty → Ty → Operation
arithmetic l r = record { ty = common l r; unsigned = is_unsigned l || is_unsigned r }

-- a shift has the type of its left side
abbrev pub shift : Ty → Ty → Operation
shift l r = record { ty = l; unsigned = is_unsigned l }

-- a comparison gives a long, and is unsigned where one of its sides is
abbrev pub comparison : Ty → Ty → Operation
comparison l r = record { ty = Long; unsigned = is_unsigned l || is_unsigned r }

-- a long that no sign bears on
abbrev pub truth_operation : Operation
truth_operation = record { ty = Long; unsigned = false }

-- `==` and `!=` also take two equal types of pointers
abbrev pub equality : Ty → Ty → Option Operation
equality l r = if same_pointers l r then Some truth_operation else on_numbers comparison l r

-- the type of each binary operator, where its operands have types that it takes
abbrev pub binary_type : Bin → Ty → Ty → Option Operation
binary_type AndAnd l r = Some truth_operation
binary_type OrOr l r = Some truth_operation
binary_type Eq l r = equality l r
binary_type Ne l r = equality l r
binary_type Lt l r = on_numbers comparison l r
binary_type Gt l r = on_numbers comparison l r
binary_type Le l r = on_numbers comparison l r
binary_type Ge l r = on_numbers comparison l r
binary_type Shl l r = on_numbers shift l r
binary_type Shr l r = on_numbers shift l r
binary_type Mul l r = on_numbers arithmetic l r
binary_type Div l r = on_numbers arithmetic l r
binary_type Rem l r = on_numbers arithmetic l r
binary_type Add l r = on_numbers arithmetic l r
binary_type Sub l r = on_numbers arithmetic l r
binary_type And l r = on_numbers arithmetic l r
binary_type Xor l r = on_numbers arithmetic l r
binary_type Or l r = on_numbers arithmetic l r

-- `c ? a : b` takes two numbers, or two equal types of pointers
abbrev pub choice_type : Ty → Ty → Option Ty
choice_type a b = if same_pointers a b then Some a else (if is_number a && is_number b then Some (common a b) else None)

-- ---- functions

-- The type of pointers to functions of a signature: long f(long, .., long) with few enough parameters has one.
abbrev pub pointer_to : Sig → Option Ty
pointer_to sig =
    if same_type sig.result Long && list_all (λ p. same_type p Long) sig.params && nat_le (length sig.params) parameters
    then Some (Fn (length sig.params)) else None
