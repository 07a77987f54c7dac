-- What the rules of types say of classes.
use Rattle.std.proofs.Common.{◌≡◌, ℕ, Bool, true, false, ◌&&◌, if◌then◌else◌, [], ◌∷◌, Some, None, refl, sym, ap, subst, ◌∙◌}
use Rattle.std.specs.Prelude.{nat_eq, ⊤}
use Rattle.std.proofs.lemmas.Bool.{eqb-true}
use Rattle.pw_tree.specs.declared.ty.Ty.{Ty}
use Rattle.pw_tree.specs.declared.ty.Ty.TheVariants.{Void, Long, Ulong, Fn}
use Rattle.pw_tree.specs.declared.operator.Un.{Un}
use Rattle.pw_tree.specs.declared.operator.Un.TheVariants.{Neg, Plus, Not, Bang}
use Rattle.pw_tree.specs.declared.operator.Bin.{Bin}
use Rattle.pw_tree.specs.declared.operator.Bin.TheVariants.{Mul, Div, Rem, Add, Sub, Shl, Shr, Lt, Gt, Le, Ge, Eq, Ne, And, Xor, Or, AndAnd, OrOr}
use Rattle.pw_tree.specs.Types.{is_number, is_void, same_pointers, converts, common, Operation, on_numbers, arithmetic, shift, comparison, truth_operation, equality, unary_type, binary_type, choice_type}
use Rattle.pw_tree.specs.WellTypedExpressions.{Class, nothing, number, pointer, class_of, IsValue, OperandFits, OperandsFit}

pub number_class : (ty : Ty) → is_number ty ≡ true → class_of ty ≡ number
number_class Void h = cc
number_class Long h = refl
number_class Ulong h = refl
number_class (Fn k) h = cc

pub value_class : (ty : Ty) → is_void ty ≡ false → IsValue (class_of ty)
value_class Void h = cc
value_class Long h = tt
value_class Ulong h = tt
value_class (Fn k) h = tt

pub void_class : (ty : Ty) → is_void ty ≡ true → class_of ty ≡ nothing
void_class Void h = refl
void_class Long h = cc
void_class Ulong h = cc
void_class (Fn k) h = cc

same_count : (j k : ℕ) → nat_eq j k ≡ true → pointer j ≡ pointer k
same_count j k h = ap pointer (eqb-true j k h)

pub same_class : (a b : Ty) → same_pointers a b ≡ true → class_of a ≡ class_of b
same_class (Fn j) (Fn k) h = same_count j k h
same_class (Fn j) Void h = cc
same_class (Fn j) Long h = cc
same_class (Fn j) Ulong h = cc
same_class Void b h = cc
same_class Long b h = cc
same_class Ulong b h = cc

same_value : (a b : Ty) → same_pointers a b ≡ true → IsValue (class_of a)
same_value (Fn j) b h = tt
same_value Void b h = cc
same_value Long b h = cc
same_value Ulong b h = cc

pub converted_class : (a b : Ty) → converts a b ≡ true → class_of a ≡ class_of b
converted_class Void b h = cc
converted_class Long Long h = refl
converted_class Long Ulong h = refl
converted_class Long Void h = cc
converted_class Long (Fn k) h = cc
converted_class Ulong Long h = refl
converted_class Ulong Ulong h = refl
converted_class Ulong Void h = cc
converted_class Ulong (Fn k) h = cc
converted_class (Fn j) b h = same_class (Fn j) b h

pub converted_value : (a b : Ty) → converts a b ≡ true → IsValue (class_of a)
converted_value Void b h = cc
converted_value Long b h = tt
converted_value Ulong b h = tt
converted_value (Fn j) b h = tt

-- ---- operators

pub record UnaryClasses (op : Un) (a ty : Ty) : Type 0 where
  pub result : class_of ty ≡ number
  pub operand : OperandFits op (class_of a)

on_number : (a ty : Ty) → (if is_number a then Some a else None) ≡ Some ty → (class_of ty ≡ number) × (class_of a ≡ number)
on_number Void ty h = cc
on_number Long ty h = let e : Long ≡ ty = cc in (sym (ap class_of e), refl)
on_number Ulong ty h = let e : Ulong ≡ ty = cc in (sym (ap class_of e), refl)
on_number (Fn k) ty h = cc

pub unary_classes : (op : Un) (a ty : Ty) → unary_type op a ≡ Some ty → is_void a ≡ false → UnaryClasses op a ty
unary_classes Bang a ty h value = let e : Long ≡ ty = cc in record { result = sym (ap class_of e); operand = value_class a value }
unary_classes Neg a ty h value = let n = on_number a ty h in record { result = n.0; operand = n.1 }
unary_classes Plus a ty h value = let n = on_number a ty h in record { result = n.0; operand = n.1 }
unary_classes Not a ty h value = let n = on_number a ty h in record { result = n.0; operand = n.1 }

pub record BinaryClasses (op : Bin) (a b ty : Ty) : Type 0 where
  pub result : class_of ty ≡ number
  pub operands : OperandsFit op (class_of a) (class_of b)

common_class : (x : Bool) → class_of (if x then Ulong else Long) ≡ number
common_class true = refl
common_class false = refl

-- operations on numbers give numbers
pub record OfNumbers (a b : Ty) (o : Operation) : Type 0 where
  pub left : class_of a ≡ number
  pub right : class_of b ≡ number
  pub result : class_of o.ty ≡ number

numbers_by : (f : Ty → Ty → Operation) (a b : Ty) (o : Operation) (x y : Bool) → is_number a ≡ x → is_number b ≡ y →
    (is_number a ≡ true → class_of (f a b).ty ≡ number) → (if x && y then Some (f a b) else None) ≡ Some o → OfNumbers a b o
numbers_by f a b o true true p q gives h =
    let e : f a b ≡ o = cc in
    record { left = number_class a p; right = number_class b q; result = subst (λ (z : Operation). class_of z.ty ≡ number) e (gives p) }
numbers_by f a b o true false p q gives h = cc
numbers_by f a b o false y p q gives h = cc

arithmetic_numbers : (a b : Ty) (o : Operation) → on_numbers arithmetic a b ≡ Some o → OfNumbers a b o
arithmetic_numbers a b o h = numbers_by arithmetic a b o (is_number a) (is_number b) refl refl (λ _. common_class _) h

shift_numbers : (a b : Ty) (o : Operation) → on_numbers shift a b ≡ Some o → OfNumbers a b o
shift_numbers a b o h = numbers_by shift a b o (is_number a) (is_number b) refl refl (number_class a) h

comparison_numbers : (a b : Ty) (o : Operation) → on_numbers comparison a b ≡ Some o → OfNumbers a b o
comparison_numbers a b o h = numbers_by comparison a b o (is_number a) (is_number b) refl refl (λ _. refl) h

truth_class : (o : Operation) → Some truth_operation ≡ Some o → class_of o.ty ≡ number
truth_class o h = let e : truth_operation ≡ o = cc in subst (λ (z : Operation). class_of z.ty ≡ number) e refl

record EqualClasses (a b ty : Ty) : Type 0 where
  pub result : class_of ty ≡ number
  pub left : IsValue (class_of a)
  pub right : class_of b ≡ class_of a

number_value : (c : Class) → c ≡ number → IsValue c
number_value c h = subst IsValue (sym h) tt

equal_by : (a b : Ty) (o : Operation) (x : Bool) → same_pointers a b ≡ x →
    (if x then Some truth_operation else on_numbers comparison a b) ≡ Some o →
    EqualClasses a b o.ty
equal_by a b o true e h = record { result = truth_class o h; left = same_value a b e; right = sym (same_class a b e) }
equal_by a b o false e h =
    let n = comparison_numbers a b o h in
    record { result = n.result; left = number_value _ n.left; right = n.right ∙ sym n.left }

equal_classes : (a b : Ty) (o : Operation) → equality a b ≡ Some o → EqualClasses a b o.ty
equal_classes a b o h = equal_by a b o (same_pointers a b) refl h

module _ (a b : Ty) (o : Operation) where
  arithmetic_classes : on_numbers arithmetic a b ≡ Some o →
      (class_of o.ty ≡ number) × ((class_of a ≡ number) × (class_of b ≡ number))
  arithmetic_classes h = let n = arithmetic_numbers a b o h in (n.result, (n.left, n.right))

  shift_classes : on_numbers shift a b ≡ Some o → (class_of o.ty ≡ number) × ((class_of a ≡ number) × (class_of b ≡ number))
  shift_classes h = let n = shift_numbers a b o h in (n.result, (n.left, n.right))

  comparison_classes : on_numbers comparison a b ≡ Some o →
      (class_of o.ty ≡ number) × ((class_of a ≡ number) × (class_of b ≡ number))
  comparison_classes h = let n = comparison_numbers a b o h in (n.result, (n.left, n.right))

pub binary_classes : (op : Bin) (a b : Ty) (o : Operation) → binary_type op a b ≡ Some o → is_void a ≡ false →
    is_void b ≡ false →
    BinaryClasses op a b o.ty
binary_classes AndAnd a b o h v w = record { result = truth_class o h; operands = (value_class a v, value_class b w) }
binary_classes OrOr a b o h v w = record { result = truth_class o h; operands = (value_class a v, value_class b w) }
binary_classes Eq a b o h v w = let n = equal_classes a b o h in record { result = n.result; operands = (n.left, n.right) }
binary_classes Ne a b o h v w = let n = equal_classes a b o h in record { result = n.result; operands = (n.left, n.right) }
binary_classes Lt a b o h v w = let n = comparison_classes a b o h in record { result = n.0; operands = n.1 }
binary_classes Gt a b o h v w = let n = comparison_classes a b o h in record { result = n.0; operands = n.1 }
binary_classes Le a b o h v w = let n = comparison_classes a b o h in record { result = n.0; operands = n.1 }
binary_classes Ge a b o h v w = let n = comparison_classes a b o h in record { result = n.0; operands = n.1 }
binary_classes Shl a b o h v w = let n = shift_classes a b o h in record { result = n.0; operands = n.1 }
binary_classes Shr a b o h v w = let n = shift_classes a b o h in record { result = n.0; operands = n.1 }
binary_classes Mul a b o h v w = let n = arithmetic_classes a b o h in record { result = n.0; operands = n.1 }
binary_classes Div a b o h v w = let n = arithmetic_classes a b o h in record { result = n.0; operands = n.1 }
binary_classes Rem a b o h v w = let n = arithmetic_classes a b o h in record { result = n.0; operands = n.1 }
binary_classes Add a b o h v w = let n = arithmetic_classes a b o h in record { result = n.0; operands = n.1 }
binary_classes Sub a b o h v w = let n = arithmetic_classes a b o h in record { result = n.0; operands = n.1 }
binary_classes And a b o h v w = let n = arithmetic_classes a b o h in record { result = n.0; operands = n.1 }
binary_classes Xor a b o h v w = let n = arithmetic_classes a b o h in record { result = n.0; operands = n.1 }
binary_classes Or a b o h v w = let n = arithmetic_classes a b o h in record { result = n.0; operands = n.1 }

pub record ChoiceClasses (a b ty : Ty) : Type 0 where
  pub value : IsValue (class_of ty)
  pub left : class_of a ≡ class_of ty
  pub right : class_of b ≡ class_of ty

both_numbers : (a b ty : Ty) (x y : Bool) → is_number a ≡ x → is_number b ≡ y →
    (if x && y then Some (common a b) else None) ≡ Some ty →
    ChoiceClasses a b ty
both_numbers a b ty true true p q h =
    let e : common a b ≡ ty = cc in
    let c : class_of ty ≡ number = sym (ap class_of e) ∙ common_class _ in
    record { value = number_value _ c; left = number_class a p ∙ sym c; right = number_class b q ∙ sym c }
both_numbers a b ty true false p q h = cc
both_numbers a b ty false y p q h = cc

choice_by : (a b ty : Ty) (x : Bool) → same_pointers a b ≡ x →
    (if x then Some a else (if is_number a && is_number b then Some (common a b) else None)) ≡ Some ty → ChoiceClasses a b ty
choice_by a b ty true e h =
    let is : a ≡ ty = cc in
    record {
      value = subst (λ z. IsValue (class_of z)) is (same_value a b e);
      left = ap class_of is;
      right = sym (same_class a b e) ∙ ap class_of is;
    }
choice_by a b ty false e h = both_numbers a b ty (is_number a) (is_number b) refl refl h

pub choice_classes : (a b ty : Ty) → choice_type a b ≡ Some ty → ChoiceClasses a b ty
choice_classes a b ty h = choice_by a b ty (same_pointers a b) refl h
