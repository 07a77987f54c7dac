-- The typed tree of an expression without faults: its parts fit, it reads locals that are known, and its numbers are small.
use Rattle.std.proofs.Common.{◌≡◌, ℕ, zero, suc, ◌+◌, ◌≤◌, ◌<◌, Bool, true, false, ◌||◌, List, [], ◌∷◌, ◌++◌, length, replicate, Option, Some, None, refl, sym, ap, subst, ◌∙◌, arith}
use Rattle.std.specs.Prelude.{nat_eq, slice_get, ⊤}
use Rattle.std.specs.List.{list_any, AllByRecursion}
use Rattle.pw_tree.specs.declared.ty.Ty.{Ty}
use Rattle.pw_tree.specs.declared.ty.Ty.TheVariants.{Long}
use Rattle.pw_tree.specs.declared.ty.Sig.{Sig}
use Rattle.pw_tree.specs.Expressions.{Span, Expression, Expressions, word}
use Rattle.pw_tree.specs.TypedExpressions.{TypedExpression, TypedExpressions, type_of}
use Rattle.pw_tree.specs.TypedExpressions as tree
use Rattle.pw_tree.specs.Units.{TypedUnit}
use Rattle.pw_tree.specs.Held.{count}
use Rattle.pw_tree.specs.Placed.{span_of, token_after, IsPlaced, ArePlaced}
use Rattle.pw_tree.specs.Proper.{HasNumbers, HaveNumbers}
use Rattle.pw_tree.specs.WellTypedExpressions.{Class, number, pointer, class_of, IsFunction, IsVariable, ArgumentsFit, AreNumbers, HasFittingParts, IsKnown, ReadsKnown, HasSmallNumbers, Throughout, ThroughoutAll, expressions_in, expressions_in_all}
use Rattle.pw_types.specs.declared.names.Kind.TheVariants.{Function, Variable}
use Rattle.pw_types.specs.declared.names.File.{File}
use Rattle.pw_types.specs.declared.names.Local.{Local}
use Rattle.pw_types.specs.Scopes.{Scope, a_local, declared, name_meaning, local_or, local_named, file_named, declared_or_missing, function_reference, variable_reference}
use Rattle.pw_types.specs.Typed.{constant_type}
use Rattle.pw_types.specs.Steps.Uses.{file_number, uses_of_meaning, uses, uses_of_all}
use Rattle.pw_types.proofs.KeyedFiles.{named}
use Rattle.pw_types.proofs.StandingExpressions.{placed_within}
use Rattle.pw_types.proofs.Classes.{number_class, value_class, converted_class, unary_classes, binary_classes, choice_classes}
use Rattle.pw_types.proofs.Sound.{Sound, sound_constant, sound_local, sound_variable, sound_function, sound_element, sound_unary, sound_binary, sound_conditional, sound_call, sound_pointer, sound_input, sound_output, AllSound, sound_nil, sound_cons}

-- ---- lists within lists

-- each of the numbers is among these
abbrev pub IsAmong : List ℕ → ℕ → Type 0
IsAmong used n = list_any (λ m. nat_eq m n) used ≡ true

abbrev pub AreAmong : List ℕ → List ℕ → Type 0
AreAmong used numbers = AllByRecursion (IsAmong used) numbers

pub among_left : (used xs ys : List ℕ) → AreAmong used (xs ++ ys) → AreAmong used xs
among_left used [] ys h = tt
among_left used (x ∷ xs) ys h = (h.0, among_left used xs ys h.1)

pub among_right : (used xs ys : List ℕ) → AreAmong used (xs ++ ys) → AreAmong used ys
among_right used [] ys h = h
among_right used (x ∷ xs) ys h = among_right used xs ys h.1

-- ---- what names mean

local_by : (o : Option Local) (f : Option File) (l : Local) → local_or o (declared_or_missing f) ≡ a_local l → o ≡ Some l
local_by (Some k) f l h = cc
local_by None None l h = cc
local_by None (Some f) l h = cc

file_by : (o : Option Local) (f : Option File) (g : File) → local_or o (declared_or_missing f) ≡ declared g → f ≡ Some g
file_by (Some k) f g h = cc
file_by None None g h = cc
file_by None (Some f) g h = cc

pub local_meant : (scope : Scope) (name : List ℕ) (l : Local) → name_meaning scope name ≡ a_local l →
    local_named name scope.locals ≡ Some l
unfolding name_meaning
local_meant scope name l h = local_by (local_named name scope.locals) (file_named name scope.files) l h

file_meant : (scope : Scope) (name : List ℕ) (f : File) → name_meaning scope name ≡ declared f →
    file_named name scope.files ≡ Some f
unfolding name_meaning
file_meant scope name f h = file_by (local_named name scope.locals) (file_named name scope.files) f h

pub own_file : (scope : Scope) (name : List ℕ) (f : File) → name_meaning scope name ≡ declared f →
    file_named f.name scope.files ≡ Some f
own_file scope name f h =
    let is = file_meant scope name f h in
    subst (λ n. file_named n scope.files ≡ Some f) (sym (named name scope.files f is)) is

-- ---- scopes that fit

-- The locals that are visible have these classes, and are known.
pub record LocalsFit (classes : List Class) (known : List ℕ) (scope : Scope) : Type 0 where
  pub classes_are : (name : List ℕ) (l : Local) → local_named name scope.locals ≡ Some l →
      slice_get classes l.number ≡ Some (class_of l.ty)
  pub known_are : (name : List ℕ) (l : Local) → local_named name scope.locals ≡ Some l → IsKnown known l.number

-- The names at file scope that are used are those of the unit's functions and variables.
pub record FilesFit (unit : TypedUnit) (used : List ℕ) (scope : Scope) : Type 0 where
  pub function : (f : File) (sig : Sig) → file_named f.name scope.files ≡ Some f → f.kind ≡ Function sig →
      IsAmong used (file_number f.name scope.files) → IsFunction unit (function_reference scope f) sig
  pub variable : (f : File) (ty : Ty) (size : Option ℕ) → file_named f.name scope.files ≡ Some f → f.kind ≡ Variable ty size →
      IsAmong used (file_number f.name scope.files) → IsVariable unit (variable_reference scope f) (record { ty = ty; size = size })

word_used : (scope : Scope) (used : List ℕ) (at : Span) (name : List ℕ) (f : File) → name_meaning scope name ≡ declared f →
    AreAmong used (uses scope (word at name)) → IsAmong used (file_number f.name scope.files)
unfolding uses
word_used scope used at name f is h =
    (subst (λ m. AreAmong used (uses_of_meaning scope m)) is h).0

-- ---- arguments

arguments_fit : {scope : Scope} {tys : List Ty} {es : Expressions} {ts : TypedExpressions} → AllSound scope tys es ts →
    ArgumentsFit tys ts
unfolding ArgumentsFit
arguments_fit sound_nil = tt
arguments_fit (sound_cons ty tys e es t ts sound converts others) = (converted_class (type_of t) ty converts, arguments_fit others)

arguments_count : {scope : Scope} {tys : List Ty} {es : Expressions} {ts : TypedExpressions} → AllSound scope tys es ts →
    count ts ≡ length tys
unfolding count
arguments_count sound_nil = refl
arguments_count (sound_cons ty tys e es t ts sound converts others) = ap suc (arguments_count others)

replicated : {A : Type 0} (k : ℕ) (x : A) → length (replicate k x) ≡ k
replicated zero x = refl
replicated (suc k) x = ap suc (replicated k x)

longs : (k : ℕ) → AllByRecursion (λ ty. class_of ty ≡ number) (replicate k Long)
longs zero = tt
longs (suc k) = (refl, longs k)

numbers_by : {scope : Scope} {tys : List Ty} {es : Expressions} {ts : TypedExpressions} → AllSound scope tys es ts →
    AllByRecursion (λ ty. class_of ty ≡ number) tys → AreNumbers ts
unfolding AreNumbers
numbers_by sound_nil h = tt
numbers_by (sound_cons ty tys e es t ts sound converts others) h =
    (converted_class (type_of t) ty converts ∙ h.0, numbers_by others h.1)

constant_class : (unsigned : Bool) → class_of (constant_type unsigned) ≡ number
constant_class true = refl
constant_class false = refl

-- ---- the parts fit

module _ (unit : TypedUnit) (classes : List Class) (known used : List ℕ) (scope : Scope) (locals : LocalsFit classes known scope)
    (files : FilesFit unit used scope) where
  mutual
    unfolding Throughout uses

    pub parts_fit : {e : Expression} {t : TypedExpression} → Sound scope e t → AreAmong used (uses scope e) →
        Throughout (HasFittingParts unit classes) t
    parts_fit (sound_constant at value unsigned) u = constant_class unsigned
    parts_fit (sound_local at name l is) u = locals.classes_are name l (local_meant scope name l is)
    parts_fit (sound_variable at name f ty is kind) u = record {
      ty = ty;
      variable = files.variable f ty None (own_file scope name f is) kind (word_used scope used at name f is u);
      class_is = refl;
    }
    parts_fit (sound_function at name f sig ty is kind pointed) u = record {
      sig = sig;
      function = files.function f sig (own_file scope name f is) kind (word_used scope used at name f is u);
      type = pointed;
    }
    parts_fit (sound_element at base name f ty size i t is kind sound numeric) u = (
      (
        record {
          ty = ty;
          variable = files.variable f ty (Some size) (own_file scope name f is) kind
              (word_used scope used base name f is (among_left used (uses scope (word base name)) (uses scope i) u));
          class_is = refl;
        },
        number_class (type_of t) numeric,
      ),
      parts_fit sound (among_right used (uses scope (word base name)) (uses scope i) u),
    )
    parts_fit (sound_unary at op ty e t sound value is) u =
        let c = unary_classes op (type_of t) ty is value in ((c.result, c.operand), parts_fit sound u)
    parts_fit (sound_binary at op o l r t v left right value value' is) u =
        let c = binary_classes op (type_of t) (type_of v) o is value value' in
        ((c.result, c.operands), parts_fit left (among_left used (uses scope l) (uses scope r) u), parts_fit right (among_right used (uses scope l) (uses scope r) u))
    parts_fit (sound_conditional at ty c a b t v w test first second value value' value'' is) u =
        let k = choice_classes (type_of v) (type_of w) ty is in
        let others = among_right used (uses scope c) (uses scope a ++ uses scope b) u in (
          (value_class (type_of t) value, k.value, k.left, k.right),
          parts_fit test (among_left used (uses scope c) (uses scope a ++ uses scope b) u),
          parts_fit first (among_left used (uses scope a) (uses scope b) others),
          parts_fit second (among_right used (uses scope a) (uses scope b) others),
        )
    parts_fit (sound_call at callee name f sig es ts is kind arguments) u = (
      record {
        sig = sig;
        function = files.function f sig (own_file scope name f is) kind
            (word_used scope used callee name f is (among_left used (uses scope (word callee name)) (uses_of_all scope es) u));
        result = refl;
        arguments = arguments_fit arguments;
      },
      all_fit arguments (among_right used (uses scope (word callee name)) (uses_of_all scope es) u),
    )
    parts_fit (sound_pointer at k f t es ts sound is arguments) u = (
      record {
        result = refl;
        callee = ap class_of is ∙ ap pointer (sym (arguments_count arguments ∙ replicated k Long));
        arguments = numbers_by arguments (longs k);
      },
      parts_fit sound (among_left used (uses scope f) (uses_of_all scope es) u),
      all_fit arguments (among_right used (uses scope f) (uses_of_all scope es) u),
    )
    parts_fit (sound_input at) u = refl
    parts_fit (sound_output at e t sound numeric) u = ((refl, number_class (type_of t) numeric), parts_fit sound u)

    pub all_fit : {tys : List Ty} {es : Expressions} {ts : TypedExpressions} → AllSound scope tys es ts →
        AreAmong used (uses_of_all scope es) →
        ThroughoutAll (HasFittingParts unit classes) ts
    all_fit sound_nil u = tt
    all_fit (sound_cons ty tys e es t ts sound converts others) u =
        (parts_fit sound (among_left used (uses scope e) (uses_of_all scope es) u), all_fit others (among_right used (uses scope e) (uses_of_all scope es) u))

-- ---- the locals that it reads are known

module _ (classes : List Class) (known : List ℕ) (scope : Scope) (locals : LocalsFit classes known scope) where
  mutual
    unfolding Throughout

    pub reads_known : {e : Expression} {t : TypedExpression} → Sound scope e t → Throughout (ReadsKnown known) t
    reads_known (sound_constant at value unsigned) = tt
    reads_known (sound_local at name l is) = locals.known_are name l (local_meant scope name l is)
    reads_known (sound_variable at name f ty is kind) = tt
    reads_known (sound_function at name f sig ty is kind pointed) = tt
    reads_known (sound_element at base name f ty size i t is kind sound numeric) = (tt, reads_known sound)
    reads_known (sound_unary at op ty e t sound value is) = (tt, reads_known sound)
    reads_known (sound_binary at op o l r t v left right value value' is) = (tt, reads_known left, reads_known right)
    reads_known (sound_conditional at ty c a b t v w test first second value value' value'' is) =
        (tt, reads_known test, reads_known first, reads_known second)
    reads_known (sound_call at callee name f sig es ts is kind arguments) = (tt, all_read arguments)
    reads_known (sound_pointer at k f t es ts sound is arguments) = (tt, reads_known sound, all_read arguments)
    reads_known (sound_input at) = tt
    reads_known (sound_output at e t sound numeric) = (tt, reads_known sound)

    all_read : {tys : List Ty} {es : Expressions} {ts : TypedExpressions} → AllSound scope tys es ts →
        ThroughoutAll (ReadsKnown known) ts
    all_read sound_nil = tt
    all_read (sound_cons ty tys e es t ts sound converts others) = (reads_known sound, all_read others)

-- ---- its numbers are small

mutual
  unfolding Throughout HasNumbers

  pub numbers_small : {scope : Scope} {e : Expression} {t : TypedExpression} → Sound scope e t → HasNumbers e →
      Throughout HasSmallNumbers t
  numbers_small (sound_constant at value unsigned) n = record { line = n.0; value = n.1 }
  numbers_small (sound_local at name l is) n = record { line = n; value = tt }
  numbers_small (sound_variable at name f ty is kind) n = record { line = n; value = tt }
  numbers_small (sound_function at name f sig ty is kind pointed) n = record { line = n; value = tt }
  numbers_small (sound_element at base name f ty size i t is kind sound numeric) n =
      (record { line = n.0; value = tt }, numbers_small sound n.2)
  numbers_small (sound_unary at op ty e t sound value is) n = (record { line = n.0; value = tt }, numbers_small sound n.1)
  numbers_small (sound_binary at op o l r t v left right value value' is) n =
      (record { line = n.0; value = tt }, numbers_small left n.1, numbers_small right n.2)
  numbers_small (sound_conditional at ty c a b t v w test first second value value' value'' is) n =
      (record { line = n.0; value = tt }, numbers_small test n.1, numbers_small first n.2, numbers_small second n.3)
  numbers_small (sound_call at callee name f sig es ts is kind arguments) n = (record { line = n.0; value = tt }, all_small arguments n.2)
  numbers_small (sound_pointer at k f t es ts sound is arguments) n =
      (record { line = n.0; value = tt }, numbers_small sound n.1, all_small arguments n.2)
  numbers_small (sound_input at) n = record { line = n; value = tt }
  numbers_small (sound_output at e t sound numeric) n = (record { line = n.0; value = tt }, numbers_small sound n.1)

  all_small : {scope : Scope} {tys : List Ty} {es : Expressions} {ts : TypedExpressions} → AllSound scope tys es ts →
      HaveNumbers es →
      ThroughoutAll HasSmallNumbers ts
  all_small sound_nil n = tt
  all_small (sound_cons ty tys e es t ts sound converts others) n = (numbers_small sound n.0, all_small others n.1)

-- ---- it has no more expressions than tokens

mutual
  unfolding expressions_in IsPlaced

  pub expression_counted : {scope : Scope} {e : Expression} {t : TypedExpression} (low high : ℕ) → Sound scope e t →
      IsPlaced low high e →
      expressions_in t + (span_of e).first ≤ token_after e
  expression_counted low high (sound_constant at value unsigned) p = omega (arith, p.some)
  expression_counted low high (sound_local at name l is) p = omega (arith, p.some)
  expression_counted low high (sound_variable at name f ty is kind) p = omega (arith, p.some)
  expression_counted low high (sound_function at name f sig ty is kind pointed) p = omega (arith, p.some)
  expression_counted low high (sound_element at base name f ty size i t is kind sound numeric) p =
      let b = placed_within (word base name) p.1 in
      let w = placed_within i p.2 in
      omega (arith, expression_counted _ _ sound p.2, b.from, b.some, w.from, w.to)
  expression_counted low high (sound_unary at op ty e t sound value is) p =
      let w = placed_within e p.1 in omega (arith, expression_counted _ _ sound p.1, w.from, w.to)
  expression_counted low high (sound_binary at op o l r t v left right value value' is) p =
      let a = placed_within l p.1 in
      let b = placed_within r p.2 in
      omega (arith, expression_counted _ _ left p.1, expression_counted _ _ right p.2, a.from, b.from, b.to)
  expression_counted low high (sound_conditional at ty c a b t v w test first second value value' value'' is) p =
      let x = placed_within c p.1 in
      let y = placed_within a p.2 in
      let z = placed_within b p.3 in
      omega (arith, expression_counted _ _ test p.1, expression_counted _ _ first p.2, expression_counted _ _ second p.3, x.from, y.from, z.from, z.to)
  expression_counted low high (sound_call at callee name f sig es ts is kind arguments) p =
      let x = placed_within (word callee name) p.1 in
      omega (arith, all_counted _ _ arguments p.3 (omega (arith, p.2)), x.from, x.some)
  expression_counted low high (sound_pointer at k f t es ts sound is arguments) p =
      let x = placed_within f p.1 in
      omega (arith, expression_counted _ _ sound p.1, all_counted _ _ arguments p.3 (omega (arith, p.2)), x.from)
  expression_counted low high (sound_input at) p = omega (arith, p.some)
  expression_counted low high (sound_output at e t sound numeric) p =
      let w = placed_within e p.1 in omega (arith, expression_counted _ _ sound p.1, w.from, w.to)

  all_counted : {scope : Scope} {tys : List Ty} {es : Expressions} {ts : TypedExpressions} (low high : ℕ) →
      AllSound scope tys es ts → ArePlaced low high es →
      low ≤ suc high → expressions_in_all ts + low ≤ suc high
  all_counted low high sound_nil p h = omega arith
  all_counted low high (sound_cons ty tys e es t ts sound converts others) p h =
      let w = placed_within e p.0 in
      omega (arith, expression_counted _ _ sound p.0, all_counted _ _ others p.1 (omega (arith, w.to)), w.from)
