-- The code of what is well typed is short.
use Rattle.std.proofs.Common.{◌≡◌, ℕ, zero, suc, ◌+◌, ◌*◌, ◌^◌, ◌<◌, ◌≤◌, Bool, true, false, List, [], ◌∷◌, length, Option, Some, None, refl, sym, ◌∙◌, ap, subst, arith}
use Rattle.std.specs.Prelude.{⊤, slice_get, if◌then◌else◌}
use Rattle.std.specs.List.{AllByRecursion}
use Rattle.pw_base.specs.Limits.{parameters, array_elements}
use Rattle.pw_tree.specs.declared.ty.Ty.{Ty}
use Rattle.pw_tree.specs.declared.ty.Ty.TheVariants.{Void, Long, Ulong, Fn}
use Rattle.pw_tree.specs.declared.ty.Ref.{Ref}
use Rattle.pw_tree.specs.Types.{IsResultType, IsValueType}
use Rattle.pw_tree.specs.TypedExpressions.{Mark, TypedExpression, TypedExpressions, constant, local, variable, designator, element, unary, binary, conditional, call, call_pointer, input, output, nil, cons}
use Rattle.pw_tree.specs.TypedStatements as statements
use Rattle.pw_tree.specs.TypedStatements.{TypedStatement, TypedStatements, OptionalTypedStatement}
use Rattle.pw_tree.specs.Held.{count}
use Rattle.pw_tree.specs.Units.{Function, TypedUnit}
use Rattle.pw_tree.specs.WellTypedExpressions.{Class, nothing, number, pointer, class_of, class, IsValueClass, HasClass, Calls, CallsPointer, Points, ArgumentsFit, HasFittingParts, HasSmallNumbers, Throughout, ThroughoutAll, IsWellTypedExpression}
use Rattle.pw_tree.specs.WellTypedStatements.{IfPresent, Everywhere, EverywhereIn, EverywhereIf, StatementFits, StatementHasSmallNumbers}
use Rattle.pw_tree.specs.WellTypedUnits.{IsWellTypedFunction}
use Rattle.pw_code.specs.FunctionCode.{function_words}
use Rattle.pw_code.specs.Bounds.{HasSmallOperands, HasShortCode, StatementHasSmallOperands}
use Rattle.pw_code.proofs.Lengths.{fault_words_at_most, statements_are_short}

-- ---- classes of values

-- A pointer is to functions of few parameters.
HasFewParameters : Class → Type 0
HasFewParameters nothing = ⊤
HasFewParameters number = ⊤
HasFewParameters (pointer k) = k ≤ parameters

few_of_value_class : (c : Class) → IsValueClass c → HasFewParameters c
unfolding HasFewParameters
few_of_value_class nothing h = absurd h
few_of_value_class number h = tt
few_of_value_class (pointer k) h = h

few_of_type : (ty : Ty) → IsResultType ty → HasFewParameters (class_of ty)
unfolding HasFewParameters
few_of_type Void h = tt
few_of_type Long h = tt
few_of_type Ulong h = tt
few_of_type (Fn k) h = h

few_of_value_type : (ty : Ty) → IsValueType ty → HasFewParameters (class_of ty)
unfolding HasFewParameters
few_of_value_type Void h = absurd h
few_of_value_type Long h = tt
few_of_value_type Ulong h = tt
few_of_value_type (Fn k) h = h

few_of_number : (c : Class) → c ≡ number → HasFewParameters c
unfolding HasFewParameters
few_of_number c e = subst HasFewParameters (sym e) tt

few_of_class_at : (classes : List Class) (i : ℕ) (c : Class) → AllByRecursion IsValueClass classes →
    slice_get classes i ≡ Some c → HasFewParameters c
few_of_class_at [] i c all e = absurd cc
few_of_class_at (x ∷ classes) zero c all e = let same : x ≡ c = cc in subst HasFewParameters same (few_of_value_class x all.0)
few_of_class_at (x ∷ classes) (suc i) c all e = few_of_class_at classes i c all.1 e

few_of_some : (t : Bool) (k : ℕ) (ty : Ty) → k ≤ parameters → (if t then Some (Fn k) else None) ≡ Some ty →
    HasFewParameters (class_of ty)
unfolding HasFewParameters
few_of_some true k ty h e = let same : Fn k ≡ ty = cc in subst (λ t. HasFewParameters (class_of t)) same h
few_of_some false k ty h e = absurd cc

module _ (unit : TypedUnit) (classes : List Class) (values : AllByRecursion IsValueClass classes) where
  few_of_variable : (x : Ref) (size : Option ℕ) (c : Class) → HasClass unit x size c → HasFewParameters c
  few_of_variable x size c h = subst HasFewParameters (sym h.class_is) (few_of_value_type h.ty h.variable.type)

  few_of_designator : (at : Mark) (f : Ref) → Points unit at f → HasFewParameters (class_of at.ty)
  few_of_designator at f h = few_of_some _ (length h.sig.params) at.ty h.function.types.few h.type

  few_of_call : (at : Mark) (f : Ref) (es : TypedExpressions) → Calls unit at f es → HasFewParameters (class_of at.ty)
  few_of_call at f es h = subst HasFewParameters (sym h.result) (few_of_type h.sig.result h.function.types.result)

  -- The class of an expression whose parts fit is one of few parameters.
  few_parameters : (e : TypedExpression) → Throughout (HasFittingParts unit classes) e → HasFewParameters (class e)
  unfolding Throughout HasFewParameters
  few_parameters (constant at value) t = few_of_number (class_of at.ty) t
  few_parameters (local at i) t = few_of_class_at classes i (class_of at.ty) values t
  few_parameters (variable at x) t = few_of_variable x None (class_of at.ty) t
  few_parameters (designator at f) t = few_of_designator at f t
  few_parameters (element at a array_size i) t = few_of_variable a (Some array_size) (class_of at.ty) t.0.0
  few_parameters (unary at op e) t = few_of_number (class_of at.ty) t.0.0
  few_parameters (binary at op unsigned l r) t = few_of_number (class_of at.ty) t.0.0
  few_parameters (conditional at c a b) t = subst HasFewParameters t.0.2 (few_parameters a t.2)
  few_parameters (call at f es) t = few_of_call at f es t.0
  few_parameters (call_pointer at e es) t = few_of_number (class_of at.ty) t.0.result
  few_parameters (input at) t = few_of_number (class_of at.ty) t
  few_parameters (output at e) t = few_of_output (class_of at.ty) t.0.0
    where
      few_of_output : (c : Class) → c ≡ nothing → HasFewParameters c
      few_of_output c e = subst HasFewParameters (sym e) tt

  -- ---- operands

  few_arguments : (tys : List Ty) (es : TypedExpressions) → ArgumentsFit tys es → count es ≡ length tys
  unfolding ArgumentsFit count
  few_arguments [] nil h = refl
  few_arguments [] (cons e es) h = absurd h
  few_arguments (ty ∷ tys) nil h = absurd h
  few_arguments (ty ∷ tys) (cons e es) h = ap suc (few_arguments tys es h.1)

  few_by_name : (at : Mark) (f : Ref) (es : TypedExpressions) → Calls unit at f es → count es ≤ parameters
  few_by_name at f es h = subst (λ n. n ≤ parameters) (sym (few_arguments h.sig.params es h.arguments)) h.function.types.few

  few_by_pointer : (at : Mark) (e : TypedExpression) (es : TypedExpressions) → CallsPointer at e es →
      HasFewParameters (class e) → count es ≤ parameters
  unfolding HasFewParameters
  few_by_pointer at e es h few = subst HasFewParameters h.callee few

  small_array : (x : Ref) (size : ℕ) (c : Class) → HasClass unit x (Some size) c → size ≤ array_elements
  small_array x size c h = h.variable.size.1

  mutual
    unfolding Throughout ThroughoutAll

    small_operands : (e : TypedExpression) → Throughout (HasFittingParts unit classes) e → Throughout HasSmallNumbers e →
        Throughout HasSmallOperands e
    small_operands (constant at value) t n = n.value
    small_operands (local at i) t n = tt
    small_operands (variable at x) t n = tt
    small_operands (designator at f) t n = tt
    small_operands (element at a array_size i) t n =
        ((small_array a array_size (class_of at.ty) t.0.0, n.0.line), small_operands i t.1 n.1)
    small_operands (unary at op e) t n = (tt, small_operands e t.1 n.1)
    small_operands (binary at op unsigned l r) t n = (n.0.line, small_operands l t.1 n.1, small_operands r t.2 n.2)
    small_operands (conditional at c a b) t n =
        (tt, small_operands c t.1 n.1, small_operands a t.2 n.2, small_operands b t.3 n.3)
    small_operands (call at f es) t n = (few_by_name at f es t.0, small_in_all es t.1 n.1)
    small_operands (call_pointer at e es) t n =
        ((few_by_pointer at e es t.0 (few_parameters e t.1), n.0.line), small_operands e t.1 n.1, small_in_all es t.2 n.2)
    small_operands (input at) t n = tt
    small_operands (output at e) t n = (tt, small_operands e t.1 n.1)

    small_in_all : (es : TypedExpressions) → ThroughoutAll (HasFittingParts unit classes) es →
        ThroughoutAll HasSmallNumbers es →
        ThroughoutAll HasSmallOperands es
    small_in_all nil t n = tt
    small_in_all (cons e es) t n = (small_operands e t.0 n.0, small_in_all es t.1 n.1)

  small_in_option : (e : Option TypedExpression) → IfPresent (Throughout (HasFittingParts unit classes)) e →
      IfPresent (Throughout HasSmallNumbers) e → IfPresent (Throughout HasSmallOperands) e
  small_in_option None t n = tt
  small_in_option (Some e) t n = small_operands e t n

  module _ (result : Class) where
    small_statement : (s : TypedStatement) → StatementFits unit result classes s → StatementHasSmallNumbers s →
        StatementHasSmallOperands s
    small_statement (statements.evaluate e) t n = record { own = tt; expressions = small_operands e t.parts n.expressions }
    small_statement (statements.set_local i e) t n = record { own = tt; expressions = small_in_option e t.parts n.expressions }
    small_statement (statements.set_variable x e) t n = record { own = tt; expressions = small_operands e t.parts n.expressions }
    small_statement (statements.set_element a array_size line i e) t n = record {
      own = (small_array a array_size (class e) t.classes_fit.0, n.line);
      expressions = (small_operands i t.parts.0 n.expressions.0, small_operands e t.parts.1 n.expressions.1);
    }
    small_statement (statements.block body) t n = record { own = tt; expressions = tt }
    small_statement (statements.if_else c a b) t n = record { own = tt; expressions = small_operands c t.parts n.expressions }
    small_statement (statements.while_loop c body) t n = record { own = tt; expressions = small_operands c t.parts n.expressions }
    small_statement (statements.do_loop body c) t n = record { own = tt; expressions = small_operands c t.parts n.expressions }
    small_statement (statements.for_loop first c last body) t n = record { own = tt; expressions = small_in_option c t.parts n.expressions }
    small_statement (statements.returns e) t n = record { own = tt; expressions = small_in_option e t.parts n.expressions }
    small_statement statements.breaks t n = record { own = tt; expressions = tt }
    small_statement statements.continues t n = record { own = tt; expressions = tt }

    mutual
      unfolding Everywhere EverywhereIn EverywhereIf

      small_everywhere : (s : TypedStatement) → Everywhere (StatementFits unit result classes) s →
          Everywhere StatementHasSmallNumbers s →
          Everywhere StatementHasSmallOperands s
      small_everywhere (statements.evaluate e) t n = small_statement (statements.evaluate e) t n
      small_everywhere (statements.set_local i e) t n = small_statement (statements.set_local i e) t n
      small_everywhere (statements.set_variable x e) t n = small_statement (statements.set_variable x e) t n
      small_everywhere (statements.set_element a array_size line i e) t n = small_statement (statements.set_element a array_size line i e) t n
      small_everywhere (statements.block body) t n = (small_statement (statements.block body) t.0 n.0, small_in_statements body t.1 n.1)
      small_everywhere (statements.if_else c a b) t n =
          (small_statement (statements.if_else c a b) t.0 n.0, small_everywhere a t.1 n.1, small_if_present b t.2 n.2)
      small_everywhere (statements.while_loop c body) t n = (small_statement (statements.while_loop c body) t.0 n.0, small_everywhere body t.1 n.1)
      small_everywhere (statements.do_loop body c) t n = (small_statement (statements.do_loop body c) t.0 n.0, small_everywhere body t.1 n.1)
      small_everywhere (statements.for_loop first c last body) t n =
          (small_statement (statements.for_loop first c last body) t.0 n.0, small_if_present first t.1 n.1, small_if_present last t.2 n.2, small_everywhere body t.3 n.3)
      small_everywhere (statements.returns e) t n = small_statement (statements.returns e) t n
      small_everywhere statements.breaks t n = small_statement statements.breaks t n
      small_everywhere statements.continues t n = small_statement statements.continues t n

      small_in_statements : (ss : TypedStatements) → EverywhereIn (StatementFits unit result classes) ss →
          EverywhereIn StatementHasSmallNumbers ss →
          EverywhereIn StatementHasSmallOperands ss
      small_in_statements statements.nil t n = tt
      small_in_statements (statements.cons s ss) t n = (small_everywhere s t.0 n.0, small_in_statements ss t.1 n.1)

      small_if_present : (s : OptionalTypedStatement) → EverywhereIf (StatementFits unit result classes) s →
          EverywhereIf StatementHasSmallNumbers s →
          EverywhereIf StatementHasSmallOperands s
      small_if_present statements.absent t n = tt
      small_if_present (statements.present s) t n = small_everywhere s t n

-- ---- the laws

pub well_typed_is_short : (unit : TypedUnit) (classes : List Class) (e : TypedExpression) →
    AllByRecursion IsValueClass classes →
    IsWellTypedExpression unit classes e → HasShortCode e
well_typed_is_short unit classes e values h = record {
  operands = small_operands unit classes values e h.parts h.numbers;
  few = h.few;
}

-- The statements of a well typed function have small operands.
pub small_body : (unit : TypedUnit) (f : Function) → IsWellTypedFunction unit f → EverywhereIn StatementHasSmallOperands f.body
small_body unit f h =
    small_in_statements unit h.classes h.are_classes.values (class_of f.sig.result) f.body h.fits h.numbers

pub function_is_short : (unit : TypedUnit) (f : Function) → IsWellTypedFunction unit f → function_words f < 2 ^ 18
function_is_short unit f h =
    omega (arith, fault_words_at_most f.line h.line, statements_are_short f.body (small_body unit f h), h.few_phrases, h.signature.few)
