-- What can be emitted in a whole can be in its parts.
use Rattle.std.proofs.Common.{◌≡◌, ℕ, zero, suc, ◌+◌, ◌≤◌, List, [], ◌∷◌, length, refl, sym, ap, subst, ◌∙◌, arith, add-one, ◌++◌, append-nil, append_assoc}
use Rattle.std.specs.Prelude.{slice_get, Some, ⊤}
use Rattle.pw_tree.specs.declared.texpr.TExpr.{TExpr}
use Rattle.pw_tree.specs.declared.ty.Ref.{Ref}
use Rattle.pw_tree.specs.TypedExpressions.{Mark, TypedExpression, TypedExpressions, constant, local, variable, designator, element, unary, binary, conditional, call, call_pointer, input, output, nil, cons, typed_expression_of, typed_expressions_of}
use Rattle.pw_tree.specs.Held.{held, held_arguments, count}
use Rattle.pw_tree.specs.Units.{TypedUnit}
use Rattle.pw_tree.specs.WellTypedExpressions.{Class, HasFittingParts, Throughout, ThroughoutAll, expressions_in, expressions_in_all, class_of}
use Rattle.pw_code.specs.declared.frame.Frame.{Frame}
use Rattle.pw_code.specs.declared.item.Item.{Item}
use Rattle.pw_code.specs.Items.{CodePart, items}
use Rattle.pw_code.specs.Pieces.{hold}
use Rattle.pw_code.specs.ExpressionCode.{expression_code, arguments_code}
use Rattle.pw_genexpr.specs.Appends.{AppendsPrefix}
use Rattle.pw_genexpr.proofs.Appending.{prefix_of_more, prefix_after, both_appended}
use Rattle.pw_code.proofs.Exports.{well_typed_is_short}
use Rattle.pw_genexpr.specs.Conditions.{StandsIn}
use Rattle.pw_genexpr.specs.Steps.Emitting.{HasSlot, CanEmit, CanEmitAll}

-- ---- arguments

-- Arguments that are held from a later slot on hold so many more.
held_from : (h n m : ℕ) (es : TypedExpressions) → m ≡ h + n → held_arguments m es ≡ h + held_arguments n es
unfolding held_arguments
held_from h n m nil e = e
held_from h n m (cons e es) is = omega (arith, held_from h (suc n) (suc m) es (omega arith))

held_at_least : (h : ℕ) (es : TypedExpressions) → h + count es ≤ held_arguments h es
unfolding held_arguments count
held_at_least h nil = omega arith
held_at_least h (cons e es) = omega (arith, held_at_least (suc h) es)

pub room_for_all : (frame : Frame) (h : ℕ) (es : TypedExpressions) → CanEmitAll frame h es → h + count es ≤ frame.held
room_for_all frame h es can = omega (arith, held_at_least h es, can.values)

pub emits_first : (frame : Frame) (h : ℕ) (e : TExpr) (es : List TExpr) → CanEmitAll frame h (typed_expressions_of (e ∷ es)) →
    CanEmit frame h (typed_expression_of e)
unfolding ThroughoutAll expressions_in_all held_arguments
emits_first frame h e es can = record {
  within_limits = can.within_limits;
  short = record { operands = can.short.operands.0; few = omega (arith, can.short.few) };
  locals = can.locals.0;
  values = omega (arith, can.values);
}

pub emits_others : (frame : Frame) (h : ℕ) (e : TExpr) (es : List TExpr) → CanEmitAll frame h (typed_expressions_of (e ∷ es)) →
    CanEmitAll frame (h + 1) (typed_expressions_of es)
unfolding ThroughoutAll expressions_in_all held_arguments count
emits_others frame h e es can = record {
  within_limits = can.within_limits;
  short = record { operands = can.short.operands.1; few = omega (arith, can.short.few); arguments = omega (arith, can.short.arguments) };
  locals = can.locals.1;
  values = rw (add-one h) (omega (arith, can.values));
}

pub emits_arguments : (frame : Frame) (h : ℕ) (at : Mark) (f : Ref) (es : TypedExpressions) → CanEmit frame h (call at f es) → CanEmitAll frame h es
unfolding Throughout expressions_in held
emits_arguments frame h at f es can = record {
  within_limits = can.within_limits;
  short = record { operands = can.short.operands.1; few = omega (arith, can.short.few); arguments = can.short.operands.0 };
  locals = can.locals.1;
  values = omega (arith, can.values, held_from h 0 h es (omega arith));
}

pub emits_pointer_arguments : (frame : Frame) (h : ℕ) (at : Mark) (e : TypedExpression) (es : TypedExpressions) →
    CanEmit frame h (call_pointer at e es) → CanEmitAll frame h es
unfolding Throughout expressions_in held
emits_pointer_arguments frame h at e es can = record {
  within_limits = can.within_limits;
  short = record { operands = can.short.operands.2; few = omega (arith, can.short.few); arguments = can.short.operands.0.0 };
  locals = can.locals.2;
  values = omega (arith, can.values, held_from h 0 h es (omega arith));
}

pub emits_callee : (frame : Frame) (h n : ℕ) (at : Mark) (e : TypedExpression) (es : TypedExpressions) → n ≡ count es →
    CanEmit frame h (call_pointer at e es) → CanEmit frame (h + n) e
unfolding Throughout expressions_in held
emits_callee frame h n at e es is can = record {
  within_limits = can.within_limits;
  short = record { operands = can.short.operands.1; few = omega (arith, can.short.few) };
  locals = can.locals.1;
  values = omega (arith, can.values);
}

-- ---- an expression that stands in a function

class_within : (classes : List Class) (i : ℕ) (c : Class) → slice_get classes i ≡ Some c → suc i ≤ length classes
class_within [] i c e = absurd cc
class_within (x ∷ classes) zero c e = omega arith
class_within (x ∷ classes) (suc i) c e = omega (arith, class_within classes i c e)

module _ (unit : TypedUnit) (classes : List Class) (frame : Frame) (few : length classes ≤ frame.locals) where
  mutual
    unfolding Throughout ThroughoutAll

    slots : (e : TypedExpression) → Throughout (HasFittingParts unit classes) e → Throughout (HasSlot frame) e
    slots (constant at value) t = tt
    slots (local at i) t = omega (arith, class_within classes i (class_of at.ty) t)
    slots (variable at x) t = tt
    slots (designator at f) t = tt
    slots (element at a array_size i) t = (tt, slots i t.1)
    slots (unary at op e) t = (tt, slots e t.1)
    slots (binary at op unsigned l r) t = (tt, slots l t.1, slots r t.2)
    slots (conditional at c a b) t = (tt, slots c t.1, slots a t.2, slots b t.3)
    slots (call at f es) t = (tt, slots_all es t.1)
    slots (call_pointer at e es) t = (tt, slots e t.1, slots_all es t.2)
    slots (input at) t = tt
    slots (output at e) t = (tt, slots e t.1)

    slots_all : (es : TypedExpressions) → ThroughoutAll (HasFittingParts unit classes) es → ThroughoutAll (HasSlot frame) es
    slots_all nil t = tt
    slots_all (cons e es) t = (slots e t.0, slots_all es t.1)

pub can_emit : (frame : Frame) (h : ℕ) (e : TypedExpression) → StandsIn frame h e → CanEmit frame h e
can_emit frame h e s = record {
  within_limits = s.within_limits;
  short = well_typed_is_short s.unit s.classes e s.class_values s.well_typed;
  locals = slots s.unit s.classes frame s.locals_have_slots e s.well_typed.parts;
  values = s.held_have_slots;
}

-- ---- a list of arguments under way

-- The items so far spell code that, with the code of the arguments that are left, is that of all.
pub record IsUnderWay (frame : Frame) (h slot : ℕ) (all left : List TExpr) (old new : List Item) : Type 0 where
  pub done : List CodePart
  pub appended : new ≡ old ++ items done
  pub whole : arguments_code frame h (typed_expressions_of all) ≡ done ++ arguments_code frame slot (typed_expressions_of left)

pub under_way_first : (frame : Frame) (h : ℕ) (all : List TExpr) (old : List Item) → IsUnderWay frame h h all all old old
under_way_first frame h all old = record { done = []; appended = sym (append-nil old); whole = refl }

pub under_way_last : (frame : Frame) (h slot : ℕ) (all left : List TExpr) (old new : List Item) → left ≡ [] →
    IsUnderWay frame h slot all left old new → new ≡ old ++ items (arguments_code frame h (typed_expressions_of all))
unfolding arguments_code
under_way_last frame h slot all left old new e u =
    let none : arguments_code frame slot (typed_expressions_of left) ≡ [] =
    ap (λ es. arguments_code frame slot (typed_expressions_of es)) e in
    u.appended ∙ ap (λ code. old ++ items code) (sym (u.whole ∙ ap (λ code. u.done ++ code) none ∙ append-nil u.done))

-- Where the next argument gives up, or the store of its value.
pub under_way_argument : (frame : Frame) (h slot : ℕ) (all others : List TExpr) (e : TExpr) (old mid new : List Item) →
    IsUnderWay frame h slot all (e ∷ others) old mid → AppendsPrefix (expression_code frame slot (typed_expression_of e)) mid new →
    AppendsPrefix (arguments_code frame h (typed_expressions_of all)) old new
unfolding arguments_code
under_way_argument frame h slot all others e old mid new u p =
    subst (λ code. AppendsPrefix code old new) (sym u.whole)
    (prefix_after u.done _ old mid new u.appended (prefix_of_more (expression_code frame slot (typed_expression_of e))
    (hold frame slot ∷ arguments_code frame (suc slot) (typed_expressions_of others)) mid new p))

pub under_way_hold : (frame : Frame) (h slot : ℕ) (all others : List TExpr) (e : TExpr) (old mid mid' new : List Item) →
    IsUnderWay frame h slot all (e ∷ others) old mid → mid' ≡ mid ++ items (expression_code frame slot (typed_expression_of e)) →
    AppendsPrefix (hold frame slot ∷ []) mid' new → AppendsPrefix (arguments_code frame h (typed_expressions_of all)) old new
unfolding arguments_code
under_way_hold frame h slot all others e old mid mid' new u a p =
    subst (λ code. AppendsPrefix code old new) (sym u.whole)
    (prefix_after u.done _ old mid new u.appended (prefix_after (expression_code frame slot (typed_expression_of e))
    (hold frame slot ∷ arguments_code frame (suc slot) (typed_expressions_of others)) mid mid' new a
    (prefix_of_more (hold frame slot ∷ []) (arguments_code frame (suc slot) (typed_expressions_of others)) mid' new p)))

pub under_way_next : (frame : Frame) (h slot : ℕ) (all others : List TExpr) (e : TExpr) (old mid mid' new : List Item) →
    IsUnderWay frame h slot all (e ∷ others) old mid → mid' ≡ mid ++ items (expression_code frame slot (typed_expression_of e)) →
    new ≡ mid' ++ items (hold frame slot ∷ []) → IsUnderWay frame h (slot + 1) all others old new
unfolding arguments_code
under_way_next frame h slot all others e old mid mid' new u a b = record {
  done = u.done ++ (expression_code frame slot (typed_expression_of e) ++ hold frame slot ∷ []);
  appended = both_appended u.done _ old mid new u.appended (both_appended _ (hold frame slot ∷ []) mid mid' new a b);
  whole =
      u.whole
      ∙ ap (λ code. u.done ++ code)
      (ap (λ n. expression_code frame slot (typed_expression_of e) ++ hold frame slot ∷ arguments_code frame n (typed_expressions_of others)) (sym (add-one slot))
      ∙ sym (append_assoc (expression_code frame slot (typed_expression_of e)) (hold frame slot ∷ []) (arguments_code frame (slot + 1) (typed_expressions_of others))))
      ∙ sym (append_assoc u.done (expression_code frame slot (typed_expression_of e) ++ hold frame slot ∷ []) (arguments_code frame (slot + 1) (typed_expressions_of others)));
}
