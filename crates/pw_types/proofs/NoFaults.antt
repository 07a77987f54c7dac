-- A phrase without own faults breaks none of the rules.
use Rattle.std.proofs.Common.{◌≡◌, ℕ, Bool, true, false, ◌||◌, ◌&&◌, List, [], ◌∷◌, ◌++◌, refl}
use Rattle.pw_tree.specs.Expressions.{Expression, constant, word, unary, binary, conditional, call, index, input, output}
use Rattle.pw_types.specs.declared.rule.Rule.{Rule}
use Rattle.pw_types.specs.declared.role.Role.{Role}
use Rattle.pw_types.specs.declared.role.Role.TheVariants.{Value, Callee, Base, Written}
use Rattle.pw_types.specs.Faults.{broken, broken_by}
use Rattle.pw_types.specs.Scopes.{Scope}
use Rattle.pw_types.specs.Typed.{function_of, parameters_of}
use Rattle.pw_types.specs.Expressions.{end_of, word_of, callee_in, is_unknown, is_no_value, has_other_operands, has_other_count, has_other_argument, is_not_callable, is_no_array, needs_index, does_not_fit, own}
use Rattle.pw_types.specs.Steps.ExpressionFaults.{unless_direct, faults, faults_of_arguments}
use Rattle.pw_types.proofs.Empty.{left_empty, right_empty}

-- ---- tests

pub or_left : (a b : Bool) → a || b ≡ false → a ≡ false
or_left true b h = h
or_left false b h = refl

pub or_right : (a b : Bool) → a || b ≡ false → b ≡ false
or_right true b h = cc
or_right false b h = h

pub and_left : (a b : Bool) → a && b ≡ true → a ≡ true
and_left true b h = refl
and_left false b h = h

pub and_right : (a b : Bool) → a && b ≡ true → b ≡ true
and_right true b h = h
and_right false b h = cc

-- ---- single rules

pub not_broken : (rule : Rule) (at : ℕ) (b : Bool) → broken rule at b ≡ [] → b ≡ false
not_broken rule at true none = cc
not_broken rule at false none = refl

pub not_broken_by : (rule : Rule) (at : ℕ) (name : List ℕ) (b : Bool) → broken_by rule at name b ≡ [] → b ≡ false
not_broken_by rule at name true none = cc
not_broken_by rule at name false none = refl

-- ---- an expression's own rules

pub record NoOwn (scope : Scope) (role : Role) (e : Expression) : Type 0 where
  pub known : is_unknown scope e ≡ false
  pub value : is_no_value scope role e ≡ false
  pub operands : has_other_operands scope e ≡ false
  pub count : has_other_count scope e ≡ false
  pub argument : has_other_argument scope role e ≡ false
  pub callable : is_not_callable scope role e ≡ false
  pub array : is_no_array scope role e ≡ false
  pub index : needs_index scope role e ≡ false
  pub fits : does_not_fit scope role e ≡ false

pub no_own : (scope : Scope) (role : Role) (e : Expression) → own scope role e ≡ [] → NoOwn scope role e
unfolding own
no_own scope role e none =
    let b = right_empty _ _ none in
    let c = right_empty _ _ b in
    let d = right_empty _ _ c in
    let f = right_empty _ _ d in
    let g = right_empty _ _ f in
    let h = right_empty _ _ g in
    let i = right_empty _ _ h in
    let j = right_empty _ _ i in
    record {
      known = not_broken_by _ (end_of e) (word_of e) (is_unknown scope e) (left_empty _ _ none);
      value = not_broken _ (end_of e) (is_no_value scope role e) (left_empty _ _ b);
      operands = not_broken _ (end_of e) (has_other_operands scope e) (left_empty _ _ c);
      count = not_broken _ (end_of e) (has_other_count scope e) (left_empty _ _ d);
      argument = not_broken _ (end_of e) (has_other_argument scope role e) (left_empty _ _ f);
      callable = not_broken _ (end_of e) (is_not_callable scope role e) (left_empty _ _ g);
      array = not_broken _ (end_of e) (is_no_array scope role e) (left_empty _ _ h);
      index = not_broken _ (end_of e) (needs_index scope role e) (left_empty _ _ i);
      fits = not_broken _ (end_of e) (does_not_fit scope role e) j;
    }

-- an expression's own faults are among its faults
pub own_none : (scope : Scope) (role : Role) (e : Expression) → faults scope role e ≡ [] → own scope role e ≡ []
unfolding faults
own_none scope role (constant at value unsigned) none = none
own_none scope role (word at name) none = none
own_none scope role (unary at op e) none = right_empty (faults scope Value e) _ none
own_none scope role (binary at op l r) none = right_empty (faults scope Value r) _ (right_empty (faults scope Value l) _ none)
own_none scope role (conditional at c a b) none =
    right_empty (faults scope Value b) _ (right_empty (faults scope Value a) _ (right_empty (faults scope Value c) _ none))
own_none scope role (call at f es) none =
    right_empty (faults_of_arguments scope (parameters_of (callee_in scope f)) es) _
    (right_empty (unless_direct (function_of scope f) (faults scope Callee f)) _ none)
own_none scope role (index at b i) none = right_empty (faults scope Value i) _ (right_empty (faults scope Base b) _ none)
own_none scope role (input at) none = none
own_none scope role (output at e) none = right_empty (faults scope Written e) _ none

pub breaks_none : (scope : Scope) (role : Role) (e : Expression) → faults scope role e ≡ [] → NoOwn scope role e
breaks_none scope role e none = no_own scope role e (own_none scope role e none)
