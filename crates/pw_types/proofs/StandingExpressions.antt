-- Expressions as phrases: their faults are those of the list, and they stand where they are placed.
use Rattle.std.proofs.Common.{◌≡◌, ℕ, suc, ◌≤◌, List, ◌++◌, arith, Option, Some, None, refl, sym, ◌∙◌, append_assoc}
use Rattle.pw_tree.specs.declared.ty.Ty.{Ty}
use Rattle.pw_tree.specs.Expressions.{Expression, Expressions, constant, word, unary, binary, conditional, call, index, input, output, nil, cons}
use Rattle.pw_tree.specs.Placed.{span_of, IsWithin, IsPlaced, ArePlaced, IsOptionPlaced, token_after_option}
use Rattle.pw_types.specs.declared.rule.Rule.TheVariants as rules
use Rattle.pw_types.specs.declared.role.Role.{Role}
use Rattle.pw_types.specs.declared.role.Role.TheVariants.{Value, Callee, Base, Argument, Written}
use Rattle.pw_types.specs.declared.fault.Fault.{Fault}
use Rattle.pw_types.specs.Faults.{broken}
use Rattle.pw_types.specs.Scopes.{Scope}
use Rattle.pw_types.specs.Typed.{typed, function_of, parameters_of, Designated}
use Rattle.pw_types.specs.Expressions.{end_of, own, callee_in, first_parameter, other_parameters}
use Rattle.pw_types.specs.Steps.ExpressionFaults.{unless_direct, faults, faults_of_arguments}
use Rattle.pw_types.specs.Statements.{holds_too_many}
use Rattle.pw_types.specs.Steps.StatementFaults.{faults_of_whole, faults_of_option}
use Rattle.pw_types.specs.Nests.{Nest, Nests, more, unless_named, parts, arguments, expression, whole, option}
use Rattle.pw_types.proofs.OwnFaults.{rises_append, rises_broken, rises_own}
use Rattle.pw_types.proofs.Standing.{Stands, stands, AllStand, no_more, one_more, all_from}
use Rattle.pw_types.proofs.Gathering.{flat, gather, gather_append, both}

-- ---- their faults

gather_unless : (g : Option Designated) (f : Nest) (fs others : List Fault) (ns : Nests) (own : List Fault) → flat f ≡ fs →
    gather ns own ≡ others → gather (unless_named g f ns) own ≡ unless_direct g fs ++ others
unfolding flat
gather_unless None f fs others ns own e h = both e h
gather_unless (Some g) f fs others ns own e h = h

mutual
  unfolding flat parts faults

  pub expression_faults : (scope : Scope) (role : Role) (e : Expression) → flat (expression scope role e) ≡ faults scope role e
  expression_faults scope role (constant at v unsigned) = refl
  expression_faults scope role (word at name) = refl
  expression_faults scope role (unary at op e) = both (expression_faults scope Value e) refl
  expression_faults scope role (binary at op l r) =
      both (expression_faults scope Value l) (both (expression_faults scope Value r) refl)
  expression_faults scope role (conditional at c a b) =
      both (expression_faults scope Value c) (both (expression_faults scope Value a) (both (expression_faults scope Value b) refl))
  expression_faults scope role (call at f es) =
      gather_unless (function_of scope f) (expression scope Callee f) (faults scope Callee f) _
      (arguments scope (parameters_of (callee_in scope f)) es) _
      (expression_faults scope Callee f)
      (arguments_faults scope (parameters_of (callee_in scope f)) es (own scope role (call at f es)))
  expression_faults scope role (index at b i) =
      both (expression_faults scope Base b) (both (expression_faults scope Value i) refl)
  expression_faults scope role (input at) = refl
  expression_faults scope role (output at e) = both (expression_faults scope Written e) refl

  arguments_faults : (scope : Scope) (params : Option (List Ty)) (es : Expressions) (others : List Fault) →
      gather (arguments scope params es) others ≡ faults_of_arguments scope params es ++ others
  arguments_faults scope params nil others = refl
  arguments_faults scope params (cons e es) others =
      both (expression_faults scope (Argument (first_parameter params)) e) (arguments_faults scope (other_parameters params) es others)
      ∙ sym (append_assoc (faults scope (Argument (first_parameter params)) e) (faults_of_arguments scope (other_parameters params) es) others)

pub whole_faults : (scope : Scope) (role : Role) (e : Expression) → flat (whole scope role e) ≡ faults_of_whole scope role e
unfolding flat
whole_faults scope role e =
    gather_append (parts scope e) (own scope role e) (broken rules.TooDeep (end_of e) (holds_too_many (typed scope e)))
    ∙ both (expression_faults scope role e) refl

pub option_faults : (scope : Scope) (role : Role) (e : Option Expression) (ns : Nests) (own : List Fault) →
    gather (option scope role e ns) own ≡ faults_of_option scope role e ++ gather ns own
unfolding flat
option_faults scope role None ns own = refl
option_faults scope role (Some e) ns own = both (whole_faults scope role e) refl

-- ---- where they stand

-- A placed expression stands among the tokens where it is placed.
pub placed_within : {low high : ℕ} (e : Expression) → IsPlaced low high e → IsWithin low high (span_of e)
unfolding IsPlaced
placed_within (constant at v unsigned) p = p
placed_within (word at name) p = p
placed_within (unary at op e) p = p.0
placed_within (binary at op l r) p = p.0
placed_within (conditional at c a b) p = p.0
placed_within (call at f es) p = p.0
placed_within (index at b i) p = p.0
placed_within (input at) p = p
placed_within (output at e) p = p.0

stand_unless : {low middle high : ℕ} {n : Nest} {ns : Nests} (g : Option Designated) → Stands low middle n → low ≤ middle →
    middle ≤ high →
    AllStand (suc middle) high ns → AllStand low high (unless_named g n ns)
stand_unless {middle = middle} None n h k ns = one_more middle n k ns
stand_unless {low = low} (Some g) n h k ns = all_from low (omega arith) ns

-- an expression stands where it is placed, where its parts stand within it
from_parts : (scope : Scope) (role : Role) (e : Expression) (low high : ℕ) → IsPlaced low high e →
    AllStand (span_of e).first (end_of e) (parts scope e) → Stands low (end_of e) (expression scope role e)
from_parts scope role e low high p ns =
    let e_in = placed_within e p in
    stands (end_of e) (omega arith) (omega arith) (all_from low e_in.from ns) (rises_own scope role e)

before : (scope : Scope) (role : Role) (e : Expression) (lower low high : ℕ) {ns : Nests} → lower ≤ low → IsPlaced low high e →
    AllStand (span_of e).first (end_of e) (parts scope e) → AllStand (suc (end_of e)) high ns →
    AllStand lower high (more (expression scope role e) ns)
before scope role e lower low high l p ns others =
    all_from lower l (one_more (end_of e) (from_parts scope role e low high p ns) (placed_within e p).to others)

mutual
  unfolding parts IsPlaced

  parts_stand : (scope : Scope) (e : Expression) (low high : ℕ) → IsPlaced low high e →
      AllStand (span_of e).first (end_of e) (parts scope e)
  parts_stand scope (constant at v unsigned) low high p = no_more
  parts_stand scope (word at name) low high p = no_more
  parts_stand scope (unary at op e) low high p = before scope Value e _ _ _ (omega arith) p.1 (parts_stand scope e _ _ p.1) no_more
  parts_stand scope (binary at op l r) low high p =
      before scope Value l _ _ _ (omega arith) p.1 (parts_stand scope l _ _ p.1) (before scope Value r _ _ _ (omega arith) p.2 (parts_stand scope r _ _ p.2) no_more)
  parts_stand scope (conditional at c a b) low high p =
      before scope Value c _ _ _ (omega arith) p.1 (parts_stand scope c _ _ p.1)
      (before scope Value a _ _ _ (omega arith) p.2 (parts_stand scope a _ _ p.2) (before scope Value b _ _ _ (omega arith) p.3 (parts_stand scope b _ _ p.3) no_more))
  parts_stand scope (call at f es) low high p =
      let f_in = placed_within f p.1 in
      stand_unless (function_of scope f) (from_parts scope Callee f _ _ p.1 (parts_stand scope f _ _ p.1)) (omega arith) f_in.to
      (all_from (suc (end_of f)) (omega arith) (arguments_stand scope (parameters_of (callee_in scope f)) es _ _ p.3))
  parts_stand scope (index at b i) low high p =
      before scope Base b _ _ _ (omega arith) p.1 (parts_stand scope b _ _ p.1) (before scope Value i _ _ _ (omega arith) p.2 (parts_stand scope i _ _ p.2) no_more)
  parts_stand scope (input at) low high p = no_more
  parts_stand scope (output at e) low high p = before scope Written e _ _ _ (omega arith) p.1 (parts_stand scope e _ _ p.1) no_more

  arguments_stand : (scope : Scope) (params : Option (List Ty)) (es : Expressions) (low high : ℕ) → ArePlaced low high es →
      AllStand low high (arguments scope params es)
  arguments_stand scope params nil low high p = no_more
  arguments_stand scope params (cons e es) low high p =
      before scope (Argument (first_parameter params)) e _ _ _ (omega arith) p.0 (parts_stand scope e _ _ p.0)
      (arguments_stand scope (other_parameters params) es _ _ p.1)

pub expression_stands : (scope : Scope) (role : Role) (e : Expression) (low high : ℕ) → IsPlaced low high e →
    Stands low (end_of e) (expression scope role e)
expression_stands scope role e low high p = from_parts scope role e low high p (parts_stand scope e low high p)

pub whole_stands : (scope : Scope) (role : Role) (e : Expression) (low high : ℕ) → IsPlaced low high e →
    Stands low (end_of e) (whole scope role e)
whole_stands scope role e low high p =
    let e_in = placed_within e p in
    stands (end_of e) (omega arith) (omega arith) (all_from low e_in.from (parts_stand scope e low high p))
    (rises_append (rises_own scope role e) (rises_broken 11 rules.TooDeep (end_of e) (holds_too_many (typed scope e)) (omega arith)))

pub option_stands : (scope : Scope) (role : Role) (e : Option Expression) (low high : ℕ) (ns : Nests) →
    IsOptionPlaced low high e →
    AllStand (token_after_option low e) high ns → AllStand low high (option scope role e ns)
option_stands scope role None low high ns p others = others
option_stands scope role (Some e) low high ns p others =
    one_more (end_of e) (whole_stands scope role e low high p) (placed_within e p).to others
