-- What an assignment comes to.
use Rattle.std.proofs.Common.{◌≡◌, ℕ, suc, ◌+◌, min, max, Bool, true, false, ◌&&◌, not, List, [], ◌∷◌, ◌++◌, Option, Some, None, is_some, is_none, option_map, refl, sym, ap, ◌∙◌, subst, append_assoc, arith, nat_lt, slice_index_or}
use Rattle.std.proofs.lemmas.Bool.Decides.{nat_tests}
use Rattle.pw_tree.specs.Expressions.{Span, Expression}
use Rattle.pw_tree.specs.TypedExpressions.{TypedExpression, typed_expression_of}
use Rattle.pw_tree.specs.Statements.{set}
use Rattle.pw_tree.specs.Placed.{set_end, index_end}
use Rattle.pw_tree.specs.TypedStatements.{TypedStatement}
use Rattle.pw_tree.specs.TypedStatements as tree
use Rattle.pw_tree.specs.declared.ty.Ty.{Ty}
use Rattle.pw_tree.specs.declared.ty.Ref.{Ref}
use Rattle.pw_tree.specs.declared.texpr.TExpr.{TExpr}
use Rattle.pw_tree.specs.declared.tstmt.TStmt.TheVariants as kinds
use Rattle.pw_tree.proofs.CommandFolds.{command_of-SetLocal, command_of-SetVar, command_of-SetElem}
use Rattle.pw_types.specs.declared.fault.Fault.{Fault}
use Rattle.pw_types.specs.declared.role.Role.TheVariants as roles
use Rattle.pw_types.specs.declared.rule.Rule.TheVariants as rules
use Rattle.pw_types.specs.declared.typed.Typed.{Typed}
use Rattle.pw_types.specs.declared.statement_walk.Walk.{Walk}
use Rattle.pw_types.specs.declared.statement_step.Setting.{Setting as Given}
use Rattle.pw_types.specs.declared.statement_set.Array.{Array}
use Rattle.pw_types.specs.declared.fault.Refusal.{Refusal}
use Rattle.pw_tree.specs.Types.{is_number}
use Rattle.pw_types.specs.Faults.{broken, broken_by}
use Rattle.pw_types.specs.Scopes.{Scope, Meaning, name_meaning}
use Rattle.pw_tree.specs.Held.{held, held_by, held_element}
use Rattle.pw_types.specs.Steps.Uses.{uses, uses_of_meaning, uses_by}
use Rattle.pw_types.specs.Typed.{typed, array_of_meaning, array_of_kind, array_named}
use Rattle.pw_types.specs.Typed as typed_trees
use Rattle.pw_types.specs.Expressions.{has_type}
use Rattle.pw_types.specs.Steps.ExpressionFaults.{faults}
use Rattle.pw_types.specs.Statements.{faults_of_target, faults_of_array, type_of_target, type_of_kind, holds_too_many, element_holds_too_many, is_unknown_target, has_other_index, set_element_holds_too_many}
use Rattle.pw_types.specs.Steps.StatementFaults.{faults_by}
use Rattle.pw_types.specs.TypedStatements.{typed_expression, typed_statement, assigned, element_assigned, bracket_line}
use Rattle.pw_types.specs.Steps.CheckingStatements.{WalkResult, block_of, outcome_at, judged_at, setting_of}
use Rattle.pw_types.specs.Steps.StatementValues.{Notes, IsJudgedValue}
use Rattle.pw_types.specs.Steps.StatementTargets.{IsFile, IsLocal, IsArray, IsIndex, IsElementValue, faults_of_index, faults_of_element_value, holds_too_many_beside}
use Rattle.pw_types.proofs.EnclosingStatements.{same, on_left, tree_is}
use Rattle.pw_types.proofs.SimpleStatements.{noted}
use Rattle.pw_types.proofs.Failing.{fails_on_left, fails_as}
use Rattle.pw_types.specs.Steps.Refusals.{Fails}

-- ---- what is noted by several

pub zero_held : (n : ℕ) → max 0 n ≡ n
zero_held n = omega arith

pub notes_after : (us vs : List ℕ) (k : ℕ) (a b c : Walk) → Notes us 0 a b → Notes vs k b c → Notes (us ++ vs) k a c
notes_after us vs k a b c first second = record {
  scope = second.scope ∙ first.scope;
  start = second.start ∙ first.start;
  count = second.count ∙ first.count;
  used = second.used ∙ (ap (λ (u : List ℕ). u ++ vs) first.used ∙ append_assoc a.used.items us vs);
  held = omega (arith, second.held, first.held);
}

-- a statement that declares nothing, without faults
pub comes_to : (f : List Fault) (c d : TypedStatement) (us vs : List ℕ) (old new : Walk)
    → f ≡ [] → c ≡ d → us ≡ vs → Notes vs (held_by d) old new
    → let w : WalkResult = record { faults = f; typed = c; used = old.used.items ++ us; held = max old.held (held_by c); block = block_of old } in
    w ≡ judged_at d new
comes_to f c d us vs old new none is uses notes =
    same none is (ap (λ (u : List ℕ). old.used.items ++ u) uses) (ap (λ (x : TypedStatement). max old.held (held_by x)) is) refl
    ∙ noted d vs (held_by d) old new notes

-- ---- a name

-- the faults of the value that is assigned at a type
abbrev faults_at : Scope → Option Ty → Expression → ℕ → List Fault
faults_at scope ty e end = faults scope (roles.Assigned ty) e ++ broken rules.TooDeep end (is_some ty && holds_too_many (typed scope e))

pub sets_local : (x : Given) (old new : Walk) (at : Span) (name : List ℕ) (e : Expression) (n : ℕ) (ty : Ty) (t : TExpr)
    → faults_of_target old.scope name at.first ≡ [] → IsLocal old.scope name n ty
    → faults_at old.scope (Some ty) e (set_end x.in_head at) ≡ [] → IsJudgedValue e old new t
    → outcome_at x old (set at name None e) ≡ judged_at (tree.typed_statement_of (kinds.SetLocal n (Some t))) new
unfolding faults_by typed_statement uses_by held_by
sets_local x old new at name e n ty t free target none value =
    let is = tree_is old.scope e (typed_expression_of t) value.tree in
    let value_faults : faults_at old.scope (type_of_target (name_meaning old.scope name)) e (set_end x.in_head at) ≡ [] =
    ap (λ (m : Meaning). faults_at old.scope (type_of_target m) e (set_end x.in_head at)) target.means
    ∙ (ap (λ (u : Ty). faults_at old.scope (Some u) e (set_end x.in_head at)) (sym target.type_is) ∙ none) in
    comes_to _ (assigned old.scope (name_meaning old.scope name) (typed_expression old.scope e)) (tree.set_local n (Some (typed_expression_of t))) _ (uses old.scope e) old new
    (on_left free ∙ value_faults)
    (ap (λ (m : Meaning). assigned old.scope m (typed_expression old.scope e)) target.means
    ∙ (ap (λ (k : ℕ). tree.set_local k (Some (typed_expression old.scope e))) (sym target.number) ∙ ap (λ (v : TypedExpression). tree.set_local n (Some v)) is))
    (ap (λ (m : Meaning). uses_of_meaning old.scope m ++ uses old.scope e) target.means)
    value.notes
    ∙ ap (λ (c : TypedStatement). judged_at c new) (sym (command_of-SetLocal n (Some t)))

pub sets_variable : (x : Given) (old mid new : Walk) (at : Span) (name : List ℕ) (e : Expression) (n : ℕ) (r : Ref) (ty : Ty) (t : TExpr)
    → faults_of_target old.scope name at.first ≡ [] → IsFile old.scope name n r ty None → Notes (n ∷ []) 0 old mid
    → faults_at mid.scope (Some ty) e (set_end x.in_head at) ≡ [] → IsJudgedValue e mid new t
    → outcome_at x old (set at name None e) ≡ judged_at (tree.typed_statement_of (kinds.SetVar r t)) new
unfolding faults_by typed_statement uses_by held_by
sets_variable x old mid new at name e n r ty t free target note none value =
    let f = target.file in
    let is = tree_is old.scope e (typed_expression_of t) (ap (λ (s : Scope). typed s e) (sym note.scope) ∙ value.tree) in
    let kind : type_of_target (name_meaning old.scope name) ≡ Some ty = ap type_of_target target.means ∙ ap type_of_kind target.kind in
    let value_faults : faults_at old.scope (type_of_target (name_meaning old.scope name)) e (set_end x.in_head at) ≡ [] =
    ap (λ (u : Option Ty). faults_at old.scope u e (set_end x.in_head at)) kind
    ∙ (ap (λ (s : Scope). faults_at s (Some ty) e (set_end x.in_head at)) (sym note.scope) ∙ none) in
    comes_to _ (assigned old.scope (name_meaning old.scope name) (typed_expression old.scope e)) (tree.set_variable r (typed_expression_of t)) _ ((n ∷ []) ++ uses mid.scope e) old new
    (on_left free ∙ value_faults)
    (ap (λ (m : Meaning). assigned old.scope m (typed_expression old.scope e)) target.means
    ∙ (ap (λ (u : Ref). tree.set_variable u (typed_expression old.scope e)) (sym target.reference) ∙ ap (λ (v : TypedExpression). tree.set_variable r v) is))
    (ap (λ (m : Meaning). uses_of_meaning old.scope m ++ uses old.scope e) target.means
    ∙ (ap (λ (k : ℕ). k ∷ uses old.scope e) (sym target.number) ∙ ap (λ (s : Scope). n ∷ uses s e) (sym note.scope)))
    (notes_after (n ∷ []) (uses mid.scope e) (held (typed_expression_of t)) old mid new note value.notes)
    ∙ ap (λ (c : TypedStatement). judged_at c new) (sym (command_of-SetVar r t))

-- ---- an element

-- more than 100 values, where what the index holds is counted up to 101
pub capped : (h v : ℕ) → nat_lt 100 (max (min h 101) (1 + v)) ≡ nat_lt 100 (max h (1 + v))
capped h v = grind (arith, nat_tests)

pub exact : (h v : ℕ) → nat_lt 100 (max h (1 + v)) ≡ false → max (min h 101) (1 + v) ≡ max h (1 + v)
exact h v few = grind (arith, nat_tests)

not_broken : (at : ℕ) (b : Bool) → broken rules.TooDeep at b ≡ [] → b ≡ false
not_broken at true none = cc
not_broken at false none = refl

none_after : (xs ys : List Fault) → xs ++ ys ≡ [] → ys ≡ []
none_after [] ys none = none
none_after (f ∷ xs) ys none = cc

none_before : (xs ys : List Fault) → xs ++ ys ≡ [] → xs ≡ []
none_before [] ys none = refl
none_before (f ∷ xs) ys none = cc

-- what the assignment holds too many of, in one way and in the other
same_too_many : (index value : Option TypedExpression) (i : TypedExpression) → index ≡ Some i
    → holds_too_many_beside (min (held i) 101) value ≡ element_holds_too_many index value
same_too_many index value i index_is = of_value value ∙ ap (λ (o : Option TypedExpression). element_holds_too_many o value) (sym index_is)
  where
    of_value : (o : Option TypedExpression) → holds_too_many_beside (min (held i) 101) o ≡ element_holds_too_many (Some i) o
    of_value None = refl
    of_value (Some v) = capped (held i) (held v)

array_is : (scope : Scope) (name : List ℕ) (n : ℕ) (r : Ref) (ty : Ty) (size : ℕ) → IsFile scope name n r ty (Some size)
    → array_named scope name ≡ Some (record { reference = r; ty = ty; size = size })
array_is scope name n r ty size target =
    ap (array_of_meaning scope) target.means
    ∙ (ap (array_of_kind scope target.file) target.kind
    ∙ ap (λ (u : Ref). let a : Option typed_trees.Array = Some (record { reference = u; ty = ty; size = size }) in a) (sym target.reference))

-- ---- its index

-- the faults of the index of what has this name
abbrev faults_of_index_of : Scope → Span → List ℕ → Expression → List Fault
faults_of_index_of scope at name i = faults scope roles.Value i ++ broken rules.Operands (index_end at i) (has_other_index scope name i)

is_there : {A : Type 0} (at : ℕ) (o : Option A) → broken rules.NotArray at (is_none o) ≡ [] → is_some o ≡ true
is_there at None none = cc
is_there at (Some a) none = refl

same_index : (scope : Scope) (at : Span) (name : List ℕ) (i : Expression) → faults_of_array scope name at.first ≡ []
    → faults_of_index_of scope at name i ≡ faults_of_index scope at i
same_index scope at name i free =
    ap (λ (b : Bool). faults scope roles.Value i ++ broken rules.Operands (index_end at i) (b && has_type (λ t. not (is_number t)) (typed scope i)))
    (is_there at.first (array_named scope name) (none_after (broken_by rules.Unknown at.first name (is_unknown_target scope name)) _ free))

-- the faults of the value that an element of an array of this name is assigned
abbrev rest_of_faults : Scope → List ℕ → Expression → Expression → ℕ → List Fault
rest_of_faults scope name i e end =
    faults scope (roles.Assigned (option_map (λ (b : typed_trees.Array). b.ty) (array_named scope name))) e
    ++ broken rules.TooDeep end (set_element_holds_too_many scope name i e)

-- what stands before the value in an assignment to an element, which is judged so far
pub record IsPrepared (old noted mid : Walk) (at : Span) (name : List ℕ) (i : Expression) (a : Array) (index : Typed) : Type 0 where
  pub free : faults_of_array old.scope name at.first ≡ []
  pub target : IsArray old.scope name a
  pub note : Notes (a.number ∷ []) 0 old noted
  pub index_free : faults_of_index noted.scope at i ≡ []
  pub index_is : IsIndex i noted mid index

module _ (x : Given) (old noted mid : Walk) (at : Span) (name : List ℕ) (i e : Expression) (a : Array) (index : Typed)
    (p : IsPrepared old noted mid at name i a index) where
  from : mid.scope ≡ old.scope
  from = p.index_is.notes.scope ∙ p.note.scope

  array : array_named old.scope name ≡ Some (record { reference = a.reference; ty = a.ty; size = a.size })
  array = array_is old.scope name a.number a.reference a.ty a.size p.target

  index_tree : typed old.scope i ≡ Some (typed_expression_of index.tree)
  index_tree = ap (λ (s : Scope). typed s i) (sym p.note.scope) ∙ p.index_is.tree

  value_faults : (end : ℕ) → faults_of_element_value mid.scope index.held a.ty e end ≡ rest_of_faults old.scope name i e end
  value_faults end =
      ap (λ (s : Scope). faults_of_element_value s index.held a.ty e end) from
      ∙ (ap (λ (o : Option typed_trees.Array). faults old.scope (roles.Assigned (option_map (λ (b : typed_trees.Array). b.ty) o)) e
      ++ broken rules.TooDeep end (is_some o && holds_too_many_beside index.held (typed old.scope e))) (sym array)
      ∙ ap (λ (b : Bool). faults old.scope (roles.Assigned (option_map (λ (b' : typed_trees.Array). b'.ty) (array_named old.scope name))) e
      ++ broken rules.TooDeep end (is_some (array_named old.scope name) && b))
      (ap (λ (n : ℕ). holds_too_many_beside n (typed old.scope e)) p.index_is.held ∙ same_too_many (typed old.scope i) (typed old.scope e) (typed_expression_of index.tree) index_tree))

  pub all_faults : faults_by (setting_of x) (block_of old) (set at name (Some i) e) ≡ rest_of_faults old.scope name i e (set_end x.in_head at)
  unfolding faults_by
  all_faults =
      on_left p.free ∙ (sym (append_assoc (faults old.scope roles.Value i) _ _)
      ∙ on_left (same_index old.scope at name i p.free ∙ (ap (λ (s : Scope). faults_of_index s at i) (sym p.note.scope) ∙ p.index_free)))

  pub value_fails : (stop : Refusal) → Fails (faults_of_element_value mid.scope index.held a.ty e (set_end x.in_head at)) stop
      → Fails (faults_by (setting_of x) (block_of old) (set at name (Some i) e)) stop
  value_fails stop is = fails_as _ _ stop (value_faults (set_end x.in_head at) ∙ sym all_faults) is

  pub sets_element : (new : Walk) (value : TExpr) (line : ℕ)
      → faults_of_element_value mid.scope index.held a.ty e (set_end x.in_head at) ≡ [] → IsElementValue index.held e mid new value
      → line ≡ slice_index_or x.lines.now (suc at.first) 0
      → outcome_at x old (set at name (Some i) e) ≡ judged_at (tree.typed_statement_of (kinds.SetElem a.reference a.size line index.tree value)) new
  unfolding typed_statement uses_by held_by
  sets_element new value line value_none value_is line_is =
      let it = typed_expression_of index.tree in
      let vt = typed_expression_of value in
      let end = set_end x.in_head at in
      let value_tree : typed old.scope e ≡ Some vt = ap (λ (s : Scope). typed s e) (sym from) ∙ value_is.tree in
      let few : nat_lt 100 (max (min (held it) 101) (1 + held vt)) ≡ false =
      ap (λ (n : ℕ). nat_lt 100 (max n (1 + held vt))) (sym p.index_is.held)
      ∙ (sym (ap (holds_too_many_beside index.held) value_is.tree)
      ∙ not_broken end _ (none_after (faults mid.scope (roles.Assigned (Some a.ty)) e) _ value_none)) in
      let most : max index.held (1 + held vt) ≡ held_element it vt =
      ap (λ (n : ℕ). max n (1 + held vt)) p.index_is.held ∙ exact (held it) (held vt) (sym (capped (held it) (held vt)) ∙ few) in
      comes_to _ (element_assigned (array_named old.scope name) (bracket_line (setting_of x) at) (typed_expression old.scope i) (typed_expression old.scope e))
      (tree.set_element a.reference a.size line it vt)
      _ ((a.number ∷ []) ++ (uses noted.scope i ++ uses mid.scope e)) old new
      (all_faults ∙ (sym (value_faults end) ∙ value_none))
      (ap (λ (o : Option typed_trees.Array). element_assigned o (bracket_line (setting_of x) at) (typed_expression old.scope i) (typed_expression old.scope e)) array
      ∙ (ap (λ (l : ℕ). tree.set_element a.reference a.size l (typed_expression old.scope i) (typed_expression old.scope e)) (sym line_is)
      ∙ (ap (λ (v : TypedExpression). tree.set_element a.reference a.size line v (typed_expression old.scope e)) (tree_is old.scope i it index_tree)
      ∙ ap (λ (v : TypedExpression). tree.set_element a.reference a.size line it v) (tree_is old.scope e vt value_tree))))
      (ap (λ (m : Meaning). uses_of_meaning old.scope m ++ (uses old.scope i ++ uses old.scope e)) p.target.means
      ∙ (ap (λ (k : ℕ). k ∷ (uses old.scope i ++ uses old.scope e)) (sym p.target.number)
      ∙ (ap (λ (s : Scope). a.number ∷ (uses s i ++ uses old.scope e)) (sym p.note.scope)
      ∙ ap (λ (s : Scope). a.number ∷ (uses noted.scope i ++ uses s e)) (sym from))))
      (notes_after (a.number ∷ []) (uses noted.scope i ++ uses mid.scope e) (held_element it vt) old noted new p.note
      (notes_after (uses noted.scope i) (uses mid.scope e) (held_element it vt) noted mid new p.index_is.notes
      (subst (λ (n : ℕ). Notes (uses mid.scope e) n mid new) most value_is.notes)))
      ∙ ap (λ (c : TypedStatement). judged_at c new) (sym (command_of-SetElem a.reference a.size line index.tree value))

pub index_fails : (x : Given) (old noted : Walk) (at : Span) (name : List ℕ) (i e : Expression) (us : List ℕ) (stop : Refusal)
    → faults_of_array old.scope name at.first ≡ [] → Notes us 0 old noted → Fails (faults_of_index noted.scope at i) stop
    → Fails (faults_by (setting_of x) (block_of old) (set at name (Some i) e)) stop
unfolding faults_by
index_fails x old noted at name i e us stop free note is =
    let here = fails_as _ _ stop (ap (λ (s : Scope). faults_of_index s at i) note.scope ∙ sym (same_index old.scope at name i free)) is in
    fails_as _ _ stop (append_assoc (faults old.scope roles.Value i) _ _ ∙ sym (on_left free))
    (fails_on_left (faults_of_index_of old.scope at name i) (rest_of_faults old.scope name i e (set_end x.in_head at)) stop here)
