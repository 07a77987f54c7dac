-- Statements without faults: their expressions are sound, their targets are what is assigned to, and they leave loops from within.
use Rattle.std.proofs.Common.{◌≡◌, ℕ, suc, ◌+◌, ◌≤◌, ◌<◌, Bool, true, false, ◌||◌, ◌&&◌, not, List, [], ◌∷◌, ◌++◌, Option, Some, None, is_some, refl, sym, ap, subst, ◌∙◌, arith}
use Rattle.std.specs.Prelude.{is_none, option_map, nat_eq, nat_lt, nat_le, unwrap_or, ⊤}
use Rattle.std.specs.Option.{option_map_or}
use Rattle.std.proofs.lemmas.Bool.Decides.{nat_tests}
use Rattle.pw_tree.specs.declared.ty.Ty.{Ty}
use Rattle.pw_tree.specs.declared.ty.Ty.TheVariants.{Void, Long, Ulong, Fn}
use Rattle.pw_tree.specs.Expressions.{Span, Expression}
use Rattle.pw_tree.specs.Statements.{Statement, Statements, OptionalStatement, empty, block, local, set, evaluate, if_else, while_loop, do_loop, for_loop, returns, breaks, continues, nil, cons, absent, present}
use Rattle.pw_tree.specs.TypedExpressions.{TypedExpression, type_of}
use Rattle.pw_tree.specs.TypedStatements.{TypedStatement}
use Rattle.pw_tree.specs.TypedStatements as tree
use Rattle.pw_tree.specs.Types.{is_number, is_void, converts}
use Rattle.pw_tree.specs.Held.{held, held_element}
use Rattle.pw_tree.specs.Placed.{local_name_at, index_end, set_end}
use Rattle.pw_types.specs.declared.rule.Rule.TheVariants as rules
use Rattle.pw_types.specs.declared.role.Role.{Role}
use Rattle.pw_types.specs.declared.role.Role.TheVariants.{Statement as AsStatement, Value, Assigned}
use Rattle.pw_types.specs.declared.names.Kind.{Kind}
use Rattle.pw_types.specs.declared.names.Kind.TheVariants.{Function, Variable}
use Rattle.pw_types.specs.declared.names.File.{File}
use Rattle.pw_types.specs.declared.names.Local.{Local}
use Rattle.pw_types.specs.Faults.{broken, broken_by}
use Rattle.pw_types.specs.Reserved.{is_reserved}
use Rattle.pw_types.specs.Scopes.{Scope, Meaning, missing, a_local, declared, name_meaning, variable_reference}
use Rattle.pw_types.specs.Typed.{typed, Array, array_named, array_of_meaning, array_of_kind, function_named, function_of_meaning, function_of_kind}
use Rattle.pw_types.specs.Expressions.{is_base, is_missing, has_type, end_of}
use Rattle.pw_types.specs.Steps.ExpressionFaults.{faults}
use Rattle.pw_types.specs.Blocks.{Setting, part, body, head, Block, inner, after, after_maybe, has_own}
use Rattle.pw_types.specs.Statements.{holds_too_many, element_holds_too_many, is_local_too_many, faults_of_name, type_of_kind, type_of_target, is_unknown_target, is_array_target, is_function_target, is_no_array_target, has_other_index, set_holds_too_many, set_element_holds_too_many, faults_of_target, faults_of_array, returns_other, is_outside_loop}
use Rattle.pw_types.specs.Steps.StatementFaults.{faults_of_whole, faults_of_option, faults_of_set, faults_by, faults_by_all, faults_by_maybe}
use Rattle.pw_types.specs.TypedStatements.{no_expression, typed_expression, assigned, element_assigned, bracket_line, typed_set}
use Rattle.pw_types.proofs.Empty.{left_empty, right_empty}
use Rattle.pw_types.proofs.NoFaults.{or_left, or_right, not_broken, not_broken_by}
use Rattle.pw_types.proofs.Sound.{HasValue, IsNumeric, Sound}
use Rattle.pw_types.proofs.SoundExpressions.{RoleFits, SoundOf, sound_of, IsArrayName, name_is_array}

-- ---- expressions of statements

-- the typed tree of an expression without faults
pub record IsTypedAs (scope : Scope) (role : Role) (e : Expression) : Type 0 where
  pub sound : Sound scope e (typed_expression scope e)
  pub fits : RoleFits role (typed_expression scope e)

-- and it holds few values
pub record IsWhole (scope : Scope) (role : Role) (e : Expression) : Type 0 where
  pub typed_as : IsTypedAs scope role e
  pub few : held (typed_expression scope e) ≤ 100

abbrev pub IsOptionWhole : Scope → Role → Option Expression → Type 0
IsOptionWhole scope role None = ⊤
IsOptionWhole scope role (Some e) = IsWhole scope role e

tree_is : (scope : Scope) (role : Role) (e : Expression) (s : SoundOf scope role e) → s.tree ≡ typed_expression scope e
tree_is scope role e s = sym (ap (λ o. unwrap_or o no_expression) s.typed_is)

as_typed : (scope : Scope) (role : Role) (e : Expression) → SoundOf scope role e → IsTypedAs scope role e
as_typed scope role e s = record {
  sound = subst (λ t. Sound scope e t) (tree_is scope role e s) s.sound;
  fits = subst (λ t. RoleFits role t) (tree_is scope role e s) s.fits;
}

not_not : (b : Bool) → not b ≡ false → b ≡ true
not_not true h = refl
not_not false h = cc

not_base : (scope : Scope) (role : Role) (e : Expression) → is_base role ≡ false → faults scope role e ≡ [] →
    SoundOf scope role e
not_base scope role e other none = sound_of scope role e none (λ h. let c : true ≡ false = sym h ∙ other in cc)

few_held : (n : ℕ) → nat_lt 100 n ≡ false → n ≤ 100
few_held n h = grind (arith, nat_tests)

is_whole : (scope : Scope) (role : Role) (e : Expression) → is_base role ≡ false → faults_of_whole scope role e ≡ [] →
    IsWhole scope role e
is_whole scope role e other none =
    let s = not_base scope role e other (left_empty _ _ none) in
    let few : holds_too_many (typed scope e) ≡ false = not_broken _ (end_of e) (holds_too_many (typed scope e)) (right_empty _ _ none) in
    record {
      typed_as = as_typed scope role e s;
      few = subst (λ t. held t ≤ 100) (tree_is scope role e s) (few_held _ (sym (ap holds_too_many s.typed_is) ∙ few));
    }

is_option_whole : (scope : Scope) (role : Role) (e : Option Expression) → is_base role ≡ false →
    faults_of_option scope role e ≡ [] → IsOptionWhole scope role e
is_option_whole scope role None other none = tt
is_option_whole scope role (Some e) other none = is_whole scope role e other none

-- ---- assignments

-- An assignment without faults, and its typed statement.
pub data SoundSet (x : Setting) (scope : Scope) (at : Span) : List ℕ → Option Expression → Expression → TypedStatement → Type 0 where
  set_to_local : (name : List ℕ) (l : Local) (e : Expression) → name_meaning scope name ≡ a_local l →
      IsTypedAs scope (Assigned (Some l.ty)) e →
      held (typed_expression scope e) ≤ 100 → SoundSet x scope at name None e (tree.set_local l.number (Some (typed_expression scope e)))
  set_to_variable : (name : List ℕ) (f : File) (ty : Ty) (e : Expression) → name_meaning scope name ≡ declared f →
      f.kind ≡ Variable ty None →
      IsTypedAs scope (Assigned (Some ty)) e → held (typed_expression scope e) ≤ 100 →
      SoundSet x scope at name None e (tree.set_variable (variable_reference scope f) (typed_expression scope e))
  set_to_element : (name : List ℕ) (f : File) (ty : Ty) (size : ℕ) (i e : Expression) → name_meaning scope name ≡ declared f →
      f.kind ≡ Variable ty (Some size) → IsTypedAs scope Value i → IsNumeric (typed_expression scope i) → IsTypedAs scope (Assigned (Some ty)) e →
      held_element (typed_expression scope i) (typed_expression scope e) ≤ 100 →
      SoundSet x scope at name (Some i) e
      (tree.set_element (variable_reference scope f) size (bracket_line x at) (typed_expression scope i) (typed_expression scope e))

module _ (x : Setting) (scope : Scope) (at : Span) (name : List ℕ) where
  -- to a name
  module _ (e : Expression) (none : faults_of_set x scope at name None e ≡ []) where
    target_faults : faults_of_target scope name at.first ≡ []
    target_faults = left_empty _ _ none

    value_faults : faults scope (Assigned (type_of_target (name_meaning scope name))) e ≡ []
    value_faults = left_empty _ _ (right_empty _ _ none)

    deep_faults : set_holds_too_many scope name e ≡ false
    deep_faults = not_broken _ (set_end x.in_head at) (set_holds_too_many scope name e) (right_empty _ _ (right_empty _ _ none))

    known_target : is_unknown_target scope name ≡ false
    known_target = not_broken_by _ at.first name (is_unknown_target scope name) (left_empty _ _ target_faults)

    no_array : is_array_target scope name ≡ false
    no_array = not_broken _ at.first (is_array_target scope name) (left_empty _ _ (right_empty _ _ target_faults))

    no_function : is_function_target scope name ≡ false
    no_function = not_broken _ at.first (is_function_target scope name) (right_empty _ _ (right_empty _ _ target_faults))

    -- where the target has this type
    value_sound : (ty : Ty) → type_of_target (name_meaning scope name) ≡ Some ty → SoundOf scope (Assigned (Some ty)) e
    value_sound ty is =
        not_base scope (Assigned (Some ty)) e refl (subst (λ w. faults scope (Assigned w) e ≡ []) is value_faults)

    value_few : (ty : Ty) (s : SoundOf scope (Assigned (Some ty)) e) → type_of_target (name_meaning scope name) ≡ Some ty →
        held (typed_expression scope e) ≤ 100
    value_few ty s is =
        let few : holds_too_many (typed scope e) ≡ false =
        sym (ap (λ t. is_some t && holds_too_many (typed scope e)) is) ∙ deep_faults in
        subst (λ t. held t ≤ 100) (tree_is scope (Assigned (Some ty)) e s) (few_held _ (sym (ap holds_too_many s.typed_is) ∙ few))

    file_set : (f : File) (k : Kind) → name_meaning scope name ≡ declared f → f.kind ≡ k →
        SoundSet x scope at name None e (typed_set x scope at name None e)
    file_set f (Function sig) is kind =
        let c : true ≡ false = sym (ap is_some (ap (function_of_meaning scope) is ∙ ap (function_of_kind scope f) kind)) ∙ no_function in cc
    file_set f (Variable ty None) is kind =
        let type : type_of_target (name_meaning scope name) ≡ Some ty = ap type_of_target is ∙ ap type_of_kind kind in
        let s = value_sound ty type in
        subst (λ m. SoundSet x scope at name None e (assigned scope m (typed_expression scope e))) (sym is)
        (set_to_variable name f ty e is kind (as_typed scope (Assigned (Some ty)) e s) (value_few ty s type))
    file_set f (Variable ty (Some size)) is kind =
        let c : true ≡ false = sym (ap is_some (ap (array_of_meaning scope) is ∙ ap (array_of_kind scope f) kind)) ∙ no_array in cc

    name_set : (m : Meaning) → name_meaning scope name ≡ m → SoundSet x scope at name None e (typed_set x scope at name None e)
    name_set missing is = let c : true ≡ false = sym (ap is_missing is) ∙ known_target in cc
    name_set (a_local l) is =
        let type : type_of_target (name_meaning scope name) ≡ Some l.ty = ap type_of_target is in
        let s = value_sound l.ty type in
        subst (λ m. SoundSet x scope at name None e (assigned scope m (typed_expression scope e))) (sym is)
        (set_to_local name l e is (as_typed scope (Assigned (Some l.ty)) e s) (value_few l.ty s type))
    name_set (declared f) is = file_set f f.kind is refl

  -- to an element
  module _ (i e : Expression) (none : faults_of_set x scope at name (Some i) e ≡ []) where
    after_array : faults scope Value i ++ (broken rules.Operands (index_end at i) (has_other_index scope name i) ++ (faults scope (Assigned (option_map (λ (a : Array). a.ty) (array_named scope name))) e ++ broken rules.TooDeep (set_end x.in_head at) (set_element_holds_too_many scope name i e))) ≡ []
    after_array = right_empty _ _ none

    after_index : broken rules.Operands (index_end at i) (has_other_index scope name i) ++ (faults scope (Assigned (option_map (λ (a : Array). a.ty) (array_named scope name))) e ++ broken rules.TooDeep (set_end x.in_head at) (set_element_holds_too_many scope name i e)) ≡ []
    after_index = right_empty _ _ after_array

    after_operands : faults scope (Assigned (option_map (λ (a : Array). a.ty) (array_named scope name))) e ++ broken rules.TooDeep (set_end x.in_head at) (set_element_holds_too_many scope name i e) ≡ []
    after_operands = right_empty _ _ after_index

    an_array : is_no_array_target scope name ≡ false
    an_array = not_broken _ at.first (is_no_array_target scope name) (right_empty _ _ (left_empty (faults_of_array scope name at.first) _ none))

    array_set : (f : File) (ty : Ty) (size : ℕ) → name_meaning scope name ≡ declared f → f.kind ≡ Variable ty (Some size) →
        array_named scope name ≡ Some (record { reference = variable_reference scope f; ty = ty; size = size }) →
        SoundSet x scope at name (Some i) e (typed_set x scope at name (Some i) e)
    array_set f ty size means kind is =
        let index = not_base scope Value i refl (left_empty _ _ after_array) in
        let operands : has_other_index scope name i ≡ false = not_broken _ (index_end at i) (has_other_index scope name i) (left_empty _ _ after_index) in
        let number : is_number (type_of index.tree) ≡ true =
        not_not _ (sym (ap (has_type (λ t. not (is_number t))) index.typed_is)
        ∙ (sym (ap (λ o. is_some o && has_type (λ t. not (is_number t)) (typed scope i)) is) ∙ operands)) in
        let value = not_base scope (Assigned (Some ty)) e refl
        (subst (λ o. faults scope (Assigned (option_map (λ (a : Array). a.ty) o)) e ≡ []) is (left_empty _ _ after_operands)) in
        let deep : set_element_holds_too_many scope name i e ≡ false =
        not_broken _ (set_end x.in_head at) (set_element_holds_too_many scope name i e) (right_empty _ _ after_operands) in
        let few : nat_lt 100 (held_element index.tree value.tree) ≡ false =
        sym (ap (element_holds_too_many (Some index.tree)) value.typed_is)
        ∙ (sym (ap (λ o. element_holds_too_many o (typed scope e)) index.typed_is)
        ∙ (sym (ap (λ o. is_some o && element_holds_too_many (typed scope i) (typed scope e)) is) ∙ deep)) in
        subst (λ o. SoundSet x scope at name (Some i) e (element_assigned o (bracket_line x at) (typed_expression scope i) (typed_expression scope e))) (sym is)
        (set_to_element name f ty size i e means kind
        (as_typed scope Value i index)
        (subst (λ t. IsNumeric t) (tree_is scope Value i index) number)
        (as_typed scope (Assigned (Some ty)) e value)
        (subst (λ t. held_element t (typed_expression scope e) ≤ 100) (tree_is scope Value i index)
        (subst (λ t. held_element index.tree t ≤ 100) (tree_is scope (Assigned (Some ty)) e value) (few_held _ few))))

    no_array_here : {A : Type 0} → array_named scope name ≡ None → A
    no_array_here is = let c : true ≡ false = sym (ap is_none is) ∙ an_array in cc

    element_in : (f : File) (k : Kind) → name_meaning scope name ≡ declared f → f.kind ≡ k →
        SoundSet x scope at name (Some i) e (typed_set x scope at name (Some i) e)
    element_in f (Function sig) is kind = no_array_here (ap (array_of_meaning scope) is ∙ ap (array_of_kind scope f) kind)
    element_in f (Variable ty None) is kind = no_array_here (ap (array_of_meaning scope) is ∙ ap (array_of_kind scope f) kind)
    element_in f (Variable ty (Some size)) is kind =
        array_set f ty size is kind (ap (array_of_meaning scope) is ∙ ap (array_of_kind scope f) kind)

    element_set : (m : Meaning) → name_meaning scope name ≡ m →
        SoundSet x scope at name (Some i) e (typed_set x scope at name (Some i) e)
    element_set missing is = no_array_here (ap (array_of_meaning scope) is)
    element_set (a_local l) is = no_array_here (ap (array_of_meaning scope) is)
    element_set (declared f) is = element_in f f.kind is refl

sound_set : (x : Setting) (scope : Scope) (at : Span) (name : List ℕ) (i : Option Expression) (e : Expression) →
    faults_of_set x scope at name i e ≡ [] →
    SoundSet x scope at name i e (typed_set x scope at name i e)
sound_set x scope at name None e none = name_set x scope at name e none (name_meaning scope name) refl
sound_set x scope at name (Some i) e none = element_set x scope at name i e none (name_meaning scope name) refl

-- ---- all statements

-- what is returned fits the result
pub record ReturnsWell (result : Ty) (scope : Scope) (e : Expression) : Type 0 where
  pub whole : IsWhole scope Value e
  pub no_void : is_void result ≡ false
  pub converts_to : converts (type_of (typed_expression scope e)) result ≡ true

abbrev pub Returns : Ty → Scope → Option Expression → Type 0
Returns result scope None = is_void result ≡ true
Returns result scope (Some e) = ReturnsWell result scope e

-- a local's declaration: one of at most 120
pub record DeclaresWell (b : Block) (ty : Ty) (e : Option Expression) : Type 0 where
  pub few : b.count < 120
  pub value : IsOptionWhole b.scope (Assigned (Some ty)) e

unfoldable mutual
  -- A statement without faults.
  pub IsSound : Setting → Block → Statement → Type 0
  IsSound x b (empty at) = ⊤
  IsSound x b (block at ss) = AreSound (part x) (inner b) ss
  IsSound x b (local at ty name e) = DeclaresWell b ty e
  IsSound x b (set at name i e) = SoundSet x b.scope at name i e (typed_set x b.scope at name i e)
  IsSound x b (evaluate at e) = IsWhole b.scope AsStatement e
  IsSound x b (if_else at c a d) = IsWhole b.scope Value c × IsSound (part x) b a × IsMaybeSound (part x) (after a b) d
  IsSound x b (while_loop at c s) = IsWhole b.scope Value c × IsSound (body x) b s
  IsSound x b (do_loop at s c) = IsSound (body x) b s × IsWhole b.scope Value c
  IsSound x b (for_loop at first c last s) =
      IsMaybeSound (head x) (inner b) first
      × IsOptionWhole (after_maybe first (inner b)).scope Value c
      × IsMaybeSound (head x) (after_maybe first (inner b)) last
      × IsSound (body x) (after_maybe last (after_maybe first (inner b))) s
  IsSound x b (returns at e) = Returns x.result b.scope e
  IsSound x b (breaks at) = x.in_loop ≡ true
  IsSound x b (continues at) = x.in_loop ≡ true

  pub AreSound : Setting → Block → Statements → Type 0
  AreSound x b nil = ⊤
  AreSound x b (cons s ss) = IsSound x b s × AreSound x (after s b) ss

  pub IsMaybeSound : Setting → Block → OptionalStatement → Type 0
  IsMaybeSound x b absent = ⊤
  IsMaybeSound x b (present s) = IsSound x b s

sound_return : (x : Setting) (scope : Scope) (at : Span) (e : Option Expression) →
    faults_of_option scope Value e ++ broken rules.ReturnType at.last (returns_other x.result scope e) ≡ [] → Returns x.result scope e
sound_return x scope at None none = not_not _ (not_broken _ at.last (returns_other x.result scope None) none)
sound_return x scope at (Some e) none =
    let w = is_whole scope Value e refl (left_empty _ _ none) in
    let s = not_base scope Value e refl (left_empty (faults scope Value e) _ (left_empty _ _ none)) in
    let other : returns_other x.result scope (Some e) ≡ false = not_broken _ at.last (returns_other x.result scope (Some e)) (right_empty _ _ none) in
    let both : (is_void x.result || not (converts (type_of s.tree) x.result)) ≡ false =
    sym (ap (has_type (λ t. is_void x.result || not (converts t x.result))) s.typed_is) ∙ other in
    record {
      whole = w;
      no_void = or_left _ _ both;
      converts_to = subst (λ t. converts (type_of t) x.result ≡ true) (tree_is scope Value e s) (not_not _ (or_right _ _ both));
    }

few_locals : (n : ℕ) → is_local_too_many n ≡ false → n < 120
few_locals n h = grind (arith, nat_tests)

sound_local : (b : Block) (at : Span) (ty : Ty) (name : List ℕ) (e : Option Expression) →
    faults_of_name b name (local_name_at at ty) ++ faults_of_option b.scope (Assigned (Some ty)) e ≡ [] → DeclaresWell b ty e
sound_local b at ty name e none =
    let own = left_empty (faults_of_name b name (local_name_at at ty)) _ none in
    record {
      few = few_locals b.count (not_broken _ (local_name_at at ty) (is_local_too_many b.count) (left_empty _ _ (right_empty _ _ own)));
      value = is_option_whole b.scope (Assigned (Some ty)) e refl (right_empty _ _ none);
    }

mutual
  unfolding faults_by IsSound

  pub statement_sound : (x : Setting) (b : Block) (s : Statement) → faults_by x b s ≡ [] → IsSound x b s
  statement_sound x b (empty at) none = tt
  statement_sound x b (block at ss) none = statements_sound (part x) (inner b) ss none
  statement_sound x b (local at ty name e) none = sound_local b at ty name e none
  statement_sound x b (set at name i e) none = sound_set x b.scope at name i e none
  statement_sound x b (evaluate at e) none = is_whole b.scope AsStatement e refl none
  statement_sound x b (if_else at c a d) none =
      let later = right_empty _ _ none in (
        is_whole b.scope Value c refl (left_empty _ _ none),
        statement_sound (part x) b a (left_empty _ _ later),
        maybe_sound (part x) (after a b) d (right_empty _ _ later),
      )
  statement_sound x b (while_loop at c s) none =
      (is_whole b.scope Value c refl (left_empty _ _ none), statement_sound (body x) b s (right_empty _ _ none))
  statement_sound x b (do_loop at s c) none =
      (statement_sound (body x) b s (left_empty _ _ none), is_whole b.scope Value c refl (right_empty _ _ none))
  statement_sound x b (for_loop at first c last s) none =
      let second = right_empty _ _ none in
      let third = right_empty _ _ second in (
        maybe_sound (head x) (inner b) first (left_empty _ _ none),
        is_option_whole (after_maybe first (inner b)).scope Value c refl (left_empty _ _ second),
        maybe_sound (head x) (after_maybe first (inner b)) last (left_empty _ _ third),
        statement_sound (body x) (after_maybe last (after_maybe first (inner b))) s (right_empty _ _ third),
      )
  statement_sound x b (returns at e) none = sound_return x b.scope at e none
  statement_sound x b (breaks at) none = not_not _ (not_broken _ at.last (is_outside_loop x) none)
  statement_sound x b (continues at) none = not_not _ (not_broken _ at.last (is_outside_loop x) none)

  pub statements_sound : (x : Setting) (b : Block) (ss : Statements) → faults_by_all x b ss ≡ [] → AreSound x b ss
  statements_sound x b nil none = tt
  statements_sound x b (cons s ss) none =
      (statement_sound x b s (left_empty _ _ none), statements_sound x (after s b) ss (right_empty _ _ none))

  maybe_sound : (x : Setting) (b : Block) (s : OptionalStatement) → faults_by_maybe x b s ≡ [] → IsMaybeSound x b s
  maybe_sound x b absent none = tt
  maybe_sound x b (present s) none = statement_sound x b s none
