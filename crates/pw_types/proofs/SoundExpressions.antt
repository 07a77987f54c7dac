-- An expression without faults has a typed tree, and each part of it is as its form asks.
use Rattle.std.proofs.Common.{◌≡◌, ℕ, Bool, true, false, ◌||◌, ◌&&◌, not, if◌then◌else◌, List, [], ◌∷◌, ◌++◌, length, replicate, Option, Some, None, is_some, refl, sym, ap, subst, ◌∙◌, arith}
use Rattle.std.specs.Prelude.{is_none, option_map, option_and_then, nat_eq, ⊤}
use Rattle.std.specs.Option.{option_map_or}
use Rattle.std.proofs.lemmas.Bool.{eqb-true}
use Rattle.pw_tree.specs.declared.ty.Ty.{Ty}
use Rattle.pw_tree.specs.declared.ty.Ty.TheVariants.{Void, Long, Ulong, Fn}
use Rattle.pw_tree.specs.declared.ty.Sig.{Sig}
use Rattle.pw_tree.specs.declared.operator.Un.{Un}
use Rattle.pw_tree.specs.declared.operator.Bin.{Bin}
use Rattle.pw_tree.specs.Expressions.{Span, Expression, Expressions, constant, word, unary, binary, conditional, call, index, input, output, nil, cons}
use Rattle.pw_tree.specs.TypedExpressions.{TypedExpression, TypedExpressions, type_of}
use Rattle.pw_tree.specs.TypedExpressions as tree
use Rattle.pw_tree.specs.Types.{is_number, is_void, is_pointer, converts, Operation, unary_type, binary_type, choice_type, pointer_to}
use Rattle.pw_types.specs.declared.role.Role.{Role}
use Rattle.pw_types.specs.declared.role.Role.TheVariants.{Statement, Value, Callee, Base, Argument, Written, Assigned}
use Rattle.pw_types.specs.declared.names.Kind.{Kind}
use Rattle.pw_types.specs.declared.names.Kind.TheVariants.{Function, Variable}
use Rattle.pw_types.specs.declared.names.File.{File}
use Rattle.pw_types.specs.Scopes.{Scope, Meaning, missing, a_local, declared, name_meaning, function_reference, variable_reference}
use Rattle.pw_types.specs.Typed.{mark, constant_type, typed_file, typed_name, Array, array_of, array_of_meaning, array_of_kind, Designated, function_of, function_of_meaning, function_of_kind, Callee as Called, direct, through, pointer_of_type, pointer_callee, callee_of, parameters_of, called, typed_unary, typed_binary, typed_choice, typed_element, with_both, with_three, both_trees, typed, typed_all}
use Rattle.pw_types.specs.Expressions.{is_base, is_missing, is_word, has_type, how_many, callee_in, first_parameter, other_parameters}
use Rattle.pw_types.specs.Steps.ExpressionFaults.{unless_direct, faults, faults_of_arguments}
use Rattle.pw_types.proofs.Empty.{left_empty, right_empty}
use Rattle.pw_types.proofs.NoFaults.{or_left, or_right, NoOwn, breaks_none}
use Rattle.pw_types.proofs.Sound.{HasValue, IsNumeric, Sound, sound_constant, sound_local, sound_variable, sound_function, sound_element, sound_unary, sound_binary, sound_conditional, sound_call, sound_pointer, sound_input, sound_output, AllSound, sound_nil, sound_cons}

-- ---- what a role asks of a typed tree

abbrev pub RoleFits : Role → TypedExpression → Type 0
RoleFits Statement t = ⊤
RoleFits Base t = ⊤
RoleFits Value t = HasValue t
RoleFits Callee t = is_pointer (type_of t) ≡ true
RoleFits Written t = IsNumeric t
RoleFits (Argument None) t = HasValue t
RoleFits (Argument (Some ty)) t = converts (type_of t) ty ≡ true
RoleFits (Assigned None) t = HasValue t
RoleFits (Assigned (Some ty)) t = converts (type_of t) ty ≡ true

not_false : (b : Bool) → not b ≡ false → b ≡ true
not_false true h = refl
not_false false h = cc

converts_by : (o : Option TypedExpression) (t : TypedExpression) (w : Bool) (ty : Ty) → o ≡ Some t →
    ((is_some o || w) && not (has_type (λ u. converts u ty) o)) ≡ false → converts (type_of t) ty ≡ true
converts_by o t w ty is h =
    not_false _ (sym (ap (λ p. (is_some p || w) && not (has_type (λ u. converts u ty) p)) is) ∙ h)

pointer_by : (o : Option TypedExpression) (t : TypedExpression) (w : Bool) → o ≡ Some t →
    ((is_some o || w) && not (has_type is_pointer o)) ≡ false → is_pointer (type_of t) ≡ true
pointer_by o t w is h = not_false _ (sym (ap (λ p. (is_some p || w) && not (has_type is_pointer p)) is) ∙ h)

numeric : (ty : Ty) → is_void ty ≡ false → is_pointer ty ≡ false → is_number ty ≡ true
numeric Void h k = cc
numeric Long h k = refl
numeric Ulong h k = refl
numeric (Fn j) h k = cc

module _ (scope : Scope) (e : Expression) (t : TypedExpression) (is : typed scope e ≡ Some t) where
  value_by : (other : Bool) → (has_type is_void (typed scope e) || other) ≡ false → HasValue t
  value_by other h = sym (ap (has_type is_void) is) ∙ or_left _ other h

  pub role_fits : (role : Role) → NoOwn scope role e → RoleFits role t
  role_fits Statement kept = tt
  role_fits Base kept = tt
  role_fits Value kept = value_by _ kept.value
  role_fits Callee kept = pointer_by (typed scope e) t (is_word e) is kept.callable
  role_fits Written kept = numeric (type_of t) (value_by _ kept.value) (sym (ap (has_type is_pointer) is) ∙ kept.argument)
  role_fits (Argument None) kept = value_by _ kept.value
  role_fits (Argument (Some ty)) kept = converts_by (typed scope e) t (is_word e) ty is kept.argument
  role_fits (Assigned None) kept = value_by _ kept.value
  role_fits (Assigned (Some ty)) kept = converts_by (typed scope e) t (is_word e) ty is kept.fits

-- ---- an expression and its typed tree

pub record SoundOf (scope : Scope) (role : Role) (e : Expression) : Type 0 where
  pub tree : TypedExpression
  pub typed_is : typed scope e ≡ Some tree
  pub sound : Sound scope e tree
  pub fits : RoleFits role tree

sound_by : (scope : Scope) (role : Role) (e : Expression) (t : TypedExpression) → typed scope e ≡ Some t → Sound scope e t →
    NoOwn scope role e → SoundOf scope role e
sound_by scope role e t is sound kept = record { tree = t; typed_is = is; sound = sound; fits = role_fits scope e t is role kept }

pub record ArgumentsOf (scope : Scope) (params : Option (List Ty)) (es : Expressions) : Type 0 where
  pub trees : TypedExpressions
  pub typed_are : typed_all scope es ≡ Some trees
  pub sound : (tys : List Ty) → params ≡ Some tys → length tys ≡ how_many es → AllSound scope tys es trees

-- ---- options

pub record There {A : Type 0} (o : Option A) : Type 0 where
  pub it : A
  pub is : o ≡ Some it

there : {A : Type 0} (o : Option A) → is_none o ≡ false → There o
there None h = cc
there (Some x) h = record { it = x; is = refl }

-- ---- names

base_by : (b x y : Bool) → x ≡ true → y ≡ true → (not b && x && y) ≡ false → b ≡ true
base_by true x y p q h = refl
base_by false true true p q h = cc
base_by false false y p q h = cc
base_by false true false p q h = cc

array_by : (b x : Bool) → x ≡ true → (not b && x) ≡ false → b ≡ true
array_by true x p h = refl
array_by false true p h = cc
array_by false false p h = cc

base_is_array : {A : Type 0} (b s n : Bool) → b ≡ true → n ≡ true → (b && ((s || true) && n)) ≡ false → A
base_is_array true true true p q h = cc
base_is_array true false true p q h = cc
base_is_array true s false p q h = cc
base_is_array false s n p q h = cc

module _ (scope : Scope) (role : Role) (at : Span) (name : List ℕ) (kept : NoOwn scope role (word at name))
    (base : is_base role ≡ true → array_of scope (word at name) ≡ None) where
  function_by : (f : File) (sig : Sig) (o : Option Ty) → name_meaning scope name ≡ declared f → f.kind ≡ Function sig →
      pointer_to sig ≡ o →
      SoundOf scope role (word at name)
  unfolding typed name_meaning
  function_by f sig (Some ty) is kind pointer =
      sound_by scope role (word at name) (tree.designator (mark ty at) (function_reference scope f))
      (ap (typed_name scope at) is ∙ ap (typed_file scope at f) kind
      ∙ ap (option_map (λ t. tree.designator (mark t at) (function_reference scope f))) pointer)
      (sound_function at name f sig ty is kind pointer) kept
  function_by f sig None is kind pointer =
      let none : typed scope (word at name) ≡ None =
      ap (typed_name scope at) is ∙ ap (typed_file scope at f) kind
      ∙ ap (option_map (λ t. tree.designator (mark t at) (function_reference scope f))) pointer in
      let some : is_some (function_of scope (word at name)) ≡ true =
      ap is_some (ap (function_of_meaning scope) is ∙ ap (function_of_kind scope f) kind) in
      let is_a_base : is_base role ≡ true = base_by (is_base role) _ _ some (ap is_none none) (or_right _ _ kept.value) in
      base_is_array (is_base role) (is_some (typed scope (word at name))) _ is_a_base (ap is_none (base is_a_base)) kept.array

  file_by : (f : File) (k : Kind) → name_meaning scope name ≡ declared f → f.kind ≡ k → SoundOf scope role (word at name)
  unfolding typed name_meaning
  file_by f (Function sig) is kind = function_by f sig (pointer_to sig) is kind refl
  file_by f (Variable ty None) is kind =
      sound_by scope role (word at name) (tree.variable (mark ty at) (variable_reference scope f))
      (ap (typed_name scope at) is ∙ ap (typed_file scope at f) kind) (sound_variable at name f ty is kind) kept
  file_by f (Variable ty (Some size)) is kind =
      let a : array_of scope (word at name) ≡ Some (record { reference = variable_reference scope f; ty = ty; size = size }) =
      ap (array_of_meaning scope) is ∙ ap (array_of_kind scope f) kind in
      let is_a_base : is_base role ≡ true = array_by (is_base role) _ (ap is_some a) kept.index in
      let none : array_of scope (word at name) ≡ None = base is_a_base in
      cc

  name_by : (m : Meaning) → name_meaning scope name ≡ m → SoundOf scope role (word at name)
  unfolding typed name_meaning
  name_by missing is = let e : true ≡ false = sym (ap is_missing is) ∙ kept.known in cc
  name_by (a_local l) is =
      sound_by scope role (word at name) (tree.local (mark l.ty at) l.number) (ap (typed_name scope at) is) (sound_local at name l is) kept
  name_by (declared f) is = file_by f f.kind is refl

-- ---- phrases that are names

-- an expression that designates a function
pub record IsFunctionName (scope : Scope) (e : Expression) (d : Designated) : Type 0 where
  pub at : Span
  pub name : List ℕ
  pub file : File
  pub sig : Sig
  pub is : e ≡ word at name
  pub means : name_meaning scope name ≡ declared file
  pub kind : file.kind ≡ Function sig
  pub designates : record { reference = function_reference scope file; sig = sig } ≡ d

file_designates : (scope : Scope) (at : Span) (name : List ℕ) (f : File) (k : Kind) (d : Designated) →
    name_meaning scope name ≡ declared f → f.kind ≡ k →
    function_of_kind scope f k ≡ Some d → IsFunctionName scope (word at name) d
file_designates scope at name f (Function sig) d is kind h =
    record { at = at; name = name; file = f; sig = sig; is = refl; means = is; kind = kind; designates = cc }
file_designates scope at name f (Variable ty size) d is kind h = cc

name_designates : (scope : Scope) (at : Span) (name : List ℕ) (m : Meaning) (d : Designated) → name_meaning scope name ≡ m →
    function_of_meaning scope m ≡ Some d → IsFunctionName scope (word at name) d
unfolding name_meaning
name_designates scope at name missing d is h = cc
name_designates scope at name (a_local l) d is h = cc
name_designates scope at name (declared f) d is h = file_designates scope at name f f.kind d is refl h

pub is_function_name : (scope : Scope) (e : Expression) (d : Designated) → function_of scope e ≡ Some d →
    IsFunctionName scope e d
unfolding name_meaning
is_function_name scope (word at name) d h =
    name_designates scope at name (name_meaning scope name) d refl h
is_function_name scope (constant at value unsigned) d h = cc
is_function_name scope (unary at op e) d h = cc
is_function_name scope (binary at op l r) d h = cc
is_function_name scope (conditional at c a b) d h = cc
is_function_name scope (call at f es) d h = cc
is_function_name scope (index at b i) d h = cc
is_function_name scope (input at) d h = cc
is_function_name scope (output at e) d h = cc

-- an expression that is an array's name
pub record IsArrayName (scope : Scope) (e : Expression) (a : Array) : Type 0 where
  pub at : Span
  pub name : List ℕ
  pub file : File
  pub ty : Ty
  pub size : ℕ
  pub is : e ≡ word at name
  pub means : name_meaning scope name ≡ declared file
  pub kind : file.kind ≡ Variable ty (Some size)
  pub array : record { reference = variable_reference scope file; ty = ty; size = size } ≡ a

file_is_array : (scope : Scope) (at : Span) (name : List ℕ) (f : File) (k : Kind) (a : Array) →
    name_meaning scope name ≡ declared f → f.kind ≡ k →
    array_of_kind scope f k ≡ Some a → IsArrayName scope (word at name) a
file_is_array scope at name f (Function sig) a is kind h = cc
file_is_array scope at name f (Variable ty None) a is kind h = cc
file_is_array scope at name f (Variable ty (Some size)) a is kind h =
    record { at = at; name = name; file = f; ty = ty; size = size; is = refl; means = is; kind = kind; array = cc }

pub name_is_array : (scope : Scope) (at : Span) (name : List ℕ) (m : Meaning) (a : Array) → name_meaning scope name ≡ m →
    array_of_meaning scope m ≡ Some a → IsArrayName scope (word at name) a
unfolding name_meaning
name_is_array scope at name missing a is h = cc
name_is_array scope at name (a_local l) a is h = cc
name_is_array scope at name (declared f) a is h = file_is_array scope at name f f.kind a is refl h

pub is_array_name : (scope : Scope) (e : Expression) (a : Array) → array_of scope e ≡ Some a → IsArrayName scope e a
unfolding name_meaning
is_array_name scope (word at name) a h = name_is_array scope at name (name_meaning scope name) a refl h
is_array_name scope (constant at value unsigned) a h = cc
is_array_name scope (unary at op e) a h = cc
is_array_name scope (binary at op l r) a h = cc
is_array_name scope (conditional at c x y) a h = cc
is_array_name scope (call at f es) a h = cc
is_array_name scope (index at b i) a h = cc
is_array_name scope (input at) a h = cc
is_array_name scope (output at e) a h = cc

-- ---- forms, over what their parts are

module _ (scope : Scope) (role : Role) (at : Span) where
  unary_by : (op : Un) (e : Expression) → NoOwn scope role (unary at op e) → SoundOf scope Value e →
      SoundOf scope role (unary at op e)
  unfolding typed
  unary_by op e kept p =
      let o = there (unary_type op (type_of p.tree)) (sym (ap (has_type (λ t. is_none (unary_type op t))) p.typed_is) ∙ kept.operands) in
      sound_by scope role (unary at op e) (tree.unary (mark o.it at) op p.tree)
      (ap (option_and_then (typed_unary at op)) p.typed_is ∙ ap (option_map (λ ty. tree.unary (mark ty at) op p.tree)) o.is)
      (sound_unary at op o.it e p.tree p.sound p.fits o.is) kept

  binary_by : (op : Bin) (l r : Expression) → NoOwn scope role (binary at op l r) → SoundOf scope Value l →
      SoundOf scope Value r →
      SoundOf scope role (binary at op l r)
  unfolding typed
  binary_by op l r kept p q =
      let both : has_type (λ t. has_type (λ u. is_none (binary_type op t u)) (typed scope r)) (Some p.tree) ≡ false =
      sym (ap (has_type (λ t. has_type (λ u. is_none (binary_type op t u)) (typed scope r))) p.typed_is) ∙ kept.operands in
      let o = there (binary_type op (type_of p.tree) (type_of q.tree))
      (sym (ap (has_type (λ u. is_none (binary_type op (type_of p.tree) u))) q.typed_is) ∙ both) in
      sound_by scope role (binary at op l r) (tree.binary (mark o.it.ty at) op o.it.unsigned p.tree q.tree)
      (ap (λ t. with_both (typed_binary at op) t (typed scope r)) p.typed_is
      ∙ ap (with_both (typed_binary at op) (Some p.tree)) q.typed_is
      ∙ ap (option_map (λ (x : Operation). tree.binary (mark x.ty at) op x.unsigned p.tree q.tree)) o.is)
      (sound_binary at op o.it l r p.tree q.tree p.sound q.sound p.fits q.fits o.is) kept

  conditional_by : (c a b : Expression) → NoOwn scope role (conditional at c a b) → SoundOf scope Value c →
      SoundOf scope Value a →
      SoundOf scope Value b → SoundOf scope role (conditional at c a b)
  unfolding typed
  conditional_by c a b kept p q r =
      let first : has_type (λ t. has_type (λ u. is_none (choice_type t u)) (typed scope b)) (typed scope a) ≡ false =
      sym (ap (λ t. is_some t && has_type (λ t. has_type (λ u. is_none (choice_type t u)) (typed scope b)) (typed scope a)) p.typed_is)
      ∙ kept.operands in
      let second : has_type (λ t. has_type (λ u. is_none (choice_type t u)) (typed scope b)) (Some q.tree) ≡ false =
      sym (ap (has_type (λ t. has_type (λ u. is_none (choice_type t u)) (typed scope b))) q.typed_is) ∙ first in
      let o = there (choice_type (type_of q.tree) (type_of r.tree))
      (sym (ap (has_type (λ u. is_none (choice_type (type_of q.tree) u))) r.typed_is) ∙ second) in
      sound_by scope role (conditional at c a b) (tree.conditional (mark o.it at) p.tree q.tree r.tree)
      (ap (λ t. with_three (typed_choice at) t (typed scope a) (typed scope b)) p.typed_is
      ∙ ap (λ t. with_both (typed_choice at p.tree) t (typed scope b)) q.typed_is
      ∙ ap (with_both (typed_choice at p.tree) (Some q.tree)) r.typed_is
      ∙ ap (option_map (λ ty. tree.conditional (mark ty at) p.tree q.tree r.tree)) o.is)
      (sound_conditional at o.it c a b p.tree q.tree r.tree p.sound q.sound r.sound p.fits q.fits r.fits o.is) kept

  output_by : (e : Expression) → NoOwn scope role (output at e) → SoundOf scope Written e → SoundOf scope role (output at e)
  unfolding typed
  output_by e kept p =
      sound_by scope role (output at e) (tree.output (mark Void at) p.tree)
      (ap (option_map (λ t. tree.output (mark Void at) t)) p.typed_is) (sound_output at e p.tree p.sound p.fits) kept

  -- an index, where its base is an array's name
  index_by : (b i : Expression) (a : Array) → array_of scope b ≡ Some a → NoOwn scope role (index at b i) →
      SoundOf scope Value i →
      SoundOf scope role (index at b i)
  unfolding typed
  index_by b i a is kept p =
      let n = is_array_name scope b a is in
      let number : is_number (type_of p.tree) ≡ true =
      not_false _ (sym (ap (has_type (λ t. not (is_number t))) p.typed_is)
      ∙ (sym (ap (λ x. is_some x && has_type (λ t. not (is_number t)) (typed scope i)) is) ∙ kept.operands)) in
      let t : TypedExpression = tree.element (mark n.ty at) (variable_reference scope n.file) n.size p.tree in
      sound_by scope role (index at b i) t
      (ap (λ x. with_both (typed_element at) x (typed scope i)) (is ∙ ap Some (sym n.array))
      ∙ ap (with_both (typed_element at) (Some (record { reference = variable_reference scope n.file; ty = n.ty; size = n.size }))) p.typed_is
      ∙ ap (λ x. if x then Some t else None) number)
      (subst (λ x. Sound scope (index at x i) t) (sym n.is)
      (sound_element at n.at n.name n.file n.ty n.size i p.tree n.means n.kind p.sound number)) kept

  -- a call, where what is called is known
  count_by : (f : Expression) (es : Expressions) (c : Called) (params : List Ty) → callee_in scope f ≡ c →
      parameters_of c ≡ Some params →
      NoOwn scope role (call at f es) → (p : ArgumentsOf scope (parameters_of (callee_in scope f)) es) → length params ≡ how_many es
  count_by f es c params is are kept p =
      let other : Option (List Ty) → Bool = λ o. option_map_or (λ (ps : List Ty). not (nat_eq (length ps) (how_many es))) o false in
      let known : other (parameters_of (callee_in scope f)) ≡ false =
      sym (ap (λ t. is_some t && other (parameters_of (callee_in scope f))) p.typed_are) ∙ kept.count in
      eqb-true (length params) (how_many es) (not_false _ (sym (ap other (ap parameters_of is ∙ are)) ∙ known))

  direct_by : (f : Expression) (es : Expressions) (d : Designated) → function_of scope f ≡ Some d →
      NoOwn scope role (call at f es) →
      ArgumentsOf scope (parameters_of (callee_in scope f)) es → SoundOf scope role (call at f es)
  unfolding typed
  direct_by f es d is kept p =
      let n = is_function_name scope f d is in
      let g : Designated = record { reference = function_reference scope n.file; sig = n.sig } in
      let same : function_of scope f ≡ Some g = is ∙ ap Some (sym n.designates) in
      let c : callee_in scope f ≡ direct g = ap (λ o. callee_of o (typed scope f)) same in
      let count = count_by f es (direct g) n.sig.params c refl kept p in
      let t : TypedExpression = tree.call (mark n.sig.result at) (function_reference scope n.file) p.trees in
      sound_by scope role (call at f es) t
      (ap (λ x. option_and_then (called at x) (typed_all scope es)) c ∙ ap (option_and_then (called at (direct g))) p.typed_are)
      (subst (λ x. Sound scope (call at x es) t) (sym n.is)
      (sound_call at n.at n.name n.file n.sig es p.trees n.means n.kind (p.sound n.sig.params (ap parameters_of c) count))) kept

  pointer_call_by : (f : Expression) (es : Expressions) (ty : Ty) (q : SoundOf scope Callee f) → type_of q.tree ≡ ty →
      function_of scope f ≡ None →
      is_pointer ty ≡ true → NoOwn scope role (call at f es) →
      ArgumentsOf scope (parameters_of (callee_in scope f)) es → SoundOf scope role (call at f es)
  unfolding typed
  pointer_call_by f es (Fn k) q type none pointer kept p =
      let c : callee_in scope f ≡ through q.tree k =
      ap (λ o. callee_of o (typed scope f)) none ∙ ap pointer_callee q.typed_is ∙ ap (pointer_of_type q.tree) type in
      let count = count_by f es (through q.tree k) (replicate k Long) c refl kept p in
      sound_by scope role (call at f es) (tree.call_pointer (mark Long at) q.tree p.trees)
      (ap (λ x. option_and_then (called at x) (typed_all scope es)) c ∙ ap (option_and_then (called at (through q.tree k))) p.typed_are)
      (sound_pointer at k f q.tree es p.trees q.sound type (p.sound (replicate k Long) (ap parameters_of c) count)) kept
  pointer_call_by f es Void q type none pointer kept p = cc
  pointer_call_by f es Long q type none pointer kept p = cc
  pointer_call_by f es Ulong q type none pointer kept p = cc

  call_by : (f : Expression) (es : Expressions) (o : Option Designated) → function_of scope f ≡ o →
      NoOwn scope role (call at f es) →
      (o ≡ None → SoundOf scope Callee f) → ArgumentsOf scope (parameters_of (callee_in scope f)) es → SoundOf scope role (call at f es)
  call_by f es None is kept q p =
      let s = q refl in pointer_call_by f es (type_of s.tree) s refl is s.fits kept p
  call_by f es (Some d) is kept q p = direct_by f es d is kept p

  -- a base without faults is an array's name
  base_by_array : (b i : Expression) (o : Option Array) → array_of scope b ≡ o → NoOwn scope Base b →
      (array_of scope b ≡ None → SoundOf scope Base b) →
      NoOwn scope role (index at b i) → SoundOf scope Value i → SoundOf scope role (index at b i)
  base_by_array b i (Some a) is own_of_b base kept p = index_by b i a is kept p
  base_by_array b i None is own_of_b base kept p =
      let s = base is in
      let e : true ≡ false =
      sym (ap (λ x. (is_some x || is_word b) && is_none (array_of scope b)) s.typed_is ∙ ap is_none is) ∙ own_of_b.array in
      cc

-- in these roles no array's name stands
no_base : {A : Type 0} → (false ≡ true) → A
no_base h = cc

arguments_nil : (scope : Scope) (params : Option (List Ty)) → ArgumentsOf scope params nil
unfolding typed
arguments_nil scope params = record { trees = tree.nil; typed_are = refl; sound = none }
  where
    none : (tys : List Ty) → params ≡ Some tys → length tys ≡ 0 → AllSound scope tys nil tree.nil
    none [] is count = sound_nil
    none (ty ∷ tys) is count = absurd (omega arith)

arguments_cons : (scope : Scope) (params : Option (List Ty)) (e : Expression) (es : Expressions) →
    SoundOf scope (Argument (first_parameter params)) e →
    ArgumentsOf scope (other_parameters params) es → ArgumentsOf scope params (cons e es)
unfolding typed
arguments_cons scope params e es p ps = record {
  trees = tree.cons p.tree ps.trees;
  typed_are = ap (λ t. with_both both_trees t (typed_all scope es)) p.typed_is ∙ ap (with_both both_trees (Some p.tree)) ps.typed_are;
  sound = some;
}
  where
    some : (tys : List Ty) → params ≡ Some tys → length tys ≡ how_many (cons e es) →
        AllSound scope tys (cons e es) (tree.cons p.tree ps.trees)
    some [] is count = absurd (omega arith)
    some (ty ∷ tys) is count =
        sound_cons ty tys e es p.tree ps.trees p.sound (subst (λ w. RoleFits (Argument w) p.tree) (ap first_parameter is) p.fits)
        (ps.sound tys (ap other_parameters is) (omega arith))

-- ---- all forms

constant_typed : (scope : Scope) (at : Span) (value : ℕ) (unsigned : Bool) →
    typed scope (constant at value unsigned) ≡ Some (tree.constant (mark (constant_type unsigned) at) value)
unfolding typed
constant_typed scope at value unsigned = refl

input_typed : (scope : Scope) (at : Span) → typed scope (input at) ≡ Some (tree.input (mark Long at))
unfolding typed
input_typed scope at = refl

direct_or : (scope : Scope) (f : Expression) (o : Option Designated) → unless_direct o (faults scope Callee f) ≡ [] → o ≡ None →
    faults scope Callee f ≡ []
direct_or scope f None none is = none
direct_or scope f (Some d) none is = cc

mutual
  unfolding faults

  -- An expression without faults is sound.
  pub sound_of : (scope : Scope) (role : Role) (e : Expression) → faults scope role e ≡ [] →
      (is_base role ≡ true → array_of scope e ≡ None) →
      SoundOf scope role e
  sound_of scope role (constant at value unsigned) none base =
      sound_by scope role (constant at value unsigned) (tree.constant (mark (constant_type unsigned) at) value) (constant_typed scope at value unsigned)
      (sound_constant at value unsigned) (breaks_none scope role (constant at value unsigned) none)
  sound_of scope role (word at name) none base =
      name_by scope role at name (breaks_none scope role (word at name) none) base (name_meaning scope name) refl
  sound_of scope role (unary at op e) none base =
      unary_by scope role at op e (breaks_none scope role (unary at op e) none) (sound_of scope Value e (left_empty _ _ none) no_base)
  sound_of scope role (binary at op l r) none base =
      let later = right_empty _ _ none in
      binary_by scope role at op l r (breaks_none scope role (binary at op l r) none)
      (sound_of scope Value l (left_empty _ _ none) no_base) (sound_of scope Value r (left_empty _ _ later) no_base)
  sound_of scope role (conditional at c a b) none base =
      let later = right_empty _ _ none in
      let last = right_empty _ _ later in
      conditional_by scope role at c a b (breaks_none scope role (conditional at c a b) none)
      (sound_of scope Value c (left_empty _ _ none) no_base) (sound_of scope Value a (left_empty _ _ later) no_base)
      (sound_of scope Value b (left_empty _ _ last) no_base)
  sound_of scope role (call at f es) none base =
      let later = right_empty _ _ none in
      call_by scope role at f es (function_of scope f) refl (breaks_none scope role (call at f es) none)
      (λ is. sound_of scope Callee f (direct_or scope f (function_of scope f) (left_empty _ _ none) is) no_base)
      (arguments_of scope (parameters_of (callee_in scope f)) es (left_empty _ _ later))
  sound_of scope role (index at b i) none base =
      let later = right_empty _ _ none in
      base_by_array scope role at b i (array_of scope b) refl (breaks_none scope Base b (left_empty _ _ none))
      (λ is. sound_of scope Base b (left_empty _ _ none) (λ _. is)) (breaks_none scope role (index at b i) none)
      (sound_of scope Value i (left_empty _ _ later) no_base)
  sound_of scope role (input at) none base =
      sound_by scope role (input at) (tree.input (mark Long at)) (input_typed scope at) (sound_input at) (breaks_none scope role (input at) none)
  sound_of scope role (output at e) none base =
      output_by scope role at e (breaks_none scope role (output at e) none) (sound_of scope Written e (left_empty _ _ none) no_base)

  pub arguments_of : (scope : Scope) (params : Option (List Ty)) (es : Expressions) → faults_of_arguments scope params es ≡ [] →
      ArgumentsOf scope params es
  arguments_of scope params nil none = arguments_nil scope params
  arguments_of scope params (cons e es) none =
      arguments_cons scope params e es (sound_of scope (Argument (first_parameter params)) e (left_empty _ _ none) no_base)
      (arguments_of scope (other_parameters params) es (right_empty _ _ none))
