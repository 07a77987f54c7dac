-- The numbers that judging notes are those of the references in the typed tree: a name at file scope has its number noted where
-- a reference to it stands.
use Rattle.std.proofs.Common.{◌≡◌, ℕ, Bool, true, false, ◌||◌, ◌&&◌, if◌then◌else◌, List, [], ◌∷◌, ◌++◌, Option, Some, None, refl, sym, ap, ◌∙◌, append_assoc, bytes_eq}
use Rattle.std.specs.Prelude.{nat_eq, option_map}
use Rattle.std.specs.List.{list_any}
use Rattle.std.proofs.lemmas.List.Folds.{list_any-append}
use Rattle.pw_tree.specs.declared.ty.Ty.{Ty}
use Rattle.pw_tree.specs.declared.ty.Ref.{Ref}
use Rattle.pw_tree.specs.declared.ty.Ref.TheVariants.{Global, LocalFun, LocalVar}
use Rattle.pw_tree.specs.Expressions.{Span, Expression, Expressions}
use Rattle.pw_tree.specs.Statements.{Statement, Statements, OptionalStatement, empty, block, local, set, evaluate, if_else, while_loop, do_loop, for_loop, returns, breaks, continues, nil, cons, absent, present}
use Rattle.pw_tree.specs.TypedExpressions.{TypedExpression, TypedExpressions}
use Rattle.pw_tree.specs.TypedStatements.{TypedStatement}
use Rattle.pw_tree.specs.Depends.{names_in, names_in_all, names_in_option, names_of, names_of_all, names_of_maybe}
use Rattle.pw_types.specs.declared.role.Role.{Role}
use Rattle.pw_types.specs.declared.names.File.{File}
use Rattle.pw_types.specs.Scopes.{Scope, name_meaning, declared, file_named, number_of, function_reference, variable_reference}
use Rattle.pw_types.specs.Blocks.{Setting, part, body, head, Block, inner, after, after_maybe}
use Rattle.pw_types.specs.TypedStatements.{typed_expression, typed_statement, typed_statements, optional_typed_statement}
use Rattle.pw_types.specs.Units.{refers_to}
use Rattle.pw_types.specs.Steps.Uses.{file_number, uses_of_meaning, uses_of_name, uses, uses_of_all, uses_of_option, uses_by, uses_by_all, uses_by_maybe}
use Rattle.pw_types.proofs.Fitting.{own_file}
use Rattle.pw_types.proofs.Sound.{Sound, sound_constant, sound_local, sound_variable, sound_function, sound_element, sound_unary, sound_binary, sound_conditional, sound_call, sound_pointer, sound_input, sound_output, AllSound, sound_nil, sound_cons}
use Rattle.pw_types.proofs.SoundStatements.{IsTypedAs, IsOptionWhole, SoundSet, set_to_local, set_to_variable, set_to_element, Returns, IsSound, AreSound, IsMaybeSound}

pub or_false : (b : Bool) → (b || false) ≡ b
or_false true = refl
or_false false = refl

-- one name at file scope, and its number at the end of the unit
module _ (name : List ℕ) (number : ℕ) where
  -- the number was noted
  abbrev pub noted : List ℕ → Bool
  noted numbers = list_any (λ n. nat_eq n number) numbers

  -- a reference to the name stands here
  abbrev pub stands : List Ref → Bool
  stands references = list_any (refers_to name) references

  -- a name at file scope has the number where it is external and of this name
  abbrev pub Agrees : List File → Type 0
  Agrees files =
      (f : File) → file_named f.name files ≡ Some f → nat_eq (file_number f.name files) number ≡ (f.external && bytes_eq f.name name)

  -- ---- lists

  pub both : (us vs : List ℕ) (rs ss : List Ref) → noted us ≡ stands rs → noted vs ≡ stands ss →
      noted (us ++ vs) ≡ stands (rs ++ ss)
  both us vs rs ss h k =
      list_any-append (λ n. nat_eq n number) us vs ∙ (λ i. h i || k i) ∙ sym (list_any-append (refers_to name) rs ss)

  -- a reference before others
  pub before : (us vs : List ℕ) (r : Ref) (rs : List Ref) → noted us ≡ refers_to name r → noted vs ≡ stands rs →
      noted (us ++ vs) ≡ stands (r ∷ rs)
  before us vs r rs h k = list_any-append (λ n. nat_eq n number) us vs ∙ (λ i. h i || k i)

  three : (us vs ws : List ℕ) (rs ss ts : List Ref) → noted us ≡ stands rs → noted vs ≡ stands ss → noted ws ≡ stands ts →
      noted (us ++ (vs ++ ws)) ≡ stands (rs ++ ss ++ ts)
  three us vs ws rs ss ts h k l =
      both us (vs ++ ws) rs (ss ++ ts) h (both vs ws ss ts k l) ∙ sym (ap stands (append_assoc rs ss ts))

  four : (us vs ws xs : List ℕ) (rs ss ts qs : List Ref) → noted us ≡ stands rs → noted vs ≡ stands ss → noted ws ≡ stands ts →
      noted xs ≡ stands qs →
      noted (us ++ (vs ++ (ws ++ xs))) ≡ stands (rs ++ ss ++ ts ++ qs)
  four us vs ws xs rs ss ts qs h k l m =
      three us vs (ws ++ xs) rs ss (ts ++ qs) h k (both ws xs ts qs l m) ∙ sym (ap stands (append_assoc (rs ++ ss) ts qs))

  -- ---- names

  function_refers : (f : File) (b : Bool) (n : ℕ) →
      (b && bytes_eq f.name name) ≡ refers_to name (if b then Global f.name else LocalFun n)
  function_refers f true n = refl
  function_refers f false n = refl

  variable_refers : (f : File) (b : Bool) (n : ℕ) →
      (b && bytes_eq f.name name) ≡ refers_to name (if b then Global f.name else LocalVar n)
  variable_refers f true n = refl
  variable_refers f false n = refl

  name_noted : (scope : Scope) → Agrees scope.files → (spelling : List ℕ) (f : File) →
      name_meaning scope spelling ≡ declared f →
      noted (uses_of_name scope spelling) ≡ (f.external && bytes_eq f.name name)
  name_noted scope agrees spelling f is =
      ap (λ m. noted (uses_of_meaning scope m)) is ∙ or_false _ ∙ agrees f (own_file scope spelling f is)

  pub function_noted : (scope : Scope) → Agrees scope.files → (spelling : List ℕ) (f : File) →
      name_meaning scope spelling ≡ declared f →
      noted (uses_of_name scope spelling) ≡ refers_to name (function_reference scope f)
  function_noted scope agrees spelling f is = name_noted scope agrees spelling f is ∙ function_refers f f.external (number_of f.name scope.functions)

  variable_noted : (scope : Scope) → Agrees scope.files → (spelling : List ℕ) (f : File) →
      name_meaning scope spelling ≡ declared f →
      noted (uses_of_name scope spelling) ≡ refers_to name (variable_reference scope f)
  variable_noted scope agrees spelling f is = name_noted scope agrees spelling f is ∙ variable_refers f f.external (number_of f.name scope.variables)

  -- ---- expressions

  module _ (scope : Scope) (agrees : Agrees scope.files) where
    mutual
      unfolding uses

      pub expression_noted : {e : Expression} {t : TypedExpression} → Sound scope e t →
          noted (uses scope e) ≡ stands (names_in t)
      expression_noted (sound_constant at value unsigned) = refl
      expression_noted (sound_local at spelling l is) = ap (λ m. noted (uses_of_meaning scope m)) is
      expression_noted (sound_variable at spelling f ty is kind) = variable_noted scope agrees spelling f is ∙ sym (or_false _)
      expression_noted (sound_function at spelling f sig ty is kind pointed) = function_noted scope agrees spelling f is ∙ sym (or_false _)
      expression_noted (sound_element at base spelling f ty size i t is kind sound numeric) =
          before (uses_of_name scope spelling) (uses scope i) (variable_reference scope f) (names_in t) (variable_noted scope agrees spelling f is) (expression_noted sound)
      expression_noted (sound_unary at op ty e t sound value is) = expression_noted sound
      expression_noted (sound_binary at op o l r t u left right value value' is) =
          both (uses scope l) (uses scope r) (names_in t) (names_in u) (expression_noted left) (expression_noted right)
      expression_noted (sound_conditional at ty c a b t u v test first second value value' value'' is) =
          three (uses scope c) (uses scope a) (uses scope b) (names_in t) (names_in u) (names_in v)
          (expression_noted test) (expression_noted first) (expression_noted second)
      expression_noted (sound_call at callee spelling f sig es ts is kind arguments) =
          before (uses_of_name scope spelling) (uses_of_all scope es) (function_reference scope f) (names_in_all ts)
          (function_noted scope agrees spelling f is) (arguments_noted arguments)
      expression_noted (sound_pointer at k f t es ts sound is arguments) =
          both (uses scope f) (uses_of_all scope es) (names_in t) (names_in_all ts) (expression_noted sound) (arguments_noted arguments)
      expression_noted (sound_input at) = refl
      expression_noted (sound_output at e t sound numeric) = expression_noted sound

      arguments_noted : {tys : List Ty} {es : Expressions} {ts : TypedExpressions} → AllSound scope tys es ts →
          noted (uses_of_all scope es) ≡ stands (names_in_all ts)
      arguments_noted sound_nil = refl
      arguments_noted (sound_cons ty tys e es t ts sound converts others) =
          both (uses scope e) (uses_of_all scope es) (names_in t) (names_in_all ts) (expression_noted sound) (arguments_noted others)

    typed_noted : (role : Role) (e : Expression) → IsTypedAs scope role e →
        noted (uses scope e) ≡ stands (names_in (typed_expression scope e))
    typed_noted role e h = expression_noted h.sound

    option_noted : (role : Role) (e : Option Expression) → IsOptionWhole scope role e →
        noted (uses_of_option scope e) ≡ stands (names_in_option (option_map (typed_expression scope) e))
    option_noted role None h = refl
    option_noted role (Some e) h = typed_noted role e h.typed_as

    return_noted : (result : Ty) (e : Option Expression) → Returns result scope e →
        noted (uses_of_option scope e) ≡ stands (names_in_option (option_map (typed_expression scope) e))
    return_noted result None h = refl
    return_noted result (Some e) h = expression_noted h.whole.typed_as.sound

    set_noted : {x : Setting} {at : Span} {spelling : List ℕ} {i : Option Expression} {e : Expression} {s : TypedStatement} →
        SoundSet x scope at spelling i e s →
        noted (uses_of_name scope spelling ++ (uses_of_option scope i ++ uses scope e)) ≡ stands (names_of s)
    set_noted (set_to_local spelling l e is typed_as few) =
        ap (λ m. noted (uses_of_meaning scope m ++ uses scope e)) is ∙ expression_noted typed_as.sound
    set_noted (set_to_variable spelling f ty e is kind typed_as few) =
        before (uses_of_name scope spelling) (uses scope e) (variable_reference scope f) (names_in (typed_expression scope e))
        (variable_noted scope agrees spelling f is) (expression_noted typed_as.sound)
    set_noted (set_to_element spelling f ty size i e is kind index numeric value few) =
        before (uses_of_name scope spelling) (uses scope i ++ uses scope e) (variable_reference scope f)
        (names_in (typed_expression scope i) ++ names_in (typed_expression scope e))
        (variable_noted scope agrees spelling f is)
        (both (uses scope i) (uses scope e) (names_in (typed_expression scope i)) (names_in (typed_expression scope e))
        (expression_noted index.sound) (expression_noted value.sound))

  -- ---- statements

  -- statements change no name at file scope
  agrees_after : (b : Block) (s : Statement) → Agrees b.scope.files → Agrees (after s b).scope.files
  agrees_after b (empty at) h = h
  agrees_after b (block at ss) h = h
  agrees_after b (local at ty spelling e) h = h
  agrees_after b (set at spelling i e) h = h
  agrees_after b (evaluate at e) h = h
  agrees_after b (if_else at c a d) h = h
  agrees_after b (while_loop at c s) h = h
  agrees_after b (do_loop at s c) h = h
  agrees_after b (for_loop at first c last s) h = h
  agrees_after b (returns at e) h = h
  agrees_after b (breaks at) h = h
  agrees_after b (continues at) h = h

  agrees_after_maybe : (b : Block) (s : OptionalStatement) → Agrees b.scope.files → Agrees (after_maybe s b).scope.files
  agrees_after_maybe b absent h = h
  agrees_after_maybe b (present s) h = agrees_after b s h

  mutual
    unfolding IsSound typed_statement uses_by

    pub statement_noted : (x : Setting) (b : Block) (s : Statement) → Agrees b.scope.files → IsSound x b s →
        noted (uses_by b s) ≡ stands (names_of (typed_statement x b s))
    statement_noted x b (empty at) g h = refl
    statement_noted x b (block at ss) g h = statements_noted (part x) (inner b) ss g h
    statement_noted x b (local at ty spelling e) g h = option_noted b.scope g _ e h.value
    statement_noted x b (set at spelling i e) g h = set_noted b.scope g h
    statement_noted x b (evaluate at e) g h = typed_noted b.scope g _ e h.typed_as
    statement_noted x b (if_else at c a d) g h =
        three (uses b.scope c) (uses_by b a) (uses_by_maybe (after a b) d) (names_in (typed_expression b.scope c)) (names_of (typed_statement (part x) b a))
        (names_of_maybe (optional_typed_statement (part x) (after a b) d)) (typed_noted b.scope g _ c h.0.typed_as)
        (statement_noted (part x) b a g h.1) (maybe_noted (part x) (after a b) d (agrees_after b a g) h.2)
    statement_noted x b (while_loop at c s) g h =
        both (uses b.scope c) (uses_by b s) (names_in (typed_expression b.scope c)) (names_of (typed_statement (body x) b s))
        (typed_noted b.scope g _ c h.0.typed_as) (statement_noted (body x) b s g h.1)
    statement_noted x b (do_loop at s c) g h =
        both (uses_by b s) (uses b.scope c) (names_of (typed_statement (body x) b s)) (names_in (typed_expression b.scope c))
        (statement_noted (body x) b s g h.0) (typed_noted b.scope g _ c h.1.typed_as)
    statement_noted x b (for_loop at first c last s) g h =
        let b1 : Block = after_maybe first (inner b) in
        let b2 : Block = after_maybe last b1 in
        let g1 : Agrees b1.scope.files = agrees_after_maybe (inner b) first g in
        let g2 : Agrees b2.scope.files = agrees_after_maybe b1 last g1 in
        four (uses_by_maybe (inner b) first) (uses_of_option b1.scope c) (uses_by_maybe b1 last) (uses_by b2 s)
        (names_of_maybe (optional_typed_statement (head x) (inner b) first)) (names_in_option (option_map (typed_expression b1.scope) c))
        (names_of_maybe (optional_typed_statement (head x) b1 last)) (names_of (typed_statement (body x) b2 s))
        (maybe_noted (head x) (inner b) first g h.0) (option_noted b1.scope g1 _ c h.1)
        (maybe_noted (head x) b1 last g1 h.2) (statement_noted (body x) b2 s g2 h.3)
    statement_noted x b (returns at e) g h = return_noted b.scope g x.result e h
    statement_noted x b (breaks at) g h = refl
    statement_noted x b (continues at) g h = refl

    pub statements_noted : (x : Setting) (b : Block) (ss : Statements) → Agrees b.scope.files → AreSound x b ss →
        noted (uses_by_all b ss) ≡ stands (names_of_all (typed_statements x b ss))
    statements_noted x b nil g h = refl
    statements_noted x b (cons s ss) g h =
        both (uses_by b s) (uses_by_all (after s b) ss) (names_of (typed_statement x b s)) (names_of_all (typed_statements x (after s b) ss))
        (statement_noted x b s g h.0) (statements_noted x (after s b) ss (agrees_after b s g) h.1)

    maybe_noted : (x : Setting) (b : Block) (s : OptionalStatement) → Agrees b.scope.files → IsMaybeSound x b s →
        noted (uses_by_maybe b s) ≡ stands (names_of_maybe (optional_typed_statement x b s))
    maybe_noted x b absent g h = refl
    maybe_noted x b (present s) g h = statement_noted x b s g h
