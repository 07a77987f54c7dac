-- The trees of a unit are those of one that was read: proper, short and with small numbers.
use Rattle.std.proofs.Common.{◌≡◌, refl, sym, ap, subst, ◌∙◌, ℕ, suc, ◌+◌, ◌-◌, ◌^◌, ◌%◌, ◌≤◌, ◌<◌, List, [], ◌∷◌, ◌++◌, length, map, take, drop, Option, Some, None, inl, inr, arith, length-append}
use Rattle.std.specs.Prelude.{⊤}
use Rattle.std.specs.List.{AllByRecursion}
use Rattle.std.proofs.lemmas.Bool.{cases_lt}
use Rattle.std.proofs.Common.{take-append-drop}
use Rattle.pw_base.specs.Limits.{function_tokens}
use Rattle.pw_grammar.specs.Terminals.{sort}
use Rattle.pw_grammar.specs.Statements.{spelled_type, type_in, StatementDerivations, spelled_statements}
use Rattle.pw_grammar.specs.Declarations.{spelled_storage, spelled_result, spelled_parameters, ResultDerivation, ParametersDerivation, ElementDerivation, word, positive, negative, spelled_element, negated, element_of, MoreElements, comma, spelled_more_elements, more_elements_of, VariableDerivation, scalar, scalar_set, array, array_set, spelled_variable, count_in, elements_of, HasNoValue, MayHave, linkage_by, linkage_of, DeclarationDerivation, prototype, function, variable, spelled_declaration, IsDeclaration, name_at, after_parameters, tree_of_declaration, UnitDerivation, spelled_unit, IsUnit, trees_of_declarations, lines_of, Derives}
use Rattle.pw_grammar.specs.Declarations as phrase
use Rattle.pw_grammar.specs.Faults.{before_body, IsLate, StandsLate, IsFaultless}
use Rattle.pw_grammar.specs.Laws.{TreesAreRead}
use Rattle.pw_grammar.specs.declared.error.SyntaxError.TheVariants.{TooLong}
use Rattle.pw_grammar.proofs.Lengths.{function_length}
use Rattle.pw_grammar.proofs.SmallTokens.{AreSmall, small_left, small_right}
use Rattle.pw_grammar.proofs.ProperStatements.{statements_fine}
use Rattle.pw_grammar.proofs.Written.{trees_are_written}
use Rattle.pw_lex.specs.declared.token.Token.{Token}
use Rattle.pw_tree.specs.Declarations.{declaration_of}
use Rattle.pw_tree.specs.Declarations as tree
use Rattle.pw_tree.specs.declared.ty.Ty.{Ty}
use Rattle.pw_tree.specs.declared.decl.Linkage.{Linkage}
use Rattle.pw_tree.specs.declared.decl.Linkage.TheVariants.{Plain, Extern, Static}
use Rattle.pw_tree.specs.Proper.{HasNoInitialiser, MayBeInitialised, IsProperDeclaration, HasElementNumber, HaveElementNumbers}
use Rattle.pw_tree.specs.declared.decl.Unit.{Unit}
use Rattle.pw_tree.specs.declared.decl.InitItem.{InitItem}

-- ---- initialisers

negated_small : (n : ℕ) → negated n < 2 ^ 64
negated_small n = omega arith

element_small : (at : ℕ) (x : ElementDerivation) → AreSmall (spelled_element x) → HasElementNumber (element_of at x).kind
element_small at (word t) h = tt
element_small at (positive t) h = h.0.value
element_small at (negative m t) h = negated_small _

more_elements_small : (at : ℕ) (xs : MoreElements) → AreSmall (spelled_more_elements xs) →
    AllByRecursion (λ (item : InitItem). HasElementNumber item.kind) (more_elements_of at xs)
unfolding spelled_more_elements more_elements_of
more_elements_small at phrase.end h = tt
more_elements_small at (comma t) h = tt
more_elements_small at (phrase.more t x xs) h = (
  element_small (suc at) x (small_left (spelled_element x) (spelled_more_elements xs) h.1),
  more_elements_small (suc at + length (spelled_element x)) xs (small_right (spelled_element x) (spelled_more_elements xs) h.1),
)

elements_small : (at : ℕ) (v : VariableDerivation) → AreSmall (spelled_variable v) → HaveElementNumbers (elements_of at v)
elements_small at scalar h = tt
elements_small at (scalar_set q x) h = (element_small (at + 1) x h.1, tt)
elements_small at (array o n c) h = tt
elements_small at (array_set o n c q b x xs e) h =
    let later = small_right (spelled_element x) (spelled_more_elements xs ++ e ∷ []) h.1.1.1.1.1 in (
      element_small (at + 5) x (small_left (spelled_element x) (spelled_more_elements xs ++ e ∷ []) h.1.1.1.1.1),
      more_elements_small (at + 5 + length (spelled_element x)) xs (small_left (spelled_more_elements xs) (e ∷ []) later),
    )

no_elements : (at : ℕ) (ty : Ty) (size : Option ℕ) (v : VariableDerivation) → HasNoValue v →
    HasNoInitialiser (tree.variable ty size (elements_of at v))
no_elements at ty size scalar h = tt
no_elements at ty size (scalar_set q x) h = absurd h
no_elements at ty size (array o n c) h = tt
no_elements at ty size (array_set o n c q b x xs e) h = absurd h

without_initialiser : (l : Linkage) (form : tree.DeclarationForm) → HasNoInitialiser form → MayBeInitialised l form
without_initialiser Plain form h = tt
without_initialiser Extern form h = h
without_initialiser Static form h = tt

variable_may : (g : Option Token) (at : ℕ) (ty : Ty) (size : Option ℕ) (v : VariableDerivation) → MayHave g v →
    MayBeInitialised (linkage_of g) (tree.variable ty size (elements_of at v))
variable_may None at ty size v h = tt
variable_may (Some t) at ty size v (inl static) =
    subst (λ s. MayBeInitialised (linkage_by s) (tree.variable ty size (elements_of at v))) (sym static) tt
variable_may (Some t) at ty size v (inr h) =
    without_initialiser (linkage_by (sort t)) (tree.variable ty size (elements_of at v)) (no_elements at ty size v h.1)

-- ---- declarations

-- none of a declaration's tokens is late
abbrev IsTimely : DeclarationDerivation → Type 0
IsTimely c = (t : ℕ) → IsLate c t (before_body c) → ⊥

module _ (g : Option Token) (r : ResultDerivation) (x o : Token) (ps : ParametersDerivation) (c b : Token) (body : StatementDerivations) (e : Token) where
  abbrev definition : DeclarationDerivation
  definition = function g r x o ps c b body e

  -- so a function has no more tokens than it may have
  function_short : IsTimely definition → length (spelled_declaration definition) ≤ function_tokens
  function_short timely = elim (cases_lt function_tokens (length (spelled_declaration definition))) [
    | inl many ↦
        let n = function_length g r x o ps c b body e in
        absurd (timely (length (spelled_declaration definition) - 1) (omega (arith, n), omega arith, omega (arith, many)))
    | inr few ↦ few
  ]

  body_short : (at : ℕ) → IsTimely definition →
      (tree_of_declaration at definition).last - (tree_of_declaration at definition).declarator ≤ function_tokens
  body_short at timely =
      let few : length (spelled_declaration definition) ≤ function_tokens = function_short timely in
      let n = function_length g r x o ps c b body e in
      let k : suc (suc (after_parameters at g r ps)) + length (spelled_statements body) - after_parameters at g r ps ≡ length (spelled_statements body) + 2 = omega arith in
      omega (arith, few, n, k)

declaration_proper : (at : ℕ) (c : DeclarationDerivation) → IsDeclaration c → AreSmall (spelled_declaration c) → IsTimely c →
    IsProperDeclaration (declaration_of (tree_of_declaration at c))
declaration_proper at (prototype g r x o ps c e) is h timely =
    let a = small_right (phrase.spelled_storage g) (spelled_result r ++ x ∷ o ∷ (spelled_parameters ps ++ c ∷ e ∷ [])) h in
    let b = small_right (spelled_result r) (x ∷ o ∷ (spelled_parameters ps ++ c ∷ e ∷ [])) a in
    record {
      proper = tt;
      short = tt;
      initialiser = without_initialiser (linkage_of g) (declaration_of (tree_of_declaration at (prototype g r x o ps c e))).form tt;
      line = b.0.line;
      numbers = tt;
    }
declaration_proper at (function g r x o ps c b body e) is h timely =
    let rest = c ∷ b ∷ (spelled_statements body ++ e ∷ []) in
    let h1 = small_right (phrase.spelled_storage g) (spelled_result r ++ x ∷ o ∷ (spelled_parameters ps ++ rest)) h in
    let h2 = small_right (spelled_result r) (x ∷ o ∷ (spelled_parameters ps ++ rest)) h1 in
    let h3 = small_right (spelled_parameters ps) rest h2.1.1 in
    let f = statements_fine (suc (suc (after_parameters at g r ps))) body is.8 (small_left (spelled_statements body) (e ∷ []) h3.1.1) in
    record {
      proper = f.0;
      short = body_short g r x o ps c b body e at timely;
      initialiser = without_initialiser (linkage_of g) (declaration_of (tree_of_declaration at (function g r x o ps c b body e))).form tt;
      line = h2.0.line;
      numbers = f.1;
    }
declaration_proper at (variable g ty x v e) is h timely =
    let a = small_right (phrase.spelled_storage g) (spelled_type ty ++ x ∷ (spelled_variable v ++ e ∷ [])) h in
    let b = small_right (spelled_type ty) (x ∷ (spelled_variable v ++ e ∷ [])) a in
    record {
      proper = tt;
      short = tt;
      initialiser = variable_may g (suc (name_at at g (spelled_type ty))) (type_in ty) (count_in v) v is.3;
      line = b.0.line;
      numbers = elements_small (suc (name_at at g (spelled_type ty))) v (small_left (spelled_variable v) (e ∷ []) b.1);
    }

-- none of a unit's tokens is late
abbrev AreTimely : UnitDerivation → Type 0
AreTimely cs = (t : ℕ) → StandsLate cs t → ⊥

timely_here : (c : DeclarationDerivation) (cs : UnitDerivation) → AreTimely (c ∷ cs) → IsTimely c
unfolding StandsLate
timely_here c cs h t late = h t (inl late)

timely_later : (c : DeclarationDerivation) (cs : UnitDerivation) → AreTimely (c ∷ cs) → AreTimely cs
unfolding StandsLate
timely_later c cs h t late = h (length (spelled_declaration c) + t) (inr (t, refl, late))

declarations_proper : (at : ℕ) (cs : UnitDerivation) → IsUnit cs → AreSmall (spelled_unit cs) → AreTimely cs →
    AllByRecursion IsProperDeclaration (map declaration_of (trees_of_declarations at cs))
unfolding IsUnit spelled_unit trees_of_declarations
declarations_proper at [] is h timely = tt
declarations_proper at (c ∷ cs) is h timely = (
  declaration_proper at c is.0 (small_left (spelled_declaration c) (spelled_unit cs) h) (timely_here c cs timely),
  declarations_proper (at + length (spelled_declaration c)) cs is.1 (small_right (spelled_declaration c) (spelled_unit cs) h) (timely_later c cs timely),
)

-- ---- no fault

late_in : (c : DeclarationDerivation) (t : ℕ) (o : Option ℕ) → IsLate c t o → t < length (spelled_declaration c)
late_in c t None h = absurd h
late_in c t (Some brace) h = h.2

late_within : (cs : UnitDerivation) (t : ℕ) → StandsLate cs t → t < length (spelled_unit cs)
unfolding StandsLate spelled_unit
late_within [] t h = absurd h
late_within (c ∷ cs) t (inl late) =
    omega (arith, late_in c t (before_body c) late, length-append (spelled_declaration c) (spelled_unit cs))
late_within (c ∷ cs) t (inr later) =
    omega (arith, later.1, late_within cs later.0 later.2, length-append (spelled_declaration c) (spelled_unit cs))

timely : (tokens : List Token) (unit : Unit) (d : Derives tokens unit) → IsFaultless tokens → AreTimely d.phrase
timely tokens unit d faultless t late =
    let within : t < length tokens = omega (arith, late_within d.phrase t late, ap length d.spells) in
    faultless (TooLong t) (
      within,
      record {
        phrase = d.phrase;
        is = d.is;
        rest = drop (suc t) tokens;
        spells = d.spells ∙ sym (take-append-drop (suc t) tokens);
        late = late;
      },
    )

lines_small : (tokens : List Token) → AreSmall tokens → AllByRecursion (λ line. line < 2 ^ 32) (lines_of tokens)
lines_small [] h = tt
lines_small (t ∷ ts) h = (h.0.line, lines_small ts h.1)

pub trees_are_read : TreesAreRead
trees_are_read tokens unit has few small =
    let d = has.derives in
    record {
      parsed = trees_are_written tokens unit d few;
      declarations = subst (λ ds. AllByRecursion IsProperDeclaration (map declaration_of ds)) (sym d.decls)
          (declarations_proper 0 d.phrase d.is (subst AreSmall (sym d.spells) small) (timely tokens unit d has.no_fault));
      lines = subst (AllByRecursion (λ line. line < 2 ^ 32)) (sym d.lines) (lines_small tokens small);
    }
