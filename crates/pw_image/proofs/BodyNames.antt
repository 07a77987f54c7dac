-- The functions among the names in a body are the function's dependencies.
use Rattle.std.proofs.Common.{◌≡◌, ℕ, Bool, true, false, not, cond, List, [], ◌∷◌, ◌++◌, Option, Some, None, ◌⊎◌, inl, inr, refl, ap, ◌∙◌, arith}
use Rattle.std.specs.List.{filter}
use Rattle.std.proofs.lemmas.Bool.Decides.{nat_tests}
use Rattle.pw_tree.specs.declared.ty.Ref.{Ref}
use Rattle.pw_tree.specs.declared.ty.Ref.TheVariants.{Global, LocalFun, LocalVar}
use Rattle.pw_tree.specs.TypedExpressions.{TypedExpression, TypedExpressions, constant, local, variable, designator, element, unary, binary, conditional, call, call_pointer, input, output}
use Rattle.pw_tree.specs.TypedExpressions as expressions
use Rattle.pw_tree.specs.TypedStatements.{TypedStatement, TypedStatements, OptionalTypedStatement, evaluate, set_local, set_variable, set_element, block, if_else, while_loop, do_loop, for_loop, returns, breaks, continues, nil, cons, absent, present}
use Rattle.pw_tree.specs.Units.{TypedUnit}
use Rattle.pw_tree.specs.WellTypedExpressions.{Class, HasClass, HasFittingParts, Throughout, ThroughoutAll}
use Rattle.pw_tree.specs.WellTypedStatements.{StatementFits, IfPresent, Everywhere, EverywhereIn, EverywhereIf}
use Rattle.pw_tree.specs.Depends.{names_in, names_in_all, names_in_option, names_of, names_of_all, names_of_maybe}
use Rattle.pw_code.specs.Objects.{functions_in, functions_in_all, functions_in_option, functions_of, functions_of_all, functions_of_optional, same_ref, each_once}
use Rattle.pw_agree.proofs.Members.{IsIn, in_left, in_right}
use Rattle.pw_image.proofs.Names.{bytes_eq_is}

-- ---- members of lists

module _ (r : Ref) where
  apart : (xs ys : List Ref) → IsIn (xs ++ ys) r → IsIn xs r ⊎ IsIn ys r
  apart [] ys h = inr h
  apart (x ∷ xs) ys (inl e) = inl (inl e)
  apart (x ∷ xs) ys (inr h) = by (apart xs ys h)
    where
      by : IsIn xs r ⊎ IsIn ys r → IsIn (x ∷ xs) r ⊎ IsIn ys r
      by (inl k) = inl (inr k)
      by (inr k) = inr k

  -- what is in one of two lists is in one of two others
  grow : (xs ys us vs : List Ref) → (IsIn xs r → IsIn us r) → (IsIn ys r → IsIn vs r) → IsIn (xs ++ ys) r → IsIn (us ++ vs) r
  grow xs ys us vs f g h = by (apart xs ys h)
    where
      by : IsIn xs r ⊎ IsIn ys r → IsIn (us ++ vs) r
      by (inl k) = in_left us vs r (f k)
      by (inr k) = in_right us vs r (g k)

  -- what heads both lists
  grow_head : (x : Ref) (xs us : List Ref) → (IsIn xs r → IsIn us r) → IsIn (x ∷ xs) r → IsIn (x ∷ us) r
  grow_head x xs us f (inl e) = inl e
  grow_head x xs us f (inr h) = inr (f h)

  -- what heads the first list alone is another one
  skip : (x : Ref) (xs us : List Ref) → (x ≡ r → ⊥) → (IsIn xs r → IsIn us r) → IsIn (x ∷ xs) r → IsIn us r
  skip x xs us n f (inl e) = absurd (n e)
  skip x xs us n f (inr h) = f h

  -- ---- functions are names

  mutual
    unfolding functions_in functions_in_all

    named : (e : TypedExpression) → IsIn (functions_in e) r → IsIn (names_in e) r
    named (constant at value) h = absurd h
    named (local at i) h = absurd h
    named (variable at x) h = absurd h
    named (designator at f) h = h
    named (element at x size i) h = inr (named i h)
    named (unary at op e) h = named e h
    named (binary at op unsigned a b) h = grow (functions_in a) (functions_in b) (names_in a) (names_in b) (named a) (named b) h
    named (conditional at c a b) h =
        grow (functions_in c ++ functions_in a) (functions_in b) (names_in c ++ names_in a) (names_in b)
        (grow (functions_in c) (functions_in a) (names_in c) (names_in a) (named c) (named a)) (named b) h
    named (call at f es) h = grow_head f (functions_in_all es) (names_in_all es) (all_named es) h
    named (call_pointer at e es) h = grow (functions_in e) (functions_in_all es) (names_in e) (names_in_all es) (named e) (all_named es) h
    named (input at) h = absurd h
    named (output at e) h = named e h

    all_named : (es : TypedExpressions) → IsIn (functions_in_all es) r → IsIn (names_in_all es) r
    all_named expressions.nil h = absurd h
    all_named (expressions.cons e es) h = grow (functions_in e) (functions_in_all es) (names_in e) (names_in_all es) (named e) (all_named es) h

  option_named : (e : Option TypedExpression) → IsIn (functions_in_option e) r → IsIn (names_in_option e) r
  option_named None h = absurd h
  option_named (Some e) h = named e h

  mutual
    unfolding functions_of functions_of_all functions_of_optional

    statement_named : (s : TypedStatement) → IsIn (functions_of s) r → IsIn (names_of s) r
    statement_named (evaluate e) h = named e h
    statement_named (set_local i e) h = option_named e h
    statement_named (set_variable x e) h = inr (named e h)
    statement_named (set_element x size line i e) h = inr (grow (functions_in i) (functions_in e) (names_in i) (names_in e) (named i) (named e) h)
    statement_named (block body) h = body_named body h
    statement_named (if_else c a b) h =
        grow (functions_in c ++ functions_of a) (functions_of_optional b) (names_in c ++ names_of a) (names_of_maybe b)
        (grow (functions_in c) (functions_of a) (names_in c) (names_of a) (named c) (statement_named a)) (maybe_named b) h
    statement_named (while_loop c body) h = grow (functions_in c) (functions_of body) (names_in c) (names_of body) (named c) (statement_named body) h
    statement_named (do_loop body c) h = grow (functions_of body) (functions_in c) (names_of body) (names_in c) (statement_named body) (named c) h
    statement_named (for_loop first c last body) h =
        grow ((functions_of_optional first ++ functions_in_option c) ++ functions_of_optional last) (functions_of body)
        ((names_of_maybe first ++ names_in_option c) ++ names_of_maybe last) (names_of body)
        (grow (functions_of_optional first ++ functions_in_option c) (functions_of_optional last) (names_of_maybe first ++ names_in_option c) (names_of_maybe last)
        (grow (functions_of_optional first) (functions_in_option c) (names_of_maybe first) (names_in_option c) (maybe_named first) (option_named c)) (maybe_named last))
        (statement_named body) h
    statement_named (returns e) h = option_named e h
    statement_named breaks h = absurd h
    statement_named continues h = absurd h

    pub body_named : (ss : TypedStatements) → IsIn (functions_of_all ss) r → IsIn (names_of_all ss) r
    body_named nil h = absurd h
    body_named (cons s ss) h = grow (functions_of s) (functions_of_all ss) (names_of s) (names_of_all ss) (statement_named s) (body_named ss) h

    maybe_named : (s : OptionalTypedStatement) → IsIn (functions_of_optional s) r → IsIn (names_of_maybe s) r
    maybe_named absent h = absurd h
    maybe_named (present s) h = statement_named s h

  -- ---- names that are of no variable are functions

  module _ (unit : TypedUnit) (classes : List Class) (none : (x : Ref) (size : Option ℕ) (c : Class) → HasClass unit x size c → x ≡ r → ⊥) where
    mutual
      unfolding functions_in functions_in_all Throughout ThroughoutAll

      meant : (e : TypedExpression) → Throughout (HasFittingParts unit classes) e → IsIn (names_in e) r → IsIn (functions_in e) r
      meant (constant at value) t h = absurd h
      meant (local at i) t h = absurd h
      meant (variable at x) t h = skip x [] [] (none x _ _ t) (λ k. k) h
      meant (designator at f) t h = h
      meant (element at x size i) t h = skip x (names_in i) (functions_in i) (none x _ _ t.0.0) (meant i t.1) h
      meant (unary at op e) t h = meant e t.1 h
      meant (binary at op unsigned a b) t h = grow (names_in a) (names_in b) (functions_in a) (functions_in b) (meant a t.1) (meant b t.2) h
      meant (conditional at c a b) t h =
          grow (names_in c ++ names_in a) (names_in b) (functions_in c ++ functions_in a) (functions_in b)
          (grow (names_in c) (names_in a) (functions_in c) (functions_in a) (meant c t.1) (meant a t.2)) (meant b t.3) h
      meant (call at f es) t h = grow_head f (names_in_all es) (functions_in_all es) (all_meant es t.1) h
      meant (call_pointer at e es) t h = grow (names_in e) (names_in_all es) (functions_in e) (functions_in_all es) (meant e t.1) (all_meant es t.2) h
      meant (input at) t h = absurd h
      meant (output at e) t h = meant e t.1 h

      all_meant : (es : TypedExpressions) → ThroughoutAll (HasFittingParts unit classes) es → IsIn (names_in_all es) r → IsIn (functions_in_all es) r
      all_meant expressions.nil t h = absurd h
      all_meant (expressions.cons e es) t h = grow (names_in e) (names_in_all es) (functions_in e) (functions_in_all es) (meant e t.0) (all_meant es t.1) h

    option_meant : (e : Option TypedExpression) → IfPresent (Throughout (HasFittingParts unit classes)) e → IsIn (names_in_option e) r → IsIn (functions_in_option e) r
    option_meant None t h = absurd h
    option_meant (Some e) t h = meant e t h

    module _ (result : Class) where
      mutual
        unfolding functions_of functions_of_all functions_of_optional Everywhere EverywhereIn EverywhereIf

        statement_meant : (s : TypedStatement) → Everywhere (StatementFits unit result classes) s → IsIn (names_of s) r → IsIn (functions_of s) r
        statement_meant (evaluate e) t h = meant e t.parts h
        statement_meant (set_local i e) t h = option_meant e t.parts h
        statement_meant (set_variable x e) t h = skip x (names_in e) (functions_in e) (none x _ _ t.classes_fit) (meant e t.parts) h
        statement_meant (set_element x size line i e) t h =
            skip x (names_in i ++ names_in e) (functions_in i ++ functions_in e) (none x _ _ t.classes_fit.0)
            (grow (names_in i) (names_in e) (functions_in i) (functions_in e) (meant i t.parts.0) (meant e t.parts.1)) h
        statement_meant (block body) t h = body_meant body t.1 h
        statement_meant (if_else c a b) t h =
            grow (names_in c ++ names_of a) (names_of_maybe b) (functions_in c ++ functions_of a) (functions_of_optional b)
            (grow (names_in c) (names_of a) (functions_in c) (functions_of a) (meant c t.0.parts) (statement_meant a t.1)) (maybe_meant b t.2) h
        statement_meant (while_loop c body) t h = grow (names_in c) (names_of body) (functions_in c) (functions_of body) (meant c t.0.parts) (statement_meant body t.1) h
        statement_meant (do_loop body c) t h = grow (names_of body) (names_in c) (functions_of body) (functions_in c) (statement_meant body t.1) (meant c t.0.parts) h
        statement_meant (for_loop first c last body) t h =
            grow ((names_of_maybe first ++ names_in_option c) ++ names_of_maybe last) (names_of body)
            ((functions_of_optional first ++ functions_in_option c) ++ functions_of_optional last) (functions_of body)
            (grow (names_of_maybe first ++ names_in_option c) (names_of_maybe last) (functions_of_optional first ++ functions_in_option c) (functions_of_optional last)
            (grow (names_of_maybe first) (names_in_option c) (functions_of_optional first) (functions_in_option c) (maybe_meant first t.1) (option_meant c t.0.parts)) (maybe_meant last t.2))
            (statement_meant body t.3) h
        statement_meant (returns e) t h = option_meant e t.parts h
        statement_meant breaks t h = absurd h
        statement_meant continues t h = absurd h

        pub body_meant : (ss : TypedStatements) → EverywhereIn (StatementFits unit result classes) ss → IsIn (names_of_all ss) r → IsIn (functions_of_all ss) r
        body_meant nil t h = absurd h
        body_meant (cons s ss) t h = grow (names_of s) (names_of_all ss) (functions_of s) (functions_of_all ss) (statement_meant s t.0) (body_meant ss t.1) h

        maybe_meant : (s : OptionalTypedStatement) → EverywhereIf (StatementFits unit result classes) s → IsIn (names_of_maybe s) r → IsIn (functions_of_optional s) r
        maybe_meant absent t h = absurd h
        maybe_meant (present s) t h = statement_meant s t h

-- ---- each reference once

same_ref_is : (a b : Ref) → same_ref a b ≡ true → a ≡ b
same_ref_is (Global a) (Global b) h = ap Global (bytes_eq_is a b h)
same_ref_is (Global a) (LocalFun j) h = cc
same_ref_is (Global a) (LocalVar j) h = cc
same_ref_is (LocalFun i) (Global b) h = cc
same_ref_is (LocalFun i) (LocalFun j) h = let e : i ≡ j = grind (arith, nat_tests) in ap LocalFun e
same_ref_is (LocalFun i) (LocalVar j) h = cc
same_ref_is (LocalVar i) (Global b) h = cc
same_ref_is (LocalVar i) (LocalFun j) h = cc
same_ref_is (LocalVar i) (LocalVar j) h = let e : i ≡ j = grind (arith, nat_tests) in ap LocalVar e

module _ (r : Ref) where
  in_some : (b : Bool) (x : Ref) (xs : List Ref) → IsIn (cond b (x ∷ xs) xs) r → IsIn (x ∷ xs) r
  in_some true x xs h = h
  in_some false x xs h = inr h

  left_in : (p : Ref → Bool) (xs : List Ref) → IsIn (filter p xs) r → IsIn xs r
  left_in p [] h = h
  left_in p (x ∷ xs) h = further (in_some (p x) x (filter p xs) h) (left_in p xs)
    where
      further : IsIn (x ∷ filter p xs) r → (IsIn (filter p xs) r → IsIn xs r) → IsIn (x ∷ xs) r
      further (inl e) f = inl e
      further (inr k) f = inr (f k)

  head_in : (b : Bool) (x : Ref) (xs : List Ref) → b ≡ true → x ≡ r → IsIn (cond b (x ∷ xs) xs) r
  head_in true x xs e h = inl h
  head_in false x xs e h = cc

  tail_in : (b : Bool) (x : Ref) (xs : List Ref) → IsIn xs r → IsIn (cond b (x ∷ xs) xs) r
  tail_in true x xs h = inr h
  tail_in false x xs h = h

  kept_in : (p : Ref → Bool) → p r ≡ true → (xs : List Ref) → IsIn xs r → IsIn (filter p xs) r
  kept_in p passes [] h = h
  kept_in p passes (x ∷ xs) (inl e) = head_in (p x) x (filter p xs) (ap p e ∙ passes) e
  kept_in p passes (x ∷ xs) (inr h) = tail_in (p x) x (filter p xs) (kept_in p passes xs h)

  by_test : (x : Ref) (once : List Ref) (b : Bool) → same_ref x r ≡ b → IsIn once r → IsIn (x ∷ filter (λ other. not (same_ref x other)) once) r
  by_test x once true e h = inl (same_ref_is x r e)
  by_test x once false e h = inr (kept_in (λ other. not (same_ref x other)) (ap not e) once h)

  pub from_once : (rs : List Ref) → IsIn (each_once rs) r → IsIn rs r
  unfolding each_once
  from_once [] h = h
  from_once (x ∷ rs) (inl e) = inl e
  from_once (x ∷ rs) (inr h) = inr (from_once rs (left_in (λ other. not (same_ref x other)) (each_once rs) h))

  pub to_once : (rs : List Ref) → IsIn rs r → IsIn (each_once rs) r
  unfolding each_once
  to_once [] h = h
  to_once (x ∷ rs) (inl e) = inl e
  to_once (x ∷ rs) (inr h) = by_test x (each_once rs) (same_ref x r) refl (to_once rs h)
