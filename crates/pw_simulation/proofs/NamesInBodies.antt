-- Each name in the body of a well-typed function is that of a function or of a variable.
use Rattle.std.proofs.Common.{ℕ, List, [], ◌∷◌, ◌++◌, Option, Some, None, ◌⊎◌, inl, inr}
use Rattle.std.specs.List.{AllByRecursion}
use Rattle.pw_tree.specs.declared.ty.Sig.{Sig}
use Rattle.pw_tree.specs.declared.ty.Ref.{Ref}
use Rattle.pw_tree.specs.TypedExpressions.{TypedExpression, TypedExpressions, constant, local, variable, designator, element, unary, binary, conditional, call, call_pointer, input, output, nil, cons}
use Rattle.pw_tree.specs.TypedStatements as statements
use Rattle.pw_tree.specs.TypedStatements.{TypedStatement, TypedStatements, OptionalTypedStatement}
use Rattle.pw_tree.specs.Units.{Function, TypedUnit}
use Rattle.pw_tree.specs.Depends.{names_in, names_in_all, names_in_option, names_of, names_of_all, names_of_maybe}
use Rattle.pw_tree.specs.WellTypedExpressions.{Class, IsFunction, HasClass, HasFittingParts, Throughout, ThroughoutAll}
use Rattle.pw_tree.specs.WellTypedStatements.{IfPresent, StatementFits, Everywhere, EverywhereIn, EverywhereIf}
use Rattle.pw_tree.specs.WellTypedUnits.{IsWellTypedFunction}

pub all_both : {X : Type 0} (P : X → Type 0) (xs ys : List X) → AllByRecursion P xs → AllByRecursion P ys → AllByRecursion P (xs ++ ys)
all_both P [] ys hx hy = hy
all_both P (x ∷ xs) ys hx hy = (hx.0, all_both P xs ys hx.1 hy)

-- a reference names a function of some signature, or a variable of some class
abbrev pub IsNamed : TypedUnit → Ref → Type 0
IsNamed unit name = ((sig : Sig) × IsFunction unit name sig) ⊎ ((size : Option ℕ) × (c : Class) × HasClass unit name size c)

module _ (unit : TypedUnit) (classes : List Class) where
  abbrev AreNamed : List Ref → Type 0
  AreNamed names = AllByRecursion (IsNamed unit) names

  abbrev Fits : TypedExpression → Type 0
  Fits e = HasFittingParts unit classes e

  both : (xs ys : List Ref) → AreNamed xs → AreNamed ys → AreNamed (xs ++ ys)
  both xs ys hx hy = all_both (IsNamed unit) xs ys hx hy

  mutual
    unfolding Throughout ThroughoutAll

    names_of_expression : (e : TypedExpression) → Throughout Fits e → AreNamed (names_in e)
    names_of_expression (constant at value) h = tt
    names_of_expression (local at i) h = tt
    names_of_expression (variable at x) h = (inr (None, Rattle.pw_tree.specs.WellTypedExpressions.class_of at.ty, h), tt)
    names_of_expression (designator at f) h = (inl (h.sig, h.function), tt)
    names_of_expression (element at x size i) h = (inr (Some size, Rattle.pw_tree.specs.WellTypedExpressions.class_of at.ty, h.0.0), names_of_expression i h.1)
    names_of_expression (unary at op e) h = names_of_expression e h.1
    names_of_expression (binary at op unsigned l r) h = both (names_in l) (names_in r) (names_of_expression l h.1) (names_of_expression r h.2)
    names_of_expression (conditional at c a b) h =
        both (names_in c ++ names_in a) (names_in b) (both (names_in c) (names_in a) (names_of_expression c h.1) (names_of_expression a h.2)) (names_of_expression b h.3)
    names_of_expression (call at f es) h = (inl (h.0.sig, h.0.function), names_of_expressions es h.1)
    names_of_expression (call_pointer at e es) h = both (names_in e) (names_in_all es) (names_of_expression e h.1) (names_of_expressions es h.2)
    names_of_expression (input at) h = tt
    names_of_expression (output at e) h = names_of_expression e h.1

    names_of_expressions : (es : TypedExpressions) → ThroughoutAll Fits es → AreNamed (names_in_all es)
    names_of_expressions nil h = tt
    names_of_expressions (cons e es) h = both (names_in e) (names_in_all es) (names_of_expression e h.0) (names_of_expressions es h.1)

  names_of_optional : (e : Option TypedExpression) → IfPresent (Throughout Fits) e → AreNamed (names_in_option e)
  names_of_optional None h = tt
  names_of_optional (Some e) h = names_of_expression e h

  module _ (result : Class) where
    mutual
      unfolding Everywhere EverywhereIn EverywhereIf

      names_of_statement : (s : TypedStatement) → Everywhere (StatementFits unit result classes) s → AreNamed (names_of s)
      names_of_statement (statements.evaluate e) h = names_of_expression e h.parts
      names_of_statement (statements.set_local i e) h = names_of_optional e h.parts
      names_of_statement (statements.set_variable x e) h = (inr (None, Rattle.pw_tree.specs.WellTypedExpressions.class e, h.classes_fit), names_of_expression e h.parts)
      names_of_statement (statements.set_element x size line i e) h =
          (inr (Some size, Rattle.pw_tree.specs.WellTypedExpressions.class e, h.classes_fit.0), both (names_in i) (names_in e) (names_of_expression i h.parts.0) (names_of_expression e h.parts.1))
      names_of_statement (statements.block body) h = names_of_statements body h.1
      names_of_statement (statements.if_else c a b) h =
          both (names_in c ++ names_of a) (names_of_maybe b) (both (names_in c) (names_of a) (names_of_expression c h.0.parts) (names_of_statement a h.1)) (names_of_if b h.2)
      names_of_statement (statements.while_loop c body) h = both (names_in c) (names_of body) (names_of_expression c h.0.parts) (names_of_statement body h.1)
      names_of_statement (statements.do_loop body c) h = both (names_of body) (names_in c) (names_of_statement body h.1) (names_of_expression c h.0.parts)
      names_of_statement (statements.for_loop first c last body) h =
          both (names_of_maybe first ++ names_in_option c ++ names_of_maybe last) (names_of body)
          (both (names_of_maybe first ++ names_in_option c) (names_of_maybe last)
          (both (names_of_maybe first) (names_in_option c) (names_of_if first h.1) (names_of_optional c h.0.parts)) (names_of_if last h.2))
          (names_of_statement body h.3)
      names_of_statement (statements.returns e) h = names_of_optional e h.parts
      names_of_statement statements.breaks h = tt
      names_of_statement statements.continues h = tt

      pub names_of_statements : (ss : TypedStatements) → EverywhereIn (StatementFits unit result classes) ss → AreNamed (names_of_all ss)
      names_of_statements statements.nil h = tt
      names_of_statements (statements.cons s ss) h = both (names_of s) (names_of_all ss) (names_of_statement s h.0) (names_of_statements ss h.1)

      names_of_if : (s : OptionalTypedStatement) → EverywhereIf (StatementFits unit result classes) s → AreNamed (names_of_maybe s)
      names_of_if statements.absent h = tt
      names_of_if (statements.present s) h = names_of_statement s h

-- the names of a well-typed function's body
pub names_of_body : (unit : TypedUnit) (f : Function) → IsWellTypedFunction unit f → AllByRecursion (IsNamed unit) (names_of_all f.body)
names_of_body unit f h = names_of_statements unit h.classes (Rattle.pw_tree.specs.WellTypedExpressions.class_of f.sig.result) f.body h.fits
