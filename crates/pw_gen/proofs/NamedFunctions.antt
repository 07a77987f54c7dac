-- The functions that a well-typed body names are functions of the unit, or external names with a function's text.
use Rattle.std.proofs.Common.{◌≡◌, ℕ, Bool, not, List, [], ◌∷◌, ◌++◌, Option, Some, None}
use Rattle.std.specs.List.{AllByRecursion, filter}
use Rattle.pw_tree.specs.declared.ty.Ref.{Ref}
use Rattle.pw_tree.specs.TypedExpressions.{TypedExpression, TypedExpressions, constant, local, variable, designator, element, unary, binary, conditional, call, call_pointer, input, output}
use Rattle.pw_tree.specs.TypedExpressions as expressions
use Rattle.pw_tree.specs.TypedStatements.{TypedStatement, TypedStatements, OptionalTypedStatement, evaluate, set_local, set_variable, set_element, block, if_else, while_loop, do_loop, for_loop, returns, breaks, continues, nil, cons, absent, present}
use Rattle.pw_tree.specs.Units.{TypedUnit}
use Rattle.pw_tree.specs.WellTypedExpressions.{Class, HasFittingParts, Throughout, ThroughoutAll}
use Rattle.pw_tree.specs.WellTypedStatements.{StatementFits, IfPresent, Everywhere, EverywhereIn, EverywhereIf}
use Rattle.pw_code.specs.Objects.{functions_in, functions_in_all, functions_in_option, functions_of, functions_of_all, functions_of_optional, same_ref, each_once}
use Rattle.pw_gen.proofs.Elements.{each_append, each_filter}
use Rattle.pw_gen.proofs.References.{IsFunctionIn, function_in}

module _ (unit : TypedUnit) where
  abbrev pub AreFunctions : List Ref → Type 0
  AreFunctions fs = AllByRecursion (IsFunctionIn unit) fs

  both : (fs gs : List Ref) → AreFunctions fs → AreFunctions gs → AreFunctions (fs ++ gs)
  both fs gs h k = each_append (IsFunctionIn unit) fs gs h k

  three : (fs gs hs : List Ref) → AreFunctions fs → AreFunctions gs → AreFunctions hs → AreFunctions (fs ++ gs ++ hs)
  three fs gs hs a b c = both (fs ++ gs) hs (both fs gs a b) c

  module _ (classes : List Class) where
    mutual
      unfolding functions_in functions_in_all Throughout ThroughoutAll

      functions_named : (e : TypedExpression) → Throughout (HasFittingParts unit classes) e → AreFunctions (functions_in e)
      functions_named (constant at value) t = tt
      functions_named (local at i) t = tt
      functions_named (variable at x) t = tt
      functions_named (designator at f) t = (function_in unit f t.sig t.function, tt)
      functions_named (element at a array_size i) t = functions_named i t.1
      functions_named (unary at op e) t = functions_named e t.1
      functions_named (binary at op unsigned l r) t = both (functions_in l) (functions_in r) (functions_named l t.1) (functions_named r t.2)
      functions_named (conditional at c a b) t =
          three (functions_in c) (functions_in a) (functions_in b) (functions_named c t.1) (functions_named a t.2) (functions_named b t.3)
      functions_named (call at f es) t = (function_in unit f t.0.sig t.0.function, all_named es t.1)
      functions_named (call_pointer at e es) t = both (functions_in e) (functions_in_all es) (functions_named e t.1) (all_named es t.2)
      functions_named (input at) t = tt
      functions_named (output at e) t = functions_named e t.1

      all_named : (es : TypedExpressions) → ThroughoutAll (HasFittingParts unit classes) es → AreFunctions (functions_in_all es)
      all_named expressions.nil t = tt
      all_named (expressions.cons e es) t = both (functions_in e) (functions_in_all es) (functions_named e t.0) (all_named es t.1)

    option_named : (e : Option TypedExpression) → IfPresent (Throughout (HasFittingParts unit classes)) e → AreFunctions (functions_in_option e)
    option_named None h = tt
    option_named (Some e) h = functions_named e h

    module _ (result : Class) where
      abbrev Fits : TypedStatement → Type 0
      Fits s = StatementFits unit result classes s

      mutual
        unfolding functions_of functions_of_all functions_of_optional Everywhere EverywhereIn EverywhereIf

        statement_names : (s : TypedStatement) → Everywhere Fits s → AreFunctions (functions_of s)
        statement_names (evaluate e) h = functions_named e h.parts
        statement_names (set_local i e) h = option_named e h.parts
        statement_names (set_variable x e) h = functions_named e h.parts
        statement_names (set_element a array_size line i e) h =
            both (functions_in i) (functions_in e) (functions_named i h.parts.0) (functions_named e h.parts.1)
        statement_names (block body) h = statements_name body h.1
        statement_names (if_else c a b) h =
            three (functions_in c) (functions_of a) (functions_of_optional b) (functions_named c h.0.parts) (statement_names a h.1) (maybe_names b h.2)
        statement_names (while_loop c body) h =
            both (functions_in c) (functions_of body) (functions_named c h.0.parts) (statement_names body h.1)
        statement_names (do_loop body c) h =
            both (functions_of body) (functions_in c) (statement_names body h.1) (functions_named c h.0.parts)
        statement_names (for_loop first c last body) h =
            both (functions_of_optional first ++ functions_in_option c ++ functions_of_optional last) (functions_of body)
            (three (functions_of_optional first) (functions_in_option c) (functions_of_optional last) (maybe_names first h.1)
            (option_named c h.0.parts) (maybe_names last h.2))
            (statement_names body h.3)
        statement_names (returns e) h = option_named e h.parts
        statement_names breaks h = tt
        statement_names continues h = tt

        pub statements_name : (ss : TypedStatements) → EverywhereIn Fits ss → AreFunctions (functions_of_all ss)
        statements_name nil h = tt
        statements_name (cons s ss) h = both (functions_of s) (functions_of_all ss) (statement_names s h.0) (statements_name ss h.1)

        maybe_names : (s : OptionalTypedStatement) → EverywhereIf Fits s → AreFunctions (functions_of_optional s)
        maybe_names absent h = tt
        maybe_names (present s) h = statement_names s h

  -- the same of each once
  pub each_once_named : (fs : List Ref) → AreFunctions fs → AreFunctions (each_once fs)
  unfolding each_once
  each_once_named [] h = tt
  each_once_named (f ∷ fs) h = (h.0, each_filter (IsFunctionIn unit) (λ other. not (same_ref f other)) (each_once fs) (each_once_named fs h.1))
