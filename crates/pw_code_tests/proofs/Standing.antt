-- The expression that a well typed unit's first function evaluates first stands in that function's frame.
use Rattle.std.proofs.Common.{◌≡◌, ◌+◌, ◌≤◌, List, [], ◌∷◌, Some, map, refl, ap, ◌∙◌, subst, arith}
use Rattle.std.specs.Prelude.{slice_get}
use Rattle.std.specs.List.{AllByRecursion}
use Rattle.pw_tree.specs.declared.texpr.TExpr.{TExpr}
use Rattle.pw_tree.specs.declared.tstmt.TStmt.{TStmt}
use Rattle.pw_tree.specs.declared.tstmt.TStmt.TheVariants as kinds
use Rattle.pw_tree.specs.declared.tunit.TFun.{TFun}
use Rattle.pw_tree.specs.declared.tunit.TUnit.{TUnit}
use Rattle.pw_tree.specs.TypedExpressions.{TypedExpression, typed_expression_of}
use Rattle.pw_tree.specs.TypedStatements as statements
use Rattle.pw_tree.specs.TypedStatements.{TypedStatements, typed_statement_of, typed_statements_of}
use Rattle.pw_tree.specs.Held.{held, held_by, held_by_all}
use Rattle.pw_tree.specs.Units.{Function, TypedUnit, typed_function_of, unit_of}
use Rattle.pw_tree.specs.WellTypedExpressions.{class_of}
use Rattle.pw_tree.specs.WellTypedStatements.{StatementFits, StatementHasSmallNumbers, Everywhere, EverywhereIn, phrases_in, phrases_in_all}
use Rattle.pw_tree.specs.WellTypedUnits.{IsWellTypedFunction, IsWellTyped}
use Rattle.pw_tree.proofs.CommandFolds.{command_of-Eval}
use Rattle.pw_code.specs.declared.frame.Frame.{Frame}
use Rattle.pw_genexpr.specs.Conditions.{StandsIn}

-- the frame of a function
abbrev pub frame : Function → Frame
frame f = record { locals = f.locals; held = f.held }

first_stands : (unit : TypedUnit) (f : Function) (e : TypedExpression) (ss : TypedStatements) → IsWellTypedFunction unit f →
    f.body ≡ statements.cons (statements.evaluate e) ss → StandsIn (frame f) 0 e
unfolding Everywhere EverywhereIn phrases_in phrases_in_all held_by held_by_all
first_stands unit f e ss h is =
    let fits = subst (EverywhereIn (StatementFits unit (class_of f.sig.result) h.classes)) is h.fits in
    let numbers = subst (EverywhereIn StatementHasSmallNumbers) is h.numbers in
    record {
      within_limits = record { few_locals = h.few_locals; few_held = h.few_held };
      unit = unit;
      classes = h.classes;
      class_values = h.are_classes.values;
      well_typed = record {
        parts = fits.0.parts;
        numbers = numbers.0.expressions;
        few = omega (arith, h.few_phrases, ap phrases_in_all is);
      };
      locals_have_slots = omega (arith, h.are_classes.each);
      held_have_slots = omega (arith, h.held, ap held_by_all is);
    }

first_function : (P : Function → Type 0) (funs : List TFun) (f : TFun) → slice_get funs 0 ≡ Some f →
    AllByRecursion P (map typed_function_of funs) → P (typed_function_of f)
first_function P [] f e all = absurd cc
first_function P (g ∷ funs) f e all = let same : g ≡ f = cc in subst (λ x. P (typed_function_of x)) same all.0

first_statement : (unit : TypedUnit) (f : TFun) (e : TExpr) (body : List TStmt) → IsWellTypedFunction unit (typed_function_of f) →
    f.body ≡ body → slice_get body 0 ≡ Some (kinds.Eval e) → StandsIn (frame (typed_function_of f)) 0 (typed_expression_of e)
first_statement unit f e [] h is first = absurd cc
first_statement unit f e (s ∷ ss) h is first =
    let same : s ≡ kinds.Eval e = cc in
    first_stands unit (typed_function_of f) (typed_expression_of e) (typed_statements_of ss) h
    (ap typed_statements_of is ∙ ap (λ x. statements.cons (typed_statement_of x) (typed_statements_of ss)) same
    ∙ ap (λ x. statements.cons x (typed_statements_of ss)) (command_of-Eval e))

pub first_expression : (unit : TUnit) (f : TFun) (e : TExpr) → IsWellTyped (unit_of unit) → slice_get unit.funs 0 ≡ Some f →
    slice_get f.body 0 ≡ Some (kinds.Eval e) → StandsIn (frame (typed_function_of f)) 0 (typed_expression_of e)
first_expression unit f e h first is =
    first_statement (unit_of unit) f e f.body (first_function (IsWellTypedFunction (unit_of unit)) unit.funs f first h.functions) refl is
