-- A unit of one static function without parameters, locals and body is well typed, in whatever line the function stands.
use Rattle.std.proofs.Common.{◌≡◌, ℕ, ◌^◌, ◌<◌, false, List, [], ◌∷◌, ◌++◌, refl, sym, ap, ◌∙◌, subst, arith}
use Rattle.std.specs.List.{IsDistinct}
use Rattle.pw_tree.specs.declared.ty.Ty.{Ty}
use Rattle.pw_tree.specs.declared.ty.Ty.TheVariants.{Void}
use Rattle.pw_tree.specs.declared.tstmt.TStmt.{TStmt}
use Rattle.pw_tree.specs.declared.tunit.TFun.{TFun}
use Rattle.pw_tree.specs.declared.tunit.TVar.{TVar}
use Rattle.pw_tree.specs.declared.tunit.Ext.{Ext}
use Rattle.pw_tree.specs.declared.tunit.TUnit.{TUnit}
use Rattle.pw_tree.specs.Types.{AreValueTypes}
use Rattle.pw_tree.specs.TypedStatements.{nil}
use Rattle.pw_tree.specs.Held.{held_by_all}
use Rattle.pw_tree.specs.Units.{Function, TypedUnit, unit_of}
use Rattle.pw_tree.specs.WellTypedStatements.{EverywhereIn, StatementsRead, AllLeaveLoops, phrases_in_all}
use Rattle.pw_tree.specs.WellTypedUnits.{IsWellTypedFunction, IsWellTyped}

-- the function
abbrev quiet : List ℕ → ℕ → Function
quiet name line = record { name = name; global = false; sig = record { result = Void; params = [] }; line = line; locals = 0; held = 0; body = nil }

-- and a unit that has it alone
abbrev quiet_unit : List ℕ → ℕ → TypedUnit
quiet_unit name line = record { functions = quiet name line ∷ []; variables = []; names = [] }

quiet_function : (unit : TypedUnit) (name : List ℕ) (line : ℕ) → line < 2 ^ 32 → IsWellTypedFunction unit (quiet name line)
unfolding AreValueTypes EverywhereIn StatementsRead AllLeaveLoops phrases_in_all held_by_all
quiet_function unit name line h = record {
  signature = record { result = tt; params = tt; few = omega arith };
  line = h;
  few_locals = omega arith;
  few_held = omega arith;
  few_phrases = omega arith;
  held = refl;
  parameters = omega arith;
  classes = [];
  are_classes = record { each = refl; values = tt; parameters = refl };
  fits = tt;
  reads = tt;
  loops = tt;
  simple_parts = tt;
  numbers = tt;
}

quiet_is_well_typed : (name : List ℕ) (line : ℕ) → line < 2 ^ 32 → IsWellTyped (quiet_unit name line)
unfolding IsDistinct
quiet_is_well_typed name line h = record {
  definitions_differ = (tt, tt);
  names_differ = tt;
  texts = tt;
  functions_named = (λ e. cc, tt);
  variables_named = tt;
  few_elements = omega arith;
  functions = (quiet_function (quiet_unit name line) name line h, tt);
  variables = tt;
}

-- the function, and the unit, as they are built
abbrev built : List ℕ → ℕ → List Ty → List TStmt → TFun
built name line params body =
    record { name = name; global = false; sig = record { result = Void; params = params }; line = line; locals = 0; held = 0; body = body }

pub as_built : (name : List ℕ) (line : ℕ) (params : List Ty) (body : List TStmt) (empty funs : List TFun) (vars : List TVar) (names : List Ext) →
    line < 2 ^ 32 → params ≡ [] → body ≡ [] → empty ≡ [] → funs ≡ empty ++ built name line params body ∷ [] → vars ≡ [] → names ≡ [] →
    IsWellTyped (unit_of (record { funs = funs; vars = vars; names = names }))
as_built name line params body empty funs vars names h p b o f v n =
    let plain : TUnit = record { funs = built name line [] [] ∷ []; vars = []; names = [] } in
    let one : funs ≡ built name line params body ∷ [] = f ∙ ap (λ l. l ++ built name line params body ∷ []) o in
    let e : record { funs = funs; vars = vars; names = names } ≡ plain = cc in
    subst (λ (u : TUnit). IsWellTyped (unit_of u)) (sym e) (quiet_is_well_typed name line h)
