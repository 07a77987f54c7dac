-- The small program of two modules is linked.
use Rattle.std.proofs.Common.{◌≡◌, ℕ, zero, suc, true, false, List, [], ◌∷◌, Some, refl, sym, ◌∙◌, ap, subst, arith, inl, inr, lit≤, codes, bytes_eq}
use Rattle.std.specs.Prelude.{slice_get}
use Rattle.std.specs.List.{IsDistinct}
use Rattle.pw_tree.specs.declared.ty.Ty.TheVariants.{Long}
use Rattle.pw_tree.specs.declared.ty.Ref.TheVariants.{Global}
use Rattle.pw_tree.specs.declared.tunit.Ext.{Ext}
use Rattle.pw_tree.specs.Types.{AreValueTypes}
use Rattle.pw_tree.specs.Held.{held, held_by}
use Rattle.pw_tree.specs.Units.{TypedUnit}
use Rattle.pw_tree.specs.Names.{Project, Entity, function, definition_of, unit_at, text_at}
use Rattle.pw_tree.specs.Binding.{IsUnbound, Differs, names_used}
use Rattle.pw_tree.specs.WellTypedExpressions.{Throughout, AreNumbers, ArgumentsFit, expressions_in}
use Rattle.pw_tree.specs.WellTypedStatements.{Everywhere, StatementReads, LeavesLoops, phrases_in}
use Rattle.pw_tree.specs.WellTypedUnits.{below, IsWellTyped}
use Rattle.pw_module.specs.LoadOrder.{path_ends, ends_of_paths, each_number_once}
use Rattle.pw_code.specs.Items.{size}
use Rattle.pw_code.specs.LoadImmediate.{signed_words}
use Rattle.pw_code.specs.ExpressionCode.{expression_words}
use Rattle.pw_code.specs.StatementCode.{statement_words}
use Rattle.pw_agree.specs.LoadOrder.{loaded_project}
use Rattle.pw_agree.specs.Placing.{code_before_functions, external_names, each_name_once}
use Rattle.pw_agree.proofs.Members.{IsIn, contained_is_in}
use Rattle.pw_linked.specs.Linking.{IsWithinModuleLimits, AreLinked}
use Rattle.pw_linked.specs.Witness.{program_unit, library_unit, program}

-- ---- units

program_typed : IsWellTyped program_unit
unfolding IsDistinct AreValueTypes held held_by Throughout AreNumbers ArgumentsFit Everywhere StatementReads LeavesLoops phrases_in expressions_in below
program_typed = record {
  definitions_differ = (tt, tt);
  names_differ = ((refl, tt), (tt, tt));
  texts = (
    inr (inl (record { result = 108; params = []; spelled = refl; typed = refl; valued = refl; few = omega arith })),
    (inr (inl (record { result = 108; params = []; spelled = refl; typed = refl; valued = refl; few = omega arith })), tt),
  );
  functions_named = ((λ e. refl), tt);
  variables_named = tt;
  few_elements = omega arith;
  functions = (
    record {
      signature = record { result = tt; params = tt; few = omega arith };
      line = omega arith;
      few_locals = omega arith;
      few_held = omega arith;
      few_phrases = omega arith;
      held = refl;
      parameters = omega arith;
      classes = [];
      are_classes = record { each = refl; values = tt; parameters = refl };
      fits = (
        record {
          classes_fit = (tt, refl);
          parts = (
            record {
              sig = record { result = Long; params = [] };
              function = record { types = record { result = tt; params = tt; few = omega arith }; names = refl };
              result = refl;
              arguments = tt;
            },
            tt,
          );
        },
        tt,
      );
      reads = ((tt, tt), tt);
      loops = (tt, tt);
      simple_parts = (tt, tt);
      numbers = (record { line = tt; expressions = (record { line = omega arith; value = tt }, tt) }, tt);
    },
    tt,
  );
  variables = tt;
}

library_typed : IsWellTyped library_unit
unfolding IsDistinct AreValueTypes held held_by Throughout AreNumbers ArgumentsFit Everywhere StatementReads LeavesLoops phrases_in expressions_in below
library_typed = record {
  definitions_differ = (tt, tt);
  names_differ = (tt, tt);
  texts = (inr (inl (record { result = 108; params = []; spelled = refl; typed = refl; valued = refl; few = omega arith })), tt);
  functions_named = ((λ e. refl), tt);
  variables_named = tt;
  few_elements = omega arith;
  functions = (
    record {
      signature = record { result = tt; params = tt; few = omega arith };
      line = omega arith;
      few_locals = omega arith;
      few_held = omega arith;
      few_phrases = omega arith;
      held = refl;
      parameters = omega arith;
      classes = [];
      are_classes = record { each = refl; values = tt; parameters = refl };
      fits = (record { classes_fit = (tt, refl); parts = refl }, tt);
      reads = (tt, tt);
      loops = (tt, tt);
      simple_parts = (tt, tt);
      numbers = (record { line = tt; expressions = record { line = omega arith; value = omega arith } }, tt);
    },
    tt,
  );
  variables = tt;
}

-- ---- the project

abbrev project : Project
project = (program_unit ∷ []) ∷ (library_unit ∷ []) ∷ []

loaded : loaded_project program ≡ project
unfolding path_ends ends_of_paths each_number_once
loaded = refl

-- each unit is one of the two
abbrev OneOf : TypedUnit → (TypedUnit → Type 0) → Type 0
OneOf unit P = P program_unit → P library_unit → P unit

unit_is : (m u i : ℕ) (unit : TypedUnit) → unit_at project (record { in_module = m; in_unit = u; number = i }) ≡ Some unit → (P : TypedUnit → Type 0) → OneOf unit P
unit_is zero zero i unit h P first second = let same : program_unit ≡ unit = cc in subst P same first
unit_is zero (suc u) i unit h P first second = cc
unit_is (suc zero) zero i unit h P first second = let same : library_unit ≡ unit = cc in subst P same second
unit_is (suc zero) (suc u) i unit h P first second = cc
unit_is (suc (suc m)) u i unit h P first second = cc

-- ---- limits

program_within : IsWithinModuleLimits (code_before_functions 0) (program_unit ∷ [])
unfolding size held signed_words expression_words statement_words external_names each_name_once
program_within = record { text = lit≤ tt; names = lit≤ tt; elements = lit≤ tt }

library_within : IsWithinModuleLimits (code_before_functions 1) (library_unit ∷ [])
unfolding size held signed_words expression_words statement_words external_names each_name_once
library_within = record { text = lit≤ tt; names = lit≤ tt; elements = lit≤ tt }

within : (m : ℕ) (units : List TypedUnit) → slice_get project m ≡ Some units → IsWithinModuleLimits (code_before_functions m) units
within zero units h = let same : program_unit ∷ [] ≡ units = cc in subst (λ us. IsWithinModuleLimits (code_before_functions 0) us) same program_within
within (suc zero) units h = let same : library_unit ∷ [] ≡ units = cc in subst (λ us. IsWithinModuleLimits (code_before_functions 1) us) same library_within
within (suc (suc m)) units h = cc

-- ---- binding

only : (name other : List ℕ) → IsIn (Global other ∷ []) (Global name) → other ≡ name
only name other (inl e) = cc
only name other (inr h) = absurd h

f_found : definition_of project (codes "f") ≡ Some (function (record { in_module = 1; in_unit = 0; number = 0 }))
f_found = refl

-- the program's only name is `f`
program_bound : (name : List ℕ) → IsUnbound project program_unit name → ⊥
program_bound name h =
    let is = only name (codes "f") (contained_is_in (names_used program_unit) (Global name) h.used) in
    let found : definition_of project name ≡ Some (function (record { in_module = 1; in_unit = 0; number = 0 })) = subst (λ n. definition_of project n ≡ Some (function (record { in_module = 1; in_unit = 0; number = 0 }))) is f_found in
    let none = h.undefined in cc

library_bound : (name : List ℕ) → IsUnbound project library_unit name → ⊥
library_bound name h = contained_is_in (names_used library_unit) (Global name) h.used

names_apart : codes "main" ≡ codes "f" → ⊥
names_apart h = let e : true ≡ false = ap (λ t. bytes_eq t (codes "main")) h in cc

-- what the program declares `f` with
declared : (name text : List ℕ) → codes "f" ≡ name → IsIn program_unit.names (record { name = name; text = text }) → text ≡ codes "l()"
declared name text is (inl e) = sym (ap (λ (n : Ext). n.text) e)
declared name text is (inr (inl e)) = let main : codes "main" ≡ name = ap (λ (n : Ext). n.name) e in absurd (names_apart (main ∙ sym is))
declared name text is (inr (inr h)) = absurd h

defined : (e : Entity) (text : List ℕ) → definition_of project (codes "f") ≡ Some e → text_at project e ≡ Some text → text ≡ codes "l()"
defined e text found h =
    let same : function (record { in_module = 1; in_unit = 0; number = 0 }) ≡ e = cc in
    let its : text_at project (function (record { in_module = 1; in_unit = 0; number = 0 })) ≡ Some text = subst (λ x. text_at project x ≡ Some text) (sym same) h in
    text_is text its
  where
    text_is : (t : List ℕ) → Some (codes "l()") ≡ Some t → t ≡ codes "l()"
    text_is t g = cc

program_same : (name declares defines : List ℕ) → Differs project program_unit name declares defines → ⊥
program_same name declares defines h =
    let is = only name (codes "f") (contained_is_in (names_used program_unit) (Global name) h.used) in
    let a = declared name declares is (contained_is_in program_unit.names (record { name = name; text = declares }) h.declares) in
    let b = defined h.entity defines (subst (λ n. definition_of project n ≡ Some h.entity) (sym is) h.found) h.text in h.other (a ∙ sym b)

library_same : (name declares defines : List ℕ) → Differs project library_unit name declares defines → ⊥
library_same name declares defines h = contained_is_in (names_used library_unit) (Global name) h.used

-- ---- all

pub program_is_linked : AreLinked program
program_is_linked = record {
  few = lit≤ tt;
  units = ((program_typed, tt), ((library_typed, tt), tt));
  within = λ m units h. within m units (subst (λ p. slice_get p m ≡ Some units) loaded h);
  bound = λ unit name at unbound.
      unit_is at.0.in_module at.0.in_unit at.0.number unit (subst (λ p. unit_at p at.0 ≡ Some unit) loaded at.1)
      (λ v. IsUnbound project v name → ⊥) (program_bound name) (library_bound name) (subst (λ p. IsUnbound p unit name) loaded unbound);
  same = λ unit name declares defines at differs.
      unit_is at.0.in_module at.0.in_unit at.0.number unit (subst (λ p. unit_at p at.0 ≡ Some unit) loaded at.1)
      (λ v. Differs project v name declares defines → ⊥) (program_same name declares defines) (library_same name declares defines)
      (subst (λ p. Differs p unit name declares defines) loaded differs);
  main = record {
    place = record { in_module = 0; in_unit = 0; number = 0 };
    found = subst (λ p. definition_of p (codes "main") ≡ Some (function (record { in_module = 0; in_unit = 0; number = 0 }))) (sym loaded) refl;
    text = subst (λ p. text_at p (function (record { in_module = 0; in_unit = 0; number = 0 })) ≡ Some (codes "l()")) (sym loaded) refl;
  };
}
