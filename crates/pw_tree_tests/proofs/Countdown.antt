-- The unit is well typed.
use Rattle.std.proofs.Common.{[], ◌∷◌, refl, arith}
use Rattle.std.specs.List.{IsDistinct}
use Rattle.pw_tree.specs.declared.ty.Ty.TheVariants.{Long, Fn}
use Rattle.pw_tree.specs.Types.{AreValueTypes}
use Rattle.pw_tree.specs.Held.{held, held_by}
use Rattle.pw_tree.specs.WellTypedExpressions.{number, Throughout, AreNumbers, ArgumentsFit}
use Rattle.pw_tree.specs.WellTypedStatements.{Everywhere, StatementReads, LeavesLoops, phrases_in}
use Rattle.pw_tree.specs.WellTypedExpressions.{expressions_in}
use Rattle.pw_tree.specs.WellTypedUnits.{below, IsWellTyped}
use Rattle.pw_tree_tests.specs.Countdown.{countdown}

pub countdown_is_well_typed : IsWellTyped countdown
unfolding IsDistinct AreValueTypes held held_by Throughout AreNumbers ArgumentsFit Everywhere StatementReads LeavesLoops phrases_in expressions_in below
countdown_is_well_typed = record {
  definitions_differ = ((refl, tt), (tt, tt));
  names_differ = tt;
  texts = tt;
  functions_named = (λ e. cc, tt);
  variables_named = (λ e. cc, tt);
  few_elements = omega arith;
  functions = (
    record {
      signature = record { result = tt; params = (tt, tt); few = omega arith };
      line = omega arith;
      few_locals = omega arith;
      few_held = omega arith;
      few_phrases = omega arith;
      held = refl;
      parameters = omega arith;
      classes = number ∷ number ∷ [];
      are_classes = record { each = refl; values = (tt, (tt, tt)); parameters = refl };
      fits = (
        (
          record { classes_fit = tt; parts = ((refl, (refl, refl)), refl, refl) },
          record { classes_fit = refl; parts = refl },
          record { classes_fit = refl; parts = ((refl, (refl, refl)), refl, refl) },
          (record { classes_fit = tt; parts = ((refl, tt), refl) }, record { classes_fit = tt; parts = tt }, record { classes_fit = tt; parts = tt }),
        ),
        (
          record {
            classes_fit = (tt, refl);
            parts = (
              record { result = refl; callee = refl; arguments = (refl, tt) },
              record { ty = Fn 1; variable = record { type = omega arith; size = tt; names = refl }; class_is = refl },
              (refl, tt),
            );
          },
          tt,
        ),
      );
      reads = ((refl, (tt, refl, tt), (tt, refl, tt), ((tt, refl), tt, tt)), ((tt, tt, (refl, tt)), tt));
      loops = ((refl, refl), (tt, tt));
      simple_parts = (((tt, tt), tt, tt, (tt, tt, tt)), (tt, tt));
      numbers = (
        (
          record { line = tt; expressions = (record { line = omega arith; value = tt }, record { line = omega arith; value = tt }, record { line = omega arith; value = omega arith }) },
          record { line = tt; expressions = record { line = omega arith; value = tt } },
          record { line = tt; expressions = (record { line = omega arith; value = tt }, record { line = omega arith; value = tt }, record { line = omega arith; value = omega arith }) },
          (record { line = tt; expressions = (record { line = omega arith; value = tt }, record { line = omega arith; value = tt }) }, record { line = tt; expressions = tt }, record { line = tt; expressions = tt }),
        ),
        (record { line = tt; expressions = (record { line = omega arith; value = tt }, record { line = omega arith; value = tt }, (record { line = omega arith; value = tt }, tt)) }, tt),
      );
    },
    tt,
  );
  variables = (
    record {
      type = omega arith;
      size = tt;
      initialiser = (
        omega arith,
        (
          record {
            sig = record { result = Long; params = Long ∷ [] };
            function = record { types = record { result = tt; params = (tt, tt); few = omega arith }; names = refl };
            type = refl;
          },
          tt,
        ),
      );
    },
    tt,
  );
}
