-- Units of sums and quotients, of which one wraps and one divides by 0, are well typed.
use Rattle.std.proofs.Common.{[], ◌∷◌, refl, arith, inl, inr}
use Rattle.std.specs.List.{IsDistinct}
use Rattle.pw_tree.specs.Types.{AreValueTypes}
use Rattle.pw_tree.specs.Held.{held, held_by}
use Rattle.pw_tree.specs.WellTypedExpressions.{number, Throughout, AreNumbers, ArgumentsFit, expressions_in}
use Rattle.pw_tree.specs.WellTypedStatements.{Everywhere, StatementReads, LeavesLoops, phrases_in}
use Rattle.pw_tree.specs.WellTypedUnits.{below, IsWellTyped}
use Rattle.pw_tree_tests.specs.ArithmeticUnits.{wrapping_sum, quotient_by_zero, least_by_minus_one}

pub wrapping_sum_is_well_typed : IsWellTyped wrapping_sum
unfolding IsDistinct AreValueTypes held held_by Throughout AreNumbers ArgumentsFit Everywhere StatementReads LeavesLoops phrases_in expressions_in below
wrapping_sum_is_well_typed = record {
  definitions_differ = (tt, tt);
  names_differ = (tt, tt);
  texts = (
    inr (inl (record { result = 108; params = []; spelled = refl; typed = refl; valued = refl; few = omega arith })),
    tt,
  );
  functions_named = ((λ e. refl), tt);
  variables_named = tt;
  few_elements = omega arith;
  functions = (
    record {
      signature = record { result = tt; params = tt; few = omega arith };
      line = omega arith;
      few_locals = omega arith;
      few_held = omega arith;
      few_phrases = omega arith;
      held = refl;
      parameters = omega arith;
      classes = [];
      are_classes = record { each = refl; values = tt; parameters = refl };
      fits = (
        record { classes_fit = (tt, refl); parts = ((refl, (refl, refl)), refl, refl) },
        tt,
      );
      reads = ((tt, tt, tt), tt);
      loops = (tt, tt);
      simple_parts = (tt, tt);
      numbers = (
        record { line = tt; expressions = (record { line = omega arith; value = tt }, record { line = omega arith; value = omega arith }, record { line = omega arith; value = omega arith }) },
        tt,
      );
    },
    tt,
  );
  variables = tt;
}

pub quotient_by_zero_is_well_typed : IsWellTyped quotient_by_zero
unfolding IsDistinct AreValueTypes held held_by Throughout AreNumbers ArgumentsFit Everywhere StatementReads LeavesLoops phrases_in expressions_in below
quotient_by_zero_is_well_typed = record {
  definitions_differ = (tt, tt);
  names_differ = (tt, tt);
  texts = (
    inr (inl (record { result = 108; params = []; spelled = refl; typed = refl; valued = refl; few = omega arith })),
    tt,
  );
  functions_named = ((λ e. refl), tt);
  variables_named = tt;
  few_elements = omega arith;
  functions = (
    record {
      signature = record { result = tt; params = tt; few = omega arith };
      line = omega arith;
      few_locals = omega arith;
      few_held = omega arith;
      few_phrases = omega arith;
      held = refl;
      parameters = omega arith;
      classes = number ∷ [];
      are_classes = record { each = refl; values = (tt, tt); parameters = refl };
      fits = (
        record { classes_fit = omega arith; parts = tt },
        (
          record { classes_fit = refl; parts = refl },
          (record { classes_fit = (tt, refl); parts = ((refl, (refl, refl)), refl, refl) }, tt),
        ),
      );
      reads = (tt, (tt, ((tt, tt, refl), tt)));
      loops = (tt, (tt, (tt, tt)));
      simple_parts = (tt, (tt, (tt, tt)));
      numbers = (
        record { line = tt; expressions = tt },
        (
          record { line = tt; expressions = record { line = omega arith; value = omega arith } },
          (record { line = tt; expressions = (record { line = omega arith; value = tt }, record { line = omega arith; value = omega arith }, record { line = omega arith; value = tt }) }, tt),
        ),
      );
    },
    tt,
  );
  variables = tt;
}

pub least_by_minus_one_is_well_typed : IsWellTyped least_by_minus_one
unfolding IsDistinct AreValueTypes held held_by Throughout AreNumbers ArgumentsFit Everywhere StatementReads LeavesLoops phrases_in expressions_in below
least_by_minus_one_is_well_typed = record {
  definitions_differ = (tt, tt);
  names_differ = (tt, tt);
  texts = (
    inr (inl (record { result = 108; params = []; spelled = refl; typed = refl; valued = refl; few = omega arith })),
    tt,
  );
  functions_named = ((λ e. refl), tt);
  variables_named = tt;
  few_elements = omega arith;
  functions = (
    record {
      signature = record { result = tt; params = tt; few = omega arith };
      line = omega arith;
      few_locals = omega arith;
      few_held = omega arith;
      few_phrases = omega arith;
      held = refl;
      parameters = omega arith;
      classes = [];
      are_classes = record { each = refl; values = tt; parameters = refl };
      fits = (
        record { classes_fit = (tt, refl); parts = ((refl, (refl, refl)), ((refl, (refl, refl)), ((refl, refl), refl), refl), ((refl, refl), refl)) },
        tt,
      );
      reads = ((tt, (tt, (tt, tt), tt), (tt, tt)), tt);
      loops = (tt, tt);
      simple_parts = (tt, tt);
      numbers = (
        record { line = tt; expressions = (record { line = omega arith; value = tt }, (record { line = omega arith; value = tt }, (record { line = omega arith; value = tt }, record { line = omega arith; value = omega arith }), record { line = omega arith; value = omega arith }), (record { line = omega arith; value = tt }, record { line = omega arith; value = omega arith })) },
        tt,
      );
    },
    tt,
  );
  variables = tt;
}
