-- Units that read an array at its last index, and outside it, are well typed.
use Rattle.std.proofs.Common.{[], ◌∷◌, refl, arith, inl, inr}
use Rattle.std.specs.List.{IsDistinct}
use Rattle.std.specs.Fmt.{digits}
use Rattle.pw_tree.specs.declared.ty.Ty.TheVariants.{Long}
use Rattle.pw_tree.specs.Types.{AreValueTypes}
use Rattle.pw_tree.specs.Held.{held, held_by}
use Rattle.pw_tree.specs.WellTypedExpressions.{Throughout, AreNumbers, ArgumentsFit, expressions_in}
use Rattle.pw_tree.specs.WellTypedStatements.{Everywhere, StatementReads, LeavesLoops, phrases_in}
use Rattle.pw_tree.specs.WellTypedUnits.{below, IsWellTyped}
use Rattle.pw_tree_tests.specs.ArrayUnits.{index_minus_one, index_of_the_size, last_index}

pub index_minus_one_is_well_typed : IsWellTyped index_minus_one
unfolding IsDistinct AreValueTypes held held_by Throughout AreNumbers ArgumentsFit Everywhere StatementReads LeavesLoops phrases_in expressions_in below digits
index_minus_one_is_well_typed = record {
  definitions_differ = ((refl, tt), (tt, tt));
  names_differ = ((refl, tt), (tt, tt));
  texts = (
    inr (inr (record { element = 108; digits = 49 ∷ 54 ∷ []; spelled = refl; valued = refl; sized = record { size = 16; spelled = refl; some = omega arith; within = omega arith } })),
    (inr (inl (record { result = 108; params = []; spelled = refl; typed = refl; valued = refl; few = omega arith })), tt),
  );
  functions_named = ((λ e. refl), tt);
  variables_named = ((λ e. refl), tt);
  few_elements = omega arith;
  functions = (
    record {
      signature = record { result = tt; params = tt; few = omega arith };
      line = omega arith;
      few_locals = omega arith;
      few_held = omega arith;
      few_phrases = omega arith;
      held = refl;
      parameters = omega arith;
      classes = [];
      are_classes = record { each = refl; values = tt; parameters = refl };
      fits = (
        record { classes_fit = (tt, refl); parts = ((record { ty = Long; variable = record { type = tt; size = (omega arith, omega arith); names = refl }; class_is = refl }, refl), ((refl, refl), refl)) },
        tt,
      );
      reads = ((tt, (tt, tt)), tt);
      loops = (tt, tt);
      simple_parts = (tt, tt);
      numbers = (
        record { line = tt; expressions = (record { line = omega arith; value = tt }, (record { line = omega arith; value = tt }, record { line = omega arith; value = omega arith })) },
        tt,
      );
    },
    tt,
  );
  variables = (
    record { type = tt; size = (omega arith, omega arith); initialiser = tt },
    tt,
  );
}

pub index_of_the_size_is_well_typed : IsWellTyped index_of_the_size
unfolding IsDistinct AreValueTypes held held_by Throughout AreNumbers ArgumentsFit Everywhere StatementReads LeavesLoops phrases_in expressions_in below digits
index_of_the_size_is_well_typed = record {
  definitions_differ = ((refl, tt), (tt, tt));
  names_differ = ((refl, tt), (tt, tt));
  texts = (
    inr (inr (record { element = 108; digits = 49 ∷ 54 ∷ []; spelled = refl; valued = refl; sized = record { size = 16; spelled = refl; some = omega arith; within = omega arith } })),
    (inr (inl (record { result = 108; params = []; spelled = refl; typed = refl; valued = refl; few = omega arith })), tt),
  );
  functions_named = ((λ e. refl), tt);
  variables_named = ((λ e. refl), tt);
  few_elements = omega arith;
  functions = (
    record {
      signature = record { result = tt; params = tt; few = omega arith };
      line = omega arith;
      few_locals = omega arith;
      few_held = omega arith;
      few_phrases = omega arith;
      held = refl;
      parameters = omega arith;
      classes = [];
      are_classes = record { each = refl; values = tt; parameters = refl };
      fits = (
        record { classes_fit = (tt, refl); parts = ((record { ty = Long; variable = record { type = tt; size = (omega arith, omega arith); names = refl }; class_is = refl }, refl), refl) },
        tt,
      );
      reads = ((tt, tt), tt);
      loops = (tt, tt);
      simple_parts = (tt, tt);
      numbers = (
        record { line = tt; expressions = (record { line = omega arith; value = tt }, record { line = omega arith; value = omega arith }) },
        tt,
      );
    },
    tt,
  );
  variables = (
    record { type = tt; size = (omega arith, omega arith); initialiser = tt },
    tt,
  );
}

pub last_index_is_well_typed : IsWellTyped last_index
unfolding IsDistinct AreValueTypes held held_by Throughout AreNumbers ArgumentsFit Everywhere StatementReads LeavesLoops phrases_in expressions_in below digits
last_index_is_well_typed = record {
  definitions_differ = ((refl, tt), (tt, tt));
  names_differ = ((refl, tt), (tt, tt));
  texts = (
    inr (inr (record { element = 108; digits = 49 ∷ 54 ∷ []; spelled = refl; valued = refl; sized = record { size = 16; spelled = refl; some = omega arith; within = omega arith } })),
    (inr (inl (record { result = 108; params = []; spelled = refl; typed = refl; valued = refl; few = omega arith })), tt),
  );
  functions_named = ((λ e. refl), tt);
  variables_named = ((λ e. refl), tt);
  few_elements = omega arith;
  functions = (
    record {
      signature = record { result = tt; params = tt; few = omega arith };
      line = omega arith;
      few_locals = omega arith;
      few_held = omega arith;
      few_phrases = omega arith;
      held = refl;
      parameters = omega arith;
      classes = [];
      are_classes = record { each = refl; values = tt; parameters = refl };
      fits = (
        record { classes_fit = (tt, refl); parts = ((record { ty = Long; variable = record { type = tt; size = (omega arith, omega arith); names = refl }; class_is = refl }, refl), refl) },
        tt,
      );
      reads = ((tt, tt), tt);
      loops = (tt, tt);
      simple_parts = (tt, tt);
      numbers = (
        record { line = tt; expressions = (record { line = omega arith; value = tt }, record { line = omega arith; value = omega arith }) },
        tt,
      );
    },
    tt,
  );
  variables = (
    record { type = tt; size = (omega arith, omega arith); initialiser = tt },
    tt,
  );
}
