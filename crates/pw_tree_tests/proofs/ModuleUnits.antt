-- Units that call a library, and the units of those libraries, are well typed.
use Rattle.std.proofs.Common.{[], ◌∷◌, refl, arith, inl, inr}
use Rattle.std.specs.List.{IsDistinct}
use Rattle.pw_tree.specs.declared.ty.Ty.TheVariants.{Long, Fn}
use Rattle.pw_tree.specs.Types.{AreValueTypes}
use Rattle.pw_tree.specs.Held.{held, held_by}
use Rattle.pw_tree.specs.WellTypedExpressions.{number, Throughout, AreNumbers, ArgumentsFit, expressions_in}
use Rattle.pw_tree.specs.WellTypedStatements.{Everywhere, StatementReads, LeavesLoops, phrases_in}
use Rattle.pw_tree.specs.WellTypedUnits.{below, IsWellTyped}
use Rattle.pw_tree_tests.specs.ModuleUnits.{calling_unit, called_unit, letter_counter, number_printer}

pub calling_unit_is_well_typed : IsWellTyped calling_unit
unfolding IsDistinct AreValueTypes held held_by Throughout AreNumbers ArgumentsFit Everywhere StatementReads LeavesLoops phrases_in expressions_in below
calling_unit_is_well_typed = record {
  definitions_differ = ((refl, tt), (tt, tt));
  names_differ = ((refl, (refl, tt)), ((refl, tt), (tt, tt)));
  texts = (
    inr (inl (record { result = 108; params = []; spelled = refl; typed = refl; valued = refl; few = omega arith })),
    (
      inr (inl (record { result = 108; params = []; spelled = refl; typed = refl; valued = refl; few = omega arith })),
      (inr (inl (record { result = 108; params = []; spelled = refl; typed = refl; valued = refl; few = omega arith })), tt),
    ),
  );
  functions_named = ((λ e. refl), ((λ e. refl), tt));
  variables_named = tt;
  few_elements = omega arith;
  functions = (
    record {
      signature = record { result = tt; params = tt; few = omega arith };
      line = omega arith;
      few_locals = omega arith;
      few_held = omega arith;
      few_phrases = omega arith;
      held = refl;
      parameters = omega arith;
      classes = [];
      are_classes = record { each = refl; values = tt; parameters = refl };
      fits = (
        record { classes_fit = (tt, refl); parts = refl },
        tt,
      );
      reads = (tt, tt);
      loops = (tt, tt);
      simple_parts = (tt, tt);
      numbers = (
        record { line = tt; expressions = record { line = omega arith; value = omega arith } },
        tt,
      );
    },
    (
      record {
        signature = record { result = tt; params = tt; few = omega arith };
        line = omega arith;
        few_locals = omega arith;
        few_held = omega arith;
        few_phrases = omega arith;
        held = refl;
        parameters = omega arith;
        classes = [];
        are_classes = record { each = refl; values = tt; parameters = refl };
        fits = (
          record { classes_fit = (tt, refl); parts = (record { sig = record { result = Long; params = [] }; function = record { types = record { result = tt; params = tt; few = omega arith }; names = refl }; result = refl; arguments = tt }, tt) },
          tt,
        );
        reads = ((tt, tt), tt);
        loops = (tt, tt);
        simple_parts = (tt, tt);
        numbers = (
          record { line = tt; expressions = (record { line = omega arith; value = tt }, tt) },
          tt,
        );
      },
      tt,
    ),
  );
  variables = tt;
}

pub called_unit_is_well_typed : IsWellTyped called_unit
unfolding IsDistinct AreValueTypes held held_by Throughout AreNumbers ArgumentsFit Everywhere StatementReads LeavesLoops phrases_in expressions_in below
called_unit_is_well_typed = record {
  definitions_differ = ((refl, tt), (tt, tt));
  names_differ = ((refl, tt), (tt, tt));
  texts = (
    inr (inl (record { result = 108; params = []; spelled = refl; typed = refl; valued = refl; few = omega arith })),
    (inr (inl (record { result = 108; params = []; spelled = refl; typed = refl; valued = refl; few = omega arith })), tt),
  );
  functions_named = ((λ e. refl), ((λ e. refl), tt));
  variables_named = tt;
  few_elements = omega arith;
  functions = (
    record {
      signature = record { result = tt; params = tt; few = omega arith };
      line = omega arith;
      few_locals = omega arith;
      few_held = omega arith;
      few_phrases = omega arith;
      held = refl;
      parameters = omega arith;
      classes = [];
      are_classes = record { each = refl; values = tt; parameters = refl };
      fits = (
        record { classes_fit = (tt, refl); parts = refl },
        tt,
      );
      reads = (tt, tt);
      loops = (tt, tt);
      simple_parts = (tt, tt);
      numbers = (
        record { line = tt; expressions = record { line = omega arith; value = omega arith } },
        tt,
      );
    },
    (
      record {
        signature = record { result = tt; params = tt; few = omega arith };
        line = omega arith;
        few_locals = omega arith;
        few_held = omega arith;
        few_phrases = omega arith;
        held = refl;
        parameters = omega arith;
        classes = [];
        are_classes = record { each = refl; values = tt; parameters = refl };
        fits = (
          record { classes_fit = (tt, refl); parts = (record { sig = record { result = Long; params = [] }; function = record { types = record { result = tt; params = tt; few = omega arith }; names = refl }; result = refl; arguments = tt }, tt) },
          tt,
        );
        reads = ((tt, tt), tt);
        loops = (tt, tt);
        simple_parts = (tt, tt);
        numbers = (
          record { line = tt; expressions = (record { line = omega arith; value = tt }, tt) },
          tt,
        );
      },
      tt,
    ),
  );
  variables = tt;
}

pub letter_counter_is_well_typed : IsWellTyped letter_counter
unfolding IsDistinct AreValueTypes held held_by Throughout AreNumbers ArgumentsFit Everywhere StatementReads LeavesLoops phrases_in expressions_in below
letter_counter_is_well_typed = record {
  definitions_differ = ((refl, (refl, (refl, tt))), ((refl, (refl, tt)), ((refl, tt), (tt, tt))));
  names_differ = ((refl, (refl, tt)), ((refl, tt), (tt, tt)));
  texts = (
    inr (inl (record { result = 108; params = 108 ∷ []; spelled = refl; typed = refl; valued = refl; few = omega arith })),
    (
      inl (record { letter = 49; spelled = refl; typed = refl }),
      (inr (inl (record { result = 108; params = []; spelled = refl; typed = refl; valued = refl; few = omega arith })), tt),
    ),
  );
  functions_named = ((λ e. cc), ((λ e. cc), ((λ e. refl), tt)));
  variables_named = ((λ e. refl), tt);
  few_elements = omega arith;
  functions = (
    record {
      signature = record { result = tt; params = (tt, tt); few = omega arith };
      line = omega arith;
      few_locals = omega arith;
      few_held = omega arith;
      few_phrases = omega arith;
      held = refl;
      parameters = omega arith;
      classes = number ∷ [];
      are_classes = record { each = refl; values = (tt, tt); parameters = refl };
      fits = (
        record { classes_fit = (tt, refl); parts = ((refl, (tt, tt)), ((refl, (refl, refl)), refl, refl), ((refl, (refl, refl)), refl, refl)) },
        tt,
      );
      reads = ((tt, (tt, refl, tt), (tt, refl, tt)), tt);
      loops = (tt, tt);
      simple_parts = (tt, tt);
      numbers = (
        record { line = tt; expressions = (record { line = omega arith; value = tt }, (record { line = omega arith; value = tt }, record { line = omega arith; value = tt }, record { line = omega arith; value = omega arith }), (record { line = omega arith; value = tt }, record { line = omega arith; value = tt }, record { line = omega arith; value = omega arith })) },
        tt,
      );
    },
    (
      record {
        signature = record { result = tt; params = (tt, tt); few = omega arith };
        line = omega arith;
        few_locals = omega arith;
        few_held = omega arith;
        few_phrases = omega arith;
        held = refl;
        parameters = omega arith;
        classes = number ∷ [];
        are_classes = record { each = refl; values = (tt, tt); parameters = refl };
        fits = (
          record { classes_fit = (tt, refl); parts = ((refl, (tt, tt)), ((refl, (refl, refl)), refl, refl), ((refl, (refl, refl)), refl, refl)) },
          tt,
        );
        reads = ((tt, (tt, refl, tt), (tt, refl, tt)), tt);
        loops = (tt, tt);
        simple_parts = (tt, tt);
        numbers = (
          record { line = tt; expressions = (record { line = omega arith; value = tt }, (record { line = omega arith; value = tt }, record { line = omega arith; value = tt }, record { line = omega arith; value = omega arith }), (record { line = omega arith; value = tt }, record { line = omega arith; value = tt }, record { line = omega arith; value = omega arith })) },
          tt,
        );
      },
      (
        record {
          signature = record { result = tt; params = tt; few = omega arith };
          line = omega arith;
          few_locals = omega arith;
          few_held = omega arith;
          few_phrases = omega arith;
          held = refl;
          parameters = omega arith;
          classes = number ∷ number ∷ [];
          are_classes = record { each = refl; values = (tt, (tt, tt)); parameters = refl };
          fits = (
            record { classes_fit = omega arith; parts = tt },
            (
              record { classes_fit = omega arith; parts = tt },
              (
                record { classes_fit = refl; parts = refl },
                (
                  (record { classes_fit = tt; parts = ((refl, (tt, refl)), refl, ((refl, refl), refl)) }, (record { classes_fit = tt; parts = tt }, ((record { classes_fit = tt; parts = (record { result = refl; callee = refl; arguments = (refl, tt) }, record { ty = Fn 1; variable = record { type = omega arith; size = tt; names = refl }; class_is = refl }, (refl, tt)) }, (record { classes_fit = tt; parts = tt }, (record { classes_fit = refl; parts = ((refl, (refl, refl)), refl, refl) }, tt)), tt), (record { classes_fit = refl; parts = refl }, tt)))),
                  (
                    record { classes_fit = tt; parts = (record { sig = record { result = Long; params = Long ∷ [] }; function = record { types = record { result = tt; params = (tt, tt); few = omega arith }; names = refl }; result = refl; arguments = (refl, tt) }, (refl, tt)) },
                    (record { classes_fit = (tt, refl); parts = refl }, tt),
                  ),
                ),
              ),
            ),
          );
          reads = (tt, (tt, (tt, (((tt, refl, (tt, tt)), (((tt, tt, (refl, tt)), ((tt, refl, tt), tt), tt), (tt, tt))), ((tt, (refl, tt)), (tt, tt))))));
          loops = (tt, (tt, (tt, ((((tt, tt), tt), (tt, tt)), (tt, (tt, tt))))));
          simple_parts = (tt, (tt, (tt, ((tt, (tt, ((tt, (tt, (tt, tt)), tt), (tt, tt)))), (tt, (tt, tt))))));
          numbers = (
            record { line = tt; expressions = tt },
            (
              record { line = tt; expressions = tt },
              (
                record { line = tt; expressions = record { line = omega arith; value = tt } },
                (
                  (record { line = tt; expressions = (record { line = omega arith; value = tt }, record { line = omega arith; value = tt }, (record { line = omega arith; value = tt }, record { line = omega arith; value = omega arith })) }, (record { line = tt; expressions = tt }, ((record { line = tt; expressions = (record { line = omega arith; value = tt }, record { line = omega arith; value = tt }, (record { line = omega arith; value = tt }, tt)) }, (record { line = tt; expressions = tt }, (record { line = tt; expressions = (record { line = omega arith; value = tt }, record { line = omega arith; value = tt }, record { line = omega arith; value = omega arith }) }, tt)), tt), (record { line = tt; expressions = record { line = omega arith; value = tt } }, tt)))),
                  (
                    record { line = tt; expressions = (record { line = omega arith; value = tt }, (record { line = omega arith; value = tt }, tt)) },
                    (record { line = tt; expressions = record { line = omega arith; value = omega arith } }, tt),
                  ),
                ),
              ),
            ),
          );
        },
        tt,
      ),
    ),
  );
  variables = (
    record { type = omega arith; size = tt; initialiser = (omega arith, (record { sig = record { result = Long; params = Long ∷ [] }; function = record { types = record { result = tt; params = (tt, tt); few = omega arith }; names = refl }; type = refl }, tt)) },
    tt,
  );
}

pub number_printer_is_well_typed : IsWellTyped number_printer
unfolding IsDistinct AreValueTypes held held_by Throughout AreNumbers ArgumentsFit Everywhere StatementReads LeavesLoops phrases_in expressions_in below
number_printer_is_well_typed = record {
  definitions_differ = ((refl, tt), (tt, tt));
  names_differ = ((refl, tt), (tt, tt));
  texts = (
    inr (inl (record { result = 108; params = 108 ∷ []; spelled = refl; typed = refl; valued = refl; few = omega arith })),
    (inr (inl (record { result = 108; params = 108 ∷ []; spelled = refl; typed = refl; valued = refl; few = omega arith })), tt),
  );
  functions_named = ((λ e. refl), ((λ e. refl), tt));
  variables_named = tt;
  few_elements = omega arith;
  functions = (
    record {
      signature = record { result = tt; params = (tt, tt); few = omega arith };
      line = omega arith;
      few_locals = omega arith;
      few_held = omega arith;
      few_phrases = omega arith;
      held = refl;
      parameters = omega arith;
      classes = number ∷ [];
      are_classes = record { each = refl; values = (tt, tt); parameters = refl };
      fits = (
        (record { classes_fit = tt; parts = ((refl, (refl, refl)), refl, refl) }, (record { classes_fit = tt; parts = tt }, (record { classes_fit = tt; parts = (record { sig = record { result = Long; params = Long ∷ [] }; function = record { types = record { result = tt; params = (tt, tt); few = omega arith }; names = refl }; result = refl; arguments = (refl, tt) }, (((refl, (refl, refl)), refl, refl), tt)) }, tt)), tt),
        (
          record { classes_fit = tt; parts = ((refl, refl), ((refl, (refl, refl)), refl, ((refl, (refl, refl)), refl, refl))) },
          (record { classes_fit = (tt, refl); parts = refl }, tt),
        ),
      );
      reads = (((tt, refl, tt), ((tt, ((tt, refl, tt), tt)), tt), tt), ((tt, (tt, tt, (tt, refl, tt))), (tt, tt)));
      loops = (((tt, tt), tt), (tt, (tt, tt)));
      simple_parts = ((tt, (tt, (tt, tt)), tt), (tt, (tt, tt)));
      numbers = (
        (record { line = tt; expressions = (record { line = omega arith; value = tt }, record { line = omega arith; value = tt }, record { line = omega arith; value = omega arith }) }, (record { line = tt; expressions = tt }, (record { line = tt; expressions = (record { line = omega arith; value = tt }, ((record { line = omega arith; value = tt }, record { line = omega arith; value = tt }, record { line = omega arith; value = omega arith }), tt)) }, tt)), tt),
        (
          record { line = tt; expressions = (record { line = omega arith; value = tt }, (record { line = omega arith; value = tt }, record { line = omega arith; value = omega arith }, (record { line = omega arith; value = tt }, record { line = omega arith; value = tt }, record { line = omega arith; value = omega arith }))) },
          (record { line = tt; expressions = record { line = omega arith; value = omega arith } }, tt),
        ),
      );
    },
    (
      record {
        signature = record { result = tt; params = (tt, tt); few = omega arith };
        line = omega arith;
        few_locals = omega arith;
        few_held = omega arith;
        few_phrases = omega arith;
        held = refl;
        parameters = omega arith;
        classes = number ∷ [];
        are_classes = record { each = refl; values = (tt, tt); parameters = refl };
        fits = (
          (record { classes_fit = tt; parts = ((refl, (refl, refl)), refl, refl) }, (record { classes_fit = tt; parts = tt }, (record { classes_fit = tt; parts = (record { sig = record { result = Long; params = Long ∷ [] }; function = record { types = record { result = tt; params = (tt, tt); few = omega arith }; names = refl }; result = refl; arguments = (refl, tt) }, (((refl, (refl, refl)), refl, refl), tt)) }, tt)), tt),
          (
            record { classes_fit = tt; parts = ((refl, refl), ((tt, tt, refl, refl), ((refl, (refl, refl)), ((refl, (refl, refl)), refl, refl), refl), ((refl, (refl, refl)), refl, ((refl, (refl, refl)), refl, refl)), ((refl, (refl, refl)), ((refl, (refl, refl)), refl, ((refl, (refl, refl)), refl, refl)), refl))) },
            (record { classes_fit = (tt, refl); parts = refl }, tt),
          ),
        );
        reads = (((tt, refl, tt), ((tt, ((tt, refl, tt), tt)), tt), tt), ((tt, (tt, (tt, (tt, refl, tt), tt), (tt, tt, (tt, refl, tt)), (tt, (tt, tt, (tt, refl, tt)), tt))), (tt, tt)));
        loops = (((tt, tt), tt), (tt, (tt, tt)));
        simple_parts = ((tt, (tt, (tt, tt)), tt), (tt, (tt, tt)));
        numbers = (
          (record { line = tt; expressions = (record { line = omega arith; value = tt }, record { line = omega arith; value = tt }, record { line = omega arith; value = omega arith }) }, (record { line = tt; expressions = tt }, (record { line = tt; expressions = (record { line = omega arith; value = tt }, ((record { line = omega arith; value = tt }, record { line = omega arith; value = tt }, record { line = omega arith; value = omega arith }), tt)) }, tt)), tt),
          (
            record { line = tt; expressions = (record { line = omega arith; value = tt }, (record { line = omega arith; value = tt }, (record { line = omega arith; value = tt }, (record { line = omega arith; value = tt }, record { line = omega arith; value = tt }, record { line = omega arith; value = omega arith }), record { line = omega arith; value = omega arith }), (record { line = omega arith; value = tt }, record { line = omega arith; value = omega arith }, (record { line = omega arith; value = tt }, record { line = omega arith; value = tt }, record { line = omega arith; value = omega arith })), (record { line = omega arith; value = tt }, (record { line = omega arith; value = tt }, record { line = omega arith; value = omega arith }, (record { line = omega arith; value = tt }, record { line = omega arith; value = tt }, record { line = omega arith; value = omega arith })), record { line = omega arith; value = omega arith }))) },
            (record { line = tt; expressions = record { line = omega arith; value = omega arith } }, tt),
          ),
        );
      },
      tt,
    ),
  );
  variables = tt;
}
