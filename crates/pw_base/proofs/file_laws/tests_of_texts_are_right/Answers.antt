-- The answers to the goals of `tests_of_texts_are_right` in `src/file_laws.rt`.
use Rattle.pw_base.proofs.Tests.{name_test_is_right, type_text_test_is_right}
use Rattle.pw_base.proofs.file_laws.tests_of_texts_are_right.Goals as goal

pub returns : goal.returns
returns c = record { name = name_test_is_right; type_text = type_text_test_is_right }
