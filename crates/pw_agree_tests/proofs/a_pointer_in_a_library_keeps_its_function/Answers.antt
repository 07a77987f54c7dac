-- The answer to the goal of `a_pointer_in_a_library_keeps_its_function` in `src/lib.rt`.
use Rattle.pw_agree_tests.proofs.PointerInLibrary.{pointer_keeps}
use Rattle.pw_agree_tests.proofs.a_pointer_in_a_library_keeps_its_function.Goals as goal

pub returns : goal.returns
returns c = pointer_keeps
