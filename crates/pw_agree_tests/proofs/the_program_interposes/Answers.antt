-- The answer to the goal of `the_program_interposes` in `src/lib.rt`.
use Rattle.pw_agree_tests.proofs.Interposition.{program_interposes}
use Rattle.pw_agree_tests.proofs.the_program_interposes.Goals as goal

pub returns : goal.returns
returns c = program_interposes
