-- The answer to the goal of `names_are_bound_or_faulty` in `src/lib.rt`.
use Rattle.pw_agree_tests.proofs.Binding.{is_bound_so}
use Rattle.pw_agree_tests.proofs.names_are_bound_or_faulty.Goals as goal

pub returns : goal.returns
returns c = is_bound_so
