-- The answers to the goals of `the_first_fault_ends_first` in `src/laws.rt`.
use Rattle.pw_types.proofs.AscendingFaults.{first_ends_first}
use Rattle.pw_types.proofs.laws.the_first_fault_ends_first.Goals as goal

pub returns : goal.returns
returns c = first_ends_first
