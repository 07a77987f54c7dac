-- The answers to the goals of `the_least_is_found` in `src/file_laws.rt`.
use Rattle.pw_base.proofs.Least.{least_is, none_from}
use Rattle.pw_base.proofs.file_laws.the_least_is_found.Goals as goal

pub returns : goal.returns
returns c = record { least = least_is; nowhere = none_from }
