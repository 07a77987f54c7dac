-- By the laws of the stages.
use Rattle.std.proofs.Common.{[], ◌∷◌}
use Rattle.pw_io.specs.declared.ports.Asked.TheVariants.{Read}
use Rattle.pw_cmd.specs.Primitives.{reads}
use Rattle.pw_cmd.proofs.Lists.{each_failures, each_looks, each_calls}
use Rattle.pw_cmd.proofs.StageLaws.{reads_failures, reads_looks, reads_calls}
use Rattle.pw_cmd.proofs.CommandLaws.{words_failures, words_cleanly, one_calls}
use Rattle.pw_cmd.proofs.laws.commands_obey_the_laws.Goals as goal

pub returns-clause-failures : goal.returns-clause-failures
returns-clause-failures c = words_failures

pub returns-clause-refusals : goal.returns-clause-refusals
returns-clause-refusals c = words_cleanly

pub returns-clause-calls : goal.returns-clause-calls
returns-clause-calls c = one_calls

pub returns-clause-files : goal.returns-clause-files
returns-clause-files c = λ number files. (
  each_failures reads reads_failures number files,
  each_looks reads reads_looks number files,
  each_calls reads (λ file. Read file ∷ []) reads_calls number files,
)
