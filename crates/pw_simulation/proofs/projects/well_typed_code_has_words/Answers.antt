use Rattle.pw_simulation.proofs.EncodableStatements.{function_has_words}
use Rattle.pw_simulation.proofs.projects.well_typed_code_has_words.Goals as goal

pub returns : goal.returns
returns c = function_has_words
