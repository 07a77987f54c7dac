use Rattle.pw_image.proofs.RecordSymbols.{records_have_symbols}
use Rattle.pw_image.proofs.laws.records_have_symbols.Goals as goal

pub returns : goal.returns
returns c = records_have_symbols
