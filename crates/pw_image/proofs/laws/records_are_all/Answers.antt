use Rattle.pw_image.proofs.Counts.{records_are_all}
use Rattle.pw_image.proofs.laws.records_are_all.Goals as goal

pub returns : goal.returns
returns c = records_are_all
