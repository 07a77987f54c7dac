use Rattle.pw_image.proofs.Counts.{functions_are_few}
use Rattle.pw_image.proofs.laws.functions_are_few.Goals as goal

pub returns : goal.returns
returns c = functions_are_few
