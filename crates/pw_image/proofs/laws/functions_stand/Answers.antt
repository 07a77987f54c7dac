use Rattle.pw_image.proofs.Functions.{functions_stand}
use Rattle.pw_image.proofs.laws.functions_stand.Goals as goal

pub returns : goal.returns
returns c = functions_stand
