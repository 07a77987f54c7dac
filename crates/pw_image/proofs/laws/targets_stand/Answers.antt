use Rattle.pw_image.proofs.Targets.{targets_stand}
use Rattle.pw_image.proofs.laws.targets_stand.Goals as goal

pub returns : goal.returns
returns c = targets_stand
