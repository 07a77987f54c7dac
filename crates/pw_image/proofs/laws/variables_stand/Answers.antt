use Rattle.pw_image.proofs.Variables.{variables_stand}
use Rattle.pw_image.proofs.laws.variables_stand.Goals as goal

pub returns : goal.returns
returns c = variables_stand
