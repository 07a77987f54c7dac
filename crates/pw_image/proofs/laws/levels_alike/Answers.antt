use Rattle.pw_image.proofs.Nodes.{levels_alike}
use Rattle.pw_image.proofs.laws.levels_alike.Goals as goal

pub returns : goal.returns
returns c = levels_alike
