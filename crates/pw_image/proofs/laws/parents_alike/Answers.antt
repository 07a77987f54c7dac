use Rattle.pw_image.proofs.Nodes.{parents_alike}
use Rattle.pw_image.proofs.laws.parents_alike.Goals as goal

pub returns : goal.returns
returns c = parents_alike
