use Rattle.pw_image.proofs.Nodes.{kept_alike}
use Rattle.pw_image.proofs.laws.kept_alike.Goals as goal

pub returns : goal.returns
returns c = kept_alike
