use Rattle.pw_image.proofs.Roots.{roots_are_roots}
use Rattle.pw_image.proofs.laws.roots_are_roots.Goals as goal

pub returns : goal.returns
returns c = roots_are_roots
