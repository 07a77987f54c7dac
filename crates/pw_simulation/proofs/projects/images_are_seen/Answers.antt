use Rattle.pw_simulation.proofs.ImageSees.{image_sees}
use Rattle.pw_simulation.proofs.projects.images_are_seen.Goals as goal

pub returns : goal.returns
returns c = image_sees
