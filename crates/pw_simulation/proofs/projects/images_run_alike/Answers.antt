use Rattle.pw_simulation.proofs.AlikeImages.{images_run_alike}
use Rattle.pw_simulation.proofs.projects.images_run_alike.Goals as goal

pub returns : goal.returns
returns c = images_run_alike
