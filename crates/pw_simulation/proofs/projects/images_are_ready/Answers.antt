use Rattle.pw_simulation.proofs.ImageReady.{image_is_ready}
use Rattle.pw_simulation.proofs.ImageVariables.{variables_are_carried}
use Rattle.pw_simulation.proofs.projects.images_are_ready.Goals as goal

pub returns : goal.returns
returns c = λ project keep in_memory run enough holds.
    record { ready = image_is_ready project keep in_memory run holds; variables = variables_are_carried project keep in_memory run enough }
