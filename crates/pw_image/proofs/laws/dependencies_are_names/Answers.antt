use Rattle.pw_image.proofs.Dependencies.{dependencies_are_names}
use Rattle.pw_image.proofs.laws.dependencies_are_names.Goals as goal

pub returns : goal.returns
returns c = dependencies_are_names
