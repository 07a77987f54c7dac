use Rattle.pw_simulation.proofs.OnlyKept.{project_is_runnable}
use Rattle.pw_simulation.proofs.projects.projects_are_runnable.Goals as goal

pub returns : goal.returns
returns c = project_is_runnable
