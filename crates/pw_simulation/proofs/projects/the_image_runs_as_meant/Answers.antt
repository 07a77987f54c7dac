use Rattle.pw_simulation.specs.ImageWorld.{world_of}
use Rattle.pw_simulation.specs.ImageRuns.{start_of}
use Rattle.pw_simulation.proofs.ImageSees.{image_sees}
use Rattle.pw_simulation.proofs.OnlyKept.{project_is_runnable}
use Rattle.pw_simulation.proofs.ImageRuns.{starts}
use Rattle.pw_simulation.proofs.Meaning.{the_run_is_the_meaning}
use Rattle.pw_simulation.proofs.projects.the_image_runs_as_meant.Goals as goal

pub returns : goal.returns
returns c = λ project keep in_memory input bound limit run enough holds bytes long.
    the_run_is_the_meaning (world_of project keep) input bound limit (start_of project in_memory input bound) (image_sees project keep run enough)
    (project_is_runnable project keep run enough) (starts project keep in_memory input bound run enough holds bytes) long
