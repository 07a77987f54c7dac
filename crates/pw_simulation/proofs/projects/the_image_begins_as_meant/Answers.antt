use Rattle.pw_simulation.specs.ImageWorld.{world_of}
use Rattle.pw_simulation.specs.ImageRuns.{start_of}
use Rattle.pw_simulation.proofs.ImageSees.{image_sees}
use Rattle.pw_simulation.proofs.OnlyKept.{project_is_runnable}
use Rattle.pw_simulation.proofs.ImageRuns.{starts}
use Rattle.pw_simulation.proofs.Meaning.{limited_runs_are_meant}
use Rattle.pw_simulation.proofs.projects.the_image_begins_as_meant.Goals as goal

pub returns : goal.returns
returns c = λ project keep in_memory input bound k run enough holds bytes short ends.
    limited_runs_are_meant (world_of project keep) input bound k (start_of project in_memory input bound) (image_sees project keep run enough)
    (project_is_runnable project keep run enough) (starts project keep in_memory input bound run enough holds bytes) short ends
