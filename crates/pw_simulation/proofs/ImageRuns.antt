-- The machine's run of the image of a project is what the project means.
use Rattle.std.proofs.Common.{ℕ, List, refl}
use Rattle.pw_tree.specs.Names.{Project}
use Rattle.pw_agree.specs.Kept.{Keep}
use Rattle.pw_simulation.specs.Programs.{IsStart}
use Rattle.pw_simulation.specs.Projects.{CanRun, KeepsEnough, HoldsKept}
use Rattle.pw_simulation.specs.ImageWorld.{world_of}
use Rattle.pw_simulation.specs.ImageRuns.{start_of, IsInput}
use Rattle.pw_simulation.proofs.ImageReady.{image_is_ready}
use Rattle.pw_simulation.proofs.ImageVariables.{variables_are_carried}

-- the machine starts as a run in the project's world does
pub starts : (project : Project) (keep in_memory : Keep) (input : List ℕ) (bound : ℕ) → CanRun project → KeepsEnough project keep → HoldsKept keep in_memory → IsInput input
    → IsStart (world_of project keep) input bound (start_of project in_memory input bound)
starts project keep in_memory input bound run enough holds bytes = record {
  place = refl;
  stack = refl;
  steps = refl;
  input_is = refl;
  output_is = refl;
  bytes = bytes;
  ready = image_is_ready project keep in_memory run holds;
  variables = variables_are_carried project keep in_memory run enough;
}
