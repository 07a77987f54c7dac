-- Two images of one project that have in memory what is kept run alike.
use Rattle.std.proofs.Common.{ℕ, List, refl}
use Rattle.pw_tree.specs.Names.{Project}
use Rattle.pw_tree.specs.Meaning.{initial_variables}
use Rattle.pw_hart.specs.State.{MachineState}
use Rattle.pw_hart.specs.Run.{run}
use Rattle.pw_agree.specs.Kept.{Keep}
use Rattle.pw_agree.specs.Image.{image}
use Rattle.pw_simulation.specs.Programs.{IsStart}
use Rattle.pw_simulation.specs.Projects.{CanRun, KeepsEnough, HoldsKept}
use Rattle.pw_simulation.specs.AnyRuns.{RunAlike}
use Rattle.pw_simulation.specs.World.{World}
use Rattle.pw_simulation.specs.ImageWorld.{code_of, world_of}
use Rattle.pw_simulation.specs.ImageRuns.{start_of, IsInput, ImagesRunAlike}
use Rattle.pw_simulation.proofs.ImageSees.{image_sees}
use Rattle.pw_simulation.proofs.OnlyKept.{project_is_runnable}
use Rattle.pw_simulation.proofs.ImageReady.{image_is_ready}
use Rattle.pw_simulation.proofs.ImageRuns.{starts}
use Rattle.pw_simulation.proofs.AlikeMemories.{hidden, ready_hidden, carried_hidden}
use Rattle.pw_simulation.proofs.AlikeRuns.{over, AreAlike}
use Rattle.pw_simulation.proofs.WholeCode.{whole_code}
use Rattle.pw_simulation.proofs.LikeImages.{like_images}
use Rattle.pw_simulation.proofs.MeantRuns.{alike_both, meant_alike}

-- a start stays one where the memory's text cannot be read
start_hidden : (w : World) (input : List ℕ) (bound : ℕ) (s : MachineState) → IsStart w input bound s →
    IsStart w input bound (over (hidden s.mem) s)
start_hidden w input bound s start = record {
  place = start.place;
  stack = start.stack;
  steps = start.steps;
  input_is = start.input_is;
  output_is = start.output_is;
  bytes = start.bytes;
  ready = ready_hidden w s.mem start.ready;
  variables = carried_hidden w (initial_variables w.project) s.mem start.ready.sealed start.variables;
}

module _ (project : Project) (keep : Keep) (can : CanRun project) (enough : KeepsEnough project keep) where
  -- an image with what is kept in memory is like the one that has nothing else
  images_alike : (more : Keep) → HoldsKept keep more → AreAlike (code_of project keep) (hidden (image project keep)) (image project more)
  images_alike more holds = record {
    here = record {
      sealed = refl;
      text = (ready_hidden (world_of project keep) (image project keep) (image_is_ready project keep keep can (λ d kept. kept))).text;
    };
    there = record { sealed = refl; text = (image_is_ready project keep more can holds).text };
    like = like_images project keep more can;
  }

  -- and its run is like the other's
  kept_alike : (more : Keep) (input : List ℕ) (bound limit : ℕ) → HoldsKept keep more → IsInput input →
      RunAlike (run limit (over (hidden (image project keep)) (start_of project keep input bound)))
      (run limit (start_of project more input bound))
  kept_alike more input bound limit holds bytes =
      let start : MachineState = start_of project keep input bound in
      meant_alike (world_of project keep) (image_sees project keep can enough) (project_is_runnable project keep can enough)
      (whole_code project keep can) input bound limit (over (hidden (image project keep)) start) (image project more)
      (start_hidden (world_of project keep) input bound start (starts project keep keep input bound can enough (λ d kept. kept) bytes))
      (images_alike more holds)

pub images_run_alike : ImagesRunAlike
images_run_alike project keep in_memory other input bound limit can enough holds_first holds_second bytes =
    alike_both (run limit (over (hidden (image project keep)) (start_of project keep input bound)))
    (run limit (start_of project in_memory input bound)) (run limit (start_of project other input bound))
    (kept_alike project keep can enough in_memory input bound limit holds_first bytes)
    (kept_alike project keep can enough other input bound limit holds_second bytes)
