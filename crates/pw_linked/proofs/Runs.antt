-- The machine's run of the image of linked modules is what their project means, and the same in both modes.
use Rattle.std.proofs.Common.{ℕ, ◌+◌, ◌*◌, ◌≤◌, List}
use Rattle.pw_tree.specs.Names.{Project}
use Rattle.pw_tree.specs.Meaning.{meaning}
use Rattle.pw_hart.specs.Run.{run}
use Rattle.pw_agree.specs.Kept.{Keep, FindsKept}
use Rattle.pw_agree.specs.LoadOrder.{ProjectModule, loaded_project}
use Rattle.pw_simulation.specs.Programs.{RunsAsMeant}
use Rattle.pw_simulation.specs.Projects.{CanRun, KeepsEnough, HoldsKept, keeps_all}
use Rattle.pw_simulation.specs.ImageWorld.{words_of_project, world_of}
use Rattle.pw_simulation.specs.ImageRuns.{start_of, IsInput}
use Rattle.pw_simulation.proofs.ImageSees.{image_sees}
use Rattle.pw_simulation.proofs.OnlyKept.{project_is_runnable}
use Rattle.pw_simulation.proofs.ImageRuns.{starts}
use Rattle.pw_simulation.proofs.Meaning.{the_run_is_the_meaning}
use Rattle.pw_simulation.proofs.Enough.{kept_is_enough}
use Rattle.pw_simulation.proofs.AlikeImages.{images_run_alike}
use Rattle.pw_linked.specs.Linking.{AreLinked}
use Rattle.pw_linked.specs.Laws.{RunEitherWay}
use Rattle.pw_linked.proofs.CanRun.{linked_can_run}

any_project : (project : Project) (keep in_memory : Keep) (input : List ℕ) (bound limit : ℕ) → CanRun project → KeepsEnough project keep →
    HoldsKept keep in_memory → IsInput input → (bound + 1) * words_of_project project ≤ limit →
    RunsAsMeant (world_of project keep) (meaning project input bound) bound (run limit (start_of project in_memory input bound))
any_project project keep in_memory input bound limit can enough holds bytes long =
    the_run_is_the_meaning
    (world_of project keep) input bound limit (start_of project in_memory input bound)
    (image_sees project keep can enough) (project_is_runnable project keep can enough)
    (starts project keep in_memory input bound can enough holds bytes) long

pub runs_either_way : (modules : List ProjectModule) (keep : Keep) (input : List ℕ) (bound limit : ℕ) → AreLinked modules →
    FindsKept (loaded_project modules) keep → IsInput input →
    (bound + 1) * words_of_project (loaded_project modules) ≤ limit → RunEitherWay modules keep input bound limit
runs_either_way modules keep input bound limit linked finds bytes long =
    let project = loaded_project modules in
    let can = linked_can_run modules linked in
    let enough = kept_is_enough project keep can finds in
    record {
      kept = any_project project keep keep input bound limit can enough (λ d h. h) bytes long;
      whole = any_project project keep (keeps_all project) input bound limit can enough enough.functions bytes long;
      alike = images_run_alike project keep keep (keeps_all project) input bound limit can enough (λ d h. h) enough.functions bytes;
    }
