-- The laws of linked modules.
use Rattle.std.specs.Prelude.{ℕ, ◌+◌, ◌*◌, ◌≤◌, List}
use Rattle.pw_tree.specs.Meaning.{meaning}
use Rattle.pw_hart.specs.Run.{run}
use Rattle.pw_agree.specs.Kept.{Keep, FindsKept}
use Rattle.pw_agree.specs.LoadOrder.{ProjectModule, loaded_project}
use Rattle.pw_simulation.specs.Programs.{RunsAsMeant}
use Rattle.pw_simulation.specs.AnyRuns.{RunAlike}
use Rattle.pw_simulation.specs.Projects.{CanRun, keeps_all}
use Rattle.pw_simulation.specs.ImageWorld.{words_of_project, world_of}
use Rattle.pw_simulation.specs.ImageRuns.{start_of, IsInput}
use Rattle.pw_linked.specs.Linking.{AreLinked}

-- Linked modules are a project that can be run.
abbrev pub LinkedModulesCanRun : Type 0
LinkedModulesCanRun = (modules : List ProjectModule) → AreLinked modules → CanRun (loaded_project modules)

-- The machine's run of an image is what the modules' project means, where these functions are kept and those are in memory.
abbrev pub ImageRunsAsMeant : List ProjectModule → (keep in_memory : Keep) → (input : List ℕ) → (bound limit : ℕ) → Type 0
ImageRunsAsMeant modules keep in_memory input bound limit =
    RunsAsMeant (world_of (loaded_project modules) keep) (meaning (loaded_project modules) input bound) bound
    (run limit (start_of (loaded_project modules) in_memory input bound))

-- What the machine does with linked modules of which these functions are kept, on an input and with a bound, in either mode:
pub record RunEitherWay (modules : List ProjectModule) (keep : Keep) (input : List ℕ) (bound limit : ℕ) : Type 0 where
  -- with the kept functions alone in memory,
  pub kept : ImageRunsAsMeant modules keep keep input bound limit
  -- with all functions in memory,
  pub whole : ImageRunsAsMeant modules keep (keeps_all (loaded_project modules)) input bound limit
  -- and alike in both, down to each address that is fetched
  pub alike : RunAlike (run limit (start_of (loaded_project modules) keep input bound))
      (run limit (start_of (loaded_project modules) (keeps_all (loaded_project modules)) input bound))

-- Where those functions are kept that the roots lead to, and the run may be so long, each mode's run is what the project means, and
-- one mode's run is like the other's.
abbrev pub LinkedModulesRunAsMeant : Type 0
LinkedModulesRunAsMeant =
    (modules : List ProjectModule) (keep : Keep) (input : List ℕ) (bound limit : ℕ) → AreLinked modules →
    FindsKept (loaded_project modules) keep → IsInput input →
    (bound + 1) * words_of_project (loaded_project modules) ≤ limit → RunEitherWay modules keep input bound limit
