-- Runs of the image of a project: the state in which the machine starts on it, and the laws.
use Rattle.std.specs.Prelude.{◌≡◌, ℕ, ◌+◌, ◌*◌, ◌<◌, ◌≤◌, List, []}
use Rattle.std.specs.List.{AllByRecursion}
use Rattle.pw_base.specs.Limits.{stack_start, stack_bytes}
use Rattle.pw_isa.specs.Registers.{sp}
use Rattle.pw_tree.specs.Names.{Project}
use Rattle.pw_tree.specs.Meaning.{meaning}
use Rattle.pw_hart.specs.declared.ends.End.TheVariants.{Limit}
use Rattle.pw_hart.specs.State.{MachineState, set}
use Rattle.pw_hart.specs.Run.{run}
use Rattle.pw_agree.specs.Kept.{Keep}
use Rattle.pw_agree.specs.Placing.{text_of}
use Rattle.pw_agree.specs.Image.{image}
use Rattle.pw_simulation.specs.Programs.{RunsAsMeant}
use Rattle.pw_simulation.specs.AnyRuns.{RunAlike, BeginsAsMeant}
use Rattle.pw_simulation.specs.Projects.{CanRun, KeepsEnough, HoldsKept}
use Rattle.pw_simulation.specs.ImageWorld.{words_of_project, world_of}

-- The machine starts at the program's entry, with the stack pointer behind the stack and all other registers zero, in the image.
abbrev pub start_of : Project → (in_memory : Keep) → (input : List ℕ) → (bound : ℕ) → MachineState
start_of project in_memory input bound = record {
  x = set (λ _. 0) sp (stack_start + stack_bytes);
  pc = text_of 0;
  steps = bound;
  mem = image project in_memory;
  input = input;
  output = [];
}

-- An input is bytes.
abbrev pub IsInput : List ℕ → Type 0
IsInput input = AllByRecursion (λ byte. byte < 256) input

-- The machine's run of an image of a project that can be run, of which enough is kept, is what the project means. Both modes are
-- meant: a piece-wise run has in memory what is kept and nothing else, and a whole one has all functions (`keeps_all`) in memory.
-- In either, each address that is fetched lies in the entry or in a function that is kept, be there others in memory or not.
abbrev pub TheImageRunsAsMeant : Type 0
TheImageRunsAsMeant =
    (project : Project) (keep in_memory : Keep) (input : List ℕ) (bound limit : ℕ) → CanRun project → KeepsEnough project keep →
    HoldsKept keep in_memory → IsInput input → (bound + 1) * words_of_project project ≤ limit →
    RunsAsMeant (world_of project keep) (meaning project input bound) bound (run limit (start_of project in_memory input bound))

-- A run that is cut short before that is a beginning of what the project means, in either mode.
abbrev pub TheImageBeginsAsMeant : Type 0
TheImageBeginsAsMeant =
    (project : Project) (keep in_memory : Keep) (input : List ℕ) (bound k : ℕ) → CanRun project → KeepsEnough project keep →
    HoldsKept keep in_memory → IsInput input → k < (bound + 1) * words_of_project project →
    (run k (start_of project in_memory input bound)).end ≡ Limit →
    BeginsAsMeant (world_of project keep) (meaning project input bound) (run k (start_of project in_memory input bound))

-- Both modes do the same, however long they may run, down to each address that is fetched: two images of one project that have at
-- least what is kept in memory run alike. A piece-wise image has what is kept in memory and nothing else, and a whole one everything.
abbrev pub ImagesRunAlike : Type 0
ImagesRunAlike =
    (project : Project) (keep in_memory other : Keep) (input : List ℕ) (bound limit : ℕ) → CanRun project → KeepsEnough project keep →
    HoldsKept keep in_memory → HoldsKept keep other → IsInput input →
    RunAlike (run limit (start_of project in_memory input bound)) (run limit (start_of project other input bound))
