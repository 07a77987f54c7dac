-- The laws of projects and their worlds.
use Rattle.std.specs.Prelude.{◌≡◌, ℕ, true, Some}
use Rattle.std.specs.List.{AllByRecursion}
use Rattle.pw_tree.specs.Units.{Function}
use Rattle.pw_tree.specs.Names.{Project, Definition, unit_at, function_at}
use Rattle.pw_tree.specs.Depends.{names_of_all}
use Rattle.pw_tree.specs.Meaning.{initial_variables}
use Rattle.pw_agree.specs.Kept.{Keep, FindsKept}
use Rattle.pw_agree.specs.Image.{image}
use Rattle.pw_simulation.specs.World.{World}
use Rattle.pw_simulation.specs.Memories.{IsReady}
use Rattle.pw_simulation.specs.Values.{AreCarried}
use Rattle.pw_simulation.specs.Moments.{IsInside}
use Rattle.pw_simulation.specs.Sees.{Sees}
use Rattle.pw_simulation.specs.Bodies.{Body, IsLinked}
use Rattle.pw_simulation.specs.Programs.{LiesInEntry, IsRunnable}
use Rattle.pw_simulation.specs.Projects.{CanRun, KeepsEnough, HoldsKept, keeps_all}
use Rattle.pw_simulation.specs.ImageWorld.{world_of}

-- The world of a project that can be run, of which enough is kept, shows the project.
abbrev pub ImagesAreSeen : Type 0
ImagesAreSeen = (project : Project) (keep : Keep) → CanRun project → KeepsEnough project keep → Sees (world_of project keep)

-- No address lies inside two functions of a world, nor inside one and in the entry.
pub record StandApart (w : World) : Type 0 where
  pub functions : (d e : Definition) (at : ℕ) → IsInside w d at → IsInside w e at → d ≡ e
  pub from_entry : (d : Definition) (at : ℕ) → IsInside w d at → LiesInEntry w at → ⊥

-- The functions of a project that can be run stand apart, be they kept or not: an address that is said to lie inside one of them
-- lies nowhere else.
abbrev pub FunctionsStandApart : Type 0
FunctionsStandApart = (project : Project) (keep : Keep) → CanRun project → StandApart (world_of project keep)

-- The functions that the roots lead to are enough,
abbrev pub KeptIsEnough : Type 0
KeptIsEnough = (project : Project) (keep : Keep) → CanRun project → FindsKept project keep → KeepsEnough project keep

-- and so are all functions.
abbrev pub AllIsEnough : Type 0
AllIsEnough = (project : Project) → CanRun project → KeepsEnough project (keeps_all project)

-- Each name in the body of a kept function means what its unit says.
abbrev pub BodiesAreLinked : Type 0
BodiesAreLinked =
    (project : Project) (keep : Keep) (b : Body) (f : Function) → CanRun project → KeepsEnough project keep → unit_at project b.self ≡ Some b.unit →
    function_at project b.self ≡ Some f → keep b.self ≡ true → AllByRecursion (IsLinked (world_of project keep) b) (names_of_all f.body)

-- A project that can be run, of which enough is kept, has a world in which it can be run.
abbrev pub ProjectsAreRunnable : Type 0
ProjectsAreRunnable = (project : Project) (keep : Keep) → CanRun project → KeepsEnough project keep → IsRunnable (world_of project keep)

-- An image of a project is ready for a run in the project's world: the code of the entry and of kept functions is fetched from
-- it, slots and stack are there, and each element of each variable has its initial value.
pub record StartsReady (project : Project) (keep in_memory : Keep) : Type 0 where
  pub ready : IsReady (world_of project keep) (image project in_memory)
  pub variables : AreCarried (world_of project keep) (initial_variables project) (image project in_memory)

-- The image of a project that can be run, of which enough is kept, is ready, whatever it has in memory beside what is kept.
abbrev pub ImagesAreReady : Type 0
ImagesAreReady =
    (project : Project) (keep in_memory : Keep) → CanRun project → KeepsEnough project keep → HoldsKept keep in_memory →
    StartsReady project keep in_memory
