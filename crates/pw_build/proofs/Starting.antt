-- The start of a run: a fresh processor in an image's memory is where the machine starts on the project.
use Rattle.std.proofs.Common.{◌≡◌, ℕ, zero, suc, ◌+◌, ◌<◌, false, List, [], ◌∷◌, get_or, refl, ap, sym, subst, ◌∙◌, arith}
use Rattle.std.specs.Prelude.{nat_eq, replicate, slice_set, slice_index}
use Rattle.std.proofs.lemmas.Bool.Decides.{nat_tests}
use mathlib.Core.Path.{fun_ext}
use Rattle.pw_base.specs.Bytes.{AreBytes}
use Rattle.pw_base.specs.Limits.{stack_start, stack_bytes}
use Rattle.pw_tree.specs.Units.{TypedUnit}
use Rattle.pw_mem.specs.Memory.{Mem}
use Rattle.pw_hart.specs.declared.ends.End.TheVariants.{Limit}
use Rattle.pw_hart.specs.State as machine
use Rattle.pw_hart.specs.Run.{run}
use Rattle.pw_hart.specs.Runs.{ExecutionState, state_at, HasResult}
use Rattle.pw_agree.specs.Kept.{Keep}
use Rattle.pw_agree.specs.Placing.{text_of}
use Rattle.pw_agree.specs.Image.{image}
use Rattle.pw_simulation.specs.Programs.{RunsAsMeant}
use Rattle.pw_simulation.specs.AnyRuns.{HasTextOf, BeginsAsMeant}
use Rattle.pw_simulation.specs.Projects.{CanRun, KeepsEnough}
use Rattle.pw_simulation.specs.ImageWorld.{world_of}
use Rattle.pw_simulation.specs.ImageRuns.{start_of}
use Rattle.pw_simulation.proofs.ImageSees.{image_sees}
use Rattle.pw_simulation.proofs.OnlyKept.{project_is_runnable}
use Rattle.pw_simulation.proofs.ImageRuns as image_runs
use Rattle.pw_simulation.proofs.Meaning.{the_run_is_the_meaning, limited_runs_are_meant}
use Rattle.pw_simulation.proofs.LimitedRuns.{sealed_text_stays_in_runs}
use Rattle.pw_image.specs.OneUnit.{project_of}
use Rattle.pw_build.specs.Executed.{IsFresh, instruction_limit}
use Rattle.pw_build.specs.Meant.{meaning_of}

-- ---- the processor

-- registers that are 0 but the stack pointer, one by one
zeros_are_0 : (n r : ℕ) → get_or (replicate {A = ℕ} n 0) r 0 ≡ 0
zeros_are_0 zero r = refl
zeros_are_0 (suc n) zero = refl
zeros_are_0 (suc n) (suc r) = zeros_are_0 n r

fresh_register : (v r : ℕ) → get_or (0 ∷ 0 ∷ v ∷ replicate {A = ℕ} 29 0) r 0 ≡ machine.set (λ _. 0) 2 v r
fresh_register v zero = refl
fresh_register v (suc zero) = refl
fresh_register v (suc (suc zero)) = refl
fresh_register v (suc (suc (suc r))) =
    let other : nat_eq (suc (suc (suc r))) 2 ≡ false = grind (arith, nat_tests) in rw other (zeros_are_0 29 r)

-- and all of them
abbrev written : (p v r : ℕ) → ℕ
written p v r = slice_index (slice_set (replicate {A = ℕ} 32 0) p v) r

pub fresh_registers : (p v : ℕ) → p ≡ 2 → (λ r. slice_index (slice_set (replicate {A = ℕ} 32 0) p v) r) ≡ machine.set (λ _. 0) 2 v
fresh_registers p v is = subst (λ q. written q v ≡ machine.set (λ _. 0) 2 v) (sym is) (fun_ext (fresh_register v))

-- ---- the run

-- What a run begins with: a project that can be run, of which enough is kept, its image in memory, and a fresh processor.
pub record Begins (unit : TypedUnit) (keep : Keep) (steps : ℕ) (m : ExecutionState) : Type 0 where
  pub can : CanRun (project_of unit)
  pub enough : KeepsEnough (project_of unit) keep
  pub image_is : m.memory.mem ≡ image (project_of unit) keep
  pub is_fresh : IsFresh steps m.hart

-- the machine's state with nothing put
abbrev state_with : (x : ℕ → ℕ) → (pc steps : ℕ) → Mem → List ℕ → machine.MachineState
state_with x pc steps mem input = record { x = x; pc = pc; steps = steps; mem = mem; input = input; output = [] }

-- the machine starts there
starts : (unit : TypedUnit) (keep : Keep) (steps : ℕ) (m : ExecutionState) (input : List ℕ) → Begins unit keep steps m →
    state_at m input ≡ start_of (project_of unit) keep input steps
starts unit keep steps m input b =
    ap (λ x. state_with x m.hart.pc m.hart.steps m.memory.mem input) b.is_fresh.x
    ∙ ap (λ pc. state_with registers pc m.hart.steps m.memory.mem input) b.is_fresh.pc
    ∙ ap (λ k. state_with registers (text_of 0) k m.memory.mem input) b.is_fresh.steps_left
    ∙ ap (λ mem. state_with registers (text_of 0) steps mem input) b.image_is
  where
    registers : ℕ → ℕ
    registers = machine.set (λ _. 0) 2 (stack_start + stack_bytes)

-- its run is what the unit means,
pub run_is_meant : (unit : TypedUnit) (keep : Keep) (steps : ℕ) (m : ExecutionState) (input : List ℕ) → Begins unit keep steps m →
    AreBytes input →
    RunsAsMeant (world_of (project_of unit) keep) (meaning_of unit input steps) steps
    (run (instruction_limit unit steps) (state_at m input))
run_is_meant unit keep steps m input b bytes =
    let w = world_of (project_of unit) keep in
    let P : machine.MachineState → Type 0 = λ s. RunsAsMeant w (meaning_of unit input steps) steps (run (instruction_limit unit steps) s) in
    subst P (sym (starts unit keep steps m input b))
    (the_run_is_the_meaning w input steps (instruction_limit unit steps) (start_of (project_of unit) keep input steps)
    (image_sees (project_of unit) keep b.can b.enough) (project_is_runnable (project_of unit) keep b.can b.enough)
    (image_runs.starts (project_of unit) keep keep input steps b.can b.enough (λ d kept. kept) bytes) (omega arith))

-- and a run that is cut short is a beginning of that
pub run_begins_as_meant : (unit : TypedUnit) (keep : Keep) (steps k : ℕ) (m : ExecutionState) (input : List ℕ) → Begins unit keep steps m →
    AreBytes input → k < instruction_limit unit steps → (run k (state_at m input)).end ≡ Limit →
    BeginsAsMeant (world_of (project_of unit) keep) (meaning_of unit input steps) (run k (state_at m input))
run_begins_as_meant unit keep steps k m input b bytes short ends =
    let w = world_of (project_of unit) keep in
    let start = starts unit keep steps m input b in
    let P : machine.MachineState → Type 0 = λ s. BeginsAsMeant w (meaning_of unit input steps) (run k s) in
    subst P (sym start)
    (limited_runs_are_meant w input steps k (start_of (project_of unit) keep input steps)
    (image_sees (project_of unit) keep b.can b.enough) (project_is_runnable (project_of unit) keep b.can b.enough)
    (image_runs.starts (project_of unit) keep keep input steps b.can b.enough (λ d kept. kept) bytes)
    short (subst (λ s. (run k s).end ≡ Limit) start ends))

-- the text stays, however long it is
pub text_stays : (unit : TypedUnit) (keep : Keep) (steps k : ℕ) (m new : ExecutionState) (input : List ℕ) → Begins unit keep steps m →
    HasResult m input (run k (state_at m input)) new → HasTextOf m.memory.mem new.memory.mem
text_stays unit keep steps k m new input b result =
    let P : Mem → Type 0 = HasTextOf m.memory.mem in
    subst P (ap (λ s. s.mem) result.state)
    (sealed_text_stays_in_runs k (state_at m input) (ap (λ mem. mem.sealed) b.image_is))
