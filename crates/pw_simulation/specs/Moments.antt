-- What holds at each moment of a run, and what a stretch of a run comes to.
use Rattle.std.specs.Prelude.{◌≡◌, ℕ, suc, ◌+◌, ◌*◌, ◌<◌, ◌≤◌, List, [], ◌∷◌, length, Option, Some}
use Rattle.std.specs.List.{AllByRecursion}
use Rattle.pw_base.specs.Limits as limits
use Rattle.pw_isa.specs.declared.instruction.Inst.{Inst}
use Rattle.pw_isa.specs.Registers.{sp, s1}
use Rattle.pw_isa.specs.EnvironmentCalls.{index_fault, division_fault, null_call_fault, depth_fault}
use Rattle.pw_tree.specs.Units.{Function}
use Rattle.pw_tree.specs.Names.{Definition, function_at}
use Rattle.pw_tree.specs.States.{State, Fault, index, division, null_call, depth, StopReason, checked, spent, Outcome, gives, stops}
use Rattle.pw_hart.specs.declared.ends.End.{End}
use Rattle.pw_hart.specs.declared.ends.End.TheVariants.{Checked, Spent}
use Rattle.pw_hart.specs.State.{MachineState, Goes, Ends}
use Rattle.pw_hart.specs.Run.{step}
use Rattle.pw_code.specs.FunctionCode.{function_words}
use Rattle.pw_simulation.specs.World.{World}
use Rattle.pw_simulation.specs.Memories.{IsReady, Keeps}
use Rattle.pw_simulation.specs.Values.{AreCarried}

-- ---- a moment

-- The machine's state agrees with the meaning's, with this stack pointer and so many calls left.
pub record IsAt (w : World) (stack_pointer calls_left : ℕ) (st : State) (s : MachineState) : Type 0 where
  pub ready : IsReady w s.mem
  pub variables : AreCarried w st.variables s.mem
  pub stack : s.x sp ≡ stack_pointer
  pub register : s.x s1 ≡ calls_left
  pub calls : st.calls ≡ calls_left
  pub few : calls_left ≤ limits.calls
  pub steps : s.steps ≡ st.steps
  pub input : s.input ≡ st.input
  pub output : s.output ≡ st.output
  pub bytes : AllByRecursion (λ byte. byte < 256) st.input

-- ---- a stretch of a run

-- From one state to another, with the addresses fetched on the way.
abbrev pub Path : MachineState → List ℕ → MachineState → Type 0
Path s [] t = s ≡ t
Path s (p ∷ ps) t = (s.pc ≡ p) × ((u : MachineState) × ((step s ≡ Goes u) × Path u ps t))

-- An address at which the code has an instruction.
pub record IsCode (code : ℕ → Option Inst) (at : ℕ) : Type 0 where
  pub inst : Inst
  pub there : code at ≡ Some inst

-- A stretch of a run inside a code: it fetches at most `own` times, and `most` for each counted step that it takes.
pub record Reaches (code : ℕ → Option Inst) (most own : ℕ) (s t : MachineState) : Type 0 where
  pub ps : List ℕ
  pub path : Path s ps t
  pub inside : AllByRecursion (IsCode code) ps
  pub few : length ps + most * t.steps ≤ own + most * s.steps
  pub down : t.steps ≤ s.steps

-- A stretch that ends in a state of which something holds, where the states agree, and some doublewords are as they were.
pub record Lands (w : World) (kept : ℕ → Type 0) (stack_pointer calls_left own : ℕ) (st : State) (s : MachineState) (P : MachineState → Type 0) : Type 0 where
  pub end : MachineState
  pub reaches : Reaches w.code w.words own s end
  pub at : IsAt w stack_pointer calls_left st end
  pub keeps : Keeps kept s.mem end.mem
  pub holds : P end

-- ---- a stop

-- The number that the machine has for a check that fails.
abbrev pub kind_of : Fault → ℕ
kind_of index = index_fault
kind_of division = division_fault
kind_of null_call = null_call_fault
kind_of depth = depth_fault

-- An address inside the code of a function.
pub record IsInside (w : World) (d : Definition) (at : ℕ) : Type 0 where
  pub function : Function
  pub there : function_at w.project d ≡ Some function
  pub from : w.function_place d ≤ at
  pub to : at < w.function_place d + 4 * function_words function

-- How the machine ends where the meaning stops.
abbrev pub EndsBy : World → StopReason → End → Type 0
EndsBy w (checked fault d line) end = (pc : ℕ) × (end ≡ Checked (kind_of fault) line pc) × IsInside w d pc
EndsBy w spent end = end ≡ Spent

-- A stretch that ends the run.
pub record Halts (w : World) (own : ℕ) (why : StopReason) (st : State) (s : MachineState) : Type 0 where
  pub last : MachineState
  pub before : ℕ
  pub room : suc before ≤ own
  pub reaches : Reaches w.code w.words before s last
  pub here : IsCode w.code last.pc
  pub end : End
  pub after : MachineState
  pub ends : step last ≡ Ends end after
  pub because : EndsBy w why end
  pub input : after.input ≡ st.input
  pub output : after.output ≡ st.output

-- ---- both

-- The machine does what the meaning comes to.
abbrev pub Meets : {A : Type 0} → (w : World) → (ℕ → Type 0) → (stack_pointer calls_left own : ℕ) → (A → MachineState → Type 0) → Outcome A → MachineState → Type 0
Meets w kept stack_pointer calls_left own P (gives a st) s = Lands w kept stack_pointer calls_left own st s (P a)
Meets w kept stack_pointer calls_left own P (stops why st) s = Halts w own why st s
