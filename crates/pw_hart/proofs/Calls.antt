-- From what the parts of an instruction answer to what the instruction answers.
use Rattle.std.proofs.Common.{◌≡◌, ℕ, Bool, List, [], ◌∷◌, Option, Some, None, Ok, Err, refl, sym, ap, ◌∙◌, subst}
use Rattle.pw_isa.specs.declared.instruction.Inst.{Inst}
use Rattle.pw_isa.specs.declared.instruction.Inst.TheVariants.{Ecall}
use Rattle.pw_isa.specs.Encoding.{decoded}
use Rattle.pw_isa.specs.Registers.{a7}
use Rattle.pw_isa.specs.EnvironmentCalls.{input_call, output_call}
use Rattle.pw_mem.specs.Memory.{Mem, fetch}
use Rattle.pw_mem.specs.States.{MemoryState, AddsFetches, KeepsFetches}
use Rattle.pw_mem.proofs.States.{fetches_kept}
use Rattle.pw_mem.specs.declared.errors.Access.{Access}
use Rattle.pw_io.specs.Source.{SourceState}
use Rattle.pw_io.specs.Sink.{SinkState}
use Rattle.pw_hart.specs.declared.hart.Hart.{Hart}
use Rattle.pw_hart.specs.declared.ends.End.{End}
use Rattle.pw_hart.specs.declared.ends.End.TheVariants.{Exit, Checked, Spent, Trap, ReadFault, WriteFault, Limit}
use Rattle.pw_hart.specs.State.{MachineState, Next, Goes, Ends, get}
use Rattle.pw_hart.specs.Exec.{exec, takes_input, puts_output}
use Rattle.pw_hart.specs.Run.{fetches, carries_out, step}
use Rattle.pw_hart.specs.Harts.{registers, state_of}
use Rattle.pw_hart.specs.Steps.Does.{next_of, Does}
use Rattle.pw_hart.specs.Runs.{ExecutionState}
use Rattle.pw_hart.specs.Steps.Advances.{IsMachines, Ports, Uses, TakesInput, PutsOutput, CallsEnvironment, MachineStep, Advances}
use Rattle.pw_hart.proofs.Uses.{uses_nothing, Uses-same}
use Rattle.pw_hart.proofs.MachineEnds.{IsMachinesNext, exec_is}

-- ---- environment calls

module _ (hart hart' : Hart) (old new : SourceState) (used_up used_up' : Bool) (out : SinkState) where
  pub calls_take : (result : Option End) → get (registers hart) a7 ≡ input_call → TakesInput old used_up hart new used_up' hart' result →
      CallsEnvironment (record { input = old; used_up = used_up; out = out }) hart (record { input = new; used_up = used_up'; out = out }) hart' result
  calls_take None call takes = λ mem.
      Uses-same (exec Ecall) (λ s. takes_input s.input s) _ hart mem _ hart' mem Goes (λ input output. rw call refl) (takes mem out)
  calls_take (Some ReadFault) call takes = record { call = call; stays = takes.1; input = takes.0; out = refl }
  calls_take (Some (Exit value)) call takes = absurd takes
  calls_take (Some (Checked kind line pc)) call takes = absurd takes
  calls_take (Some Spent) call takes = absurd takes
  calls_take (Some (Trap cause pc value)) call takes = absurd takes
  calls_take (Some WriteFault) call takes = absurd takes
  calls_take (Some Limit) call takes = absurd takes

module _ (hart hart' : Hart) (old new : SinkState) (input : SourceState) (used_up : Bool) where
  pub calls_put : (result : Option End) → get (registers hart) a7 ≡ output_call → PutsOutput old hart new hart' result →
      CallsEnvironment (record { input = input; used_up = used_up; out = old }) hart (record { input = input; used_up = used_up; out = new }) hart' result
  calls_put None call puts = λ mem.
      Uses-same (exec Ecall) puts_output _ hart mem _ hart' mem Goes (λ i output. rw call refl) (puts mem input used_up)
  calls_put (Some WriteFault) call puts = record { call = call; stays = puts.1; input = refl; out = puts.0 }
  calls_put (Some (Exit value)) call puts = absurd puts
  calls_put (Some (Checked kind line pc)) call puts = absurd puts
  calls_put (Some Spent) call puts = absurd puts
  calls_put (Some (Trap cause pc value)) call puts = absurd puts
  calls_put (Some ReadFault) call puts = absurd puts
  calls_put (Some Limit) call puts = absurd puts

module _ (p : Ports) (hart : Hart) where
  pub calls_end : (end : End) → IsMachines end →
      ((mem : Mem) (input output : List ℕ) → exec Ecall (state_of hart mem input output) ≡ Ends end (state_of hart mem input output)) →
      CallsEnvironment p hart p hart (Some end)
  calls_end (Exit value) is ends = λ mem. uses_nothing (exec Ecall) p hart mem hart mem _ (ends mem)
  calls_end (Checked kind line pc) is ends = λ mem. uses_nothing (exec Ecall) p hart mem hart mem _ (ends mem)
  calls_end Spent is ends = λ mem. uses_nothing (exec Ecall) p hart mem hart mem _ (ends mem)
  calls_end (Trap cause pc value) is ends = λ mem. uses_nothing (exec Ecall) p hart mem hart mem _ (ends mem)
  calls_end ReadFault is ends = absurd is
  calls_end WriteFault is ends = absurd is
  calls_end Limit is ends = absurd is

-- ---- from the fetch on

-- a step is the instruction that its word decodes to
step-decoded : (hart : Hart) (mem : Mem) (word : ℕ) (inst : Inst) → fetch mem hart.pc ≡ Ok word → decoded word ≡ Some inst →
    (input output : List ℕ) → step (state_of hart mem input output) ≡ exec inst (state_of hart mem input output)
step-decoded hart mem word inst fetched decodes input output =
    ap (fetches (state_of hart mem input output)) fetched ∙ ap (carries_out word (state_of hart mem input output)) decodes

-- the execution of a processor with a memory and these ports
abbrev pub moment : Hart → MemoryState → Ports → ExecutionState
moment hart memory p = record { hart = hart; memory = memory; input = p.input; out = p.out }

-- an environment call that was fetched and decoded
module _ (hart hart' : Hart) (old new : MemoryState) (p q : Ports) (word : ℕ) (fetched : fetch old.mem hart.pc ≡ Ok word)
    (decodes : decoded word ≡ Some Ecall) (same : new.mem ≡ old.mem) (seen : AddsFetches (hart.pc ∷ []) old new) where
  steps_call : (next : MachineState → Next) → ((mem : Mem) → Uses (exec Ecall) p hart mem q hart' mem next) →
      MachineStep (moment hart old p) p.used_up (moment hart' new q) q.used_up next
  steps_call next uses = record {
    fetches = seen;
    uses =
        Uses-same step (exec Ecall) p hart old.mem q hart' new.mem next (step-decoded hart old.mem word Ecall fetched decodes)
        (subst (λ m. Uses (exec Ecall) p hart old.mem q hart' m next) (sym same) (uses old.mem));
  }

  pub answers_call : (result : Option End) → CallsEnvironment p hart q hart' result →
      Advances (moment hart old p) p.used_up (moment hart' new q) q.used_up result
  answers_call None calls = steps_call Goes calls
  answers_call (Some (Exit value)) calls = steps_call _ calls
  answers_call (Some (Checked kind line pc)) calls = steps_call _ calls
  answers_call (Some Spent) calls = steps_call _ calls
  answers_call (Some (Trap cause pc value)) calls = steps_call _ calls
  answers_call (Some ReadFault) calls = record {
    call = record { word = word; fetched = fetched; call = decodes; number_is = calls.call };
    hart = calls.stays;
    mem = same;
    fetches = seen;
    input = calls.input;
    out = calls.out;
  }
  answers_call (Some WriteFault) calls = record {
    call = record { word = word; fetched = fetched; call = decodes; number_is = calls.call };
    hart = calls.stays;
    mem = same;
    fetches = seen;
    input = calls.input;
    out = calls.out;
  }
  answers_call (Some Limit) calls = absurd calls

-- a step that uses neither the input nor the output
module _ (hart hart' : Hart) (old new : MemoryState) (p : Ports) (seen : AddsFetches (hart.pc ∷ []) old new) where
  steps_quietly : (next : MachineState → Next) →
      ((input output : List ℕ) → step (state_of hart old.mem input output) ≡ next (state_of hart' new.mem input output)) →
      MachineStep (moment hart old p) p.used_up (moment hart' new p) p.used_up next
  steps_quietly next does = record { fetches = seen; uses = uses_nothing step p hart old.mem hart' new.mem next does }

  -- by how it goes on or ends, where that is the machine's
  by_result : (result : Option End) →
      ((i o : List ℕ) → step (state_of hart old.mem i o) ≡ next_of result (state_of hart' new.mem i o)) →
      IsMachinesNext (next_of result (state_of hart' new.mem [] [])) →
      Advances (moment hart old p) p.used_up (moment hart' new p) p.used_up result
  by_result None does is = steps_quietly Goes does
  by_result (Some (Exit value)) does is = steps_quietly _ does
  by_result (Some (Checked kind line pc)) does is = steps_quietly _ does
  by_result (Some Spent) does is = steps_quietly _ does
  by_result (Some (Trap cause pc value)) does is = steps_quietly _ does
  by_result (Some ReadFault) does is = absurd is
  by_result (Some WriteFault) does is = absurd is
  by_result (Some Limit) does is = absurd is

-- a fetch that is refused traps
pub steps_refused : (hart : Hart) (old new : MemoryState) (p : Ports) (refusal : Access) →
    fetch old.mem hart.pc ≡ Err refusal → new.mem ≡ old.mem → AddsFetches (hart.pc ∷ []) old new →
    MachineStep (moment hart old p) p.used_up (moment hart new p) p.used_up (Ends (Trap 1 hart.pc hart.pc))
steps_refused hart old new p refusal refused same seen =
    steps_quietly hart hart old new p seen (Ends (Trap 1 hart.pc hart.pc))
    (λ input output. ap (fetches (state_of hart old.mem input output)) refused
    ∙ ap (λ m. Ends (Trap 1 hart.pc hart.pc) (state_of hart m input output)) (sym same))

-- a word that is no instruction traps
pub steps_illegal : (hart : Hart) (old new : MemoryState) (p : Ports) (word value : ℕ) →
    fetch old.mem hart.pc ≡ Ok word → decoded word ≡ None → value ≡ word → new.mem ≡ old.mem → AddsFetches (hart.pc ∷ []) old new →
    MachineStep (moment hart old p) p.used_up (moment hart new p) p.used_up (Ends (Trap 2 hart.pc value))
steps_illegal hart old new p word value fetched illegal is same seen =
    steps_quietly hart hart old new p seen (Ends (Trap 2 hart.pc value))
    (λ input output. ap (fetches (state_of hart old.mem input output)) fetched
    ∙ ap (carries_out word (state_of hart old.mem input output)) illegal
    ∙ ap (λ m. Ends (Trap 2 hart.pc word) (state_of hart m input output)) (sym same)
    ∙ ap (λ v. Ends (Trap 2 hart.pc v) (state_of hart new.mem input output)) (sym is))

-- another instruction, carried out on the memory that the fetch left
pub answers_execute : (hart hart' : Hart) (old mid new : MemoryState) (p : Ports) (word : ℕ) (inst : Inst) (result : Option End) →
    fetch old.mem hart.pc ≡ Ok word → decoded word ≡ Some inst → mid.mem ≡ old.mem → AddsFetches (hart.pc ∷ []) old mid → KeepsFetches mid new →
    Does (exec inst) hart mid.mem result hart' new.mem →
    Advances (moment hart old p) p.used_up (moment hart' new p) p.used_up result
answers_execute hart hart' old mid new p word inst result fetched decodes same seen kept does =
    by_result hart hart' old new p (fetches_kept (hart.pc ∷ []) old mid new seen kept) result
    (λ input output. step-decoded hart old.mem word inst fetched decodes input output ∙ here input output)
    (subst IsMachinesNext (here [] []) (exec_is inst (state_of hart old.mem [] [])))
  where
    here : Does (exec inst) hart old.mem result hart' new.mem
    here = subst (λ m. Does (exec inst) hart m result hart' new.mem) same does
