-- A run, one instruction after another: how what each leaves adds up to what the whole run leaves.
use Rattle.std.proofs.Common.{◌≡◌, ℕ, suc, ◌+◌, ◌-◌, ◌<◌, ◌≤◌, Bool, false, List, [], ◌∷◌, ◌++◌, Option, Some, None, refl, sym, ap, ◌∙◌, subst, append_assoc, append-nil, lit<, lit≤, arith}
use Rattle.std.specs.Prelude.{unwrap_or}
use Rattle.pw_mem.specs.States.{AddsFetches}
use Rattle.pw_mem.proofs.States.{fetches_none, fetches_more}
use Rattle.pw_io.specs.Source.{after}
use Rattle.pw_io.specs.Sink.{wrote}
use Rattle.pw_io.proofs.Sources.{after_nothing, after_after}
use Rattle.pw_io.proofs.Sinks.{wrote_nothing, wrote_wrote}
use Rattle.pw_hart.specs.declared.ends.End.{End}
use Rattle.pw_hart.specs.declared.ends.End.TheVariants.{Exit, Checked, Spent, Trap, ReadFault, WriteFault, Limit}
use Rattle.pw_hart.specs.State.{MachineState, Next, Goes, Ends}
use Rattle.pw_hart.specs.Run.{RunResult, fetching, then, run}
use Rattle.pw_hart.specs.Harts.{state_of}
use Rattle.pw_hart.specs.Runs.{ExecutionState, RunsTo, Runs}
use Rattle.pw_hart.specs.Steps.Advances.{CanBeLeft, MachineStep, Advances}

-- ---- numbers of instructions

plus_suc : (k n : ℕ) → k + suc n ≡ (k + 1) + n
plus_suc k n = omega arith

none_more : (n : ℕ) → n ≡ 0 + n
none_more n = omega arith

no_more : (n : ℕ) → n + 0 ≡ n
no_more n = omega arith

rest_is : (k n : ℕ) → k < n → k + suc (n - k - 1) ≡ n
rest_is k n below = omega arith

same_number : (k n : ℕ) → k ≤ n → n ≤ k → k ≡ n
same_number k n le ge = omega arith

-- ---- what an outcome leaves, from a moment with this input left and this output put

pub record Ended (old : ExecutionState) (input output : List ℕ) (o : RunResult) (new : ExecutionState) (end : End) : Type 0 where
  pub taken : List ℕ
  pub put : List ℕ
  pub ends : o.end ≡ end
  pub took : input ≡ taken ++ o.state.input
  pub puts : o.state.output ≡ output ++ put
  pub left : new.input ≡ after taken old.input
  pub out : new.out ≡ wrote put old.out
  pub state : o.state ≡ state_of new.hart new.memory.mem o.state.input o.state.output
  pub fetches : AddsFetches o.fetched old.memory new.memory

-- a run of no instruction
ended_none : (m : ExecutionState) (input output : List ℕ) →
    Ended m input output (record { end = Limit; state = state_of m.hart m.memory.mem input output; fetched = [] }) m Limit
ended_none m input output = record {
  taken = [];
  put = [];
  ends = refl;
  took = refl;
  puts = sym (append-nil output);
  left = sym (after_nothing m.input);
  out = sym (wrote_nothing m.out);
  state = refl;
  fetches = fetches_none m.memory;
}

-- an instruction, and then an outcome
module _ (old : ExecutionState) (used_up : Bool) (mid : ExecutionState) (used_up' : Bool) (next : MachineState → Next) where
  ended_after : (s : MachineStep old used_up mid used_up' next) (rest output : List ℕ) (o : RunResult) (new : ExecutionState) (end : End) →
      Ended mid rest (output ++ s.uses.put) o new end →
      Ended old (s.uses.taken ++ rest) output (fetching old.hart.pc o) new end
  ended_after s rest output o new end e = record {
    taken = s.uses.taken ++ e.taken;
    put = s.uses.put ++ e.put;
    ends = e.ends;
    took = ap (λ l. s.uses.taken ++ l) e.took ∙ sym (append_assoc s.uses.taken e.taken o.state.input);
    puts = e.puts ∙ append_assoc output s.uses.put e.put;
    left = e.left ∙ ap (after e.taken) s.uses.input ∙ after_after s.uses.taken e.taken old.input;
    out = e.out ∙ ap (wrote e.put) s.uses.out ∙ wrote_wrote s.uses.put e.put old.out;
    state = e.state;
    fetches = fetches_more (old.hart.pc ∷ []) o.fetched old.memory mid.memory new.memory s.fetches e.fetches;
  }

-- the machine's run from a moment
abbrev pub RunsFrom : ℕ → List ℕ → List ℕ → ExecutionState → ExecutionState → End → Type 0
RunsFrom n input output old new end = Ended old input output (run n (state_of old.hart old.memory.mem input output)) new end

runs_none : (m : ExecutionState) (input output : List ℕ) → RunsFrom 0 input output m m Limit
runs_none m input output = ended_none m input output

-- a step that goes on, and then a run
module _ (old : ExecutionState) (used_up : Bool) (mid : ExecutionState) (used_up' : Bool) where
  runs_on : (s : MachineStep old used_up mid used_up' Goes) (n : ℕ) (rest output : List ℕ) (new : ExecutionState) (end : End) →
      CanBeLeft mid.input used_up' rest → RunsFrom n rest (output ++ s.uses.put) mid new end →
      RunsFrom (suc n) (s.uses.taken ++ rest) output old new end
  runs_on s n rest output new end can runs =
      subst (λ next. Ended old (s.uses.taken ++ rest) output (fetching old.hart.pc (then (run n) next)) new end)
      (sym (s.uses.does rest output can))
      (ended_after old used_up mid used_up' Goes s rest output _ new end runs)

  -- a step that ends the run
  runs_end : (end : End) (s : MachineStep old used_up mid used_up' (Ends end)) (n : ℕ) (rest output : List ℕ) →
      CanBeLeft mid.input used_up' rest → RunsFrom (suc n) (s.uses.taken ++ rest) output old mid end
  runs_end end s n rest output can =
      subst (λ next. Ended old (s.uses.taken ++ rest) output (fetching old.hart.pc (then (run n) next)) mid end)
      (sym (s.uses.does rest output can))
      (ended_after old used_up mid used_up' (Ends end) s rest output _ mid end (ended_here end rest (output ++ s.uses.put)))
    where
      ended_here : (end : End) (input output : List ℕ) →
          Ended mid input output (record { end = end; state = state_of mid.hart mid.memory.mem input output; fetched = [] }) mid end
      ended_here end input output = record {
        taken = [];
        put = [];
        ends = refl;
        took = refl;
        puts = sym (append-nil output);
        left = sym (after_nothing mid.input);
        out = sym (wrote_nothing mid.out);
        state = refl;
        fetches = fetches_none mid.memory;
      }

-- ---- a run so far

-- after `k` instructions the run is at a moment, and whatever run follows there is the rest of one from the first moment
pub record Follows (k : ℕ) (first now : ExecutionState) (used_up : Bool) : Type 0 where
  pub taken : List ℕ
  pub put : List ℕ
  pub left : List ℕ
  pub can : CanBeLeft now.input used_up left
  pub offered : (rest : List ℕ) → CanBeLeft now.input used_up rest → CanBeLeft first.input false (taken ++ rest)
  pub on : (n : ℕ) (rest : List ℕ) (new : ExecutionState) (end : End) → CanBeLeft now.input used_up rest →
      RunsFrom n rest put now new end → RunsFrom (k + n) (taken ++ rest) [] first new end

-- what is left at first: what the input reports, or nothing
left_at : (left : Option (List ℕ)) (faults : ℕ) → (bytes : List ℕ) × CanBeLeft (record { left = left; faults = faults }) false bytes
left_at None faults = ([], record { is_left = tt; none = λ e. absurd (cc e); bytes = λ are. tt })
left_at (Some bytes) faults = (bytes, record { is_left = refl; none = λ e. absurd (cc e); bytes = λ are. are })

pub follows_none : (first : ExecutionState) → Follows 0 first first false
follows_none first =
    let start = left_at first.input.left first.input.faults in
    record {
      taken = [];
      put = [];
      left = start.0;
      can = start.1;
      offered = λ rest can. can;
      on = λ n rest new end can runs. subst (λ k. RunsFrom k rest [] first new end) (none_more n) runs;
    }

pub follows_more : (k : ℕ) (first now next : ExecutionState) (used_up used_up' : Bool) → Follows k first now used_up →
    MachineStep now used_up next used_up' Goes → Follows (k + 1) first next used_up'
follows_more k first now next used_up used_up' f s =
    let over = s.uses.leaves f.left f.can in
    record {
      taken = f.taken ++ s.uses.taken;
      put = f.put ++ s.uses.put;
      left = over.0;
      can = over.1;
      offered = λ rest can.
          subst (CanBeLeft first.input false) (sym (append_assoc f.taken s.uses.taken rest))
          (f.offered (s.uses.taken ++ rest) (s.uses.offered rest can));
      on = λ n rest new end can runs.
          subst (λ l. RunsFrom ((k + 1) + n) l [] first new end) (sym (append_assoc f.taken s.uses.taken rest))
          (subst (λ i. RunsFrom i (f.taken ++ (s.uses.taken ++ rest)) [] first new end) (plus_suc k n)
          (f.on (suc n) (s.uses.taken ++ rest) new end (s.uses.offered rest can)
          (runs_on now used_up next used_up' s n rest f.put new end can runs)));
    }

-- ---- what a call answers

-- a run from the first moment, with its input
runs_to : (n : ℕ) (input : List ℕ) (first new : ExecutionState) (end : End) → CanBeLeft first.input false input →
    RunsFrom n input [] first new end → RunsTo n first new end
runs_to n input first new end can e = record {
  input = input;
  is_left = can.is_left;
  bytes = can.bytes;
  ends = e.ends;
  leaves = record {
    taken = e.taken;
    took = e.took;
    left = e.left;
    put = e.out ∙ ap (λ bytes. wrote bytes first.out) (sym e.puts);
    state = e.state;
    fetches = e.fetches;
  };
}

-- so many instructions went on
reaches : (k : ℕ) (first now : ExecutionState) (used_up : Bool) → Follows k first now used_up → RunsTo k first now Limit
reaches k first now used_up f =
    runs_to k (f.taken ++ f.left) first now Limit (f.offered f.left f.can)
    (subst (λ n. RunsFrom n (f.taken ++ f.left) [] first now Limit) (no_more k)
    (f.on 0 f.left now Limit f.can (runs_none now f.left f.put)))

pub answers_limit : (k n : ℕ) (first now : ExecutionState) (used_up : Bool) → k ≤ n → n ≤ k → Follows k first now used_up → Runs n first now Limit
answers_limit k n first now used_up le ge f = subst (λ i. Runs i first now Limit) (same_number k n le ge) (reaches k first now used_up f)

-- the machine ends the run
ends_at : (k n : ℕ) (first now new : ExecutionState) (used_up used_up' : Bool) (end : End) → k < n → Follows k first now used_up →
    MachineStep now used_up new used_up' (Ends end) → RunsTo n first new end
ends_at k n first now new used_up used_up' end below f s =
    let over = s.uses.leaves f.left f.can in
    runs_to n (f.taken ++ (s.uses.taken ++ over.0)) first new end (f.offered _ (s.uses.offered over.0 over.1))
    (subst (λ i. RunsFrom i (f.taken ++ (s.uses.taken ++ over.0)) [] first new end) (rest_is k n below)
    (f.on (suc (n - k - 1)) (s.uses.taken ++ over.0) new end (s.uses.offered over.0 over.1)
    (runs_end now used_up new used_up' end s (n - k - 1) over.0 f.put over.1)))

pub answers_end : (k n : ℕ) (first now new : ExecutionState) (used_up used_up' : Bool) (end : End) → k < n → Follows k first now used_up →
    Advances now used_up new used_up' (Some end) → Runs n first new end
answers_end k n first now new used_up used_up' (Exit value) below f a = ends_at k n first now new used_up used_up' _ below f a
answers_end k n first now new used_up used_up' (Checked kind line pc) below f a = ends_at k n first now new used_up used_up' _ below f a
answers_end k n first now new used_up used_up' Spent below f a = ends_at k n first now new used_up used_up' _ below f a
answers_end k n first now new used_up used_up' (Trap cause pc value) below f a = ends_at k n first now new used_up used_up' _ below f a
answers_end k n first now new used_up used_up' ReadFault below f a = record { k = k; below = below; at = now; before = reaches k first now used_up f; failure = a }
answers_end k n first now new used_up used_up' WriteFault below f a = record { k = k; below = below; at = now; before = reaches k first now used_up f; failure = a }
answers_end k n first now new used_up used_up' Limit below f a = absurd a

-- one instruction
pub answers_step : (first new : ExecutionState) (used_up' : Bool) (result : Option End) → Advances first false new used_up' result →
    Runs 1 first new (unwrap_or result Limit)
answers_step first new used_up' None a =
    answers_limit 1 1 first new used_up' (lit≤ tt) (lit≤ tt) (follows_more 0 first first new false used_up' (follows_none first) a)
answers_step first new used_up' (Some end) a = answers_end 0 1 first first new false used_up' end (lit< tt) (follows_none first) a
