-- Runs of what a project means are alike, however long they may be, in memories that differ in text which cannot be read.
use Rattle.std.proofs.Common.{◌≡◌, ◌≢◌, ℕ, ◌+◌, ◌*◌, ◌%◌, ◌<◌, ◌≤◌, List, ◌⊎◌, inl, inr, refl, sym, ◌∙◌, subst, arith}
use Rattle.std.specs.List.{AllByRecursion}
use Rattle.pw_tree.specs.Meaning.{Run, meaning, exit, stopped}
use Rattle.pw_tree.specs.Meaning as meant
use Rattle.pw_tree.specs.States.{StopReason, checked, spent}
use Rattle.pw_mem.specs.Memory.{Mem}
use Rattle.pw_hart.specs.declared.ends.End.{End}
use Rattle.pw_hart.specs.declared.ends.End.TheVariants.{Exit, Checked, Spent, Trap, ReadFault, WriteFault, Limit}
use Rattle.pw_hart.specs.State.{MachineState}
use Rattle.pw_hart.specs.Run.{RunResult, run}
use Rattle.pw_simulation.specs.World.{World}
use Rattle.pw_simulation.specs.Sees.{Sees}
use Rattle.pw_simulation.specs.Moments.{IsCode, EndsBy}
use Rattle.pw_simulation.specs.Programs.{IsStart, EndsAs, LiesInKeptCode, IsRunnable, RunsAsMeant}
use Rattle.pw_simulation.specs.AnyRuns.{RunAlike}
use Rattle.pw_simulation.proofs.LimitedRuns.{ended_runs_stay}
use Rattle.pw_simulation.proofs.Runs.{begins_as_meant}
use Rattle.pw_simulation.proofs.Meaning.{the_run_is_the_meaning}
use Rattle.pw_simulation.proofs.AlikeRuns.{over, IsNoTrap, AreAlike, run_alike}

-- ---- what is fetched, and no trap

-- a run fetches from kept code alone, and ends in no trap
record StaysInKeptCode (w : World) (o : RunResult) : Type 0 where
  kept : AllByRecursion (LiesInKeptCode w) o.fetched
  no_trap : IsNoTrap o.end

stops_well : (w : World) (why : StopReason) (end : End) → EndsBy w why end → IsNoTrap end
stops_well w (checked fault d line) end by = λ cause pc value trap. let is = by.1 in cc
stops_well w spent end by = λ cause pc value trap. cc

ends_well : (w : World) (e : meant.End) (end : End) → EndsAs w e end → IsNoTrap end
ends_well w (exit v) end as_meant = λ cause pc value trap. cc
ends_well w (stopped why) end as_meant = stops_well w why end as_meant

meant_stays : (w : World) (means : Run) (bound : ℕ) (o : RunResult) → RunsAsMeant w means bound o → StaysInKeptCode w o
meant_stays w means bound o as_meant = record { kept = as_meant.kept; no_trap = ends_well w means.end o.end as_meant.ends }

at_limit : (end : End) → (end ≡ Limit) ⊎ (end ≢ Limit)
at_limit Limit = inl refl
at_limit (Exit value) = inr (λ e. cc)
at_limit (Checked kind line pc) = inr (λ e. cc)
at_limit Spent = inr (λ e. cc)
at_limit (Trap cause pc value) = inr (λ e. cc)
at_limit ReadFault = inr (λ e. cc)
at_limit WriteFault = inr (λ e. cc)

-- a run that is cut short does the same as far as it goes
short_stays : (w : World) (means : Run) (bound k limit : ℕ) (s : MachineState) → k < limit → RunsAsMeant w means bound (run limit s) →
    StaysInKeptCode w (run k s)
short_stays w means bound k limit s below as_meant = by_end (at_limit (run k s).end)
  where
    by_end : ((run k s).end ≡ Limit) ⊎ ((run k s).end ≢ Limit) → StaysInKeptCode w (run k s)
    by_end (inl cut) = record {
      kept = (begins_as_meant w means bound k limit s below cut as_meant).kept;
      no_trap = λ cause pc value trap. cc;
    }
    by_end (inr ended) =
        subst (StaysInKeptCode w) (ended_runs_stay k limit s (omega arith) ended) (meant_stays w means bound (run limit s) as_meant)

-- ---- two memories

-- two runs that are like a third are alike
pub alike_both : (one first second : RunResult) → RunAlike one first → RunAlike one second → RunAlike first second
alike_both one first second a b = record {
  end = b.end ∙ sym a.end;
  fetched = b.fetched ∙ sym a.fetched;
  output = b.output ∙ sym a.output;
  input = b.input ∙ sym a.input;
}

module _ (w : World) (sees : Sees w) (runnable : IsRunnable w)
    (whole : (at : ℕ) → LiesInKeptCode w at → at % 4 ≡ 0 → IsCode w.code at) where
  pub meant_alike : (input : List ℕ) (bound k : ℕ) (s : MachineState) (n : Mem) → IsStart w input bound s → AreAlike w.code s.mem n →
      RunAlike (run k s) (run k (over n s))
  meant_alike input bound k s n start alike =
      let limit : ℕ = k + 1 + (bound + 1) * w.words in
      let long : (bound + 1) * w.words ≤ limit = omega arith in
      let below : k < limit = omega arith in
      let as_meant = the_run_is_the_meaning w input bound limit s sees runnable start long in
      let stays = short_stays w (meaning w.project input bound) bound k limit s below as_meant in
      run_alike w.code (LiesInKeptCode w) whole k s n alike stays.kept stays.no_trap
