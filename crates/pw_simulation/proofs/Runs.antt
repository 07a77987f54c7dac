-- Whole runs: the entry calls `main`, and the run ends with what that comes to.
use Rattle.std.proofs.Common.{◌≡◌, ◌≢◌, ℕ, ◌+◌, ◌*◌, ◌<◌, ◌≤◌, List, [], ◌∷◌, ◌++◌, length, length-append, map, refl, sym, ◌∙◌, ap, subst, arith, codes, pos}
use Rattle.std.specs.List.{AllByRecursion}
use Rattle.pw_isa.specs.declared.instruction.Inst.TheVariants.{Addi, Ecall}
use Rattle.pw_tree.specs.declared.ty.Ref.TheVariants.{Global}
use Rattle.pw_tree.specs.States.{Value, null, pointer, as_number, State, Outcome, gives, stops}
use Rattle.pw_tree.specs.States as values
use Rattle.pw_tree.specs.Meaning.{call_of, definition_or_first, initial_state, Run, run_of, meaning, main_definition}
use Rattle.pw_tree.specs.WellTypedExpressions.{class_of, number}
use Rattle.pw_hart.specs.declared.ends.End.{End}
use Rattle.pw_hart.specs.declared.ends.End.TheVariants.{Exit, Limit}
use Rattle.pw_hart.specs.State.{MachineState, Ends, set}
use Rattle.pw_hart.specs.Run.{run, step}
use Rattle.pw_code.specs.Items.{instruction}
use Rattle.pw_code.specs.FunctionCode.{entry_code}
use Rattle.pw_simulation.specs.World.{World, entity_place}
use Rattle.pw_simulation.specs.CodeAt.{HasAt}
use Rattle.pw_simulation.specs.Values.{Represents}
use Rattle.pw_simulation.specs.Moments.{IsCode, Reaches, Meets}
use Rattle.pw_simulation.specs.Sees.{Sees, IsKeptFunction}
use Rattle.pw_simulation.specs.Bodies.{GivesValue}
use Rattle.pw_simulation.specs.Calls.{AreInRegisters, IsCalling, IsAbove, CallsRun}
use Rattle.pw_simulation.specs.Programs.{HasMain, LiesInKeptCode, IsRunnable, IsStart, EndsAs, RunsAsMeant}
use Rattle.pw_simulation.specs.AnyRuns.{BeginsAsMeant}
use Rattle.pw_simulation.proofs.Reach.{run_to_end, all_append, reaches_then, reaches_as}
use Rattle.pw_simulation.proofs.Steps.{step_is, Moves, moves_then, moves_last, moves_on}
use Rattle.pw_simulation.proofs.Pieces.{address_runs}
use Rattle.pw_simulation.proofs.LimitedRuns.{limited_runs_go_on, fetched_next}

module _ (w : World) (sees : Sees w) (runnable : IsRunnable w) (input : List ℕ) (bound : ℕ) (s : MachineState) (start : IsStart w input bound s) where
  abbrev main : HasMain w
  main = runnable.main

  abbrev first : State
  first = initial_state w.project input bound

  -- ---- up to the call of `main`

  main_kept : IsKeptFunction w main.d main.function_is
  main_kept = record { there = main.there; kept = sees.closed.main main.d main.found }

  entry_there : HasAt w 0 0 s.pc entry_code
  entry_there = subst (λ p. HasAt w 0 0 p entry_code) (sym start.place) sees.has_entry

  -- The machine is about to call `main`.
  record CallsMain : Type 0 where
    at_call : MachineState
    reaches : Reaches w.code w.words 3 s at_call
    pc : at_call.pc ≡ s.pc + 12
    calling : IsCalling w w.stack_high 1000 main.d main.function_is [] first at_call

  calls_main : CallsMain
  calls_main =
      let code = entry_there in
      let t : MachineState = record s { x = set s.x 9 1000; pc = s.pc + 4 } in
      let go : Moves w s t = moves_on w sees.apart s (Addi 9 0 (pos 1000)) t.x start.ready code.0 refl in
      let brought = address_runs w sees.apart 0 0 4 (Global (codes "main")) t start.ready code.1.0 in
      let u : MachineState = record t { x = brought.registers; pc = t.pc + 8 } in
      record {
        at_call = u;
        reaches = moves_then w 2 s t u go brought.reaches;
        pc = omega arith;
        calling = record {
          function = main_kept;
          at = record {
            ready = start.ready;
            variables = start.variables;
            stack = brought.puts.others 2 two ∙ start.stack;
            register = brought.puts.others 9 nine;
            calls = refl;
            few = omega arith;
            steps = start.steps;
            input = start.input_is;
            output = start.output_is;
            bytes = start.bytes;
          };
          room = runnable.stack.room;
          high = omega arith;
          even = runnable.stack.even;
          here = code.1.1.0;
          target = brought.puts.is ∙ ap (entity_place w) main.found;
          arguments_are = subst (λ tys. AreInRegisters w 10 (map class_of tys) [] u.x) (sym main.parameters) tt;
        };
      }
    where
      two : ◌≢◌ {A = ℕ} 2 5
      two e = cc

      nine : ◌≢◌ {A = ℕ} 9 5
      nine e = cc

  -- ---- the end

  -- The run ends as the meaning does.
  record Finishes (means : Run) : Type 0 where
    last : MachineState
    reaches : Reaches w.code w.words 5 s last
    here : IsCode w.code last.pc
    end : End
    after : MachineState
    ends : step last ≡ Ends end after
    because : EndsAs w means.end end
    input_left : after.input ≡ means.rest
    output : after.output ≡ means.output

  -- a number in a0 is the exit's value
  exit_value : (v : Value) (n : ℕ) → Represents w number v n → n ≡ as_number v
  exit_value (values.number k) n h = h.0
  exit_value null n h = absurd h
  exit_value (pointer f) n h = absurd h

  finishes : (c : CallsMain) (o : Outcome Value)
      → Meets w (IsAbove w.stack_high) w.stack_high 1000 1 (GivesValue w (class_of main.function_is.sig.result) (c.at_call.pc + 4)) o c.at_call → Finishes (run_of o)
  finishes c (gives v st) l =
      let t : MachineState = l.end in
      let behind : s.pc + 4 + 8 + 4 ≡ t.pc = let e = l.holds.0 in let f = c.pc in omega arith in
      let code = subst (λ p. HasAt w 0 0 p (instruction (Addi 17 0 (pos 93)) ∷ instruction Ecall ∷ [])) behind entry_there.1.1.1 in
      let u : MachineState = record t { x = set t.x 17 93; pc = t.pc + 4 } in
      let go : Moves w t u = moves_on w sees.apart t (Addi 17 0 (pos 93)) u.x l.at.ready code.0 refl in
      let ends : step u ≡ Ends (Exit (t.x 10)) u = step_is w u Ecall l.at.ready code.1.0 in
      let value : t.x 10 ≡ as_number v = exit_value v (t.x 10) (subst (λ k. Represents w k v (t.x 10)) main.result l.holds.1) in
      record {
        last = u;
        reaches = reaches_then w.code w.words 3 2 s c.at_call u c.reaches (reaches_then w.code w.words 1 1 c.at_call t u l.reaches (moves_last w t u go));
        here = record { inst = Ecall; there = code.1.0 };
        end = Exit (t.x 10);
        after = u;
        ends = ends;
        because = ap Exit value;
        input_left = l.at.input;
        output = l.at.output;
      }
  finishes c (stops why st) h = record {
    last = h.last;
    reaches = reaches_as w.code w.words (3 + h.before) 5 s h.last (let room = h.room in omega arith) (reaches_then w.code w.words 3 h.before s c.at_call h.last c.reaches h.reaches);
    here = h.here;
    end = h.end;
    after = h.after;
    ends = h.ends;
    because = h.because;
    input_left = h.input;
    output = h.output;
  }

  all_kept : (ps : List ℕ) → AllByRecursion (IsCode w.code) ps → AllByRecursion (LiesInKeptCode w) ps
  all_kept [] h = tt
  all_kept (p ∷ ps) h = (runnable.nothing_else p h.0, all_kept ps h.1)

  -- the texts have more words than the entry
  some_words : 6 ≤ w.words
  some_words = omega (arith, sees.few_words main.d main.function_is main_kept)

  within : (n words steps left : ℕ) → n + words * left ≤ 5 + words * steps → 6 ≤ words → n + 1 ≤ (steps + 1) * words
  within n words steps left few some = omega arith

  as_meant : (means : Run) (limit : ℕ) → (bound + 1) * w.words ≤ limit → Finishes means → RunsAsMeant w means bound (run limit s)
  as_meant means limit enough f =
      let r = f.reaches in
      let count : length r.ps + 1 ≤ (bound + 1) * w.words = within (length r.ps) w.words bound f.last.steps (subst (λ k. length r.ps + w.words * f.last.steps ≤ 5 + w.words * k) start.steps r.few) some_words in
      let long : length r.ps + 1 ≤ limit = omega arith in
      let is = run_to_end s f.last f.after r.ps f.end limit r.path f.ends long in
      subst (λ o. RunsAsMeant w means bound o) (sym is) (record {
        ends = f.because;
        writes = f.output;
        reads = f.input_left;
        kept = all_append (LiesInKeptCode w) r.ps (f.last.pc ∷ []) (all_kept r.ps r.inside) (runnable.nothing_else f.last.pc f.here, tt);
        few = subst (λ k. k ≤ (bound + 1) * w.words) (sym (length-append r.ps (f.last.pc ∷ []))) count;
      })

  pub runs : CallsRun w (call_of w.project bound) bound → (limit : ℕ) → (bound + 1) * w.words ≤ limit
      → RunsAsMeant w (meaning w.project input bound) bound (run limit s)
  runs calls limit enough =
      let c = calls_main in
      let main_is : main.d ≡ main_definition w.project = sym (ap definition_or_first main.found) in
      let met = calls w.stack_high 1000 main.d main.function_is [] first c.at_call c.calling (omega arith) in
      as_meant (meaning w.project input bound) limit enough
      (subst (λ d. Finishes (run_of (call_of w.project bound d [] first))) main_is (finishes c (call_of w.project bound main.d [] first) met))

-- ---- runs that are cut short

left_kept : (P : ℕ → Type 0) (ps qs : List ℕ) → AllByRecursion P (ps ++ qs) → AllByRecursion P ps
left_kept P [] qs h = tt
left_kept P (p ∷ ps) qs h = (h.0, left_kept P ps qs h.1)

first_kept : (P : ℕ → Type 0) (ps qs : List ℕ) (p : ℕ) → AllByRecursion P (ps ++ p ∷ qs) → P p
first_kept P [] qs p h = h.0
first_kept P (q ∷ ps) qs p h = first_kept P ps qs p h.1

-- the beginning of a run that is as meant
pub begins_as_meant : (w : World) (means : Run) (bound k limit : ℕ) (s : MachineState) → k < limit → (run k s).end ≡ Limit
    → RunsAsMeant w means bound (run limit s) → BeginsAsMeant w means (run k s)
begins_as_meant w means bound k limit s below e o =
    let longer = limited_runs_go_on k limit s (omega arith) e in
    let next = fetched_next k limit s below e in
    let all = subst (λ ps. AllByRecursion (LiesInKeptCode w) ps) next.1 o.kept in
    record {
      more_output = longer.more_output;
      output = sym o.writes ∙ longer.output;
      taken = longer.taken;
      input = longer.input ∙ ap (λ rest. longer.taken ++ rest) o.reads;
      kept = left_kept (LiesInKeptCode w) (run k s).fetched ((run k s).state.pc ∷ next.0) all;
      next = first_kept (LiesInKeptCode w) (run k s).fetched next.0 (run k s).state.pc all;
    }
