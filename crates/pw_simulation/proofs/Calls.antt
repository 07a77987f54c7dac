-- The law of calls, by the number of steps left.
use Rattle.std.proofs.Common.{◌≡◌, ◌≢◌, ℕ, zero, suc, ◌+◌, ◌*◌, ◌%◌, ◌^◌, ◌<◌, ◌≤◌, List, ◌∷◌, map, unwrap_or, refl, sym, ◌∙◌, ap, subst, arith, pos}
use Rattle.std.proofs.lemmas.Bool.Decides.{nat_tests}
use Rattle.pw_isa.specs.declared.instruction.Inst.TheVariants.{Jalr}
use Rattle.pw_tree.specs.Units.{Function}
use Rattle.pw_tree.specs.Names.{Definition}
use Rattle.pw_tree.specs.States.{Value, State, spent, checked, depth, Outcome, gives, stops, stepped, stepped_from}
use Rattle.pw_tree.specs.Execution.{exec_all}
use Rattle.pw_tree.specs.Meaning.{named_in, call_of, called_function, no_function, entered_from, locals_at_entry}
use Rattle.pw_tree.specs.WellTypedExpressions.{class_of}
use Rattle.pw_mem.specs.Words.{doubleword}
use Rattle.pw_hart.specs.declared.ends.End.TheVariants.{Spent}
use Rattle.pw_hart.specs.State.{MachineState, Goes, set}
use Rattle.pw_hart.specs.Run.{step}
use Rattle.pw_code.specs.Items.{size}
use Rattle.pw_code.specs.Pieces.{fault}
use Rattle.pw_code.specs.FunctionCode.{opens, function_words}
use Rattle.pw_code.proofs.Exports.{size-fault}
use Rattle.pw_simulation.specs.World.{World}
use Rattle.pw_simulation.specs.CodeAt.{HasAt}
use Rattle.pw_simulation.specs.Moments.{IsAt, IsCode, Reaches, Halts, Meets}
use Rattle.pw_simulation.specs.Sees.{Sees, IsKeptFunction}
use Rattle.pw_simulation.specs.Bodies.{HasCallRoom, GivesValue}
use Rattle.pw_simulation.specs.Calls.{AreInRegisters, IsCalling, IsAbove, CallsRun}
use Rattle.pw_simulation.specs.Statements.{StatementsRun}
use Rattle.pw_simulation.specs.Programs.{IsRunnable}
use Rattle.pw_simulation.proofs.Reach.{reaches_here}
use Rattle.pw_simulation.proofs.Steps.{step_call, step_spent}
use Rattle.pw_simulation.proofs.Meets.{halts_as}
use Rattle.pw_simulation.proofs.CallRows.{registers_same}
use Rattle.pw_simulation.proofs.CallPieces.{faults}
use Rattle.pw_simulation.proofs.CallLaws.{opens_there, entered_runs}

-- ---- a counted step, and a stretch after it

module _ (w : World) where
  -- the stretch's own words come with the step
  counted_then : (own more : ℕ) (s t u : MachineState) → IsCode w.code s.pc → step s ≡ Goes t → s.steps ≡ suc t.steps → own + 1 ≤ w.words + more
      → Reaches w.code w.words own t u → Reaches w.code w.words more s u
  counted_then own more s t u here goes steps fits r = record {
    ps = s.pc ∷ r.ps;
    path = (refl, (t, (goes, r.path)));
    inside = (here, r.inside);
    few = let e = ap (λ k. w.words * k) steps in let few = r.few in omega arith;
    down = let down = r.down in omega arith;
  }

  -- and whatever the meaning comes to after it
  pub meets_counted : {A : Type 0} (kept : ℕ → Type 0) (stack_pointer c own : ℕ) (P : A → MachineState → Type 0) (o : Outcome A) (s t : MachineState)
      → IsCode w.code s.pc → step s ≡ Goes t → s.steps ≡ suc t.steps → t.mem ≡ s.mem → own ≤ w.words
      → Meets w kept stack_pointer c own P o t → Meets w kept stack_pointer c 1 P o s
  meets_counted kept stack_pointer c own P (gives a st) s t here goes steps memory fits l = record {
    end = l.end;
    reaches = counted_then own 1 s t l.end here goes steps (omega arith) l.reaches;
    at = l.at;
    keeps = λ p k. l.keeps p k ∙ ap (λ m. doubleword m p) memory;
    holds = l.holds;
  }
  meets_counted kept stack_pointer c own P (stops why st) s t here goes steps memory fits h = record {
    last = h.last;
    before = 0;
    room = omega arith;
    reaches = counted_then h.before 0 s t h.last here goes steps (let room = h.room in omega arith) h.reaches;
    here = h.here;
    end = h.end;
    after = h.after;
    ends = h.ends;
    because = h.because;
    input = h.input;
    output = h.output;
  }

-- ---- calls

set_others : (x : ℕ → ℕ) (v k : ℕ) → 10 ≤ k → set x 1 v k ≡ x k
set_others x v k from = let other : ◌≢◌ {A = ℕ} k 1 = (λ e. omega (arith, e)) in grind (arith, nat_tests)

module _ (w : World) (sees : Sees w) (run : IsRunnable w) (statements_run : StatementsRun) where
  -- what the call of a function comes to once its step was taken
  abbrev entered : ℕ → Definition → List Value → Function → (calls : ℕ) → State → Outcome Value
  entered n d arguments callee calls st =
      entered_from calls d callee
      (exec_all (record { self = d; named = named_in w.project d.in_module d.in_unit; called = call_of w.project n; iterations_left = n }) callee.body (locals_at_entry arguments)) st

  -- no step is left
  no_step : (stack_pointer c : ℕ) (d : Definition) (f : Function) (arguments : List Value) (st : State) (s : MachineState)
      → IsCalling w stack_pointer c d f arguments st s → st.steps ≡ 0 → Halts w 1 spent st s
  no_step stack_pointer c d f arguments st s calling none =
      let there = sees.function_places d calling.function.kept in
      let at = calling.at in
      record {
        last = s;
        before = 0;
        room = omega arith;
        reaches = reaches_here w.code w.words s;
        here = record { inst = Jalr 1 5 (pos 0); there = calling.here };
        end = Spent;
        after = s;
        ends = step_spent w sees.apart s 5 (w.function_place d) at.ready calling.here calling.target there.even (let low = there.low in omega arith) (at.steps ∙ none);
        because = refl;
        input = at.input;
        output = at.output;
      }

  -- from the function's first word, with so many calls left
  entered_by : (n stack_pointer c to : ℕ) (d : Definition) (f : Function) (arguments : List Value) (st : State) (t : MachineState)
      → CallsRun w (call_of w.project n) n
      → IsKeptFunction w d f → HasCallRoom w stack_pointer c → stack_pointer ≤ w.stack_high → stack_pointer % 16 ≡ 0
      → IsAt w stack_pointer c st t → st.steps ≤ n → t.pc ≡ w.function_place d → t.x 1 ≡ to → to % 4 ≡ 0 → to < 2 ^ 64
      → AreInRegisters w 10 (map class_of f.sig.params) arguments t.x
      → Meets w (IsAbove stack_pointer) stack_pointer c (function_words f) (GivesValue w (class_of f.sig.result) to) (entered n d arguments f c st) t
  entered_by n stack_pointer zero to d f arguments st t calls kept room high even at fuel here link whole small loaded =
      let r = run.functions d f kept in
      let there = subst (λ p. HasAt w d.in_module d.in_unit p (opens f)) (sym here) (opens_there w sees d f kept) in
      halts_as w (1 + size (fault 4 f.line)) (function_words f) (checked depth d f.line) st t (omega (arith, size-fault 4 f.line))
      (faults w sees d f kept r d.in_module d.in_unit st t stack_pointer at here there)
  entered_by n stack_pointer (suc c) to d f arguments st t calls kept room high even at fuel here link whole small loaded =
      entered_runs w sees d f kept (run.functions d f kept) stack_pointer c room high even statements_run n to arguments st t calls at fuel here link whole small loaded

  -- a call with so many steps left
  call_by : (n left stack_pointer c : ℕ) (d : Definition) (f : Function) (arguments : List Value) (st : State) (s : MachineState)
      → CallsRun w (call_of w.project n) n
      → IsCalling w stack_pointer c d f arguments st s → st.steps ≤ suc n → st.steps ≡ left
      → Meets w (IsAbove stack_pointer) stack_pointer c 1 (GivesValue w (class_of f.sig.result) (s.pc + 4)) (stepped_from left (λ st. entered n d arguments f st.calls st) st) s
  call_by n zero stack_pointer c d f arguments st s calls calling fuel is = no_step stack_pointer c d f arguments st s calling is
  call_by n (suc left) stack_pointer c d f arguments st s calls calling fuel is =
      let there = sees.function_places d calling.function.kept in
      let at = calling.at in
      let low = sees.apart.code_low s.pc (Jalr 1 5 (pos 0)) calling.here in
      let whole = sees.apart.code_even s.pc (Jalr 1 5 (pos 0)) calling.here in
      let steps : s.steps ≡ suc left = at.steps ∙ is in
      let t : MachineState = record s { x = set s.x 1 (s.pc + 4); pc = w.function_place d; steps = left } in
      let later : State = record st { steps = left } in
      let at_t : IsAt w stack_pointer c later t = record {
        ready = at.ready;
        variables = at.variables;
        stack = at.stack;
        register = at.register;
        calls = at.calls;
        few = at.few;
        steps = refl;
        input = at.input;
        output = at.output;
        bytes = at.bytes;
      } in
      let goes = step_call w sees.apart s 5 (w.function_place d) left at.ready calling.here calling.target there.even (let l = there.low in omega arith) steps in
      let loaded = registers_same w 10 (map class_of f.sig.params) arguments s.x t.x (set_others s.x (s.pc + 4)) calling.arguments_are in
      let runs = entered_by n stack_pointer c (s.pc + 4) d f arguments later t calls calling.function calling.room calling.high calling.even at_t (omega arith) refl refl (omega arith) (omega arith) loaded in
      meets_counted w (IsAbove stack_pointer) stack_pointer c (function_words f) (GivesValue w (class_of f.sig.result) (s.pc + 4)) (entered n d arguments f st.calls later) s t
      (record { inst = Jalr 1 5 (pos 0); there = calling.here }) goes steps refl (sees.few_words d f calling.function)
      (subst (λ k. Meets w (IsAbove stack_pointer) stack_pointer c (function_words f) (GivesValue w (class_of f.sig.result) (s.pc + 4)) (entered n d arguments f k later) t) (sym at.calls) runs)

  -- every call
  pub calls_run : (n : ℕ) → CallsRun w (call_of w.project n) n
  calls_run zero stack_pointer c d f arguments st s calling fuel = no_step stack_pointer c d f arguments st s calling (omega arith)
  calls_run (suc n) stack_pointer c d f arguments st s calling fuel =
      let callee : f ≡ called_function w.project d = sym (ap (λ o. unwrap_or o no_function) calling.function.there) in
      subst (λ g. Meets w (IsAbove stack_pointer) stack_pointer c 1 (GivesValue w (class_of f.sig.result) (s.pc + 4)) (stepped (λ st. entered n d arguments g st.calls st) st) s) callee
      (call_by n st.steps stack_pointer c d f arguments st s (calls_run n) calling fuel refl)
