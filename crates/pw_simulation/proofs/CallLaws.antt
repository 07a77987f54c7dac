-- The law of calls: the call takes a step, the frame is opened, the body runs, and the frame is left.
use Rattle.std.proofs.Common.{◌≡◌, ℕ, zero, suc, ◌+◌, ◌*◌, ◌%◌, ◌^◌, ◌<◌, ◌≤◌, true, false, List, ◌∷◌, ◌++◌, length, map, refl, sym, ◌∙◌, ap, subst, arith, Some, None, pos, inr}
use Rattle.std.specs.Prelude.{Option}
use Rattle.std.proofs.lemmas.List.{length-map}
use Rattle.pw_isa.specs.declared.instruction.Inst.TheVariants.{Addi}
use Rattle.pw_tree.specs.declared.ty.Ty.{Ty}
use Rattle.pw_tree.specs.Units.{Function}
use Rattle.pw_tree.specs.Names.{Definition}
use Rattle.pw_tree.specs.States.{Value, value_or_zero, State, Outcome, gives, stops, and_then}
use Rattle.pw_tree.specs.Execution.{Completion, normal, broke, continued, returned, exec_all}
use Rattle.pw_tree.specs.Meaning.{call_of, result_of, call_returns, locals_at_entry}
use Rattle.pw_tree.specs.WellTypedExpressions.{Class, class_of}
use Rattle.pw_tree.specs.WellTypedUnits.{below}
use Rattle.pw_mem.specs.Words.{doubleword}
use Rattle.pw_hart.specs.State.{MachineState, set}
use Rattle.pw_code.specs.Items.{CodePart, size}
use Rattle.pw_code.specs.StatementCode.{statements_words, statements_code}
use Rattle.pw_code.specs.FunctionCode.{frame_of, store_parameters, opens, opens_words, falls_off, closes, function_targets, function_code, function_words}
use Rattle.pw_code.proofs.Exports.{size-append, size-load_immediate, size-fault, size-statements, function_is_short}
use Rattle.pw_simulation.specs.World.{World}
use Rattle.pw_simulation.specs.CodeAt.{HasAt}
use Rattle.pw_simulation.specs.Memories.{Keeps}
use Rattle.pw_simulation.specs.Values.{Represents}
use Rattle.pw_simulation.specs.Moments.{IsAt, Reaches, Lands, Meets}
use Rattle.pw_simulation.specs.Sees.{Sees, IsKeptFunction}
use Rattle.pw_simulation.specs.Bodies.{Body, HasFrame, HasCallRoom, RepresentsLocal, context_of, IsReadyFor, Stands, GivesValue}
use Rattle.pw_simulation.specs.Calls.{AreInRegisters, IsAbove, CallsRun}
use Rattle.pw_simulation.specs.Statements.{IsKeptBody, word_place, IsPastSlots, Surroundings, IsAboutToRun, RepresentsReturned, CompletesAt, AreStatementsOf, StatementsRun}
use Rattle.pw_simulation.specs.Programs.{body_of, IsRunnableFunction}
use Rattle.pw_simulation.proofs.Reach.{reaches_then, reaches_as}
use Rattle.pw_simulation.proofs.Placed.{has_prefix, has_rest}
use Rattle.pw_simulation.proofs.Steps.{Moves, moves_then, moves_on}
use Rattle.pw_simulation.proofs.Meets.{moved_at, halts_as, meets_after, meets_as}
use Rattle.pw_simulation.proofs.Rows.{local_represents}
use Rattle.pw_simulation.proofs.CallRows.{registers_same}
use Rattle.pw_simulation.proofs.CallPieces.{base, frame, past_frame, return_place, opens_runs, closes_runs}
use Rattle.pw_simulation.proofs.Parameters.{value_classes, stores_run, parameters_carried}

-- ---- sizes

size-parameters : (i n : ℕ) → size (store_parameters i n) ≡ n
unfolding size store_parameters
size-parameters i zero = refl
size-parameters i (suc n) = omega (arith, size-parameters (suc i) n)

size-opens : (f : Function) → size (opens f) ≡ opens_words f
unfolding size
size-opens f = simp size-append (omega (arith, size-load_immediate 11 f.line, size-parameters 0 (length f.sig.params)))

-- the first part of the code of a function
pub opens_there : (w : World) → Sees w → (d : Definition) (f : Function) → IsKeptFunction w d f
    → HasAt w d.in_module d.in_unit (w.function_place d) (opens f)
opens_there w sees d f kept =
    let body : List CodePart = statements_code (frame_of f) (function_targets f) (opens_words f) f.body in
    has_prefix w d.in_module d.in_unit (w.function_place d) (opens f) body
    (has_prefix w d.in_module d.in_unit (w.function_place d) (opens f ++ body) (falls_off ∷ closes f) (sees.functions d f kept))

-- ---- a call of a function, from a stack pointer, that leaves so many calls

module _ (w : World) (sees : Sees w) (d : Definition) (f : Function) (kept : IsKeptFunction w d f) (r : IsRunnableFunction w d f)
    (stack_pointer c : ℕ) (room : HasCallRoom w stack_pointer (suc c)) (high : stack_pointer ≤ w.stack_high) (even : stack_pointer % 16 ≡ 0) where
  -- the body in its frame
  abbrev b : Body
  b = body_of d r.unit r.typed.classes f (base w sees d f kept r stack_pointer c room high even) c

  b_frame : HasFrame w b
  b_frame = frame w sees d f kept r stack_pointer c room high even

  -- no loop is round the body
  abbrev around : Surroundings
  around = record { in_loop = false; targets = function_targets f; result = class_of f.sig.result }

  abbrev parameters : ℕ
  parameters = length f.sig.params

  abbrev statements : List CodePart
  statements = statements_code (frame_of f) (function_targets f) (opens_words f) f.body

  -- where a word of the function stands
  abbrev place : ℕ → ℕ
  place at = word_place w b at

  size-body : size statements ≡ statements_words f.body
  size-body = size-statements (frame_of f) (function_targets f) (opens_words f) f.body

  -- ---- where the code stands

  all_there : HasAt w d.in_module d.in_unit (w.function_place d) (function_code f)
  all_there = sees.functions d f kept

  statements_there : HasAt w d.in_module d.in_unit (place (opens_words f)) statements
  statements_there =
      subst (λ n. HasAt w d.in_module d.in_unit (w.function_place d + 4 * n) statements) (size-opens f)
      (has_rest w d.in_module d.in_unit (w.function_place d) (opens f) statements (has_prefix w d.in_module d.in_unit (w.function_place d) (opens f ++ statements) (falls_off ∷ closes f) all_there))

  end_there : HasAt w d.in_module d.in_unit (place (opens_words f + statements_words f.body)) (falls_off ∷ closes f)
  end_there =
      subst (λ n. HasAt w d.in_module d.in_unit (w.function_place d + 4 * n) (falls_off ∷ closes f))
      (size-append (opens f) statements ∙ ap (λ n. n + size statements) (size-opens f) ∙ ap (λ n. opens_words f + n) size-body)
      (has_rest w d.in_module d.in_unit (w.function_place d) (opens f ++ statements) (falls_off ∷ closes f) all_there)

  -- ---- the body

  body_stands : Stands w b (place (opens_words f)) statements
  body_stands = record {
    code_at = statements_there;
    body = f;
    there = kept.there;
    short = function_is_short r.unit f r.typed;
    from = omega arith;
    to = omega (arith, size-body);
  }

  about_to_run : (s : MachineState) → s.pc ≡ place (opens_words f) → IsAboutToRun w b around (opens_words f) statements s
  about_to_run s here = record {
    here = here;
    code_there = subst (λ p. Stands w b p statements) (sym here) body_stands;
    ahead = record {
      for_return = record { from = omega (arith, size-body); near = omega (arith, function_is_short r.unit f r.typed) };
      for_break = λ e. cc;
      for_continue = λ e. cc;
    };
  }

  kept_body : IsKeptBody w b
  kept_body = record { kept = kept.kept; each = r.typed.are_classes.each; values = r.typed.are_classes.values }

  statements_of : AreStatementsOf w b around (below parameters) f.body
  statements_of = record {
    fits = r.typed.fits;
    reads = r.typed.reads;
    loops = r.typed.loops;
    simple_parts = r.typed.simple_parts;
    numbers = r.typed.numbers;
    held = omega (arith, r.typed.held);
    links = r.links b.stack_pointer c;
  }

  -- where the run stands after the body
  abbrev Ends : Completion → MachineState → Type 0
  Ends = CompletesAt w b around (below parameters) (below parameters) (opens_words f + statements_words f.body)

  body_runs : StatementsRun → (n : ℕ) (arguments : List Value) (st : State) (s : MachineState) → CallsRun w (call_of w.project n) n
      → IsReadyFor w b (below parameters) (locals_at_entry arguments) n st s → s.pc ≡ place (opens_words f)
      → Meets w (IsPastSlots b) b.stack_pointer c (statements_words f.body) Ends (exec_all (context_of w b (call_of w.project n) n) f.body (locals_at_entry arguments) st) s
  body_runs statements_run n arguments st s calls ready here =
      subst (λ k. Meets w (IsPastSlots b) b.stack_pointer c k (CompletesAt w b around (below parameters) (below parameters) (opens_words f + k)) (exec_all (context_of w b (call_of w.project n) n) f.body (locals_at_entry arguments) st) s) size-body
      (statements_run w b around (below parameters) n (opens_words f) (call_of w.project n) f.body sees b_frame kept_body calls statements_of (locals_at_entry arguments) st s ready (about_to_run s here))

  -- ---- after the body

  -- what a call gives, back at the caller
  abbrev Gives : (to : ℕ) → Value → MachineState → Type 0
  Gives to = GivesValue w (class_of f.sig.result) to

  abbrev Returns : (to : ℕ) → Completion → State → MachineState → Type 0
  Returns to done st t = Lands w (IsAbove stack_pointer) stack_pointer (suc c) 5 (record st { calls = suc st.calls }) t (Gives to (result_of f.sig.result done))

  -- The frame is left, from the place where that begins.
  leaves : (to v : ℕ) (x : Value) (st : State) (t : MachineState) → IsAt w b.stack_pointer c st t → suc c ≤ 1000
      → doubleword t.mem (return_place w sees d f kept r stack_pointer c room high even) ≡ Some to → to % 4 ≡ 0 → to < 2 ^ 64
      → HasAt w d.in_module d.in_unit t.pc (closes f) → t.x 10 ≡ v → Represents w (class_of f.sig.result) x v
      → Lands w (IsAbove stack_pointer) stack_pointer (suc c) 4 (record st { calls = suc st.calls }) t (Gives to x)
  leaves to v x st t at few saved whole small here value stands_for =
      let k = closes_runs w sees d f kept r stack_pointer c room high even d.in_module d.in_unit to st t at few saved whole small here in
      record {
        end = k.end;
        reaches = k.reaches;
        at = k.at;
        keeps = λ a _. ap (λ m. doubleword m a) k.memory;
        holds = (k.pc, subst (λ n. Represents w (class_of f.sig.result) x n) (sym (k.value ∙ value)) stands_for);
      }

  -- what is returned stands for the result
  returned_represents : (x : Option Value) (v : ℕ) → RepresentsReturned w (class_of f.sig.result) x v
      → Represents w (class_of f.sig.result) (value_or_zero f.sig.result x) v
  returned_represents (Some x) v h = h
  returned_represents None v h = subst (λ k. Represents w k (value_or_zero f.sig.result None) v) (sym h) tt

  returns_run : (to : ℕ) (done : Completion) (st : State) (t : MachineState) → IsAt w b.stack_pointer c st t → suc c ≤ 1000
      → doubleword t.mem (return_place w sees d f kept r stack_pointer c room high even) ≡ Some to → to % 4 ≡ 0 → to < 2 ^ 64 → Ends done t → Returns to done st t
  returns_run to (normal locals) st t at few saved whole small ends =
      let there = subst (λ p. HasAt w d.in_module d.in_unit p (falls_off ∷ closes f)) (sym ends.0) end_there in
      let u : MachineState = record t { x = set t.x 10 0; pc = t.pc + 4 } in
      let go : Moves w t u = moves_on w sees.apart t (Addi 10 0 (pos 0)) u.x at.ready there.0 refl in
      let at_u = moved_at w b.stack_pointer c st t u.x u.pc at refl refl in
      let l = leaves to 0 (result_of f.sig.result (normal locals)) st u at_u few saved whole small there.1 refl (local_represents w f.sig.result None 0 (none_represents f.sig.result)) in
      record { end = l.end; reaches = moves_then w 4 t u l.end go l.reaches; at = l.at; keeps = l.keeps; holds = l.holds }
    where
      none_represents : (ty : Ty) → RepresentsLocal w (class_of ty) None 0
      none_represents ty = refl
  returns_run to (returned x) st t at few saved whole small ends =
      let next : place (opens_words f + statements_words f.body) + 4 ≡ place (opens_words f + (statements_words f.body + 1)) = omega arith in
      let there = subst (λ p. HasAt w d.in_module d.in_unit p (closes f)) (next ∙ sym ends.0) end_there.1 in
      let l = leaves to (t.x 10) (result_of f.sig.result (returned x)) st t at few saved whole small there refl (returned_represents x (t.x 10) ends.1) in
      record { end = l.end; reaches = reaches_as w.code w.words 4 5 t l.end (omega arith) l.reaches; at = l.at; keeps = l.keeps; holds = l.holds }
  returns_run to (broke locals) st t at few saved whole small ends = let no : false ≡ true = ends.0 in cc
  returns_run to (continued locals) st t at few saved whole small ends = let no : false ≡ true = ends.0 in cc

  -- whatever the body comes to
  call_ends : (to own : ℕ) (o : Outcome Completion) (s : MachineState) → suc c ≤ 1000
      → doubleword s.mem (return_place w sees d f kept r stack_pointer c room high even) ≡ Some to → to % 4 ≡ 0 → to < 2 ^ 64
      → Meets w (IsPastSlots b) b.stack_pointer c own Ends o s
      → Meets w (IsAbove stack_pointer) stack_pointer (suc c) (own + 5) (Gives to) (and_then o (call_returns f.sig.result)) s
  call_ends to own (gives done st) s few saved whole small l =
      let kept_saved = l.keeps (return_place w sees d f kept r stack_pointer c room high even) (omega arith) ∙ saved in
      let k = returns_run to done st l.end l.at few kept_saved whole small l.holds in
      record {
        end = k.end;
        reaches = reaches_then w.code w.words own 5 s l.end k.end l.reaches k.reaches;
        at = k.at;
        keeps = λ a above. k.keeps a above ∙ l.keeps a (past_slots a above);
        holds = k.holds;
      }
    where
      past_slots : (a : ℕ) → IsAbove stack_pointer a → IsPastSlots b a
      past_slots a above = past_frame w sees d f kept r stack_pointer c room high even a above
  call_ends to own (stops why st) s few saved whole small h = halts_as w own (own + 5) why st s (omega arith) h

  -- ---- from the function's first word

  arguments_few : length (map class_of f.sig.params) ≡ parameters
  arguments_few = length-map f.sig.params class_of

  -- what a call does once its step was taken, with a call left
  pub entered_runs : StatementsRun → (n to : ℕ) (arguments : List Value) (st : State) (t : MachineState) → CallsRun w (call_of w.project n) n
      → IsAt w stack_pointer (suc c) st t → st.steps ≤ n → t.pc ≡ w.function_place d → t.x 1 ≡ to → to % 4 ≡ 0 → to < 2 ^ 64
      → AreInRegisters w 10 (map class_of f.sig.params) arguments t.x
      → Meets w (IsAbove stack_pointer) stack_pointer (suc c) (function_words f) (Gives to)
      (and_then (exec_all (context_of w b (call_of w.project n) n) f.body (locals_at_entry arguments) (record st { calls = c })) (call_returns f.sig.result)) t
  entered_runs statements_run n to arguments st t calls at fuel here link whole small loaded =
      let cs : List Class = map class_of f.sig.params in
      let m : ℕ = d.in_module in
      let u : ℕ = d.in_unit in
      let typed = r.typed in
      let left : State = record st { calls = c } in
      let o = opens_runs w sees d f kept r stack_pointer c room high even m u st t at (subst (λ k. k < 2 ^ 64) (sym link) small) (subst (λ p. HasAt w m u p (opens f)) (sym here) (opens_there w sees d f kept)) in
      let there = subst (λ k. HasAt w m u o.end.pc (store_parameters 0 k)) (sym arguments_few) o.stores in
      let few : 0 + length cs ≤ f.locals = omega (arith, arguments_few, typed.parameters) in
      let p = stores_run w sees b b_frame m u 0 cs arguments left o.end o.at few (value_classes f.sig.params typed.signature.params)
      (registers_same w 10 cs arguments t.x o.end.x o.arguments loaded) there in
      let v : MachineState = record o.end { mem = p.memory; pc = o.end.pc + 4 * length cs } in
      let at_body : v.pc ≡ place (opens_words f) = omega (arith, o.pc, here, arguments_few, size-fault 4 f.line) in
      let saved : doubleword v.mem (return_place w sees d f kept r stack_pointer c room high even) ≡ Some to =
      p.keeps (return_place w sees d f kept r stack_pointer c room high even) (inr (omega arith)) ∙ o.saved ∙ ap Some link in
      let ready : IsReadyFor w b (below parameters) (locals_at_entry arguments) n left v = record {
        at = p.at;
        carried = parameters_carried w sees b b_frame v.mem cs arguments parameters (sym arguments_few) typed.are_classes.parameters typed.parameters p.stored;
        fuel = fuel;
      } in
      let runs = body_runs statements_run n arguments left v calls ready at_body in
      let outcome = exec_all (context_of w b (call_of w.project n) n) f.body (locals_at_entry arguments) left in
      let ends = call_ends to (statements_words f.body) outcome v at.few saved whole small runs in
      let reach : Reaches w.code w.words (4 + length cs) t v = reaches_then w.code w.words 4 (length cs) t o.end v o.reaches p.reaches in
      let keeps : Keeps (IsAbove stack_pointer) t.mem v.mem = (λ a above. p.keeps a (inr (let past = past_frame w sees d f kept r stack_pointer c room high even a above in omega arith)) ∙ o.keeps a above) in
      meets_as w (IsAbove stack_pointer) stack_pointer (suc c) (4 + length cs + (statements_words f.body + 5)) (function_words f) (Gives to) (Gives to) (and_then outcome (call_returns f.sig.result)) t
      (omega (arith, arguments_few)) (λ x s g. g)
      (meets_after w (IsAbove stack_pointer) (IsAbove stack_pointer) stack_pointer (suc c) (4 + length cs) (statements_words f.body + 5) (Gives to) (and_then outcome (call_returns f.sig.result)) t v (λ _ k. k) reach keeps ends)
