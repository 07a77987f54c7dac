-- Loops: an iteration's parts, and one iteration after another by the steps that are left.
use Rattle.std.proofs.Common.{◌≡◌, ◌≢◌, ℕ, zero, suc, ◌+◌, ◌*◌, ◌^◌, ◌<◌, ◌≤◌, Bool, true, false, List, [], ◌∷◌, ◌++◌, refl, sym, ◌∙◌, ap, subst, arith, pos}
use Rattle.std.proofs.lemmas.Bool.Decides.{nat_tests}
use Rattle.pw_isa.specs.declared.instruction.Inst.TheVariants.{Beq, Jal}
use Rattle.pw_tree.specs.States.{Value, holds, State, spent, Locals, Outcome, gives, stops, and_then, chosen, stepped, stepped_from}
use Rattle.pw_tree.specs.Execution.{Completion, normal, broke, continued, returned, Iteration, back, out, after_body, runs, goes_back, after_iteration, iterations}
use Rattle.pw_tree.specs.WellTypedExpressions.{Class, IsValue}
use Rattle.pw_hart.specs.declared.ends.End.TheVariants.{Spent}
use Rattle.pw_hart.specs.State.{MachineState, Goes}
use Rattle.pw_hart.specs.Run.{step}
use Rattle.pw_code.specs.Items.{CodePart, instruction, size}
use Rattle.pw_code.specs.Pieces.{jump, unless_zero}
use Rattle.pw_code.proofs.Exports.{size-append}
use Rattle.pw_simulation.specs.World.{World}
use Rattle.pw_simulation.specs.Memories.{Keeps}
use Rattle.pw_simulation.specs.Moments.{IsAt, IsCode, Reaches, Meets}
use Rattle.pw_simulation.specs.Sees.{Sees}
use Rattle.pw_simulation.specs.Bodies.{Body, HasFrame, AreLocalsCarried, IsReadyFor, Stands, Runs}
use Rattle.pw_simulation.specs.Statements.{word_place, IsPastSlots, Surroundings, IsAhead, IsAboutToRun, RepresentsReturned, CompletesAt, RunsStatement}
use Rattle.pw_simulation.proofs.Reach.{reaches_here}
use Rattle.pw_simulation.proofs.Steps.{moves_last, moves_past_at_zero, moves_into_at_other}
use Rattle.pw_simulation.proofs.Meets.{moved_at, meets_then, meets_as}
use Rattle.pw_simulation.proofs.ConditionRows.{decided}
use Rattle.pw_simulation.proofs.StatementParts.{GoesRound, goes_round, step_round, step_round_spent, ready_after, about_rest, PartRuns, AfterValue, value_part, stays}
use Rattle.pw_simulation.proofs.StatementRows.{jump_word}
use Rattle.pw_simulation.proofs.IfRows.{unless_words, condition_follows}

-- ---- a counted step

module _ (w : World) where
  -- a counted step brings as many fetches as all texts have words
  pub reaches_counted_then : (own more : ℕ) (s t u : MachineState) → IsCode w.code s.pc → step s ≡ Goes t → s.steps ≡ suc t.steps
      → 1 + own ≤ w.words + more → Reaches w.code w.words own t u → Reaches w.code w.words more s u
  reaches_counted_then own more s t u here goes same fits r = record {
    ps = s.pc ∷ r.ps;
    path = (refl, (t, (goes, r.path)));
    inside = (here, r.inside);
    few = let e = ap (λ k. w.words * k) same in let f = r.few in omega arith;
    down = let d = r.down in omega arith;
  }

  pub meets_counted : {A : Type 0} (kept : ℕ → Type 0) (stack_pointer c own : ℕ) (P : A → MachineState → Type 0) (o : Outcome A) (s t : MachineState)
      → IsCode w.code s.pc → step s ≡ Goes t → s.steps ≡ suc t.steps
      → own ≤ w.words → Keeps kept s.mem t.mem → Meets w kept stack_pointer c own P o t → Meets w kept stack_pointer c 1 P o s
  meets_counted kept stack_pointer c own P (gives a st) s t here goes same fits keeps l = record {
    end = l.end;
    reaches = reaches_counted_then own 1 s t l.end here goes same (omega arith) l.reaches;
    at = l.at;
    keeps = λ p k. l.keeps p k ∙ keeps p k;
    holds = l.holds;
  }
  meets_counted kept stack_pointer c own P (stops why st) s t here goes same fits keeps h = record {
    last = h.last;
    before = 0;
    room = omega arith;
    reaches = reaches_counted_then h.before 0 s t h.last here goes same (let room = h.room in omega arith) h.reaches;
    here = h.here;
    end = h.end;
    after = h.after;
    ends = h.ends;
    because = h.because;
    input = h.input;
    output = h.output;
  }

module _ (w : World) (sees : Sees w) (b : Body) (frame : HasFrame w b) (n : ℕ) (around : Surroundings) (known : List ℕ) where
  -- ---- an iteration

  -- After an iteration the run stands at the loop's last jump, or out of the loop.
  abbrev pub EndsTurn : (behind jump_at : ℕ) → Iteration → MachineState → Type 0
  EndsTurn behind jump_at (back locals) t = (t.pc ≡ word_place w b jump_at) × AreLocalsCarried w b known locals t.mem
  EndsTurn behind jump_at (out done) t = CompletesAt w b around known known behind done t

  -- What is round a part of a loop: `break` and `continue` are the loop's, where the part has any.
  pub record IsInLoop (inner : Surroundings) (next behind : ℕ) : Type 0 where
    pub returns : inner.targets.return_to ≡ around.targets.return_to
    pub result : inner.result ≡ around.result
    pub breaks : inner.in_loop ≡ true → inner.targets.break_to ≡ behind
    pub continues : inner.in_loop ≡ true → inner.targets.continue_to ≡ next

  -- the end of an iteration
  pub back_part : (behind jump_at : ℕ) (code : List CodePart)
      → PartRuns w sees b frame n (EndsTurn behind jump_at) 0 around known jump_at code goes_back
  back_part behind jump_at code locals st s r here = stays w sees b frame n (EndsTurn behind jump_at) 0 (back locals) st s r.at (here.here, r.carried)

  -- code that ends with the loop ends at a word to which a jump may go
  end_is_near : (at behind : ℕ) (code : List CodePart) (s : MachineState) → IsAboutToRun w b around at code s → at + size code ≡ behind
      → behind < 2 ^ 18
  end_is_near at behind code s here e =
      let h = here.here in let to = here.code_there.to in let short = here.code_there.short in omega arith

  -- a statement of an iteration, and what follows it
  pub runs_part : (own behind jump_at at : ℕ) (inner : Surroundings) (body rest : List CodePart) (m : Locals → State → Outcome Completion)
      (next : Locals → State → Outcome Iteration)
      → IsInLoop inner (at + size body) behind → at + size (body ++ rest) ≡ behind → RunsStatement w b inner known known n at body m
      → PartRuns w sees b frame n (EndsTurn behind jump_at) own around known (at + size body) rest next
      → PartRuns w sees b frame n (EndsTurn behind jump_at) (size body + own) around known at (body ++ rest) (runs m next)
  runs_part own behind jump_at at inner body rest m next is e runs_body follows locals st s r here =
      meets_then w (IsPastSlots b) (IsPastSlots b) (IsPastSlots b) b.stack_pointer b.calls_left (size body) own (CompletesAt w b inner known known (at + size body)) P (m locals st) (λ done. after_body done next) s
      (λ _ k. k) (λ _ k. k) (runs_body locals st s r inside) after
    where
      P : Iteration → MachineState → Type 0
      P = EndsTurn behind jump_at

      near : behind < 2 ^ 18
      near = end_is_near at behind (body ++ rest) s here e

      inside : IsAboutToRun w b inner at body s
      inside = record {
        here = here.here;
        code_there = Rattle.pw_simulation.proofs.Rows.stands_prefix w b s.pc body rest here.code_there;
        ahead = record {
          for_return = subst (λ k. IsAhead (at + size body) k) (sym is.returns) (record { from = omega (arith, here.ahead.for_return.from, size-append body rest); near = here.ahead.for_return.near });
          for_break = λ l. subst (λ k. IsAhead (at + size body) k) (sym (is.breaks l)) (record { from = omega (arith, e, size-append body rest); near = near });
          for_continue = λ l. subst (λ k. IsAhead (at + size body) k) (sym (is.continues l)) (record { from = omega arith; near = omega (arith, e, size-append body rest, near) });
        };
      }

      goes_next : (others : Locals) (later : State) (t : MachineState) → IsAt w b.stack_pointer b.calls_left later t
          → t.pc ≡ word_place w b (at + size body) → AreLocalsCarried w b known others t.mem
          → t.steps ≤ s.steps → Meets w (IsPastSlots b) b.stack_pointer b.calls_left own P (next others later) t
      goes_next others later t at_t there carried down =
          follows others later t (ready_after w sees b frame n known known locals others st later s t r at_t down carried) (about_rest w sees b frame n around at body rest s t here there)

      after : (done : Completion) (later : State) (t : MachineState) → IsAt w b.stack_pointer b.calls_left later t
          → CompletesAt w b inner known known (at + size body) done t
          → Keeps (IsPastSlots b) s.mem t.mem → t.steps ≤ s.steps
          → Meets w (IsPastSlots b) b.stack_pointer b.calls_left own P (after_body done next later) t
      after (normal others) later t at_t h keeps down = goes_next others later t at_t h.0 h.1 down
      after (continued others) later t at_t h keeps down = goes_next others later t at_t (h.1 ∙ ap (word_place w b) (is.continues h.0)) h.2 down
      after (broke others) later t at_t h keeps down = stays w sees b frame n P own (out (normal others)) later t at_t (h.1 ∙ ap (word_place w b) (is.breaks h.0), h.2)
      after (returned x) later t at_t h keeps down =
          stays w sees b frame n P own (out (returned x)) later t at_t (h.0 ∙ ap (word_place w b) is.returns, subst (λ k. RepresentsReturned w k x (t.x 10)) is.result h.1)

  -- a condition before the other parts
  pub tests_part : (own behind jump_at at m : ℕ) (c : Class) (cond rest : List CodePart) (f : Locals → State → Outcome Value)
      (next : Locals → State → Outcome Iteration) → IsValue c → size rest ≡ m
      → at + size (cond ++ (unless_zero m ++ rest)) ≡ behind → ((locals : Locals) → Runs w b known locals n 0 c cond (f locals))
      → PartRuns w sees b frame n (EndsTurn behind jump_at) own around known (at + size cond + 2) rest next
      → PartRuns w sees b frame n (EndsTurn behind jump_at) (size cond + (2 + own)) around known at (cond ++ (unless_zero m ++ rest))
      (λ locals st. and_then (f locals st) (λ v. chosen (holds v) (next locals) (gives (out (normal locals)))))
  tests_part own behind jump_at at m c cond rest f next some words e runs_cond follows =
      value_part w sees b frame n (EndsTurn behind jump_at) (2 + own) around known at c cond (unless_zero m ++ rest) f (λ locals v. chosen (holds v) (next locals) (gives (out (normal locals)))) runs_cond
      (condition_follows w sees b frame n (EndsTurn behind jump_at) own around known (at + size cond) m c rest next (λ locals. gives (out (normal locals))) some (omega (arith, words)) follows
      (λ locals st s t r here there. stays w sees b frame n (EndsTurn behind jump_at) own (out (normal locals)) st t r.at
      (omega (arith, there, e, words, size-append cond (unless_zero m ++ rest), size-append (unless_zero m) rest, unless_words m), r.carried)))

  -- a condition behind the other parts, before the jump back
  pub tests_last_part : (behind jump_at to at : ℕ) (c : Class) (cond : List CodePart) (f : Locals → State → Outcome Value) → IsValue c
      → at + size cond + 1 ≡ jump_at → jump_at + 1 ≡ behind
      → ((locals : Locals) → Runs w b known locals n 0 c cond (f locals))
      → PartRuns w sees b frame n (EndsTurn behind jump_at) (size cond + 1) around known at
      (cond ++ instruction (Beq 10 0 (pos 8)) ∷ jump jump_at to ∷ [])
      (λ locals st. and_then (f locals st) (λ v. chosen (holds v) (goes_back locals) (gives (out (normal locals)))))
  tests_last_part behind jump_at to at c cond f some e last runs_cond =
      value_part w sees b frame n P 1 around known at c cond tail f (λ locals v. chosen (holds v) (goes_back locals) (gives (out (normal locals)))) runs_cond follows
    where
      P : Iteration → MachineState → Type 0
      P = EndsTurn behind jump_at

      tail : List CodePart
      tail = instruction (Beq 10 0 (pos 8)) ∷ jump jump_at to ∷ []

      follows : AfterValue w sees b frame n P 1 around known (at + size cond) c tail
          (λ locals v. chosen (holds v) (goes_back locals) (gives (out (normal locals))))
      follows locals x st t r stands_for here = by_test (holds x) refl
        where
          by_test : (v : Bool) → holds x ≡ v
              → Meets w (IsPastSlots b) b.stack_pointer b.calls_left 1 P (chosen v (goes_back locals) (gives (out (normal locals))) st) t
          by_test true is =
              let test = decided w sees b frame known locals n 0 c x (t.x 10) some stands_for true is in
              let other : t.x 10 ≢ 0 = grind (arith, nat_tests) in
              let u : MachineState = record t { pc = t.pc + 4 } in
              record {
                end = u;
                reaches = moves_last w t u (moves_into_at_other w sees.apart t 10 8 r.at.ready here.code_there.code_at.0 other);
                at = moved_at w b.stack_pointer b.calls_left st t t.x (t.pc + 4) r.at refl refl;
                keeps = λ _ _. refl;
                holds = (let h = here.here in omega (arith, e), r.carried);
              }
          by_test false is =
              let test = decided w sees b frame known locals n 0 c x (t.x 10) some stands_for false is in
              let is_zero : t.x 10 ≡ 0 = grind (arith, nat_tests) in
              let u : MachineState = record t { pc = t.pc + 8 } in
              record {
                end = u;
                reaches = moves_last w t u (moves_past_at_zero w sees.apart t 10 8 r.at.ready here.code_there.code_at.0 is_zero (omega arith) refl (omega arith));
                at = moved_at w b.stack_pointer b.calls_left st t t.x (t.pc + 8) r.at refl refl;
                keeps = λ _ _. refl;
                holds = (let h = here.here in omega (arith, e, last), r.carried);
              }

  -- ---- one iteration after another

  module _ (kept : w.keep b.self ≡ true) (own at jump_at : ℕ) (front : List CodePart) (iteration : Locals → State → Outcome Iteration)
      (here_jumps : at + size front ≡ jump_at) (fits : own ≤ size front) where
    abbrev code : List CodePart
    code = front ++ jump jump_at at ∷ []

    abbrev Q : Completion → MachineState → Type 0
    Q = CompletesAt w b around known known (at + size code)

    abbrev P : Iteration → MachineState → Type 0
    P = EndsTurn (at + size code) jump_at

    both : size code ≡ size front + 1
    both = size-append front (jump jump_at at ∷ []) ∙ ap (λ k. size front + k) (jump_word jump_at at)

    -- a loop has no more words than all texts
    few : (s : MachineState) → IsAboutToRun w b around at code s → own + 1 ≤ w.words
    few s here =
        let whole = sees.few_words b.self here.code_there.body (record { there = here.code_there.there; kept = kept }) in
        let from = here.code_there.from in let to = here.code_there.to in omega (arith, both, whole)

    module _ (locals : Locals) (st : State) (s : MachineState) (r : IsReadyFor w b known locals n st s)
        (here : IsAboutToRun w b around at code s) where
      -- an iteration, and the jump back
      turn_then : (next : Locals → State → Outcome Completion) → Meets w (IsPastSlots b) b.stack_pointer b.calls_left own P (iteration locals st) s
          → ((others : Locals) (later : State) (t : MachineState) → IsAt w b.stack_pointer b.calls_left later t → P (back others) t → t.steps ≤ s.steps
          → Meets w (IsPastSlots b) b.stack_pointer b.calls_left 1 Q (next others later) t)
          → Meets w (IsPastSlots b) b.stack_pointer b.calls_left (own + 1) Q (and_then (iteration locals st) (λ i. after_iteration i next)) s
      turn_then next turn jumps =
          meets_then w (IsPastSlots b) (IsPastSlots b) (IsPastSlots b) b.stack_pointer b.calls_left own 1 P Q (iteration locals st) (λ i. after_iteration i next) s (λ _ k. k) (λ _ k. k) turn follows
        where
          follows : (i : Iteration) (later : State) (t : MachineState) → IsAt w b.stack_pointer b.calls_left later t → P i t
              → Keeps (IsPastSlots b) s.mem t.mem → t.steps ≤ s.steps
              → Meets w (IsPastSlots b) b.stack_pointer b.calls_left 1 Q (after_iteration i next later) t
          follows (back others) later t at_t h keeps down = jumps others later t at_t h down
          follows (out done) later t at_t h keeps down = stays w sees b frame n Q 1 done later t at_t h

      module _ (others : Locals) (later : State) (t : MachineState) (at_t : IsAt w b.stack_pointer b.calls_left later t) (h : P (back others) t) where
        round : GoesRound w sees b jump_at at t
        round =
            let there = h.0 in
            let last = about_rest w sees b frame n around at front (jump jump_at at ∷ []) s t here (omega (arith, there, here_jumps)) in
            goes_round w sees b jump_at at [] t there last.code_there (omega (arith, here_jumps))

        -- where no step is left, the run is spent
        spent_meets : later.steps ≡ 0 → Meets w (IsPastSlots b) b.stack_pointer b.calls_left 1 Q (stops spent later) t
        spent_meets none = record {
          last = t;
          before = 0;
          room = omega arith;
          reaches = reaches_here w.code w.words t;
          here = record { inst = Jal 0 round.by; there = round.there };
          end = Spent;
          after = t;
          ends = step_round_spent w sees b jump_at at t at_t.ready h.0 round (omega (arith, here_jumps)) (at_t.steps ∙ none);
          because = refl;
          input = at_t.input;
          output = at_t.output;
        }

        -- else it goes on at the loop's start with one step less
        abbrev again_at : ℕ → MachineState
        again_at left = record t { pc = word_place w b at; steps = left }

        again_is_at : (left : ℕ) → IsAt w b.stack_pointer b.calls_left (record later { steps = left }) (again_at left)
        again_is_at left = record {
          ready = at_t.ready;
          variables = at_t.variables;
          stack = at_t.stack;
          register = at_t.register;
          calls = at_t.calls;
          few = at_t.few;
          steps = refl;
          input = at_t.input;
          output = at_t.output;
          bytes = at_t.bytes;
        }

        step_meets : (again : State → Outcome Completion) (k : ℕ) → later.steps ≡ k
            → ((left : ℕ) → k ≡ suc left → Meets w (IsPastSlots b) b.stack_pointer b.calls_left (own + 1) Q (again (record later { steps = left })) (again_at left))
            → Meets w (IsPastSlots b) b.stack_pointer b.calls_left 1 Q (stepped_from k again later) t
        step_meets again zero e law = spent_meets e
        step_meets again (suc left) e law =
            meets_counted w (IsPastSlots b) b.stack_pointer b.calls_left (own + 1) Q (again (record later { steps = left })) t (again_at left) (record { inst = Jal 0 round.by; there = round.there })
            (step_round w sees b jump_at at left t at_t.ready h.0 round (omega (arith, here_jumps)) (at_t.steps ∙ e)) (at_t.steps ∙ e) (few s here) (λ _ _. refl) (law left refl)

        again_is_ready : (m left : ℕ) → later.steps ≡ suc left → st.steps ≤ suc m → t.steps ≤ s.steps → m ≤ n
            → IsReadyFor w b known others n (record later { steps = left }) (again_at left)
        again_is_ready m left e few_left down less = record { at = again_is_at left; carried = h.1; fuel = let e1 = at_t.steps in let e2 = r.at.steps in omega (arith, e, e1, e2) }

        again_stands : (left : ℕ) → IsAboutToRun w b around at code (again_at left)
        again_stands left = record {
          here = refl;
          code_there = subst (λ p. Stands w b p code) here.here here.code_there;
          ahead = here.ahead;
        }

    module _ (turn : PartRuns w sees b frame n P own around known at code iteration) where
      loop_turns : (m : ℕ) (locals : Locals) (st : State) (s : MachineState) → m ≤ n → st.steps ≤ m → IsReadyFor w b known locals n st s
          → IsAboutToRun w b around at code s
          → Meets w (IsPastSlots b) b.stack_pointer b.calls_left (own + 1) Q (iterations iteration m locals st) s
      loop_turns zero locals st s less few_left r here =
          turn_then locals st s r here (λ locals. stops spent) (turn locals st s r here)
          (λ others later t at_t h down. spent_meets locals st s r here others later t at_t h (let e1 = at_t.steps in let e2 = r.at.steps in omega arith))
      loop_turns (suc m) locals st s less few_left r here =
          turn_then locals st s r here (λ locals. stepped (iterations iteration m locals)) (turn locals st s r here)
          (λ others later t at_t h down.
          step_meets locals st s r here others later t at_t h (iterations iteration m others) later.steps refl
          (λ left e.
          loop_turns m others (record later { steps = left }) (again_at locals st s r here others later t at_t h left) (omega arith) (let e1 = at_t.steps in let e2 = r.at.steps in omega (arith, e))
          (again_is_ready locals st s r here others later t at_t h m left e few_left down (omega arith)) (again_stands locals st s r here others later t at_t h left)))

      -- a loop, given an iteration
      pub loop_row : RunsStatement w b around known known n at code (iterations iteration n)
      loop_row locals st s r here =
          meets_as w (IsPastSlots b) b.stack_pointer b.calls_left (own + 1) (size code) Q Q (iterations iteration n locals st) s (omega (arith, both)) (λ _ _ g. g)
          (loop_turns n locals st s (omega arith) r.fuel r here)
