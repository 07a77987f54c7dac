-- The rows of `if`, with `else` and without; and what follows any condition.
use Rattle.std.proofs.Common.{◌≡◌, ◌≢◌, ℕ, suc, ◌+◌, ◌*◌, ◌≤◌, Bool, true, false, List, [], ◌∷◌, ◌++◌, refl, sym, ◌∙◌, ap, subst, arith, pos, append-nil}
use Rattle.std.proofs.lemmas.Bool.Decides.{nat_tests}
use Rattle.pw_isa.specs.declared.instruction.Inst.{Inst}
use Rattle.pw_isa.specs.declared.instruction.Inst.TheVariants.{Bne, Jal}
use Rattle.pw_tree.specs.States.{Value, holds, State, Locals, Outcome, gives, and_then, chosen}
use Rattle.pw_tree.specs.Execution.{Completion, normal, broke, continued, returned}
use Rattle.pw_tree.specs.WellTypedExpressions.{Class, IsValue}
use Rattle.pw_hart.specs.State.{MachineState}
use Rattle.pw_code.specs.Items.{CodePart, instruction, size}
use Rattle.pw_code.specs.Pieces.{skip, unless_zero}
use Rattle.pw_code.proofs.Exports.{size-append}
use Rattle.pw_simulation.specs.World.{World}
use Rattle.pw_simulation.specs.Moments.{IsAt, Lands, Meets}
use Rattle.pw_simulation.specs.Sees.{Sees}
use Rattle.pw_simulation.specs.Bodies.{Body, HasFrame, IsReadyFor, Runs}
use Rattle.pw_simulation.specs.Statements.{word_place, IsPastSlots, Surroundings, IsAboutToRun, CompletesAt, RunsStatement}
use Rattle.pw_simulation.proofs.Reach.{reaches_here, reaches_as}
use Rattle.pw_simulation.proofs.Steps.{moves_last, moves_ahead}
use Rattle.pw_simulation.proofs.Meets.{moved_at, meets_after, meets_as, meets_followed}
use Rattle.pw_simulation.proofs.Sequences.{one_more}
use Rattle.pw_simulation.proofs.ConditionRows.{two_words, associated, decided, branch_runs, jump_runs, moved_ready}
use Rattle.pw_simulation.proofs.StatementParts.{about_front, about_rest, PartRuns, AfterValue, part_as, value_part, stays}

-- the words of a branch round a jump
pub unless_words : (m : ℕ) → size (unless_zero m) ≡ 2
unless_words m = two_words (Bne 10 0 (pos 8)) (Jal 0 (pos (4 * suc m)))

module _ (w : World) (sees : Sees w) (b : Body) (frame : HasFrame w b) (n : ℕ) where
  -- ---- a condition

  -- where a condition does not hold, the run goes past m words
  abbrev pub Skips : {A : Type 0} → (A → MachineState → Type 0) → (own : ℕ) → Surroundings → (known : List ℕ) → (at m : ℕ) → List CodePart
      → (Locals → State → Outcome A) → Type 0
  Skips P own around known at m rest means =
      (locals : Locals) (st : State) (s t : MachineState) → IsReadyFor w b known locals n st t → IsAboutToRun w b around at (unless_zero m ++ rest) s
      → t.pc ≡ word_place w b (at + 2 + m)
      → Meets w (IsPastSlots b) b.stack_pointer b.calls_left own P (means locals st) t

  -- a condition in a0 decides whether the words behind it run
  pub condition_follows : {A : Type 0} (P : A → MachineState → Type 0) (own : ℕ) (around : Surroundings) (known : List ℕ) (at m : ℕ) (c : Class)
      (rest : List CodePart) (first second : Locals → State → Outcome A)
      → IsValue c → m ≤ size rest → PartRuns w sees b frame n P own around known (at + 2) rest first → Skips P own around known at m rest second
      → AfterValue w sees b frame n P (2 + own) around known at c (unless_zero m ++ rest)
      (λ locals x. chosen (holds x) (first locals) (second locals))
  condition_follows P own around known at m c rest first second some fits first_part second_part locals x st t r stands_for here = by_test (holds x) refl
    where
      words : size (unless_zero m) ≡ 2
      words = unless_words m

      by_test : (v : Bool) → holds x ≡ v
          → Meets w (IsPastSlots b) b.stack_pointer b.calls_left (2 + own) P (chosen v (first locals) (second locals) st) t
      by_test true e =
          let test = decided w sees b frame known locals n 0 c x (t.x 10) some stands_for true e in
          let other : t.x 10 ≢ 0 = grind (arith, nat_tests) in
          let u : MachineState = record t { pc = t.pc + 8 } in
          let h = here.here in
          let there = subst (λ k. IsAboutToRun w b around (at + k) rest u) words (about_rest w sees b frame n around at (unless_zero m) rest t u here (omega (arith, words))) in
          meets_as w (IsPastSlots b) b.stack_pointer b.calls_left (1 + own) (2 + own) P P (first locals st) t (omega arith) (λ _ _ g. g)
          (meets_after w (IsPastSlots b) (IsPastSlots b) b.stack_pointer b.calls_left 1 own P (first locals st) t u (λ _ k. k)
          (branch_runs w sees b frame known locals n 0 m rest st t r.at here.code_there other) (λ _ _. refl)
          (first_part locals st u (moved_ready w sees b frame known locals n 0 st t (t.pc + 8) r) there))
      by_test false e =
          let test = decided w sees b frame known locals n 0 c x (t.x 10) some stands_for false e in
          let is : t.x 10 ≡ 0 = grind (arith, nat_tests) in
          let pc : ℕ = t.pc + 4 + 4 * suc m in
          let u : MachineState = record t { pc = pc } in
          let h = here.here in
          meets_after w (IsPastSlots b) (IsPastSlots b) b.stack_pointer b.calls_left 2 own P (second locals st) t u (λ _ k. k)
          (jump_runs w sees b frame known locals n 0 m rest st t r.at here.code_there fits is) (λ _ _. refl)
          (second_part locals st t u (moved_ready w sees b frame known locals n 0 st t pc r) here (omega arith))

  -- ---- `if`

  pub if_row : (around : Surroundings) (known : List ℕ) (at at_a na : ℕ) (c : Class) (cond code_a : List CodePart)
      (f : Locals → State → Outcome Value) (ma : Locals → State → Outcome Completion)
      → IsValue c → at + size cond + 2 ≡ at_a → size code_a ≡ na → ((locals : Locals) → Runs w b known locals n 0 c cond (f locals))
      → RunsStatement w b around known known n at_a code_a ma
      → RunsStatement w b around known known n at (cond ++ unless_zero (na + 0) ++ code_a ++ [])
      (λ locals st. and_then (f locals st) (λ v. chosen (holds v) (ma locals) (gives (normal locals))))
  if_row around known at at_a na c cond code_a f ma some start words runs runs_a =
      subst (λ code. RunsStatement w b around known known n at code (λ locals st. and_then (f locals st) (λ v. chosen (holds v) (ma locals) (gives (normal locals))))) (sym (associated cond (unless_zero (na + 0)) code_a []))
      (part_as w sees b frame n Q (size cond + (2 + size rest)) (size all) around known at all (λ locals st. and_then (f locals st) (λ v. chosen (holds v) (ma locals) (gives (normal locals)))) (omega (arith, together))
      (value_part w sees b frame n Q (2 + size rest) around known at c cond (unless_zero (na + 0) ++ rest) f (λ locals v. chosen (holds v) (ma locals) (gives (normal locals))) runs
      (condition_follows Q (size rest) around known (at + size cond) (na + 0) c rest ma (λ locals. gives (normal locals)) some (omega (arith, size_rest)) then_part else_part)))
    where
      rest : List CodePart
      rest = code_a ++ []

      all : List CodePart
      all = cond ++ (unless_zero (na + 0) ++ rest)

      size_rest : size rest ≡ na
      size_rest = ap size (append-nil code_a) ∙ words

      together : size all ≡ size cond + (2 + size rest)
      together = size-append cond (unless_zero (na + 0) ++ rest) ∙ ap (λ k. size cond + k) (size-append (unless_zero (na + 0)) rest ∙ ap (λ k. k + size rest) (unless_words (na + 0)))

      Q : Completion → MachineState → Type 0
      Q = CompletesAt w b around known known (at + size all)

      then_part : PartRuns w sees b frame n Q (size rest) around known (at + size cond + 2) rest ma
      then_part locals st s r here =
          let end : at_a + size code_a ≡ at + size all = omega (arith, together, size_rest) in
          meets_as w (IsPastSlots b) b.stack_pointer b.calls_left (size code_a) (size rest) (CompletesAt w b around known known (at_a + size code_a)) Q (ma locals st) s (omega (arith, size_rest))
          (λ done t h. subst (λ k. CompletesAt w b around known known k done t) end h)
          (runs_a locals st s r (subst (λ k. IsAboutToRun w b around k code_a s) start (about_front w sees b frame n around (at + size cond + 2) code_a [] s here)))

      else_part : Skips Q (size rest) around known (at + size cond) (na + 0) rest (λ locals. gives (normal locals))
      else_part locals st s t r here e = stays w sees b frame n Q (size rest) (normal locals) st t r.at (omega (arith, e, together, size_rest), r.carried)

  pub if_else_row : (around : Surroundings) (known : List ℕ) (at at_a at_b na nb : ℕ) (c : Class) (cond code_a code_b : List CodePart)
      (f : Locals → State → Outcome Value) (ma mb : Locals → State → Outcome Completion)
      → IsValue c → at + size cond + 2 ≡ at_a → at_a + size code_a + 1 ≡ at_b → size code_a ≡ na → size code_b ≡ nb
      → ((locals : Locals) → Runs w b known locals n 0 c cond (f locals))
      → RunsStatement w b around known known n at_a code_a ma → RunsStatement w b around known known n at_b code_b mb
      → RunsStatement w b around known known n at (cond ++ unless_zero (na + 1) ++ code_a ++ skip nb ∷ code_b)
      (λ locals st. and_then (f locals st) (λ v. chosen (holds v) (ma locals) (mb locals)))
  if_else_row around known at at_a at_b na nb c cond code_a code_b f ma mb some start other words_a words_b runs runs_a runs_b =
      subst (λ code. RunsStatement w b around known known n at code (λ locals st. and_then (f locals st) (λ v. chosen (holds v) (ma locals) (mb locals)))) (sym (associated cond (unless_zero (na + 1)) code_a tail))
      (part_as w sees b frame n Q (size cond + (2 + size rest)) (size all) around known at all (λ locals st. and_then (f locals st) (λ v. chosen (holds v) (ma locals) (mb locals))) (omega (arith, together))
      (value_part w sees b frame n Q (2 + size rest) around known at c cond (unless_zero (na + 1) ++ rest) f (λ locals v. chosen (holds v) (ma locals) (mb locals)) runs
      (condition_follows Q (size rest) around known (at + size cond) (na + 1) c rest ma mb some (omega (arith, size_rest, words_a)) then_part else_part)))
    where
      jump_over : Inst
      jump_over = Jal 0 (pos (4 * suc nb))

      tail : List CodePart
      tail = skip nb ∷ code_b

      rest : List CodePart
      rest = code_a ++ tail

      all : List CodePart
      all = cond ++ (unless_zero (na + 1) ++ rest)

      size_rest : size rest ≡ size code_a + (1 + size code_b)
      size_rest = size-append code_a tail ∙ ap (λ k. size code_a + k) (one_more jump_over code_b)

      together : size all ≡ size cond + (2 + size rest)
      together = size-append cond (unless_zero (na + 1) ++ rest) ∙ ap (λ k. size cond + k) (size-append (unless_zero (na + 1)) rest ∙ ap (λ k. k + size rest) (unless_words (na + 1)))

      Q : Completion → MachineState → Type 0
      Q = CompletesAt w b around known known (at + size all)

      -- from behind the first branch past the second
      goes_past : (s : MachineState) → IsAboutToRun w b around (at + size cond + 2) rest s → (done : Completion) (later : State) (t : MachineState)
          → IsAt w b.stack_pointer b.calls_left later t
          → CompletesAt w b around known known (at_a + size code_a) done t → Lands w (IsPastSlots b) b.stack_pointer b.calls_left 1 later t (Q done)
      goes_past s here (normal locals) later t at_t h =
          let e = h.0 in
          let there = about_rest w sees b frame n around (at + size cond + 2) code_a tail s t here (omega (arith, e, start)) in
          let to = there.code_there.to in let short = there.code_there.short in let from = there.code_there.from in
          let go = moves_ahead w sees.apart t (4 * suc nb) at_t.ready there.code_there.code_at.0 (omega arith) (omega arith) (omega (arith, one_more jump_over code_b, words_b)) in
          let u : MachineState = record t { pc = t.pc + 4 * suc nb } in
          record {
            end = u;
            reaches = moves_last w t u go;
            at = moved_at w b.stack_pointer b.calls_left later t t.x (t.pc + 4 * suc nb) at_t refl refl;
            keeps = λ _ _. refl;
            holds = (omega (arith, e, start, together, size_rest, words_b), h.1);
          }
      goes_past s here (broke locals) later t at_t h = record { end = t; reaches = reaches_as w.code w.words 0 1 t t (omega arith) (reaches_here w.code w.words t); at = at_t; keeps = λ _ _. refl; holds = h }
      goes_past s here (continued locals) later t at_t h = record { end = t; reaches = reaches_as w.code w.words 0 1 t t (omega arith) (reaches_here w.code w.words t); at = at_t; keeps = λ _ _. refl; holds = h }
      goes_past s here (returned x) later t at_t h = record { end = t; reaches = reaches_as w.code w.words 0 1 t t (omega arith) (reaches_here w.code w.words t); at = at_t; keeps = λ _ _. refl; holds = h }

      then_part : PartRuns w sees b frame n Q (size rest) around known (at + size cond + 2) rest ma
      then_part locals st s r here =
          meets_as w (IsPastSlots b) b.stack_pointer b.calls_left (size code_a + 1) (size rest) Q Q (ma locals st) s (omega (arith, size_rest)) (λ _ _ g. g)
          (meets_followed w (IsPastSlots b) b.stack_pointer b.calls_left (size code_a) 1 (CompletesAt w b around known known (at_a + size code_a)) Q (ma locals st) s (goes_past s here)
          (runs_a locals st s r (subst (λ k. IsAboutToRun w b around k code_a s) start (about_front w sees b frame n around (at + size cond + 2) code_a tail s here))))

      else_part : Skips Q (size rest) around known (at + size cond) (na + 1) rest mb
      else_part locals st s t r here e =
          let words = unless_words (na + 1) in
          let h = here.here in
          let after : MachineState = record s { pc = word_place w b (at + size cond + 2) } in
          let first = subst (λ k. IsAboutToRun w b around (at + size cond + k) rest after) words (about_rest w sees b frame n around (at + size cond) (unless_zero (na + 1)) rest s after here (omega (arith, words))) in
          let between : MachineState = record s { pc = word_place w b (at + size cond + 2 + size code_a) } in
          let second = about_rest w sees b frame n around (at + size cond + 2) code_a tail after between first refl in
          let alone_size = Rattle.pw_simulation.proofs.Sequences.alone jump_over in
          let third = about_rest w sees b frame n around (at + size cond + 2 + size code_a) (instruction jump_over ∷ []) code_b between t second (omega (arith, e, words_a, alone_size)) in
          let at_other : at + size cond + 2 + size code_a + size (instruction jump_over ∷ []) ≡ at_b = omega (arith, alone_size, start, other) in
          let there = subst (λ k. IsAboutToRun w b around k code_b t) at_other third in
          let end : at_b + size code_b ≡ at + size all = omega (arith, together, size_rest, start, other) in
          meets_as w (IsPastSlots b) b.stack_pointer b.calls_left (size code_b) (size rest) (CompletesAt w b around known known (at_b + size code_b)) Q (mb locals st) t (omega (arith, size_rest))
          (λ done u c. subst (λ k. CompletesAt w b around known known k done u) end c)
          (runs_b locals st t r there)
