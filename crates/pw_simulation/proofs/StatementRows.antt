-- The rows of statements that do not branch, of locals and of jumps: an expression, a local set, `return`, `break` and `continue`.
use Rattle.std.proofs.Common.{◌≡◌, ◌≢◌, ℕ, suc, ◌+◌, ◌-◌, ◌*◌, ◌^◌, ◌<◌, ◌≤◌, Bool, true, false, List, [], ◌∷◌, ◌++◌, Option, Some, None, refl, sym, ◌∙◌, ap, subst, arith, inr, pos}
use Rattle.std.specs.Prelude.{◌||◌, nat_eq, nat_lt, slice_get}
use Rattle.std.proofs.lemmas.Bool.Decides.{nat_tests}
use Rattle.pw_isa.specs.declared.instruction.Inst.TheVariants.{Sd, Jal}
use Rattle.pw_tree.specs.States.{Value, State, Locals, with_local_set, Outcome, gives, stops, and_then}
use Rattle.pw_tree.specs.Execution.{Completion, normal, broke, continued, returned}
use Rattle.pw_tree.specs.WellTypedExpressions.{Class, nothing, IsValue}
use Rattle.pw_mem.specs.Memory.{Mem}
use Rattle.pw_mem.specs.Words.{doubleword, put_doubleword}
use Rattle.pw_mem.proofs.Words.{word-put_same, word-put_other}
use Rattle.pw_hart.specs.State.{MachineState, get}
use Rattle.pw_code.specs.Items.{CodePart, instruction, words_of_code_part, size}
use Rattle.pw_code.specs.Frames.{local_slot}
use Rattle.pw_code.specs.Pieces.{jump}
use Rattle.pw_simulation.specs.World.{World, InStack}
use Rattle.pw_simulation.specs.Values.{Represents}
use Rattle.pw_simulation.specs.Moments.{IsAt, Reaches, Meets}
use Rattle.pw_simulation.specs.Sees.{Sees}
use Rattle.pw_simulation.specs.Bodies.{Body, HasFrame, IsUntouched, RepresentsLocal, IsLocalCarried, AreLocalsCarried, IsReadyFor, GivesValue, Runs}
use Rattle.pw_simulation.specs.Statements.{word_place, IsPastSlots, Surroundings, IsAboutToRun, RepresentsReturned, CompletesAt, RunsStatement}
use Rattle.pw_simulation.proofs.Placed.{keeps_put}
use Rattle.pw_simulation.proofs.Steps.{moves_last, moves_store}
use Rattle.pw_simulation.proofs.Meets.{moved_at, meets_then, meets_as}
use Rattle.pw_simulation.proofs.Rows.{offset_is, slot_in, put_at}
use Rattle.pw_simulation.proofs.Sequences.{represents_small, alone}
use Rattle.pw_simulation.proofs.StatementParts.{jump_is_ahead, moves_to_word, carried_stay, part_as, part_means, value_part, stays}

-- ---- sizes

pub jump_size : (from to : ℕ) (rest : List CodePart) → size (jump from to ∷ rest) ≡ 1 + size rest
unfolding size
jump_size from to rest = ap (λ k. k + size rest) (by_test (nat_lt to from) (from - to))
  where
    one : (n : ℕ) → words_of_code_part (Rattle.pw_code.specs.Pieces.back n) ≡ 1
    one Rattle.std.proofs.Common.zero = refl
    one (suc n) = refl

    by_test : (t : Bool) (n : ℕ)
        → words_of_code_part (Rattle.std.proofs.Common.cond t (Rattle.pw_code.specs.Pieces.back n) (instruction (Jal 0 (pos (4 * (to - from)))))) ≡ 1
    by_test true n = one n
    by_test false n = refl

pub jump_word : (from to : ℕ) → size (jump from to ∷ []) ≡ 1
unfolding size
jump_word from to = jump_size from to []

-- ---- an evaluation after another

pub then_after : {A B C : Type 0} (o : Outcome A) (f : A → State → Outcome B) (g : B → State → Outcome C)
    → and_then (and_then o f) g ≡ and_then o (λ a st. and_then (f a st) g)
then_after (gives a st) f g = refl
then_after (stops why st) f g = refl

or_false : (t u : Bool) → t ≡ false → (t || u) ≡ true → u ≡ true
or_false true u e h = cc
or_false false u e h = h

module _ (w : World) (sees : Sees w) (b : Body) (frame : HasFrame w b) (n : ℕ) where
  -- ---- an expression

  pub evaluate_row : (around : Surroundings) (known : List ℕ) (at : ℕ) (c : Class) (code : List CodePart) (f : Locals → State → Outcome Value)
      → ((locals : Locals) → Runs w b known locals n 0 c code (f locals))
      → RunsStatement w b around known known n at code (λ locals st. and_then (f locals st) (λ v. gives (normal locals)))
  evaluate_row around known at c code f runs locals st s r here =
      meets_as w (IsPastSlots b) b.stack_pointer b.calls_left (size code + 0) (size code) Q Q (and_then (f locals st) (λ v. gives (normal locals))) s (omega arith) (λ _ _ g. g)
      (meets_then w (IsPastSlots b) (IsUntouched b 0) (IsPastSlots b) b.stack_pointer b.calls_left (size code) 0 (GivesValue w c (s.pc + 4 * size code)) Q (f locals st) (λ v. gives (normal locals)) s
      (λ _ k. inr k) (λ _ k. k) (runs locals st s r here.code_there)
      (λ x later t at_t gives keeps down.
      stays w sees b frame n Q 0 (normal locals) later t at_t
      (let e = gives.0 in let h = here.here in omega arith, carried_stay w sees b frame n known locals 0 s.mem t.mem keeps r.carried)))
    where
      Q : Completion → MachineState → Type 0
      Q = CompletesAt w b around known known (at + size code)

  -- ---- jumps

  -- a jump to a target
  pub target_runs : (around : Surroundings) (at to : ℕ) (rest : List CodePart) (st : State) (s : MachineState)
      → IsAt w b.stack_pointer b.calls_left st s → IsAboutToRun w b around at (jump at to ∷ rest) s → at < to → to < 2 ^ 18
      → Reaches w.code w.words 1 s (record s { pc = word_place w b to })
  target_runs around at to rest st s at_s here less near =
      let there = subst (λ part. IsAboutToRun w b around at (part ∷ rest) s) (jump_is_ahead at to (omega arith)) here in
      moves_last w s (record s { pc = word_place w b to }) (moves_to_word w sees b at to s at_s.ready here.here there.code_there.code_at.0 less near)

  -- and what it comes to
  pub target_meets : {A : Type 0} (P : A → MachineState → Type 0) (around : Surroundings) (at to : ℕ) (rest : List CodePart) (x : A) (st : State)
      (s : MachineState) → IsAt w b.stack_pointer b.calls_left st s
      → IsAboutToRun w b around at (jump at to ∷ rest) s → at < to → to < 2 ^ 18 → P x (record s { pc = word_place w b to })
      → Meets w (IsPastSlots b) b.stack_pointer b.calls_left 1 P (gives x st) s
  target_meets P around at to rest x st s at_s here less near holds = record {
    end = record s { pc = word_place w b to };
    reaches = target_runs around at to rest st s at_s here less near;
    at = moved_at w b.stack_pointer b.calls_left st s s.x (word_place w b to) at_s refl refl;
    keeps = λ _ _. refl;
    holds = holds;
  }

  pub break_row : (around : Surroundings) (known : List ℕ) (at : ℕ) → around.in_loop ≡ true
      → RunsStatement w b around known known n at (jump at around.targets.break_to ∷ []) (λ locals. gives (broke locals))
  break_row around known at e locals st s r here =
      let one = jump_size at around.targets.break_to [] in
      let target = here.ahead.for_break e in
      let from = target.from in
      meets_as w (IsPastSlots b) b.stack_pointer b.calls_left 1 (size code) Q Q (gives (broke locals) st) s (omega (arith, one)) (λ _ _ g. g)
      (target_meets Q around at around.targets.break_to [] (broke locals) st s r.at here (omega (arith, one)) target.near (e, refl, r.carried))
    where
      code : List CodePart
      code = jump at around.targets.break_to ∷ []

      Q : Completion → MachineState → Type 0
      Q = CompletesAt w b around known known (at + size code)

  pub continue_row : (around : Surroundings) (known : List ℕ) (at : ℕ) → around.in_loop ≡ true
      → RunsStatement w b around known known n at (jump at around.targets.continue_to ∷ []) (λ locals. gives (continued locals))
  continue_row around known at e locals st s r here =
      let one = jump_size at around.targets.continue_to [] in
      let target = here.ahead.for_continue e in
      let from = target.from in
      meets_as w (IsPastSlots b) b.stack_pointer b.calls_left 1 (size code) Q Q (gives (continued locals) st) s (omega (arith, one)) (λ _ _ g. g)
      (target_meets Q around at around.targets.continue_to [] (continued locals) st s r.at here (omega (arith, one)) target.near (e, refl, r.carried))
    where
      code : List CodePart
      code = jump at around.targets.continue_to ∷ []

      Q : Completion → MachineState → Type 0
      Q = CompletesAt w b around known known (at + size code)

  -- the jump of a `return`, with what it returns in a0
  returns_meets : (around : Surroundings) (known : List ℕ) (at behind : ℕ) (x : Option Value) (st : State) (s : MachineState)
      → IsAt w b.stack_pointer b.calls_left st s
      → IsAboutToRun w b around at (jump at around.targets.return_to ∷ []) s → RepresentsReturned w around.result x (s.x 10)
      → Meets w (IsPastSlots b) b.stack_pointer b.calls_left 1 (CompletesAt w b around known known behind) (gives (returned x) st) s
  returns_meets around known at behind x st s at_s here stands_for =
      let one = jump_size at around.targets.return_to [] in
      let target = here.ahead.for_return in
      let from = target.from in
      target_meets (CompletesAt w b around known known behind) around at around.targets.return_to [] (returned x) st s at_s here (omega (arith, one)) target.near (refl, stands_for)

  -- `return;`
  pub return_row : (around : Surroundings) (known : List ℕ) (at : ℕ) → around.result ≡ nothing
      → RunsStatement w b around known known n at (jump (at + 0) around.targets.return_to ∷ [])
      (λ locals st. and_then (gives None st) (λ v. gives (returned v)))
  return_row around known at none =
      subst (λ k. RunsStatement w b around known known n at (jump k around.targets.return_to ∷ []) (λ locals st. and_then (gives None st) (λ v. gives (returned v)))) same
      (part_as w sees b frame n Q 1 (size code) around known at code (λ locals st. gives (returned None) st) (omega (arith, jump_size at around.targets.return_to []))
      (λ locals st s r here. returns_meets around known at (at + size code) None st s r.at here none))
    where
      same : at ≡ at + 0
      same = omega arith

      code : List CodePart
      code = jump at around.targets.return_to ∷ []

      Q : Completion → MachineState → Type 0
      Q = CompletesAt w b around known known (at + size code)

  -- `return` with a value
  pub return_value_row : (around : Surroundings) (known : List ℕ) (at words : ℕ) (c : Class) (code : List CodePart)
      (f : Locals → State → Outcome Value) → size code ≡ words → c ≡ around.result
      → ((locals : Locals) → Runs w b known locals n 0 c code (f locals))
      → RunsStatement w b around known known n at (code ++ jump (at + words) around.targets.return_to ∷ [])
      (λ locals st. and_then (and_then (f locals st) (λ v. gives (Some v))) (λ v. gives (returned v)))
  return_value_row around known at words c code f e is_result runs =
      subst (λ k. RunsStatement w b around known known n at (code ++ jump (at + k) around.targets.return_to ∷ []) (λ locals st. and_then (and_then (f locals st) (λ v. gives (Some v))) (λ v. gives (returned v)))) e
      (part_as w sees b frame n Q (size code + 1) (size all) around known at all (λ locals st. and_then (and_then (f locals st) (λ v. gives (Some v))) (λ v. gives (returned v)))
      (omega (arith, Rattle.pw_code.proofs.Exports.size-append code tail, jump_size (at + size code) around.targets.return_to []))
      (part_means w sees b frame n Q (size code + 1) around known at all (λ locals st. and_then (f locals st) (λ v. gives (returned (Some v)))) (λ locals st. and_then (and_then (f locals st) (λ v. gives (Some v))) (λ v. gives (returned v)))
      (λ locals st. sym (then_after (f locals st) (λ v. gives (Some v)) (λ v. gives (returned v))))
      (value_part w sees b frame n Q 1 around known at c code tail f (λ locals v. gives (returned (Some v))) runs
      (λ locals x st t r stands_for here. returns_meets around known (at + size code) (at + size all) (Some x) st t r.at here (subst (λ k. Represents w k x (t.x 10)) is_result stands_for)))))
    where
      tail : List CodePart
      tail = jump (at + size code) around.targets.return_to ∷ []

      all : List CodePart
      all = code ++ tail

      Q : Completion → MachineState → Type 0
      Q = CompletesAt w b around known known (at + size all)

  -- ---- a local

  -- the locals after one of them was set
  carried_after : (known : List ℕ) (locals : Locals) (i value : ℕ) (x : Option Value) (m : Mem) → i < b.frame.locals
      → ((c : Class) → slice_get b.classes i ≡ Some c → RepresentsLocal w c x value)
      → doubleword (put_doubleword m (b.stack_pointer + 8 * i) value) (b.stack_pointer + 8 * i) ≡ Some value
      → ((j : ℕ) → j ≢ i → doubleword (put_doubleword m (b.stack_pointer + 8 * i) value) (b.stack_pointer + 8 * j) ≡ doubleword m (b.stack_pointer + 8 * j))
      → AreLocalsCarried w b known locals m
      → AreLocalsCarried w b (i ∷ known) (with_local_set locals i x) (put_doubleword m (b.stack_pointer + 8 * i) value)
  carried_after known locals i value x m below stands_for same other carried j c is_known is_class = by_test (nat_eq i j) refl
    where
      new : Mem
      new = put_doubleword m (b.stack_pointer + 8 * i) value

      by_test : (t : Bool) → nat_eq i j ≡ t → IsLocalCarried w b new j c (with_local_set locals i x j)
      by_test true e =
          let is : i ≡ j = grind (arith, nat_tests) in
          rw e (subst (λ k. IsLocalCarried w b new k c x) is (record { below = below; word = value; is = same; represents = stands_for c (ap (slice_get b.classes) is ∙ is_class) }))
      by_test false e =
          let is : j ≢ i = grind (arith, nat_tests) in
          let l = carried j c (or_false (nat_eq i j) _ e is_known) is_class in
          rw e (record { below = l.below; word = l.word; is = other j is ∙ l.is; represents = l.represents })

  -- a register is put into the slot of a local
  pub local_meets : (around : Surroundings) (known : List ℕ) (at behind : ℕ) (locals : Locals) (i rs : ℕ) (x : Option Value) (st : State)
      (s : MachineState) → IsReadyFor w b known locals n st s
      → IsAboutToRun w b around at (instruction (Sd 2 rs (local_slot i)) ∷ []) s → i < b.frame.locals → get s.x rs < 2 ^ 64
      → ((c : Class) → slice_get b.classes i ≡ Some c → RepresentsLocal w c x (get s.x rs)) → at + 1 ≡ behind
      → Meets w (IsPastSlots b) b.stack_pointer b.calls_left 1 (CompletesAt w b around known (i ∷ known) behind)
      (gives (normal (with_local_set locals i x)) st) s
  local_meets around known at behind locals i rs x st s r here below small stands_for e =
      let a : ℕ = b.stack_pointer + 8 * i in
      let value : ℕ = get s.x rs in
      let few = frame.few in
      let in_it : InStack w a = slot_in w sees b frame i (omega arith) in
      let was = r.at.ready.stack a in_it in
      let t : MachineState = record s { mem = put_doubleword s.mem a value; pc = s.pc + 4 } in
      let go = moves_store w sees.apart s 2 rs (local_slot i) a was.value r.at.ready here.code_there.code_at.0 (offset_is w sees b frame s (8 * i) r.at.stack (omega arith)) was.is in
      record {
        end = t;
        reaches = moves_last w s t go;
        at = put_at w sees b frame st s a value (s.pc + 4) r.at in_it small;
        keeps = keeps_put w s.mem a value (IsPastSlots b) r.at.ready in_it (λ p k. apart p k);
        holds = (
          let h = here.here in omega arith,
          carried_after known locals i value x s.mem below stands_for (word-put_same s.mem a was.value value small was.is)
              (λ j other. word-put_other s.mem a (b.stack_pointer + 8 * j) was.value value was.is (differ j other)) r.carried,
        );
      }
    where
      apart : (p : ℕ) → IsPastSlots b p → b.stack_pointer + 8 * i ≢ p
      apart p k = omega (arith, k)

      differ : (j : ℕ) → j ≢ i → b.stack_pointer + 8 * i ≢ b.stack_pointer + 8 * j
      differ j other = omega (arith, other)

  -- a local is set to a value
  pub set_local_row : (around : Surroundings) (known : List ℕ) (at i : ℕ) (c : Class) (code : List CodePart) (f : Locals → State → Outcome Value)
      → slice_get b.classes i ≡ Some c → IsValue c → i < b.frame.locals
      → ((locals : Locals) → Runs w b known locals n 0 c code (f locals))
      → RunsStatement w b around known (i ∷ known) n at (code ++ instruction (Sd 2 10 (local_slot i)) ∷ [])
      (λ locals st. and_then (and_then (f locals st) (λ v. gives (Some v))) (λ v. gives (normal (with_local_set locals i v))))
  set_local_row around known at i c code f is_class some below runs =
      part_as w sees b frame n Q (size code + 1) (size all) around known at all means (omega (arith, both))
      (part_means w sees b frame n Q (size code + 1) around known at all (λ locals st. and_then (f locals st) (λ v. gives (normal (with_local_set locals i (Some v))))) means
      (λ locals st. sym (then_after (f locals st) (λ v. gives (Some v)) (λ v. gives (normal (with_local_set locals i v)))))
      (value_part w sees b frame n Q 1 around known at c code tail f (λ locals v. gives (normal (with_local_set locals i (Some v)))) runs
      (λ locals x st t r stands_for here.
      local_meets around known (at + size code) (at + size all) locals i 10 (Some x) st t r here below (represents_small w sees c x (t.x 10) some stands_for)
      (λ d is. let both : Some c ≡ Some d = sym is_class ∙ is in let same : c ≡ d = cc in subst (λ k. Represents w k x (t.x 10)) same stands_for) (omega (arith, both)))))
    where
      tail : List CodePart
      tail = instruction (Sd 2 10 (local_slot i)) ∷ []

      all : List CodePart
      all = code ++ tail

      both : size all ≡ size code + 1
      both = Rattle.pw_code.proofs.Exports.size-append code tail ∙ ap (λ k. size code + k) (alone (Sd 2 10 (local_slot i)))

      means : Locals → State → Outcome Completion
      means = λ locals st. and_then (and_then (f locals st) (λ v. gives (Some v))) (λ v. gives (normal (with_local_set locals i v)))

      Q : Completion → MachineState → Type 0
      Q = CompletesAt w b around known (i ∷ known) (at + size all)

  -- a local is declared
  pub declare_row : (around : Surroundings) (known : List ℕ) (at i : ℕ) → i < b.frame.locals
      → RunsStatement w b around known (i ∷ known) n at (instruction (Sd 2 0 (local_slot i)) ∷ [])
      (λ locals st. and_then (gives None st) (λ v. gives (normal (with_local_set locals i v))))
  declare_row around known at i below =
      part_as w sees b frame n Q 1 (size code) around known at code (λ locals st. gives (normal (with_local_set locals i None)) st) (omega (arith, alone (Sd 2 0 (local_slot i))))
      (λ locals st s r here. local_meets around known at (at + size code) locals i 0 None st s r here below (omega arith) (λ c is. refl) (omega (arith, alone (Sd 2 0 (local_slot i)))))
    where
      code : List CodePart
      code = instruction (Sd 2 0 (local_slot i)) ∷ []

      Q : Completion → MachineState → Type 0
      Q = CompletesAt w b around known (i ∷ known) (at + size code)
