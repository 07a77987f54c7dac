-- The row that sets an element of an array: the index is tested and held, the value is evaluated, and it is stored.
use Rattle.std.proofs.Common.{◌≡◌, ◌≢◌, ℕ, ◌+◌, ◌*◌, ◌^◌, ◌<◌, ◌≤◌, Bool, true, false, List, [], ◌∷◌, ◌++◌, Some, refl, sym, ◌∙◌, ap, subst, arith, inl, inr, pos, append_assoc}
use Rattle.std.specs.Prelude.{nat_lt, ℤ}
use Rattle.std.proofs.lemmas.Bool.Decides.{nat_tests}
use Rattle.pw_isa.specs.declared.instruction.Inst.TheVariants.{Slli, Add, Ld, Sd}
use Rattle.pw_tree.specs.declared.ty.Ref.{Ref}
use Rattle.pw_tree.specs.Meaning.{named_in}
use Rattle.pw_tree.specs.Names.{Definition}
use Rattle.pw_tree.specs.States.{Value, null, pointer, State, with_element, Locals, Outcome, gives, and_then, index, chosen}
use Rattle.pw_tree.specs.States as values
use Rattle.pw_tree.specs.Evaluation.{indexed, fails}
use Rattle.pw_tree.specs.Execution.{Completion, normal, stores}
use Rattle.pw_tree.specs.WellTypedExpressions.{Class, number, IsValue}
use Rattle.pw_mem.specs.Words.{doubleword}
use Rattle.pw_hart.specs.Integer.{add, sll}
use Rattle.pw_hart.specs.State.{MachineState, set, goes_on}
use Rattle.pw_code.specs.Items.{CodePart, instruction, address, size}
use Rattle.pw_code.specs.Frames.{held_slot}
use Rattle.pw_code.specs.Pieces.{check_index, hold}
use Rattle.pw_code.proofs.Exports.{size-append}
use Rattle.pw_simulation.specs.World.{World, entity_place}
use Rattle.pw_simulation.specs.Values.{Represents, IsElement}
use Rattle.pw_simulation.specs.Moments.{Reaches, Meets}
use Rattle.pw_simulation.specs.Sees.{Sees}
use Rattle.pw_simulation.specs.Bodies.{Body, HasFrame, IsUntouched, MeansVariable, IsReadyFor, context_of, Stands, GivesValue, Runs}
use Rattle.pw_simulation.specs.Statements.{word_place, IsPastSlots, Surroundings, CompletesAt, RunsStatement}
use Rattle.pw_simulation.proofs.Reach.{reaches_then}
use Rattle.pw_simulation.proofs.Steps.{Moves, moves_then, moves_last, moves_on, moves_load}
use Rattle.pw_simulation.proofs.Meets.{moved_at, meets_after, meets_then, meets_as}
use Rattle.pw_simulation.proofs.Pieces.{address_runs}
use Rattle.pw_simulation.proofs.Rows.{stands_prefix, stands_rest, offset_is, still_ready, holds_value}
use Rattle.pw_simulation.proofs.Sequences.{one_word, one_more}
use Rattle.pw_simulation.proofs.IndexRows.{index_passes, index_stops}
use Rattle.pw_simulation.proofs.StatementParts.{ready_after, AfterValue, part_as, value_part}
use Rattle.pw_simulation.proofs.VariableRows.{store_meets}

-- what follows the value: the index is loaded, the address of the element is computed, and the value is put there
abbrev put_tail : (slot : ℤ) → Ref → List CodePart
put_tail slot name = instruction (Ld 6 2 slot) ∷ instruction (Slli 6 6 3) ∷ address 5 name ∷ instruction (Add 5 5 6) ∷ instruction (Sd 5 10 (pos 0)) ∷ []

put_words : (slot : ℤ) (name : Ref) → size (put_tail slot name) ≡ 6
unfolding size
put_words slot name = refl

module _ (w : World) (sees : Sees w) (b : Body) (frame : HasFrame w b) (n : ℕ) (around : Surroundings) (known : List ℕ) (name : Ref) (array_size : ℕ)
    (c : Class)
    (means : MeansVariable w b name (Some array_size) c) (some : IsValue c) (few : array_size < 2 ^ 20) (has_slot : 0 < b.frame.held) where
  abbrev named : Definition
  named = named_in w.project b.self.in_module b.self.in_unit name

  abbrev slot : ℤ
  slot = held_slot b.frame 0

  abbrev tail : List CodePart
  tail = put_tail slot name

  -- the value is in a0, and the index in its slot
  tail_follows : (behind k : ℕ) (locals : Locals) (y : Value) (st : State) (t : MachineState) → IsReadyFor w b known locals n st t → k < array_size
      → doubleword t.mem (b.stack_pointer + 8 * (b.frame.locals + 0)) ≡ Some k → Stands w b t.pc tail → Represents w c y (t.x 10)
      → t.pc + 24 ≡ word_place w b behind
      → Meets w (IsPastSlots b) b.stack_pointer b.calls_left 6 (CompletesAt w b around known known behind)
      (gives (normal locals) (with_element named k y st)) t
  tail_follows behind k locals y st t r below held here stands_for next =
      let bound = frame.few in
      let s1 : MachineState = record t { x = set t.x 6 k; pc = t.pc + 4 } in
      let go1 : Moves w t s1 = moves_load w sees.apart t 6 2 slot (b.stack_pointer + 8 * (b.frame.locals + 0)) k r.at.ready here.code_at.0 (offset_is w sees b frame t (8 * (b.frame.locals + 0)) r.at.stack (omega arith)) held in
      let s2 : MachineState = record s1 { x = set s1.x 6 (8 * k); pc = s1.pc + 4 } in
      let shifted : sll (s1.x 6) 3 ≡ 8 * k = omega arith in
      let go2 : Moves w s1 s2 = moves_on w sees.apart s1 (Slli 6 6 3) (set s1.x 6 (8 * k)) r.at.ready here.code_at.1.0 (ap (λ v. goes_on (set s1.x 6 v) s1) shifted) in
      let brought = address_runs w sees.apart b.self.in_module b.self.in_unit 4 name s2 r.at.ready here.code_at.1.1.0 in
      let s3 : MachineState = record s2 { x = brought.registers; pc = s2.pc + 8 } in
      let element : IsElement w means.d k means.variable = record { there = means.there; below = let room = means.room_is in omega arith } in
      let place = (sees.element_places means.d k means.variable element).below in
      let low = frame.low in
      let high = frame.high in
      let top = sees.apart.stack_is_low in
      let at_element : ℕ = w.variable_place means.d + 8 * k in
      let base : brought.registers 5 ≡ w.variable_place means.d = brought.puts.is ∙ ap (entity_place w) means.found in
      let offset : brought.registers 6 ≡ 8 * k = brought.puts.others 6 six in
      let sum : add (brought.registers 5) (brought.registers 6) ≡ at_element = omega (arith, base, offset) in
      let s4 : MachineState = record s3 { x = set s3.x 5 at_element; pc = s3.pc + 4 } in
      let go4 : Moves w s3 s4 = moves_on w sees.apart s3 (Add 5 5 6) (set s3.x 5 at_element) r.at.ready here.code_at.1.1.1.0 (ap (λ v. goes_on (set s3.x 5 v) s3) sum) in
      let reaches : Reaches w.code w.words 5 t s4 = moves_then w 4 t s1 s4 go1 (moves_then w 3 s1 s2 s4 go2 (reaches_then w.code w.words 2 1 s2 s3 s4 brought.reaches (moves_last w s3 s4 go4))) in
      let at = moved_at w b.stack_pointer b.calls_left st t s4.x s4.pc r.at (brought.puts.others 2 two) (brought.puts.others 9 nine) in
      let ready = ready_after w sees b frame n known known locals locals st st t s4 r at (let e : t.steps ≤ t.steps = omega arith in e) r.carried in
      meets_after w (IsPastSlots b) (IsPastSlots b) b.stack_pointer b.calls_left 5 1 (CompletesAt w b around known known behind) (gives (normal locals) (with_element named k y st)) t s4 (λ _ q. q) reaches (λ _ _. refl)
      (store_meets w sees b frame n around known name (Some array_size) c means some behind k locals y st s4 ready element here.code_at.1.1.1.1.0 refl
      (subst (λ v. Represents w c y v) (sym (brought.puts.others 10 ten)) stands_for) (omega arith))
    where
      six : ◌≢◌ {A = ℕ} 6 5
      six e = cc

      ten : ◌≢◌ {A = ℕ} 10 5
      ten e = cc

      two : ◌≢◌ {A = ℕ} 2 5
      two e = cc

      nine : ◌≢◌ {A = ℕ} 9 5
      nine e = cc

  module _ (code : List CodePart) (f : Locals → State → Outcome Value) (runs : (locals : Locals) → Runs w b known locals n 1 c code (f locals)) where
    -- the index in a0 was tested: it is held, and the value is evaluated
    value_follows : (behind k : ℕ) (locals : Locals) (st : State) (t : MachineState) → IsReadyFor w b known locals n st t → k < array_size
        → t.x 10 ≡ k → Stands w b t.pc (hold b.frame 0 ∷ (code ++ tail))
        → t.pc + 4 * (7 + size code) ≡ word_place w b behind
        → Meets w (IsPastSlots b) b.stack_pointer b.calls_left (1 + (size code + 6)) (CompletesAt w b around known known behind)
        (and_then (f locals st) (stores named k locals)) t
    value_follows behind k locals st t r below is here next =
        let held = holds_value w sees b frame 0 st t r.at has_slot (omega arith) here.code_at.0 in
        let s : MachineState = record t { mem = held.memory; pc = t.pc + 4 } in
        let ready = still_ready w sees b frame known locals n 0 st st t s r held.at held.keeps (let e : t.steps ≤ t.steps = omega arith in e) in
        let there = stands_rest w b t.pc s.pc (hold b.frame 0 ∷ []) (code ++ tail) (one_word (Sd 2 10 slot) t.pc) here in
        meets_after w (IsPastSlots b) (IsPastSlots b) b.stack_pointer b.calls_left 1 (size code + 6) Q (and_then (f locals st) (stores named k locals)) t s (λ _ q. q) (moves_last w t s held.goes) (λ p q. held.keeps p (inr q))
        (meets_then w (IsPastSlots b) (IsUntouched b 1) (IsPastSlots b) b.stack_pointer b.calls_left (size code) 6 (GivesValue w c (s.pc + 4 * size code)) Q (f locals st) (stores named k locals) s (λ _ q. inr q) (λ _ q. q)
        (runs locals st s ready (stands_prefix w b s.pc code tail there))
        (λ y later u at gives keeps down.
        let word_there = keeps (b.stack_pointer + 8 * (b.frame.locals + 0)) (inl (omega arith, omega arith)) ∙ held.is ∙ ap Some is in
        tail_follows behind k locals y later u (still_ready w sees b frame known locals n 1 st later s u ready at keeps down) below word_there
        (stands_rest w b s.pc u.pc code tail (sym gives.0) there) gives.1 (let e = gives.0 in omega arith)))
      where
        Q : Completion → MachineState → Type 0
        Q = CompletesAt w b around known known behind

    module _ (calls : Definition → List Value → State → Outcome Value) (turns line : ℕ) (small_line : line < 2 ^ 64) where
      -- what an index leads to
      abbrev next : Locals → Value → State → Outcome Completion
      next locals v = indexed (context_of w b calls turns) array_size line v (λ k st. and_then (f locals st) (stores named k locals))

      abbrev checked_code : List CodePart
      checked_code = check_index array_size line ++ (hold b.frame 0 ∷ (code ++ tail))

      size_rest : size (hold b.frame 0 ∷ (code ++ tail)) ≡ 7 + size code
      size_rest = one_more (Sd 2 10 slot) (code ++ tail) ∙ omega (arith, size-append code tail, put_words slot name)

      size_checked : size checked_code ≡ size (check_index array_size line) + (7 + size code)
      size_checked = size-append (check_index array_size line) (hold b.frame 0 ∷ (code ++ tail)) ∙ ap (λ k. size (check_index array_size line) + k) size_rest

      index_follows : (behind at : ℕ) → at + size checked_code ≡ behind
          → AfterValue w sees b frame n (CompletesAt w b around known known behind) (size checked_code) around known at number checked_code next
      index_follows behind at e locals null st t r stands_for here = absurd stands_for
      index_follows behind at e locals (pointer f) st t r stands_for here = absurd stands_for
      index_follows behind at e locals (values.number m) st t r stands_for here = by_test (nat_lt m array_size) refl
        where
          Q : Completion → MachineState → Type 0
          Q = CompletesAt w b around known known behind

          rest : List CodePart
          rest = hold b.frame 0 ∷ (code ++ tail)

          checks : ℕ
          checks = size (check_index array_size line)

          small : array_size < 2 ^ 64
          small = omega arith

          ten : ◌≢◌ {A = ℕ} 10 6
          ten e = cc

          two : ◌≢◌ {A = ℕ} 2 6
          two e = cc

          nine : ◌≢◌ {A = ℕ} 9 6
          nine e = cc

          by_test : (v : Bool) → nat_lt m array_size ≡ v → Meets w (IsPastSlots b) b.stack_pointer b.calls_left (size checked_code) Q
              (chosen v (λ st. and_then (f locals st) (stores named m locals)) (fails (context_of w b calls turns) index line) st) t
          by_test true test =
              let below : m < array_size = grind (arith, nat_tests) in
              let p = index_passes w sees b frame known locals n 0 array_size line rest st t small r.at here.code_there (omega (arith, stands_for.0, below)) in
              let s1 : MachineState = record t { x = p.registers; pc = t.pc + 4 * checks } in
              let at1 = moved_at w b.stack_pointer b.calls_left st t p.registers s1.pc r.at (p.puts.others 2 two) (p.puts.others 9 nine) in
              let ready = ready_after w sees b frame n known known locals locals st st t s1 r at1 (let e : t.steps ≤ t.steps = omega arith in e) r.carried in
              let h = here.here in
              meets_as w (IsPastSlots b) b.stack_pointer b.calls_left (checks + (1 + (size code + 6))) (size checked_code) Q Q (and_then (f locals st) (stores named m locals)) t (omega (arith, size_checked)) (λ _ _ g. g)
              (meets_after w (IsPastSlots b) (IsPastSlots b) b.stack_pointer b.calls_left checks (1 + (size code + 6)) Q (and_then (f locals st) (stores named m locals)) t s1 (λ _ q. q) p.reaches (λ _ _. refl)
              (value_follows behind m locals st s1 ready below (p.puts.others 10 ten ∙ stands_for.0) p.there (omega (arith, size_checked))))
          by_test false test =
              let above : array_size ≤ m = grind (arith, nat_tests) in
              index_stops w sees b frame known locals n 0 array_size line rest st t small small_line r.at here.code_there (omega (arith, stands_for.0, above))

      pub set_element_row : (at : ℕ) (index_code : List CodePart) (g : Locals → State → Outcome Value)
          → ((locals : Locals) → Runs w b known locals n 0 number index_code (g locals))
          → RunsStatement w b around known known n at (index_code ++ check_index array_size line ++ hold b.frame 0 ∷ code ++ tail)
          (λ locals st. and_then (g locals st) (λ v. indexed (context_of w b calls turns) array_size line v (λ k st. and_then (f locals st) (stores named k locals))))
      set_element_row at index_code g runs_index =
          subst (λ code. RunsStatement w b around known known n at code (λ locals st. and_then (g locals st) (next locals))) (sym together)
          (part_as w sees b frame n Q (size index_code + size checked_code) (size all) around known at all (λ locals st. and_then (g locals st) (next locals)) (omega (arith, size-append index_code checked_code))
          (value_part w sees b frame n Q (size checked_code) around known at number index_code checked_code g next runs_index
          (index_follows (at + size all) (at + size index_code) (omega (arith, size-append index_code checked_code)))))
        where
          all : List CodePart
          all = index_code ++ checked_code

          together : index_code ++ check_index array_size line ++ hold b.frame 0 ∷ code ++ tail ≡ all
          together = append_assoc (index_code ++ check_index array_size line) (hold b.frame 0 ∷ code) tail ∙ append_assoc index_code (check_index array_size line) (hold b.frame 0 ∷ (code ++ tail))

          Q : Completion → MachineState → Type 0
          Q = CompletesAt w b around known known (at + size all)
