-- The row that sets a variable, and what a store in an element leaves.
use Rattle.std.proofs.Common.{◌≡◌, ◌≢◌, ℕ, suc, ◌+◌, ◌*◌, ◌%◌, ◌^◌, ◌<◌, ◌≤◌, Bool, true, false, eqb, List, [], ◌∷◌, ◌++◌, Option, Some, refl, sym, ◌∙◌, ap, subst, arith, inl, inr, pos, append_assoc}
use Rattle.std.specs.Prelude.{◌&&◌, nat_eq}
use Rattle.std.proofs.lemmas.Bool.Decides.{nat_tests}
use Rattle.pw_isa.specs.declared.instruction.Inst.TheVariants.{Sd}
use Rattle.pw_tree.specs.declared.tunit.TVar.{TVar}
use Rattle.pw_tree.specs.declared.ty.Ref.{Ref}
use Rattle.pw_tree.specs.Meaning.{named_in, definition_or_first}
use Rattle.pw_tree.specs.Names.{Definition, same_definition}
use Rattle.pw_tree.specs.States.{Value, State, with_element, Locals, Outcome, gives, and_then}
use Rattle.pw_tree.specs.Execution.{Completion, normal, stores}
use Rattle.pw_tree.specs.WellTypedExpressions.{Class, class_of, IsValue}
use Rattle.pw_mem.specs.Memory.{Mem}
use Rattle.pw_mem.specs.Words.{doubleword, put_doubleword}
use Rattle.pw_mem.proofs.Words.{word-put_same, word-put_other, fetch-put_word}
use Rattle.pw_hart.specs.Bits.{bits64}
use Rattle.pw_hart.specs.Integer.{add}
use Rattle.pw_hart.specs.State.{MachineState}
use Rattle.pw_code.specs.Items.{CodePart, instruction, address, size}
use Rattle.pw_code.proofs.Exports.{size-append}
use Rattle.pw_agree.proofs.Levels.{same_definition_is}
use Rattle.pw_simulation.specs.World.{World, entity_place}
use Rattle.pw_simulation.specs.Memories.{IsReady}
use Rattle.pw_simulation.specs.Values.{Represents, IsCarried, IsElement, AreCarried}
use Rattle.pw_simulation.specs.Moments.{IsAt, Meets}
use Rattle.pw_simulation.specs.Sees.{Sees}
use Rattle.pw_simulation.specs.Bodies.{Body, HasFrame, MeansVariable, AreLocalsCarried, IsReadyFor, Stands, Runs}
use Rattle.pw_simulation.specs.Statements.{word_place, IsPastSlots, Surroundings, CompletesAt, RunsStatement}
use Rattle.pw_simulation.proofs.Placed.{fetches_same, some_after}
use Rattle.pw_simulation.proofs.Steps.{moves_last, moves_store}
use Rattle.pw_simulation.proofs.Meets.{moved_at, meets_after}
use Rattle.pw_simulation.proofs.Pieces.{address_runs}
use Rattle.pw_simulation.proofs.Sequences.{represents_small}
use Rattle.pw_simulation.proofs.StatementParts.{ready_after, part_as, value_part}

both_left : (t u : Bool) → (t && u) ≡ true → t ≡ true
both_left true u h = refl
both_left false u h = cc

both_right : (t u : Bool) → (t && u) ≡ true → u ≡ true
both_right true u h = h
both_right false u h = cc

both_hold : (t u : Bool) → t ≡ true → u ≡ true → (t && u) ≡ true
both_hold true u e h = h
both_hold false u e h = cc

itself : (d : Definition) → same_definition d d ≡ true
itself d = grind (arith, nat_tests)

variable_words : (name : Ref) → size (address 5 name ∷ instruction (Sd 5 10 (pos 0)) ∷ []) ≡ 3
unfolding size
variable_words name = refl

module _ (w : World) (sees : Sees w) (b : Body) (frame : HasFrame w b) where
  -- ---- a store in an element

  -- a store in an element leaves the memory ready,
  ready_after_put : (m : Mem) (d : Definition) (i x : ℕ) (v : TVar) (was : ℕ) → IsElement w d i v
      → doubleword m (w.variable_place d + 8 * i) ≡ Some was → x < 2 ^ 64 → IsReady w m
      → IsReady w (put_doubleword m (w.variable_place d + 8 * i) x)
  ready_after_put m d i x v was element has small r =
      let a : ℕ = w.variable_place d + 8 * i in
      record {
        sealed = r.sealed;
        text = λ at inst h. fetches_same m (put_doubleword m a x) at inst (fetch-put_word m a at was x r.sealed has) (r.text at inst h);
        slots = λ k name h. word-put_other m a (w.slot_place k name) was x has (λ e. sees.slots_differ d i v k name element h (sym e)) ∙ r.slots k name h;
        stack = λ at at_in. some_after m a was x at small has (r.stack at at_in) (eqb a at) refl;
      }

  -- and the other elements as they were
  carried_after_put : (m : Mem) (st : State) (d : Definition) (i x : ℕ) (v : TVar) (y : Value) (was : ℕ) → IsElement w d i v
      → doubleword m (w.variable_place d + 8 * i) ≡ Some was → x < 2 ^ 64
      → Represents w (class_of v.ty) y x → AreCarried w st.variables m
      → AreCarried w (with_element d i y st).variables (put_doubleword m (w.variable_place d + 8 * i) x)
  carried_after_put m st d i x v y was element has small stands_for carried e j z other = by_test (same_definition d e && nat_eq i j) refl
    where
      a : ℕ
      a = w.variable_place d + 8 * i

      new : Mem
      new = put_doubleword m a x

      by_test : (t : Bool) → (same_definition d e && nat_eq i j) ≡ t
          → IsCarried w new (w.variable_place e + 8 * j) (class_of z.ty) (Rattle.std.proofs.Common.cond t y (st.variables e j))
      by_test true is =
          let same : d ≡ e = same_definition_is d e (both_left (same_definition d e) (nat_eq i j) is) in
          let test : nat_eq i j ≡ true = both_right (same_definition d e) (nat_eq i j) is in
          let at : i ≡ j = grind (arith, nat_tests) in
          let first : Some v ≡ Some z = sym element.there ∙ ap (Rattle.pw_tree.specs.Names.variable_at w.project) same ∙ other.there in
          let one : v ≡ z = cc in
          let place : a ≡ w.variable_place e + 8 * j = rw (same, at) refl in
          record {
            word = x;
            is = subst (λ p. doubleword new p ≡ Some x) place (word-put_same m a was x small has);
            represents = subst (λ (q : TVar). Represents w (class_of q.ty) y x) one stands_for;
          }
      by_test false is =
          let c = carried e j z other in
          record { word = c.word; is = word-put_other m a (w.variable_place e + 8 * j) was x has apart ∙ c.is; represents = c.represents }
        where
          apart : a ≢ w.variable_place e + 8 * j
          apart p =
              let same = sees.elements_differ d e i j v z element other p in
              let at = same.1 in
              let test : nat_eq i j ≡ true = grind (arith, nat_tests) in
              let found : (same_definition d e && nat_eq i j) ≡ true = both_hold (same_definition d e) (nat_eq i j) (subst (λ k. same_definition d k ≡ true) same.0 (itself d)) test in
              cc

  -- an element is set
  pub put_element_at : (d : Definition) (k x pc : ℕ) (v : TVar) (y : Value) (st : State) (s : MachineState) → IsElement w d k v → x < 2 ^ 64
      → Represents w (class_of v.ty) y x → IsAt w b.stack_pointer b.calls_left st s
      → IsAt w b.stack_pointer b.calls_left (with_element d k y st) (record s { mem = put_doubleword s.mem (w.variable_place d + 8 * k) x; pc = pc })
  put_element_at d k x pc v y st s element small stands_for at =
      let was = at.variables d k v element in
      record {
        ready = ready_after_put s.mem d k x v was.word element was.is small at.ready;
        variables = carried_after_put s.mem st d k x v y was.word element was.is small stands_for at.variables;
        stack = at.stack;
        register = at.register;
        calls = at.calls;
        few = at.few;
        steps = at.steps;
        input = at.input;
        output = at.output;
        bytes = at.bytes;
      }

  module _ (n : ℕ) (around : Surroundings) (known : List ℕ) (name : Ref) (size_of : Option ℕ) (c : Class) (means : MeansVariable w b name size_of c)
      (some : IsValue c) where
    abbrev named : Definition
    named = named_in w.project b.self.in_module b.self.in_unit name

    -- a0 is put into an element, whose address is in t0
    pub store_meets : (behind k : ℕ) (locals : Locals) (y : Value) (st : State) (s : MachineState) → IsReadyFor w b known locals n st s
        → IsElement w means.d k means.variable
        → w.code s.pc ≡ Some (Sd 5 10 (pos 0)) → s.x 5 ≡ w.variable_place means.d + 8 * k → Represents w c y (s.x 10)
        → s.pc + 4 ≡ word_place w b behind
        → Meets w (IsPastSlots b) b.stack_pointer b.calls_left 1 (CompletesAt w b around known known behind)
        (gives (normal locals) (with_element named k y st)) s
    store_meets behind k locals y st s r element here is stands_for next =
        let a : ℕ = w.variable_place means.d + 8 * k in
        let place = sees.element_places means.d k means.variable element in
        let below = place.below in
        let low = frame.low in
        let high = frame.high in
        let top = sees.apart.stack_is_low in
        let was = r.at.variables means.d k means.variable element in
        let small = represents_small w sees c y (s.x 10) some stands_for in
        let to : add (s.x 5) (bits64 (pos 0)) ≡ a = omega (arith, is) in
        let t : MachineState = record s { mem = put_doubleword s.mem a (s.x 10); pc = s.pc + 4 } in
        let go = moves_store w sees.apart s 5 10 (pos 0) a was.word r.at.ready here to was.is in
        let is_it : named ≡ means.d = ap definition_or_first means.found in
        record {
          end = t;
          reaches = moves_last w s t go;
          at = subst (λ d. IsAt w b.stack_pointer b.calls_left (with_element d k y st) t) (sym is_it)
              (put_element_at means.d k (s.x 10) (s.pc + 4) means.variable y st s element small (subst (λ q. Represents w q y (s.x 10)) (sym means.class_is) stands_for) r.at);
          keeps = λ p past. word-put_other s.mem a p was.word (s.x 10) was.is (beside p a past below low);
          holds = (next, carried s.mem (put_doubleword s.mem a (s.x 10)) (λ i few. word-put_other s.mem a (b.stack_pointer + 8 * i) was.word (s.x 10) was.is (slot_beside i a below low)) r.carried);
        }
      where
        beside : (p a : ℕ) → IsPastSlots b p → a + 8 ≤ w.stack_low → w.stack_low ≤ b.stack_pointer → a ≢ p
        beside p a past below low = omega (arith, past, below, low)

        slot_beside : (i a : ℕ) → a + 8 ≤ w.stack_low → w.stack_low ≤ b.stack_pointer → a ≢ b.stack_pointer + 8 * i
        slot_beside i a below low = omega (arith, below, low)

        carried : (old new : Mem)
            → ((i : ℕ) → i < b.frame.locals → doubleword new (b.stack_pointer + 8 * i) ≡ doubleword old (b.stack_pointer + 8 * i))
            → AreLocalsCarried w b known locals old → AreLocalsCarried w b known locals new
        carried old new same h i d is_known is_class =
            let l = h i d is_known is_class in
            record { below = l.below; word = l.word; is = same i l.below ∙ l.is; represents = l.represents }

    -- the address of a variable is brought, and a0 is put there
    variable_follows : (behind : ℕ) (locals : Locals) (y : Value) (st : State) (t : MachineState) → IsReadyFor w b known locals n st t
        → 0 < Rattle.pw_tree.specs.WellTypedUnits.room means.variable.count
        → Stands w b t.pc (address 5 name ∷ instruction (Sd 5 10 (pos 0)) ∷ []) → Represents w c y (t.x 10) → t.pc + 12 ≡ word_place w b behind
        → Meets w (IsPastSlots b) b.stack_pointer b.calls_left 3 (CompletesAt w b around known known behind)
        (gives (normal locals) (with_element named 0 y st)) t
    variable_follows behind locals y st t r some_room here stands_for next =
        let brought = address_runs w sees.apart b.self.in_module b.self.in_unit 4 name t r.at.ready here.code_at.0 in
        let s : MachineState = record t { x = brought.registers; pc = t.pc + 8 } in
        let at = moved_at w b.stack_pointer b.calls_left st t brought.registers (t.pc + 8) r.at (brought.puts.others 2 two) (brought.puts.others 9 nine) in
        let ready = ready_after w sees b frame n known known locals locals st st t s r at (let e : t.steps ≤ t.steps = omega arith in e) r.carried in
        let base : brought.registers 5 ≡ w.variable_place means.d + 8 * 0 = omega (arith, brought.puts.is ∙ ap (entity_place w) means.found) in
        meets_after w (IsPastSlots b) (IsPastSlots b) b.stack_pointer b.calls_left 2 1 (CompletesAt w b around known known behind) (gives (normal locals) (with_element named 0 y st)) t s (λ _ k. k) brought.reaches (λ _ _. refl)
        (store_meets behind 0 locals y st s ready (record { there = means.there; below = some_room }) here.code_at.1.0 base (subst (λ v. Represents w c y v) (sym (brought.puts.others 10 ten)) stands_for) (omega arith))
      where
        ten : ◌≢◌ {A = ℕ} 10 5
        ten e = cc

        two : ◌≢◌ {A = ℕ} 2 5
        two e = cc

        nine : ◌≢◌ {A = ℕ} 9 5
        nine e = cc

    -- a variable is set
    pub set_variable_row : (at : ℕ) (code : List CodePart) (f : Locals → State → Outcome Value) → 0 < Rattle.pw_tree.specs.WellTypedUnits.room size_of
        → ((locals : Locals) → Runs w b known locals n 0 c code (f locals))
        → RunsStatement w b around known known n at (code ++ address 5 name ∷ instruction (Sd 5 10 (pos 0)) ∷ [])
        (λ locals st. and_then (f locals st) (stores named 0 locals))
    set_variable_row at code f some_room runs =
        part_as w sees b frame n Q (size code + 3) (size all) around known at all (λ locals st. and_then (f locals st) (stores named 0 locals)) (omega (arith, both))
        (value_part w sees b frame n Q 3 around known at c code tail f (stores named 0) runs
        (λ locals x st t r stands_for here.
        variable_follows (at + size all) locals x st t r (let e = means.room_is in omega arith) here.code_there stands_for (let h = here.here in omega (arith, both))))
      where
        tail : List CodePart
        tail = address 5 name ∷ instruction (Sd 5 10 (pos 0)) ∷ []

        all : List CodePart
        all = code ++ tail

        both : size all ≡ size code + 3
        both = size-append code tail ∙ ap (λ k. size code + k) (variable_words name)

        Q : Completion → MachineState → Type 0
        Q = CompletesAt w b around known known (at + size all)
