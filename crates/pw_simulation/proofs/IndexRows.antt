-- The row of an array's element: the index is tested, and the element is read.
use Rattle.std.proofs.Common.{◌≡◌, ◌≢◌, ℕ, suc, ◌+◌, ◌*◌, ◌^◌, ◌<◌, ◌≤◌, Bool, true, false, List, [], ◌∷◌, ◌++◌, Some, refl, sym, ◌∙◌, ap, subst, arith, pos, append_assoc}
use Rattle.std.specs.Prelude.{nat_lt}
use Rattle.std.proofs.lemmas.Bool.Decides.{nat_tests}
use Rattle.pw_isa.specs.declared.instruction.Inst.TheVariants.{Bltu, Slli, Add, Ld}
use Rattle.pw_tree.specs.declared.ty.Ref.{Ref}
use Rattle.pw_tree.specs.Meaning.{named_in, definition_or_first}
use Rattle.pw_tree.specs.States.{Value, null, pointer, State, Locals, Outcome, gives, and_then, index, checked, chosen}
use Rattle.pw_tree.specs.States as values
use Rattle.pw_tree.specs.Evaluation.{indexed, fails}
use Rattle.pw_tree.specs.WellTypedExpressions.{Class, number}
use Rattle.pw_hart.specs.Bits.{bits64}
use Rattle.pw_hart.specs.Integer.{add, sll}
use Rattle.pw_hart.specs.State.{MachineState, set, goes_on}
use Rattle.pw_code.specs.Items.{CodePart, instruction, address, size}
use Rattle.pw_code.specs.LoadImmediate.{load_immediate}
use Rattle.pw_code.specs.Pieces.{check_index, fault}
use Rattle.pw_code.proofs.Exports.{size-append}
use Rattle.pw_simulation.specs.World.{World, entity_place}
use Rattle.pw_simulation.specs.Straight.{Puts}
use Rattle.pw_simulation.specs.Values.{Represents, IsElement}
use Rattle.pw_simulation.specs.Moments.{IsAt, Reaches, Halts, Meets}
use Rattle.pw_simulation.specs.Sees.{Sees}
use Rattle.pw_simulation.specs.Bodies.{Body, HasFrame, IsUntouched, MeansVariable, context_of, Stands, GivesValue, Runs}
use Rattle.pw_simulation.proofs.LoadImmediate.{leaves_immediate}
use Rattle.pw_simulation.proofs.Reach.{reaches_then, reaches_as}
use Rattle.pw_simulation.proofs.Steps.{Moves, moves_then, moves_last, moves_on, moves_load, moves_past_below, moves_into_above}
use Rattle.pw_simulation.proofs.Meets.{moved_at, halts_as, halts_after, meets_after}
use Rattle.pw_simulation.proofs.Pieces.{straight_runs, address_runs}
use Rattle.pw_simulation.proofs.Rows.{stands_prefix, stands_rest}
use Rattle.pw_simulation.proofs.Sequences.{one_word, one_more, meets_equal, Follows, part_row}
use Rattle.pw_simulation.proofs.CheckRows.{fault_stops, short_fault}

-- a tail of the code of an element
abbrev element_tail : Ref → List CodePart
element_tail name = instruction (Slli 10 10 3) ∷ address 5 name ∷ instruction (Add 5 5 10) ∷ instruction (Ld 10 5 (pos 0)) ∷ []

tail_words : (name : Ref) → size (element_tail name) ≡ 5
unfolding size
tail_words name = refl

module _ (w : World) (sees : Sees w) (b : Body) (frame : HasFrame w b) (known : List ℕ) (locals : Locals) (n h : ℕ) where
  -- ---- the test of an index

  -- The index in a0 was tested, and the array's size is left in t1.
  pub record Passes (array_size line : ℕ) (t : MachineState) (tail : List CodePart) : Type 0 where
    pub registers : ℕ → ℕ
    pub puts : Puts 6 array_size t.x registers
    pub reaches : Reaches w.code w.words (size (check_index array_size line)) t (record t { x = registers; pc = t.pc + 4 * size (check_index array_size line) })
    pub there : Stands w b (t.pc + 4 * size (check_index array_size line)) tail

  -- the size is loaded
  record Loaded (array_size : ℕ) (t : MachineState) : Type 0 where
    registers : ℕ → ℕ
    puts : Puts 6 array_size t.x registers
    reaches : Reaches w.code w.words (size (load_immediate 6 array_size)) t (record t { x = registers; pc = t.pc + 4 * size (load_immediate 6 array_size) })

  loads_size : (array_size line : ℕ) (tail : List CodePart) (st : State) (t : MachineState) → array_size < 2 ^ 64 → IsAt w b.stack_pointer b.calls_left st t → Stands w b t.pc (check_index array_size line ++ tail) → Loaded array_size t
  loads_size array_size line tail st t small at here =
      let l = leaves_immediate 5 array_size t.x small in
      let piece : List CodePart = instruction (Bltu 10 6 (pos (4 * suc (size (fault 1 line))))) ∷ fault 1 line in
      let li = stands_prefix w b t.pc (load_immediate 6 array_size) piece (stands_prefix w b t.pc (check_index array_size line) tail here) in
      record { registers = l.registers; puts = l.puts; reaches = straight_runs w sees.apart b.self.in_module b.self.in_unit (load_immediate 6 array_size) t l.registers at.ready li.code_at l.is }

  check_size : (array_size line : ℕ) → size (check_index array_size line) ≡ size (load_immediate 6 array_size) + (1 + size (fault 1 line))
  check_size array_size line =
      let branch = Bltu 10 6 (pos (4 * suc (size (fault 1 line)))) in
      size-append (load_immediate 6 array_size) (instruction branch ∷ fault 1 line) ∙ ap (λ k. size (load_immediate 6 array_size) + k) (one_more branch (fault 1 line))

  branch_there : (array_size line : ℕ) (tail : List CodePart) (p : ℕ) → Stands w b p (check_index array_size line ++ tail)
      → Stands w b (p + 4 * size (load_immediate 6 array_size)) ((instruction (Bltu 10 6 (pos (4 * suc (size (fault 1 line))))) ∷ fault 1 line) ++ tail)
  branch_there array_size line tail p here =
      let piece : List CodePart = instruction (Bltu 10 6 (pos (4 * suc (size (fault 1 line))))) ∷ fault 1 line in
      stands_rest w b p (p + 4 * size (load_immediate 6 array_size)) (load_immediate 6 array_size) (piece ++ tail) refl
      (subst (λ code. Stands w b p code) (append_assoc (load_immediate 6 array_size) piece tail) here)

  pub index_passes : (array_size line : ℕ) (tail : List CodePart) (st : State) (t : MachineState) → array_size < 2 ^ 64 → IsAt w b.stack_pointer b.calls_left st t
      → Stands w b t.pc (check_index array_size line ++ tail) → t.x 10 < array_size → Passes array_size line t tail
  index_passes array_size line tail st t small at here below =
      let piece = fault 1 line in
      let l = loads_size array_size line tail st t small at here in
      let s1 : MachineState = record t { x = l.registers; pc = t.pc + 4 * size (load_immediate 6 array_size) } in
      let there = branch_there array_size line tail t.pc here in
      let short = short_fault w sees b frame known locals n h 1 line in
      let less : l.registers 10 < l.registers 6 = omega (arith, l.puts.is, l.puts.others 10 ten, below) in
      let go = moves_past_below w sees.apart s1 10 6 (4 * suc (size piece)) at.ready there.code_at.0 less (omega arith) (omega arith) (omega arith) in
      let end : t.pc + 4 * size (load_immediate 6 array_size) + 4 * suc (size piece) ≡ t.pc + 4 * size (check_index array_size line) = omega (arith, check_size array_size line) in
      let own : size (load_immediate 6 array_size) + 1 ≤ size (check_index array_size line) = omega (arith, check_size array_size line) in
      record {
        registers = l.registers;
        puts = l.puts;
        reaches = subst (λ p. Reaches w.code w.words (size (check_index array_size line)) t (record t { x = l.registers; pc = p })) end
            (reaches_as w.code w.words (size (load_immediate 6 array_size) + 1) (size (check_index array_size line)) t (record s1 { pc = s1.pc + 4 * suc (size piece) }) own
            (reaches_then w.code w.words (size (load_immediate 6 array_size)) 1 t s1 (record s1 { pc = s1.pc + 4 * suc (size piece) }) l.reaches (moves_last w s1 (record s1 { pc = s1.pc + 4 * suc (size piece) }) go)));
        there = stands_rest w b t.pc (t.pc + 4 * size (check_index array_size line)) (check_index array_size line) tail refl here;
      }
    where
      ten : ◌≢◌ {A = ℕ} 10 6
      ten e = cc

  pub index_stops : (array_size line : ℕ) (tail : List CodePart) (st : State) (t : MachineState) → array_size < 2 ^ 64 → line < 2 ^ 64 → IsAt w b.stack_pointer b.calls_left st t
      → Stands w b t.pc (check_index array_size line ++ tail) → array_size ≤ t.x 10 → Halts w (size (check_index array_size line ++ tail)) (checked index b.self line) st t
  index_stops array_size line tail st t small small_line at here above =
      let piece = fault 1 line in
      let l = loads_size array_size line tail st t small at here in
      let s1 : MachineState = record t { x = l.registers; pc = t.pc + 4 * size (load_immediate 6 array_size) } in
      let there = branch_there array_size line tail t.pc here in
      let branch = Bltu 10 6 (pos (4 * suc (size piece))) in
      let not_less : l.registers 6 ≤ l.registers 10 = omega (arith, l.puts.is, l.puts.others 10 ten, above) in
      let go = moves_into_above w sees.apart s1 10 6 (4 * suc (size piece)) at.ready there.code_at.0 not_less in
      let s2 : MachineState = record s1 { pc = s1.pc + 4 } in
      let at2 = moved_at w b.stack_pointer b.calls_left st t l.registers s2.pc at (l.puts.others 2 two) (l.puts.others 9 nine) in
      let fault_there = stands_prefix w b s2.pc piece tail (stands_rest w b s1.pc s2.pc (instruction branch ∷ []) (piece ++ tail) (one_word branch s1.pc) there) in
      let all : size (check_index array_size line ++ tail) ≡ size (load_immediate 6 array_size) + (1 + size piece) + size tail =
      size-append (check_index array_size line) tail ∙ ap (λ k. k + size tail) (check_size array_size line) in
      halts_as w (size (load_immediate 6 array_size) + (1 + size piece)) (size (check_index array_size line ++ tail)) _ st t (omega (arith, all))
      (halts_after w (size (load_immediate 6 array_size)) (1 + size piece) _ st t s1 l.reaches
      (halts_after w 1 (size piece) _ st s1 s2 (moves_last w s1 s2 go) (fault_stops w sees b frame known locals n h index line st s2 small_line at2 fault_there)))
    where
      ten : ◌≢◌ {A = ℕ} 10 6
      ten e = cc

      two : ◌≢◌ {A = ℕ} 2 6
      two e = cc

      nine : ◌≢◌ {A = ℕ} 9 6
      nine e = cc

  -- ---- an element

  -- what is read, after the test
  reads_element : (name : Ref) (array_size k : ℕ) (c : Class) → MeansVariable w b name (Some array_size) c → k < array_size → array_size < 2 ^ 20
      → (st : State) (t : MachineState) → IsAt w b.stack_pointer b.calls_left st t → t.x 10 ≡ k → Stands w b t.pc (element_tail name)
      → Meets w (IsUntouched b h) b.stack_pointer b.calls_left 5 (GivesValue w c (t.pc + 20)) (gives (st.variables (named_in w.project b.self.in_module b.self.in_unit name) k) st) t
  reads_element name array_size k c means below few st t at is here =
      let shifted : sll (t.x 10) 3 ≡ 8 * k = ap (λ v. sll v 3) is ∙ omega arith in
      let s1 : MachineState = record t { x = set t.x 10 (8 * k); pc = t.pc + 4 } in
      let go1 : Moves w t s1 = moves_on w sees.apart t (Slli 10 10 3) (set t.x 10 (8 * k)) at.ready here.code_at.0 (ap (λ v. goes_on (set t.x 10 v) t) shifted) in
      let brought = address_runs w sees.apart b.self.in_module b.self.in_unit 4 name s1 at.ready here.code_at.1.0 in
      let s2 : MachineState = record s1 { x = brought.registers; pc = s1.pc + 8 } in
      let four : t.pc + 4 + 8 ≡ s2.pc = refl in
      let is_it : named_in w.project b.self.in_module b.self.in_unit name ≡ means.d = ap definition_or_first means.found in
      let element : IsElement w means.d k means.variable = record { there = means.there; below = let room = means.room_is in omega arith } in
      let place = sees.element_places means.d k means.variable element in
      let carried = at.variables means.d k means.variable element in
      let base : brought.registers 5 ≡ w.variable_place means.d = brought.puts.is ∙ ap (entity_place w) means.found in
      let offset : brought.registers 10 ≡ 8 * k = brought.puts.others 10 ten in
      let at_element : ℕ = w.variable_place means.d + 8 * k in
      let top : at_element + 8 < 2 ^ 63 = let p = place.below in let low = frame.low in let high = frame.high in let end = sees.apart.stack_is_low in omega arith in
      let sum : add (brought.registers 5) (brought.registers 10) ≡ at_element = omega (arith, base, offset) in
      let s3 : MachineState = record s2 { x = set s2.x 5 at_element; pc = s2.pc + 4 } in
      let go3 : Moves w s2 s3 = moves_on w sees.apart s2 (Add 5 5 10) (set s2.x 5 at_element) at.ready here.code_at.1.1.0 (ap (λ v. goes_on (set s2.x 5 v) s2) sum) in
      let to : add at_element (bits64 (pos 0)) ≡ at_element = omega arith in
      let s4 : MachineState = record s3 { x = set s3.x 10 carried.word; pc = s3.pc + 4 } in
      let go4 : Moves w s3 s4 = moves_load w sees.apart s3 10 5 (pos 0) at_element carried.word at.ready here.code_at.1.1.1.0 to carried.is in
      record {
        end = s4;
        reaches = moves_then w 4 t s1 s4 go1 (reaches_then w.code w.words 2 2 s1 s2 s4 brought.reaches (moves_then w 1 s2 s3 s4 go3 (moves_last w s3 s4 go4)));
        at = moved_at w b.stack_pointer b.calls_left st t s4.x s4.pc at (brought.puts.others 2 two) (brought.puts.others 9 nine);
        keeps = λ _ _. refl;
        holds = (omega arith, subst (λ d. Represents w c (st.variables d k) carried.word) (sym is_it) (subst (λ q. Represents w q (st.variables means.d k) carried.word) means.class_is carried.represents));
      }
    where
      ten : ◌≢◌ {A = ℕ} 10 5
      ten e = cc

      two : ◌≢◌ {A = ℕ} 2 5
      two e = cc

      nine : ◌≢◌ {A = ℕ} 9 5
      nine e = cc

  element_follows : (name : Ref) (array_size line : ℕ) (c : Class) (calls : _) (turns : ℕ) → MeansVariable w b name (Some array_size) c → array_size < 2 ^ 20 → line < 2 ^ 64
      → Follows w sees b frame known locals n h number c (check_index array_size line ++ element_tail name)
      (λ x. indexed (context_of w b calls turns) array_size line x (λ k st. gives (st.variables (named_in w.project b.self.in_module b.self.in_unit name) k) st))
  element_follows name array_size line c calls turns means few small_line null st t r stands_for here = absurd stands_for
  element_follows name array_size line c calls turns means few small_line (pointer f) st t r stands_for here = absurd stands_for
  element_follows name array_size line c calls turns means few small_line (values.number m) st t r stands_for here = by_test (nat_lt m array_size) refl
    where
      ten : ◌≢◌ {A = ℕ} 10 6
      ten e = cc

      two : ◌≢◌ {A = ℕ} 2 6
      two e = cc

      nine : ◌≢◌ {A = ℕ} 9 6
      nine e = cc

      tail : List CodePart
      tail = element_tail name

      code : List CodePart
      code = check_index array_size line ++ tail

      all : size code ≡ size (check_index array_size line) + 5
      all = size-append (check_index array_size line) tail ∙ ap (λ k. size (check_index array_size line) + k) (tail_words name)

      small : array_size < 2 ^ 64
      small = omega arith

      end : ℕ
      end = t.pc + 4 * size code

      by_test : (v : Bool) → nat_lt m array_size ≡ v → Meets w (IsUntouched b h) b.stack_pointer b.calls_left (size code) (GivesValue w c end)
          (chosen v (λ st. gives (st.variables (named_in w.project b.self.in_module b.self.in_unit name) m) st) (fails (context_of w b calls turns) index line) st) t
      by_test true e =
          let below : m < array_size = grind (arith, nat_tests) in
          let p = index_passes array_size line tail st t small r.at here (omega (arith, stands_for.0, below)) in
          let s1 : MachineState = record t { x = p.registers; pc = t.pc + 4 * size (check_index array_size line) } in
          let at1 = moved_at w b.stack_pointer b.calls_left st t p.registers s1.pc r.at (p.puts.others 2 two) (p.puts.others 9 nine) in
          let reads = reads_element name array_size m c means below few st s1 at1 (p.puts.others 10 ten ∙ stands_for.0) p.there in
          let o : Outcome Value = gives (st.variables (named_in w.project b.self.in_module b.self.in_unit name) m) st in
          meets_equal w sees b frame known locals n h (size (check_index array_size line) + 5) (size code) end end c o t (sym all) refl
          (meets_after w (IsUntouched b h) (IsUntouched b h) b.stack_pointer b.calls_left (size (check_index array_size line)) 5 (GivesValue w c end) o t s1 (λ _ k. k) p.reaches (λ _ _. refl)
          (meets_equal w sees b frame known locals n h 5 5 (s1.pc + 20) end c o s1 refl (omega (arith, all)) reads))
      by_test false e =
          let above : array_size ≤ m = grind (arith, nat_tests) in
          index_stops array_size line tail st t small small_line r.at here (omega (arith, stands_for.0, above))

  pub element_row : (name : Ref) (array_size line : ℕ) (c : Class) (calls : _) (turns : ℕ) (code : List CodePart) (f : State → Outcome Value) → MeansVariable w b name (Some array_size) c → array_size < 2 ^ 20 → line < 2 ^ 64
      → Runs w b known locals n h number code f
      → Runs w b known locals n h c (code ++ check_index array_size line ++ element_tail name)
      (λ st. and_then (f st) (λ x. indexed (context_of w b calls turns) array_size line x (λ k st. gives (st.variables (named_in w.project b.self.in_module b.self.in_unit name) k) st)))
  element_row name array_size line c calls turns code f means few small_line runs =
      let next : Value → State → Outcome Value = λ x. indexed (context_of w b calls turns) array_size line x (λ k st. gives (st.variables (named_in w.project b.self.in_module b.self.in_unit name) k) st) in
      subst (λ all. Runs w b known locals n h c all (λ st. and_then (f st) next)) (sym (append_assoc code (check_index array_size line) (element_tail name)))
      (part_row w sees b frame known locals n h number c code (check_index array_size line ++ element_tail name) f next runs (element_follows name array_size line c calls turns means few small_line))
