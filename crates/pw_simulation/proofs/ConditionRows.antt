-- The rows that jump: `c ? a : b`, `&&` and `||`.
use Rattle.std.proofs.Common.{◌≡◌, ◌≢◌, ℕ, suc, ◌+◌, ◌*◌, ◌≤◌, Bool, true, false, not, List, [], ◌∷◌, ◌++◌, refl, sym, ◌∙◌, ap, subst, arith, pos, append_assoc}
use Rattle.std.specs.Prelude.{nat_eq}
use Rattle.std.proofs.lemmas.Bool.Decides.{nat_tests}
use Rattle.pw_isa.specs.declared.instruction.Inst.{Inst}
use Rattle.pw_isa.specs.declared.instruction.Inst.TheVariants.{Bne, Beq, Jal, Sltu}
use Rattle.pw_tree.specs.Numbers.{truth}
use Rattle.pw_tree.specs.States.{Value, holds, State, Locals, Outcome, gives, and_then, chosen}
use Rattle.pw_tree.specs.States as values
use Rattle.pw_tree.specs.Evaluation.{truth_of}
use Rattle.pw_tree.specs.WellTypedExpressions.{Class, number, IsValue}
use Rattle.pw_hart.specs.State.{MachineState}
use Rattle.pw_code.specs.Items.{CodePart, instruction, size}
use Rattle.pw_code.specs.Pieces.{skip, unless_zero, unless_nonzero, truth_code}
use Rattle.pw_code.proofs.Exports.{size-append}
use Rattle.pw_simulation.specs.World.{World}
use Rattle.pw_simulation.specs.Values.{Represents}
use Rattle.pw_simulation.specs.Moments.{IsAt, Reaches, Lands, Meets}
use Rattle.pw_simulation.specs.Sees.{Sees}
use Rattle.pw_simulation.specs.Bodies.{Body, HasFrame, IsUntouched, IsReadyFor, Stands, GivesValue, Runs}
use Rattle.pw_simulation.proofs.Operators.{Computes, truth_computes, truth_small}
use Rattle.pw_simulation.proofs.Pieces.{straight_runs}
use Rattle.pw_simulation.proofs.Reach.{reaches_then}
use Rattle.pw_simulation.proofs.Steps.{moves_then, moves_last, moves_past, moves_into, moves_past_at_zero, moves_into_at_other, moves_ahead}
use Rattle.pw_simulation.proofs.Meets.{moved_at, meets_after, meets_as, meets_followed}
use Rattle.pw_simulation.proofs.Rows.{stands_prefix, stands_rest, still_ready, code_gives}
use Rattle.pw_simulation.proofs.Sequences.{zero_is_false, one_word, alone, one_more, meets_equal, Follows, part_row}

pub two_words : (i j : Inst) → size (instruction i ∷ instruction j ∷ []) ≡ 2
unfolding size
two_words i j = refl

pub associated : (a b c d : List CodePart) → a ++ b ++ c ++ d ≡ a ++ (b ++ (c ++ d))
associated a b c d = append_assoc (a ++ b) c d ∙ append_assoc a b (c ++ d)

or_associated : (a b c d : List CodePart) → a ++ truth_code ∷ b ++ c ++ d ≡ a ++ ((truth_code ∷ b) ++ (c ++ d))
or_associated a b c d = append_assoc (a ++ (truth_code ∷ b)) c d ∙ append_assoc a (truth_code ∷ b) (c ++ d)

module _ (w : World) (sees : Sees w) (b : Body) (frame : HasFrame w b) (known : List ℕ) (locals : Locals) (n h : ℕ) where
  -- ---- a branch round a jump

  -- where the words behind it run
  pub branch_runs : (m : ℕ) (rest : List CodePart) (st : State) (t : MachineState) → IsAt w b.stack_pointer b.calls_left st t → Stands w b t.pc (unless_zero m ++ rest) → t.x 10 ≢ 0
      → Reaches w.code w.words 1 t (record t { pc = t.pc + 8 })
  branch_runs m rest st t at here other = moves_last w t (record t { pc = t.pc + 8 }) (moves_past w sees.apart t 10 8 at.ready here.code_at.0 other (omega arith) refl (omega arith))

  pub branch_runs_at_zero : (m : ℕ) (rest : List CodePart) (st : State) (t : MachineState) → IsAt w b.stack_pointer b.calls_left st t → Stands w b t.pc (unless_nonzero m ++ rest) → t.x 10 ≡ 0
      → Reaches w.code w.words 1 t (record t { pc = t.pc + 8 })
  branch_runs_at_zero m rest st t at here is = moves_last w t (record t { pc = t.pc + 8 }) (moves_past_at_zero w sees.apart t 10 8 at.ready here.code_at.0 is (omega arith) refl (omega arith))

  -- and where they are jumped over
  pub jump_runs : (m : ℕ) (rest : List CodePart) (st : State) (t : MachineState) → IsAt w b.stack_pointer b.calls_left st t → Stands w b t.pc (unless_zero m ++ rest) → m ≤ size rest → t.x 10 ≡ 0
      → Reaches w.code w.words 2 t (record t { pc = t.pc + 4 + 4 * suc m })
  jump_runs m rest st t at here few is =
      let all : size (unless_zero m ++ rest) ≡ 2 + size rest = size-append (unless_zero m) rest ∙ ap (λ k. k + size rest) (two_words (Bne 10 0 (pos 8)) (Jal 0 (pos (4 * suc m)))) in
      let to = here.to in let short = here.short in let from = here.from in
      let s1 : MachineState = record t { pc = t.pc + 4 } in
      moves_then w 1 t s1 (record t { pc = t.pc + 4 + 4 * suc m }) (moves_into w sees.apart t 10 8 at.ready here.code_at.0 is)
      (moves_last w s1 (record t { pc = t.pc + 4 + 4 * suc m }) (moves_ahead w sees.apart s1 (4 * suc m) at.ready here.code_at.1.0 (omega arith) (omega arith) (omega (arith, all))))

  pub jump_runs_at_other : (m : ℕ) (rest : List CodePart) (st : State) (t : MachineState) → IsAt w b.stack_pointer b.calls_left st t → Stands w b t.pc (unless_nonzero m ++ rest) → m ≤ size rest → t.x 10 ≢ 0
      → Reaches w.code w.words 2 t (record t { pc = t.pc + 4 + 4 * suc m })
  jump_runs_at_other m rest st t at here few other =
      let all : size (unless_nonzero m ++ rest) ≡ 2 + size rest = size-append (unless_nonzero m) rest ∙ ap (λ k. k + size rest) (two_words (Beq 10 0 (pos 8)) (Jal 0 (pos (4 * suc m)))) in
      let to = here.to in let short = here.short in let from = here.from in
      let s1 : MachineState = record t { pc = t.pc + 4 } in
      moves_then w 1 t s1 (record t { pc = t.pc + 4 + 4 * suc m }) (moves_into_at_other w sees.apart t 10 8 at.ready here.code_at.0 other)
      (moves_last w s1 (record t { pc = t.pc + 4 + 4 * suc m }) (moves_ahead w sees.apart s1 (4 * suc m) at.ready here.code_at.1.0 (omega arith) (omega arith) (omega (arith, all))))

  -- ---- a condition

  -- the value of the condition decides
  pub decided : (c : Class) (x : Value) (v : ℕ) → IsValue c → Represents w c x v → (t : Bool) → holds x ≡ t → nat_eq v 0 ≡ not t
  decided c x v some stands_for t e = zero_is_false w sees c x v some stands_for ∙ ap not e

  -- code that begins where a stretch ends
  pub begins_at : (own more : ℕ) (d : Class) (to : ℕ) (o : Outcome Value) (t u : MachineState) → Reaches w.code w.words own t u → u.mem ≡ t.mem
      → Meets w (IsUntouched b h) b.stack_pointer b.calls_left more (GivesValue w d to) o u → Meets w (IsUntouched b h) b.stack_pointer b.calls_left (own + more) (GivesValue w d to) o t
  begins_at own more d to o t u reaches same m =
      meets_after w (IsUntouched b h) (IsUntouched b h) b.stack_pointer b.calls_left own more (GivesValue w d to) o t u (λ _ k. k) reaches
      (λ at _. ap (λ k. Rattle.pw_mem.specs.Words.doubleword k at) same) m

  pub room_as : (own more : ℕ) (d : Class) (to : ℕ) (o : Outcome Value) (t : MachineState) → own ≤ more
      → Meets w (IsUntouched b h) b.stack_pointer b.calls_left own (GivesValue w d to) o t → Meets w (IsUntouched b h) b.stack_pointer b.calls_left more (GivesValue w d to) o t
  room_as own more d to o t fits m = meets_as w (IsUntouched b h) b.stack_pointer b.calls_left own more (GivesValue w d to) (GivesValue w d to) o t fits (λ _ _ g. g) m

  pub moved_ready : (st : State) (t : MachineState) (pc : ℕ) → IsReadyFor w b known locals n st t → IsReadyFor w b known locals n st (record t { pc = pc })
  moved_ready st t pc r = record { at = moved_at w b.stack_pointer b.calls_left st t t.x pc r.at refl refl; carried = r.carried; fuel = r.fuel }

  -- ---- `c ? a : b`

  conditional_follows : (c d : Class) (code2 code3 : List CodePart) (f2 f3 : State → Outcome Value) → IsValue c → Runs w b known locals n h d code2 f2 → Runs w b known locals n h d code3 f3
      → Follows w sees b frame known locals n h c d (unless_zero (size code2 + 1) ++ (code2 ++ skip (size code3) ∷ code3)) (λ x. chosen (holds x) f2 f3)
  conditional_follows c d code2 code3 f2 f3 some runs2 runs3 x st t r stands_for here = by_condition (holds x) refl
    where
      jump : Inst
      jump = Jal 0 (pos (4 * suc (size code3)))

      branch : List CodePart
      branch = unless_zero (size code2 + 1)

      tail : List CodePart
      tail = skip (size code3) ∷ code3

      rest : List CodePart
      rest = code2 ++ tail

      size_rest : size rest ≡ size code2 + (1 + size code3)
      size_rest = size-append code2 tail ∙ ap (λ k. size code2 + k) (one_more jump code3)

      all : size (branch ++ rest) ≡ 2 + size rest
      all = size-append branch rest ∙ ap (λ k. k + size rest) (two_words (Bne 10 0 (pos 8)) (Jal 0 (pos (4 * suc (size code2 + 1)))))

      first : t.pc + 4 * size branch ≡ t.pc + 8
      first = ap (λ k. t.pc + 4 * k) (two_words (Bne 10 0 (pos 8)) (Jal 0 (pos (4 * suc (size code2 + 1)))))

      rest_there : Stands w b (t.pc + 8) rest
      rest_there = stands_rest w b t.pc (t.pc + 8) branch rest first here

      tail_there : (p : ℕ) → t.pc + 8 + 4 * size code2 ≡ p → Stands w b p tail
      tail_there p e = stands_rest w b (t.pc + 8) p code2 tail e rest_there

      end : ℕ
      end = t.pc + 4 * size (branch ++ rest)

      jumps : (y : Value) (later : State) (v : MachineState) → IsAt w b.stack_pointer b.calls_left later v → GivesValue w d (t.pc + 8 + 4 * size code2) y v
          → Lands w (IsUntouched b h) b.stack_pointer b.calls_left 1 later v (GivesValue w d end y)
      jumps y later v at ends =
          let there = tail_there v.pc (sym ends.0) in
          let to = there.to in let short = there.short in let from = there.from in
          let go = moves_ahead w sees.apart v (4 * suc (size code3)) at.ready there.code_at.0 (omega arith) (omega arith) (omega (arith, one_more jump code3)) in
          let u : MachineState = record v { pc = v.pc + 4 * suc (size code3) } in
          record {
            end = u;
            reaches = moves_last w v u go;
            at = moved_at w b.stack_pointer b.calls_left later v v.x (v.pc + 4 * suc (size code3)) at refl refl;
            keeps = λ _ _. refl;
            holds = (omega (arith, all, size_rest, ends.0), ends.1);
          }

      by_condition : (v : Bool) → holds x ≡ v → Meets w (IsUntouched b h) b.stack_pointer b.calls_left (size (branch ++ rest)) (GivesValue w d end) (chosen v f2 f3 st) t
      by_condition true e =
          let test = decided c x (t.x 10) some stands_for true e in
          let other : t.x 10 ≢ 0 = grind (arith, nat_tests) in
          let u : MachineState = record t { pc = t.pc + 8 } in
          let runs = runs2 st u (moved_ready st t (t.pc + 8) r) (stands_prefix w b (t.pc + 8) code2 tail rest_there) in
          let followed = meets_followed w (IsUntouched b h) b.stack_pointer b.calls_left (size code2) 1 (GivesValue w d (t.pc + 8 + 4 * size code2)) (GivesValue w d end) (f2 st) u jumps runs in
          room_as (1 + (size code2 + 1)) (size (branch ++ rest)) d end (f2 st) t (omega (arith, all, size_rest))
          (begins_at 1 (size code2 + 1) d end (f2 st) t u (branch_runs (size code2 + 1) rest st t r.at here other) refl followed)
      by_condition false e =
          let test = decided c x (t.x 10) some stands_for false e in
          let is : t.x 10 ≡ 0 = grind (arith, nat_tests) in
          let pc : ℕ = t.pc + 4 + 4 * suc (size code2 + 1) in
          let u : MachineState = record t { pc = pc } in
          let code3_there = stands_rest w b (t.pc + 8 + 4 * size code2) pc (instruction jump ∷ []) code3 (one_word jump (t.pc + 8 + 4 * size code2) ∙ omega arith) (tail_there (t.pc + 8 + 4 * size code2) refl) in
          let runs = runs3 st u (moved_ready st t pc r) code3_there in
          let to : pc + 4 * size code3 ≡ end = omega (arith, all, size_rest) in
          room_as (2 + size code3) (size (branch ++ rest)) d end (f3 st) t (omega (arith, all, size_rest))
          (begins_at 2 (size code3) d end (f3 st) t u (jump_runs (size code2 + 1) rest st t r.at here (omega (arith, size_rest)) is) refl
          (meets_equal w sees b frame known locals n h (size code3) (size code3) (pc + 4 * size code3) end d (f3 st) u refl to runs))

  pub conditional_row : (c d : Class) (code1 code2 code3 : List CodePart) (n2 n3 : ℕ) (f1 f2 f3 : State → Outcome Value) → IsValue c → size code2 ≡ n2 → size code3 ≡ n3
      → Runs w b known locals n h c code1 f1 → Runs w b known locals n h d code2 f2 → Runs w b known locals n h d code3 f3
      → Runs w b known locals n h d (code1 ++ unless_zero (n2 + 1) ++ code2 ++ skip n3 ∷ code3) (λ st. and_then (f1 st) (λ x. chosen (holds x) f2 f3))
  conditional_row c d code1 code2 code3 n2 n3 f1 f2 f3 some e2 e3 runs1 runs2 runs3 =
      subst (λ k2. Runs w b known locals n h d (code1 ++ unless_zero (k2 + 1) ++ code2 ++ skip n3 ∷ code3) (λ st. and_then (f1 st) (λ x. chosen (holds x) f2 f3))) e2
      (subst (λ k3. Runs w b known locals n h d (code1 ++ unless_zero (size code2 + 1) ++ code2 ++ skip k3 ∷ code3) (λ st. and_then (f1 st) (λ x. chosen (holds x) f2 f3))) e3
      (subst (λ code. Runs w b known locals n h d code (λ st. and_then (f1 st) (λ x. chosen (holds x) f2 f3))) (sym (associated code1 (unless_zero (size code2 + 1)) code2 (skip (size code3) ∷ code3)))
      (part_row w sees b frame known locals n h c d code1 (unless_zero (size code2 + 1) ++ (code2 ++ skip (size code3) ∷ code3)) f1 (λ x. chosen (holds x) f2 f3) runs1
      (conditional_follows c d code2 code3 f2 f3 some runs2 runs3))))

  -- ---- `&&` and `||`

  -- the right operand, and then its truth
  right_runs : (c : Class) (code : List CodePart) (f : State → Outcome Value) → IsValue c → Runs w b known locals n h c code f
      → Runs w b known locals n h number (code ++ truth_code ∷ []) (λ st. and_then (f st) truth_of)
  right_runs c code f some runs = part_row w sees b frame known locals n h c number code (truth_code ∷ []) f truth_of runs follows
    where
      follows : Follows w sees b frame known locals n h c number (truth_code ∷ []) truth_of
      follows x st t r stands_for here =
          code_gives w sees b frame h number (truth_code ∷ []) (values.number (truth (holds x))) (truth (not (nat_eq (t.x 10) 0))) st t r.at here.code_at
          (truth_computes (t.x 10) t.x refl) (ap (λ v. truth (not v)) (zero_is_false w sees c x (t.x 10) some stands_for) ∙ ap truth (twice (holds x)), truth_small (holds x))
        where
          twice : (v : Bool) → not (not v) ≡ v
          twice true = refl
          twice false = refl

  -- a value that is known, at the end of a jump
  known_value : (own more to : ℕ) (x : Value) (st : State) (t u : MachineState) → own ≤ more → Reaches w.code w.words own t u → IsAt w b.stack_pointer b.calls_left st u → u.mem ≡ t.mem
      → u.pc ≡ to → Represents w number x (u.x 10) → Meets w (IsUntouched b h) b.stack_pointer b.calls_left more (GivesValue w number to) (gives x st) t
  known_value own more to x st t u fits reaches at same there stands_for =
      room_as own more number to (gives x st) t fits (record {
        end = u;
        reaches = reaches;
        at = at;
        keeps = λ p _. ap (λ k. Rattle.pw_mem.specs.Words.doubleword k p) same;
        holds = (there, stands_for);
      })

  and_follows : (c1 c2 : Class) (code : List CodePart) (f : State → Outcome Value) → IsValue c1 → IsValue c2 → Runs w b known locals n h c2 code f
      → Follows w sees b frame known locals n h c1 number (unless_zero (size code + 1) ++ (code ++ truth_code ∷ [])) (λ x st. chosen (holds x) (λ st. and_then (f st) truth_of) (gives (values.number 0)) st)
  and_follows c1 c2 code f some1 some2 runs x st t r stands_for here = by_condition (holds x) refl
    where
      branch : List CodePart
      branch = unless_zero (size code + 1)

      rest : List CodePart
      rest = code ++ truth_code ∷ []

      size_rest : size rest ≡ size code + 1
      size_rest = size-append code (truth_code ∷ []) ∙ ap (λ k. size code + k) (alone _)

      all : size (branch ++ rest) ≡ 2 + size rest
      all = size-append branch rest ∙ ap (λ k. k + size rest) (two_words (Bne 10 0 (pos 8)) (Jal 0 (pos (4 * suc (size code + 1)))))

      rest_there : Stands w b (t.pc + 8) rest
      rest_there = stands_rest w b t.pc (t.pc + 8) branch rest (ap (λ k. t.pc + 4 * k) (two_words (Bne 10 0 (pos 8)) (Jal 0 (pos (4 * suc (size code + 1)))))) here

      end : ℕ
      end = t.pc + 4 * size (branch ++ rest)

      right : State → Outcome Value
      right = λ st. and_then (f st) truth_of

      by_condition : (v : Bool) → holds x ≡ v → Meets w (IsUntouched b h) b.stack_pointer b.calls_left (size (branch ++ rest)) (GivesValue w number end) (chosen v right (gives (values.number 0)) st) t
      by_condition true e =
          let test = decided c1 x (t.x 10) some1 stands_for true e in
          let other : t.x 10 ≢ 0 = grind (arith, nat_tests) in
          let u : MachineState = record t { pc = t.pc + 8 } in
          let row = right_runs c2 code f some2 runs st u (moved_ready st t (t.pc + 8) r) rest_there in
          room_as (1 + size rest) (size (branch ++ rest)) number end (right st) t (omega (arith, all))
          (begins_at 1 (size rest) number end (right st) t u (branch_runs (size code + 1) rest st t r.at here other) refl
          (meets_equal w sees b frame known locals n h (size rest) (size rest) (t.pc + 8 + 4 * size rest) end number (right st) u refl (omega (arith, all)) row))
      by_condition false e =
          let test = decided c1 x (t.x 10) some1 stands_for false e in
          let is : t.x 10 ≡ 0 = grind (arith, nat_tests) in
          let pc : ℕ = t.pc + 4 + 4 * suc (size code + 1) in
          known_value 2 (size (branch ++ rest)) end (values.number 0) st t (record t { pc = pc }) (omega (arith, all)) (jump_runs (size code + 1) rest st t r.at here (omega (arith, size_rest)) is)
          (moved_at w b.stack_pointer b.calls_left st t t.x pc r.at refl refl) refl (omega (arith, all, size_rest)) (is, omega arith)

  pub and_row : (c1 c2 : Class) (code1 code2 : List CodePart) (n2 : ℕ) (f1 f2 : State → Outcome Value) → IsValue c1 → IsValue c2 → size code2 ≡ n2
      → Runs w b known locals n h c1 code1 f1 → Runs w b known locals n h c2 code2 f2
      → Runs w b known locals n h number (code1 ++ unless_zero (n2 + 1) ++ code2 ++ truth_code ∷ [])
      (λ st. and_then (f1 st) (λ x st. chosen (holds x) (λ st. and_then (f2 st) truth_of) (gives (values.number 0)) st))
  and_row c1 c2 code1 code2 n2 f1 f2 some1 some2 e2 runs1 runs2 =
      let means : State → Outcome Value = λ st. and_then (f1 st) (λ x st. chosen (holds x) (λ st. and_then (f2 st) truth_of) (gives (values.number 0)) st) in
      subst (λ k2. Runs w b known locals n h number (code1 ++ unless_zero (k2 + 1) ++ code2 ++ truth_code ∷ []) means) e2
      (subst (λ code. Runs w b known locals n h number code means) (sym (associated code1 (unless_zero (size code2 + 1)) code2 (truth_code ∷ [])))
      (part_row w sees b frame known locals n h c1 number code1 (unless_zero (size code2 + 1) ++ (code2 ++ truth_code ∷ [])) f1 (λ x st. chosen (holds x) (λ st. and_then (f2 st) truth_of) (gives (values.number 0)) st) runs1
      (and_follows c1 c2 code2 f2 some1 some2 runs2)))

  or_follows : (c1 c2 : Class) (code : List CodePart) (f : State → Outcome Value) → IsValue c1 → IsValue c2 → Runs w b known locals n h c2 code f
      → Follows w sees b frame known locals n h c1 number ((truth_code ∷ unless_nonzero (size code + 1)) ++ (code ++ truth_code ∷ [])) (λ x st. chosen (holds x) (gives (values.number 1)) (λ st. and_then (f st) truth_of) st)
  or_follows c1 c2 code f some1 some2 runs x st t r stands_for here = by_condition (holds x) refl
    where
      test_word : Inst
      test_word = Sltu 10 0 10

      branch : List CodePart
      branch = unless_nonzero (size code + 1)

      rest : List CodePart
      rest = code ++ truth_code ∷ []

      size_rest : size rest ≡ size code + 1
      size_rest = size-append code (truth_code ∷ []) ∙ ap (λ k. size code + k) (alone _)

      size_branch : size branch ≡ 2
      size_branch = two_words (Beq 10 0 (pos 8)) (Jal 0 (pos (4 * suc (size code + 1))))

      all : size ((truth_code ∷ branch) ++ rest) ≡ 3 + size rest
      all = size-append (truth_code ∷ branch) rest ∙ omega (arith, one_more test_word branch, size_branch)

      computes : Computes (truth_code ∷ []) t.x (truth (not (nat_eq (t.x 10) 0)))
      computes = truth_computes (t.x 10) t.x refl

      u : MachineState
      u = record t { x = computes.registers; pc = t.pc + 4 }

      first : Reaches w.code w.words 1 t u
      first = subst (λ k. Reaches w.code w.words k t (record t { x = computes.registers; pc = t.pc + 4 * k })) (alone test_word)
          (straight_runs w sees.apart b.self.in_module b.self.in_unit (truth_code ∷ []) t computes.registers r.at.ready (here.code_at.0, tt) computes.is)

      at_u : IsAt w b.stack_pointer b.calls_left st u
      at_u = moved_at w b.stack_pointer b.calls_left st t computes.registers (t.pc + 4) r.at computes.stack computes.register

      there : Stands w b u.pc (branch ++ rest)
      there = stands_rest w b t.pc u.pc (truth_code ∷ []) (branch ++ rest) (one_word test_word t.pc) here

      rest_there : Stands w b (t.pc + 12) rest
      rest_there = stands_rest w b u.pc (t.pc + 12) branch rest (omega (arith, size_branch)) there

      end : ℕ
      end = t.pc + 4 * size ((truth_code ∷ branch) ++ rest)

      right : State → Outcome Value
      right = λ st. and_then (f st) truth_of

      by_condition : (v : Bool) → holds x ≡ v → Meets w (IsUntouched b h) b.stack_pointer b.calls_left (size ((truth_code ∷ branch) ++ rest)) (GivesValue w number end) (chosen v (gives (values.number 1)) right st) t
      by_condition true e =
          let test = decided c1 x (t.x 10) some1 stands_for true e in
          let one : u.x 10 ≡ 1 = computes.value ∙ ap (λ v. truth (not v)) test in
          let other : u.x 10 ≢ 0 = λ z. omega (arith, one, z) in
          let pc : ℕ = u.pc + 4 + 4 * suc (size code + 1) in
          let v : MachineState = record u { pc = pc } in
          let reaches = reaches_then w.code w.words 1 2 t u v first (jump_runs_at_other (size code + 1) rest st u at_u there (omega (arith, size_rest)) other) in
          known_value 3 (size ((truth_code ∷ branch) ++ rest)) end (values.number 1) st t v (omega (arith, all)) reaches
          (moved_at w b.stack_pointer b.calls_left st u u.x pc at_u refl refl) refl (omega (arith, all, size_rest)) (one, omega arith)
      by_condition false e =
          let test = decided c1 x (t.x 10) some1 stands_for false e in
          let is : u.x 10 ≡ 0 = computes.value ∙ ap (λ v. truth (not v)) test in
          let v : MachineState = record u { pc = t.pc + 12 } in
          let at_v = moved_at w b.stack_pointer b.calls_left st u u.x (t.pc + 12) at_u refl refl in
          let ready = still_ready w sees b frame known locals n h st st t v r at_v (λ _ _. refl) (let e : t.steps ≤ t.steps = omega arith in e) in
          let same_pc : u.pc + 8 ≡ t.pc + 12 = omega arith in
          let second = subst (λ p. Reaches w.code w.words 1 u (record u { pc = p })) same_pc (branch_runs_at_zero (size code + 1) rest st u at_u there is) in
          let row = right_runs c2 code f some2 runs st v ready rest_there in
          room_as (2 + size rest) (size ((truth_code ∷ branch) ++ rest)) number end (right st) t (omega (arith, all))
          (begins_at 2 (size rest) number end (right st) t v (reaches_then w.code w.words 1 1 t u v first second) refl
          (meets_equal w sees b frame known locals n h (size rest) (size rest) (t.pc + 12 + 4 * size rest) end number (right st) v refl (omega (arith, all)) row))

  pub or_row : (c1 c2 : Class) (code1 code2 : List CodePart) (n2 : ℕ) (f1 f2 : State → Outcome Value) → IsValue c1 → IsValue c2 → size code2 ≡ n2
      → Runs w b known locals n h c1 code1 f1 → Runs w b known locals n h c2 code2 f2
      → Runs w b known locals n h number (code1 ++ truth_code ∷ unless_nonzero (n2 + 1) ++ code2 ++ truth_code ∷ [])
      (λ st. and_then (f1 st) (λ x st. chosen (holds x) (gives (values.number 1)) (λ st. and_then (f2 st) truth_of) st))
  or_row c1 c2 code1 code2 n2 f1 f2 some1 some2 e2 runs1 runs2 =
      let means : State → Outcome Value = λ st. and_then (f1 st) (λ x st. chosen (holds x) (gives (values.number 1)) (λ st. and_then (f2 st) truth_of) st) in
      subst (λ k2. Runs w b known locals n h number (code1 ++ truth_code ∷ unless_nonzero (k2 + 1) ++ code2 ++ truth_code ∷ []) means) e2
      (subst (λ code. Runs w b known locals n h number code means) (sym (or_associated code1 (unless_nonzero (size code2 + 1)) code2 (truth_code ∷ [])))
      (part_row w sees b frame known locals n h c1 number code1 ((truth_code ∷ unless_nonzero (size code2 + 1)) ++ (code2 ++ truth_code ∷ [])) f1 (λ x st. chosen (holds x) (gives (values.number 1)) (λ st. and_then (f2 st) truth_of) st) runs1
      (or_follows c1 c2 code2 f2 some1 some2 runs2)))
