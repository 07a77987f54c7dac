-- What the rows of statements stand on: known locals, places among words, jumps, and one part of a statement after another.
use Rattle.std.proofs.Common.{◌≡◌, ℕ, suc, ◌+◌, ◌-◌, ◌*◌, ◌%◌, ◌^◌, ◌<◌, ◌≤◌, Bool, true, false, eqb, leb, List, ◌∷◌, ◌++◌, Some, refl, sym, ◌∙◌, subst, arith, inr, pos, negsuc}
use Rattle.std.specs.Prelude.{◌||◌, nat_lt, nat_eq, ℤ}
use Rattle.std.proofs.lemmas.Bool.Decides.{nat_tests}
use Rattle.pw_isa.specs.declared.instruction.Inst.TheVariants.{Jal}
use Rattle.pw_tree.specs.States.{Value, State, Locals, Outcome, gives, and_then}
use Rattle.pw_tree.specs.Execution.{Completion, normal, broke, continued, returned, followed}
use Rattle.pw_tree.specs.TypedStatements.{TypedStatement}
use Rattle.pw_tree.specs.WellTypedExpressions.{Class, IsKnown}
use Rattle.pw_tree.specs.WellTypedStatements.{known_after}
use Rattle.pw_mem.specs.Memory.{Mem}
use Rattle.pw_hart.specs.declared.ends.End.TheVariants.{Spent}
use Rattle.pw_hart.specs.Bits.{bits64}
use Rattle.pw_hart.specs.Integer.{add}
use Rattle.pw_hart.specs.State.{MachineState, Goes, Ends}
use Rattle.pw_hart.specs.Run.{step}
use Rattle.pw_code.specs.Items.{CodePart, instruction, size}
use Rattle.pw_code.specs.Pieces.{jump}
use Rattle.pw_code.proofs.Exports.{size-append}
use Rattle.pw_simulation.specs.World.{World}
use Rattle.pw_simulation.specs.Memories.{IsReady, Keeps}
use Rattle.pw_simulation.specs.Values.{Represents}
use Rattle.pw_simulation.specs.Moments.{IsAt, Meets}
use Rattle.pw_simulation.specs.Sees.{Sees}
use Rattle.pw_simulation.specs.Bodies.{Body, HasFrame, IsUntouched, AreLocalsCarried, IsReadyFor, Stands, GivesValue, Runs}
use Rattle.pw_simulation.specs.Statements.{word_place, IsPastSlots, Surroundings, AreAhead, IsAboutToRun, CompletesAt, RunsStatement}
use Rattle.pw_simulation.proofs.Reach.{reaches_here, reaches_as}
use Rattle.pw_simulation.proofs.Steps.{step_is, Moves, moves_ahead}
use Rattle.pw_simulation.proofs.Meets.{meets_then, meets_as}
use Rattle.pw_simulation.proofs.Rows.{stands_prefix, stands_rest, local_untouched, still_ready}

-- ---- known locals

-- a list has at least the known locals of another
abbrev pub Covers : (more known : List ℕ) → Type 0
Covers more known = (i : ℕ) → IsKnown known i → IsKnown more i

pub covers_itself : (known : List ℕ) → Covers known known
covers_itself known i h = h

pub or_right : (t u : Bool) → u ≡ true → (t || u) ≡ true
or_right true u e = refl
or_right false u e = e

pub covers_one : (i : ℕ) (known : List ℕ) → Covers (i ∷ known) known
covers_one i known j h = or_right (nat_eq i j) _ h

pub covers_after : (s : TypedStatement) (known : List ℕ) → Covers (known_after s known) known
covers_after (TypedStatement.evaluate e) known = covers_itself known
covers_after (TypedStatement.set_local i e) known = covers_one i known
covers_after (TypedStatement.set_variable x e) known = covers_itself known
covers_after (TypedStatement.set_element a size line i e) known = covers_itself known
covers_after (TypedStatement.block body) known = covers_itself known
covers_after (TypedStatement.if_else c a b) known = covers_itself known
covers_after (TypedStatement.while_loop c body) known = covers_itself known
covers_after (TypedStatement.do_loop body c) known = covers_itself known
covers_after (TypedStatement.for_loop first c last body) known = covers_itself known
covers_after (TypedStatement.returns e) known = covers_itself known
covers_after TypedStatement.breaks known = covers_itself known
covers_after TypedStatement.continues known = covers_itself known

-- ---- places

pub ahead_less : (around : Surroundings) (behind more : ℕ) → behind ≤ more → AreAhead around more → AreAhead around behind
ahead_less around behind more less a = record {
  for_return = record { from = omega (arith, a.for_return.from); near = a.for_return.near };
  for_break = λ e. record { from = omega (arith, (a.for_break e).from); near = (a.for_break e).near };
  for_continue = λ e. record { from = omega (arith, (a.for_continue e).from); near = (a.for_continue e).near };
}

-- ---- jumps

pub jump_is_ahead : (from to : ℕ) → from ≤ to → jump from to ≡ instruction (Jal 0 (pos (4 * (to - from))))
jump_is_ahead from to less = let test : nat_lt to from ≡ false = grind (arith, nat_tests) in rw test refl

pub jump_is_back : (from to : ℕ) → to < from → jump from to ≡ instruction (Jal 0 (negsuc (3 + 4 * (from - suc to))))
jump_is_back from to less =
    let test : nat_lt to from ≡ true = grind (arith, nat_tests) in
    let e : from - to ≡ suc (from - suc to) = omega arith in
    rw (test, e) refl

module _ (w : World) (sees : Sees w) (b : Body) where
  -- a jump ahead to a word
  pub moves_to_word : (from to : ℕ) (s : MachineState) → IsReady w s.mem → s.pc ≡ word_place w b from
      → w.code s.pc ≡ Some (Jal 0 (pos (4 * (to - from)))) → from < to → to < 2 ^ 18
      → Moves w s (record s { pc = word_place w b to })
  moves_to_word from to s ready here there less near =
      let e : s.pc + 4 * (to - from) ≡ word_place w b to = omega arith in
      subst (λ p. Moves w s (record s { pc = p })) e (moves_ahead w sees.apart s (4 * (to - from)) ready there (omega arith) (omega arith) (omega arith))

  -- A jump to the same word or back stands at a word.
  pub record GoesRound (from to : ℕ) (s : MachineState) : Type 0 where
    pub by : ℤ
    pub there : w.code s.pc ≡ Some (Jal 0 by)
    pub target : add s.pc (bits64 by) ≡ word_place w b to

  pub goes_round : (from to : ℕ) (rest : List CodePart) (s : MachineState) → s.pc ≡ word_place w b from → Stands w b s.pc (jump from to ∷ rest)
      → to ≤ from → GoesRound from to s
  goes_round from to rest s here there less = by_test (nat_lt to from) refl
    where
      by_test : (t : Bool) → nat_lt to from ≡ t → GoesRound from to s
      by_test true e =
          let below : to < from = grind (arith, nat_tests) in
          let stands = subst (λ part. Stands w b s.pc (part ∷ rest)) (jump_is_back from to below) there in
          let low = sees.apart.code_low s.pc (Jal 0 (negsuc (3 + 4 * (from - suc to)))) stands.code_at.0 in
          record { by = negsuc (3 + 4 * (from - suc to)); there = stands.code_at.0; target = omega arith }
      by_test false e =
          let same : from ≤ to = grind (arith, nat_tests) in
          let stands = subst (λ part. Stands w b s.pc (part ∷ rest)) (jump_is_ahead from to same) there in
          let low = sees.apart.code_low s.pc (Jal 0 (pos (4 * (to - from)))) stands.code_at.0 in
          record { by = pos (4 * (to - from)); there = stands.code_at.0; target = omega arith }

  -- it takes a step,
  pub step_round : (from to left : ℕ) (s : MachineState) → IsReady w s.mem → s.pc ≡ word_place w b from → GoesRound from to s → to ≤ from
      → s.steps ≡ suc left
      → step s ≡ Goes (record s { pc = word_place w b to; steps = left })
  step_round from to left s ready here g less steps =
      let even = sees.apart.code_even s.pc (Jal 0 g.by) g.there in
      let aligned : eqb (word_place w b to % 4) 0 ≡ true = grind (arith, nat_tests) in
      let behind : leb (word_place w b to) s.pc ≡ true = grind (arith, nat_tests) in
      step_is w s (Jal 0 g.by) ready g.there ∙ rw (g.target, aligned, behind, steps) refl

  -- and where none is left, it is not carried out
  pub step_round_spent : (from to : ℕ) (s : MachineState) → IsReady w s.mem → s.pc ≡ word_place w b from → GoesRound from to s → to ≤ from
      → s.steps ≡ 0 → step s ≡ Ends Spent s
  step_round_spent from to s ready here g less steps =
      let even = sees.apart.code_even s.pc (Jal 0 g.by) g.there in
      let aligned : eqb (word_place w b to % 4) 0 ≡ true = grind (arith, nat_tests) in
      let behind : leb (word_place w b to) s.pc ≡ true = grind (arith, nat_tests) in
      step_is w s (Jal 0 g.by) ready g.there ∙ rw (g.target, aligned, behind, steps) refl

module _ (w : World) (sees : Sees w) (b : Body) (frame : HasFrame w b) (n : ℕ) where
  -- ---- moments

  pub carried_less : (more known : List ℕ) (locals : Locals) (m : Mem) → Covers more known → AreLocalsCarried w b more locals m
      → AreLocalsCarried w b known locals m
  carried_less more known locals m covers h i c is_known is_class = h i c (covers i is_known) is_class

  pub carried_stay : (known : List ℕ) (locals : Locals) (h : ℕ) (old new : Mem) → Keeps (IsUntouched b h) old new
      → AreLocalsCarried w b known locals old → AreLocalsCarried w b known locals new
  carried_stay known locals h old new keeps carried i c is_known is_class =
      let l = carried i c is_known is_class in
      record { below = l.below; word = l.word; is = keeps (b.stack_pointer + 8 * i) (local_untouched w sees b frame h i l.below) ∙ l.is; represents = l.represents }

  pub ready_after : (known mid : List ℕ) (locals others : Locals) (st later : State) (s t : MachineState) → IsReadyFor w b known locals n st s
      → IsAt w b.stack_pointer b.calls_left later t → t.steps ≤ s.steps
      → AreLocalsCarried w b mid others t.mem → IsReadyFor w b mid others n later t
  ready_after known mid locals others st later s t r at down carried = record {
    at = at;
    carried = carried;
    fuel = let e1 = at.steps in let e2 = r.at.steps in let f = r.fuel in omega arith;
  }

  pub completes_less : (around : Surroundings) (known fewer later less : List ℕ) (behind : ℕ) → Covers known fewer → Covers later less
      → (done : Completion) (t : MachineState) → CompletesAt w b around known later behind done t → CompletesAt w b around fewer less behind done t
  completes_less around known fewer later less behind c d (normal locals) t h = (h.0, carried_less later less locals t.mem d h.1)
  completes_less around known fewer later less behind c d (broke locals) t h = (h.0, h.1, carried_less known fewer locals t.mem c h.2)
  completes_less around known fewer later less behind c d (continued locals) t h = (h.0, h.1, carried_less known fewer locals t.mem c h.2)
  completes_less around known fewer later less behind c d (returned x) t h = h

  -- ---- parts

  pub about_front : (around : Surroundings) (at : ℕ) (code more : List CodePart) (s : MachineState) → IsAboutToRun w b around at (code ++ more) s
      → IsAboutToRun w b around at code s
  about_front around at code more s h = record {
    here = h.here;
    code_there = stands_prefix w b s.pc code more h.code_there;
    ahead = ahead_less around (at + size code) (at + size (code ++ more)) (omega (arith, size-append code more)) h.ahead;
  }

  pub about_rest : (around : Surroundings) (at : ℕ) (code more : List CodePart) (s t : MachineState) → IsAboutToRun w b around at (code ++ more) s
      → t.pc ≡ word_place w b (at + size code)
      → IsAboutToRun w b around (at + size code) more t
  about_rest around at code more s t h e = record {
    here = e;
    code_there = stands_rest w b s.pc t.pc code more (let here = h.here in omega (arith, e)) h.code_there;
    ahead = ahead_less around (at + size code + size more) (at + size (code ++ more)) (omega (arith, size-append code more)) h.ahead;
  }

  -- what a part of a statement comes to, with some end
  abbrev pub PartRuns : {A : Type 0} → (A → MachineState → Type 0) → (own : ℕ) → Surroundings → (known : List ℕ) → (at : ℕ) → List CodePart
      → (Locals → State → Outcome A) → Type 0
  PartRuns P own around known at code means =
      (locals : Locals) (st : State) (s : MachineState) → IsReadyFor w b known locals n st s → IsAboutToRun w b around at code s
      → Meets w (IsPastSlots b) b.stack_pointer b.calls_left own P (means locals st) s

  -- what follows a value in a0
  abbrev pub AfterValue : {A : Type 0} → (A → MachineState → Type 0) → (own : ℕ) → Surroundings → (known : List ℕ) → (at : ℕ) → Class → List CodePart
      → (Locals → Value → State → Outcome A) → Type 0
  AfterValue P own around known at c code next =
      (locals : Locals) (x : Value) (st : State) (t : MachineState) → IsReadyFor w b known locals n st t → Represents w c x (t.x 10)
      → IsAboutToRun w b around at code t
      → Meets w (IsPastSlots b) b.stack_pointer b.calls_left own P (next locals x st) t

  -- the same with more room, and of an equal meaning
  pub part_as : {A : Type 0} (P : A → MachineState → Type 0) (own more : ℕ) (around : Surroundings) (known : List ℕ) (at : ℕ) (code : List CodePart)
      (means : Locals → State → Outcome A)
      → own ≤ more → PartRuns P own around known at code means → PartRuns P more around known at code means
  part_as P own more around known at code means fits part locals st s r here =
      meets_as w (IsPastSlots b) b.stack_pointer b.calls_left own more P P (means locals st) s fits (λ _ _ g. g) (part locals st s r here)

  pub part_means : {A : Type 0} (P : A → MachineState → Type 0) (own : ℕ) (around : Surroundings) (known : List ℕ) (at : ℕ) (code : List CodePart)
      (f g : Locals → State → Outcome A)
      → ((locals : Locals) (st : State) → f locals st ≡ g locals st) → PartRuns P own around known at code f → PartRuns P own around known at code g
  part_means P own around known at code f g same part locals st s r here =
      subst (λ o. Meets w (IsPastSlots b) b.stack_pointer b.calls_left own P o s) (same locals st) (part locals st s r here)

  -- an expression, and what follows its value
  pub value_part : {A : Type 0} (P : A → MachineState → Type 0) (own : ℕ) (around : Surroundings) (known : List ℕ) (at : ℕ) (c : Class)
      (code more : List CodePart)
      (f : Locals → State → Outcome Value) (next : Locals → Value → State → Outcome A)
      → ((locals : Locals) → Runs w b known locals n 0 c code (f locals)) → AfterValue P own around known (at + size code) c more next
      → PartRuns P (size code + own) around known at (code ++ more) (λ locals st. and_then (f locals st) (next locals))
  value_part P own around known at c code more f next runs after locals st s r here =
      meets_then w (IsPastSlots b) (IsUntouched b 0) (IsPastSlots b) b.stack_pointer b.calls_left (size code) own (GivesValue w c (s.pc + 4 * size code)) P (f locals st) (next locals) s
      (λ _ k. inr k) (λ _ k. k)
      (runs locals st s r (stands_prefix w b s.pc code more here.code_there))
      (λ x later t at_t gives keeps down.
      after locals x later t (still_ready w sees b frame known locals n 0 st later s t r at_t keeps down) gives.1
      (about_rest around at code more s t here (let e = gives.0 in let h = here.here in omega arith)))

  -- the run is where a statement leaves it
  pub stays : {A : Type 0} (P : A → MachineState → Type 0) (own : ℕ) (x : A) (st : State) (t : MachineState)
      → IsAt w b.stack_pointer b.calls_left st t → P x t
      → Meets w (IsPastSlots b) b.stack_pointer b.calls_left own P (gives x st) t
  stays P own x st t at holds = record {
    end = t;
    reaches = reaches_as w.code w.words 0 own t t (omega arith) (reaches_here w.code w.words t);
    at = at;
    keeps = λ _ _. refl;
    holds = holds;
  }

  -- one statement after another
  pub one_after_another : (around : Surroundings) (known mid later : List ℕ) (at : ℕ) (code more : List CodePart)
      (f g : Locals → State → Outcome Completion) → Covers mid known
      → RunsStatement w b around known mid n at code f → RunsStatement w b around mid later n (at + size code) more g
      → RunsStatement w b around known later n at (code ++ more) (λ locals st. and_then (f locals st) (λ done. followed done g))
  one_after_another around known mid later at code more f g covers first second locals st s r here =
      subst (λ own. Meets w (IsPastSlots b) b.stack_pointer b.calls_left own Q (and_then (f locals st) (λ done. followed done g)) s) (sym (size-append code more))
      (meets_then w (IsPastSlots b) (IsPastSlots b) (IsPastSlots b) b.stack_pointer b.calls_left (size code) (size more) (CompletesAt w b around known mid (at + size code)) Q (f locals st)
      (λ done. followed done g) s (λ _ k. k) (λ _ k. k) (first locals st s r (about_front around at code more s here)) rest)
    where
      Q : Completion → MachineState → Type 0
      Q = CompletesAt w b around known later (at + size (code ++ more))

      rest : (done : Completion) (between : State) (t : MachineState) → IsAt w b.stack_pointer b.calls_left between t
          → CompletesAt w b around known mid (at + size code) done t
          → Keeps (IsPastSlots b) s.mem t.mem → t.steps ≤ s.steps
          → Meets w (IsPastSlots b) b.stack_pointer b.calls_left (size more) Q (followed done g between) t
      rest (normal others) between t at_t h keeps down =
          let end : at + size code + size more ≡ at + size (code ++ more) = omega (arith, size-append code more) in
          meets_as w (IsPastSlots b) b.stack_pointer b.calls_left (size more) (size more) (CompletesAt w b around mid later (at + size code + size more)) Q (g others between) t (omega arith)
          (λ done u c. subst (λ k. CompletesAt w b around known later k done u) end (completes_less around mid known later later (at + size code + size more) covers (covers_itself later) done u c))
          (second others between t (ready_after known mid locals others st between s t r at_t down h.1) (about_rest around at code more s t here h.0))
      rest (broke others) between t at_t h keeps down = stays Q (size more) (broke others) between t at_t h
      rest (continued others) between t at_t h keeps down = stays Q (size more) (continued others) between t at_t h
      rest (returned x) between t at_t h keeps down = stays Q (size more) (returned x) between t at_t h
