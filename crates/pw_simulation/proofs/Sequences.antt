-- One phrase after another in the code of an expression: a part and what follows it, and two operands of which the first is held.
use Rattle.std.proofs.Common.{◌≡◌, ℕ, suc, ◌+◌, ◌*◌, ◌^◌, ◌<◌, ◌≤◌, Bool, true, false, not, List, [], ◌∷◌, ◌++◌, Some, refl, sym, ◌∙◌, ap, subst, arith, inl, inr, append_assoc}
use Rattle.std.specs.Prelude.{nat_eq}
use Rattle.std.proofs.lemmas.Bool.Decides.{nat_tests}
use Rattle.pw_isa.specs.declared.instruction.Inst.{Inst}
use Rattle.pw_isa.specs.declared.instruction.Inst.TheVariants.{Ld, Sd}
use Rattle.pw_tree.specs.States.{Value, null, pointer, holds, State, Locals, Outcome, and_then}
use Rattle.pw_tree.specs.States as values
use Rattle.pw_tree.specs.WellTypedExpressions.{Class, nothing, number, IsValue}
use Rattle.pw_tree.specs.WellTypedExpressions as classes
use Rattle.pw_mem.specs.Words.{doubleword}
use Rattle.pw_hart.specs.State.{MachineState, set}
use Rattle.pw_code.specs.Items.{CodePart, instruction, size}
use Rattle.pw_code.specs.Frames.{held_slot}
use Rattle.pw_code.specs.Pieces.{hold}
use Rattle.pw_code.proofs.Exports.{size-append}
use Rattle.pw_simulation.specs.World.{World}
use Rattle.pw_simulation.specs.Values.{Represents}
use Rattle.pw_simulation.specs.Moments.{Meets}
use Rattle.pw_simulation.specs.Sees.{Sees}
use Rattle.pw_simulation.specs.Bodies.{Body, HasFrame, IsUntouched, IsReadyFor, Stands, GivesValue, Runs}
use Rattle.pw_simulation.proofs.Steps.{moves_last, moves_load}
use Rattle.pw_simulation.proofs.Meets.{moved_at, meets_after, meets_then}
use Rattle.pw_simulation.proofs.Rows.{stands_prefix, stands_rest, offset_is, still_ready, holds_value}

-- ---- values

-- a number that stands for a value has 64 bits
pub represents_small : (w : World) (sees : Sees w) (c : Class) (x : Value) (v : ℕ) → IsValue c → Represents w c x v → v < 2 ^ 64
represents_small w sees nothing x v some h = absurd some
represents_small w sees number (values.number k) v some h = omega (arith, h.0, h.1)
represents_small w sees number null v some h = absurd h
represents_small w sees number (pointer f) v some h = absurd h
represents_small w sees (classes.pointer k) (values.number m) v some h = absurd h
represents_small w sees (classes.pointer k) null v some h = omega (arith, h)
represents_small w sees (classes.pointer k) (pointer f) v some h = let low = (sees.function_places f h.kept).low in omega (arith, h.is, low)

-- and is 0 exactly if the value does not hold
pub zero_is_false : (w : World) (sees : Sees w) (c : Class) (x : Value) (v : ℕ) → IsValue c → Represents w c x v → nat_eq v 0 ≡ not (holds x)
zero_is_false w sees nothing x v some h = absurd some
zero_is_false w sees number (values.number k) v some h = rw (h.0) (twice (nat_eq k 0))
  where
    twice : (t : Bool) → t ≡ not (not t)
    twice true = refl
    twice false = refl
zero_is_false w sees number null v some h = absurd h
zero_is_false w sees number (pointer f) v some h = absurd h
zero_is_false w sees (classes.pointer k) (values.number m) v some h = absurd h
zero_is_false w sees (classes.pointer k) null v some h = rw h refl
zero_is_false w sees (classes.pointer k) (pointer f) v some h = let there = (sees.function_places f h.kept).some in let is = h.is in grind (arith, nat_tests)

pub one_word : (i : Inst) (p : ℕ) → p + 4 * size (instruction i ∷ []) ≡ p + 4
unfolding size
one_word i p = refl

pub alone : (i : Inst) → size (instruction i ∷ []) ≡ 1
unfolding size
alone i = refl

pub one_more : (i : Inst) (code : List CodePart) → size (instruction i ∷ code) ≡ 1 + size code
unfolding size
one_more i code = refl

module _ (w : World) (sees : Sees w) (b : Body) (frame : HasFrame w b) (known : List ℕ) (locals : Locals) (n : ℕ) where
  -- the same sizes and places in other words
  pub meets_equal : (h own more to next : ℕ) (c : Class) (o : Outcome Value) (s : MachineState) → own ≡ more → to ≡ next
      → Meets w (IsUntouched b h) b.stack_pointer b.calls_left own (GivesValue w c to) o s → Meets w (IsUntouched b h) b.stack_pointer b.calls_left more (GivesValue w c next) o s
  meets_equal h own more to next c o s e f m =
      subst (λ k. Meets w (IsUntouched b h) b.stack_pointer b.calls_left k (GivesValue w c next) o s) e
      (subst (λ p. Meets w (IsUntouched b h) b.stack_pointer b.calls_left own (GivesValue w c p) o s) f m)

  -- What follows an expression, given its value.
  abbrev pub Follows : (h : ℕ) → Class → Class → List CodePart → (Value → State → Outcome Value) → Type 0
  Follows h c d code next =
      (x : Value) (st : State) (t : MachineState) → IsReadyFor w b known locals n st t → Represents w c x (t.x 10) → Stands w b t.pc code
      → Meets w (IsUntouched b h) b.stack_pointer b.calls_left (size code) (GivesValue w d (t.pc + 4 * size code)) (next x st) t

  -- an expression, and what follows it
  pub part_row : (h : ℕ) (c d : Class) (code more : List CodePart) (f : State → Outcome Value) (next : Value → State → Outcome Value)
      → Runs w b known locals n h c code f → Follows h c d more next → Runs w b known locals n h d (code ++ more) (λ st. and_then (f st) next)
  part_row h c d code more f next runs follows st s r here =
      let both : size (code ++ more) ≡ size code + size more = size-append code more in
      let to : s.pc + 4 * size code + 4 * size more ≡ s.pc + 4 * size (code ++ more) = omega (arith, both) in
      meets_equal h (size code + size more) (size (code ++ more)) (s.pc + 4 * size code + 4 * size more) (s.pc + 4 * size (code ++ more)) d (and_then (f st) next) s (sym both) to
      (meets_then w (IsUntouched b h) (IsUntouched b h) (IsUntouched b h) b.stack_pointer b.calls_left (size code) (size more)
      (GivesValue w c (s.pc + 4 * size code)) (GivesValue w d (s.pc + 4 * size code + 4 * size more)) (f st) next s (λ _ k. k) (λ _ k. k)
      (runs st s r (stands_prefix w b s.pc code more here))
      (λ x later t at gives keeps down.
      let ready = still_ready w sees b frame known locals n h st later s t r at keeps down in
      let there = stands_rest w b s.pc t.pc code more (sym gives.0) here in
      meets_equal h (size more) (size more) (t.pc + 4 * size more) (s.pc + 4 * size code + 4 * size more) d (next x later) t refl (ap (λ p. p + 4 * size more) gives.0)
      (follows x later t ready gives.1 there)))

  -- What follows two operands, given their values: the first in t0, the second in a0.
  abbrev pub Finishes : (h : ℕ) → Class → Class → Class → List CodePart → (Value → Value → State → Outcome Value) → Type 0
  Finishes h c1 c2 d code finish =
      (x y : Value) (st : State) (t : MachineState) → IsReadyFor w b known locals n st t → Represents w c1 x (t.x 5) → Represents w c2 y (t.x 10) → Stands w b t.pc code
      → Meets w (IsUntouched b h) b.stack_pointer b.calls_left (size code) (GivesValue w d (t.pc + 4 * size code)) (finish x y st) t

  -- the second operand, after the first was held
  second_row : (h : ℕ) (c1 c2 d : Class) (code more : List CodePart) (x : Value) (word : ℕ) (f : State → Outcome Value) (finish : Value → Value → State → Outcome Value)
      → h < b.frame.held → Represents w c1 x word → Runs w b known locals n (suc h) c2 code f → Finishes h c1 c2 d more finish
      → (st : State) (s : MachineState) → IsReadyFor w b known locals n st s → doubleword s.mem (b.stack_pointer + 8 * (b.frame.locals + h)) ≡ Some word
      → Stands w b s.pc (code ++ instruction (Ld 5 2 (held_slot b.frame h)) ∷ more)
      → Meets w (IsUntouched b h) b.stack_pointer b.calls_left (size code + (1 + size more)) (GivesValue w d (s.pc + 4 * size code + 4 + 4 * size more)) (and_then (f st) (finish x)) s
  second_row h c1 c2 d code more x word f finish few stands_for runs finishes st s r held here =
      let load : List CodePart = instruction (Ld 5 2 (held_slot b.frame h)) ∷ more in
      meets_then w (IsUntouched b h) (IsUntouched b (suc h)) (IsUntouched b h) b.stack_pointer b.calls_left (size code) (1 + size more)
      (GivesValue w c2 (s.pc + 4 * size code)) (GivesValue w d (s.pc + 4 * size code + 4 + 4 * size more)) (f st) (finish x) s more_untouched (λ _ k. k)
      (runs st s r (stands_prefix w b s.pc code load here))
      (λ y later u at gives keeps down.
      let there = stands_rest w b s.pc u.pc code load (sym gives.0) here in
      let bound = frame.few in
      let word_there = keeps (b.stack_pointer + 8 * (b.frame.locals + h)) (inl (omega arith, omega arith)) ∙ held in
      let go = moves_load w sees.apart u 5 2 (held_slot b.frame h) (b.stack_pointer + 8 * (b.frame.locals + h)) word at.ready there.code_at.0
      (offset_is w sees b frame u (8 * (b.frame.locals + h)) at.stack (omega arith)) word_there in
      let t : MachineState = record u { x = set u.x 5 word; pc = u.pc + 4 } in
      let at_t = moved_at w b.stack_pointer b.calls_left later u t.x t.pc at refl refl in
      let ready = still_ready w sees b frame known locals n (suc h) st later s t r at_t keeps down in
      let rest = stands_rest w b u.pc t.pc (instruction (Ld 5 2 (held_slot b.frame h)) ∷ []) more (one_word (Ld 5 2 (held_slot b.frame h)) u.pc) there in
      let to : t.pc + 4 * size more ≡ s.pc + 4 * size code + 4 + 4 * size more = let e = gives.0 in omega arith in
      meets_after w (IsUntouched b h) (IsUntouched b h) b.stack_pointer b.calls_left 1 (size more) (GivesValue w d (s.pc + 4 * size code + 4 + 4 * size more)) (finish x y later) u t (λ _ k. k)
      (moves_last w u t go) (λ _ _. refl)
      (meets_equal h (size more) (size more) (t.pc + 4 * size more) (s.pc + 4 * size code + 4 + 4 * size more) d (finish x y later) t refl to
      (finishes x y later t ready stands_for gives.1 rest)))
    where
      more_untouched : (at : ℕ) → IsUntouched b h at → IsUntouched b (suc h) at
      more_untouched at (inl u) = inl (u.0, let high = u.1 in omega arith)
      more_untouched at (inr u) = inr u

  -- Two operands, of which the first is held in a slot while the second is evaluated.
  pub held_row : (h : ℕ) (c1 c2 d : Class) (code1 code2 code3 : List CodePart) (f1 f2 : State → Outcome Value) (finish : Value → Value → State → Outcome Value)
      → h < b.frame.held → IsValue c1 → Runs w b known locals n h c1 code1 f1 → Runs w b known locals n (suc h) c2 code2 f2 → Finishes h c1 c2 d code3 finish
      → Runs w b known locals n h d (code1 ++ hold b.frame h ∷ code2 ++ instruction (Ld 5 2 (held_slot b.frame h)) ∷ code3) (λ st. and_then (f1 st) (λ x st. and_then (f2 st) (finish x)))
  held_row h c1 c2 d code1 code2 code3 f1 f2 finish few some runs1 runs2 finishes =
      subst (λ code. Runs w b known locals n h d code (λ st. and_then (f1 st) (λ x st. and_then (f2 st) (finish x)))) (sym (append_assoc code1 (hold b.frame h ∷ code2) (instruction (Ld 5 2 (held_slot b.frame h)) ∷ code3)))
      (part_row h c1 d code1 (hold b.frame h ∷ code2 ++ instruction (Ld 5 2 (held_slot b.frame h)) ∷ code3) f1 (λ x st. and_then (f2 st) (finish x)) runs1 follows)
    where
      follows : Follows h c1 d (hold b.frame h ∷ code2 ++ instruction (Ld 5 2 (held_slot b.frame h)) ∷ code3) (λ x st. and_then (f2 st) (finish x))
      follows x st s r stands_for here =
          let store = Sd 2 10 (held_slot b.frame h) in
          let load = Ld 5 2 (held_slot b.frame h) in
          let rest : List CodePart = code2 ++ instruction load ∷ code3 in
          let held = holds_value w sees b frame h st s r.at few (represents_small w sees c1 x (s.x 10) some stands_for) here.code_at.0 in
          let t : MachineState = record s { mem = held.memory; pc = s.pc + 4 } in
          let ready = still_ready w sees b frame known locals n h st st s t r held.at held.keeps (let e : s.steps ≤ s.steps = omega arith in e) in
          let there = stands_rest w b s.pc t.pc (instruction store ∷ []) rest (one_word store s.pc) here in
          let all : size (instruction store ∷ rest) ≡ 1 + (size code2 + (1 + size code3)) =
          omega (arith, one_more store rest, size-append code2 (instruction load ∷ code3), one_more load code3) in
          let to : t.pc + 4 * size code2 + 4 + 4 * size code3 ≡ s.pc + 4 * size (instruction store ∷ rest) = omega (arith, all) in
          meets_equal h (1 + (size code2 + (1 + size code3))) (size (instruction store ∷ rest)) (t.pc + 4 * size code2 + 4 + 4 * size code3) (s.pc + 4 * size (instruction store ∷ rest)) d (and_then (f2 st) (finish x)) s (sym all) to
          (meets_after w (IsUntouched b h) (IsUntouched b h) b.stack_pointer b.calls_left 1 (size code2 + (1 + size code3)) (GivesValue w d (t.pc + 4 * size code2 + 4 + 4 * size code3)) (and_then (f2 st) (finish x)) s t (λ _ k. k)
          (moves_last w s t held.goes) held.keeps
          (second_row h c1 c2 d code2 code3 x (s.x 10) f2 finish few stands_for runs2 finishes st t ready held.is there))
