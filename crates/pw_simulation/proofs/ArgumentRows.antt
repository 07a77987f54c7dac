-- The rows of calls: arguments are evaluated and held, loaded into registers, and the function is called.
use Rattle.std.proofs.Common.{◌≡◌, ℕ, suc, ◌+◌, ◌*◌, ◌<◌, ◌≤◌, true, false, eqb, List, [], ◌∷◌, ◌++◌, length, refl, sym, ◌∙◌, ap, subst, arith, inl, inr}
use Rattle.std.proofs.lemmas.Bool.Decides.{nat_tests}
use Rattle.pw_isa.specs.declared.instruction.Inst.TheVariants.{Sd, Ld}
use Rattle.pw_tree.specs.States.{Value, State, Locals, Outcome, gives, and_then}
use Rattle.pw_tree.specs.WellTypedExpressions.{Class, IsValue}
use Rattle.pw_hart.specs.State.{MachineState, set}
use Rattle.pw_code.specs.Items.{CodePart, instruction, size}
use Rattle.pw_code.specs.Frames.{held_slot}
use Rattle.pw_code.specs.Pieces.{hold, load_held}
use Rattle.pw_code.proofs.Exports.{size-append}
use Rattle.pw_simulation.specs.World.{World}
use Rattle.pw_simulation.specs.Values.{Represents}
use Rattle.pw_simulation.specs.Moments.{IsAt, Reaches, Meets}
use Rattle.pw_simulation.specs.Sees.{Sees}
use Rattle.pw_simulation.specs.Bodies.{Body, HasFrame, IsUntouched, Stands, GivesValue, Runs}
use Rattle.pw_simulation.specs.Calls.{AreHeld, AreInRegisters, GivesValues, RunsAll}
use Rattle.pw_simulation.proofs.Reach.{reaches_here}
use Rattle.pw_simulation.proofs.Steps.{moves_then, moves_last, moves_load}
use Rattle.pw_simulation.proofs.Meets.{moved_at, meets_after, meets_then}
use Rattle.pw_simulation.proofs.Rows.{stands_prefix, stands_rest, offset_is, still_ready, holds_value}
use Rattle.pw_simulation.proofs.Sequences.{represents_small, one_word, one_more}

module _ (w : World) (sees : Sees w) (b : Body) (frame : HasFrame w b) (known : List ℕ) (locals : Locals) (n : ℕ) where
  -- ---- held values stay where the slots are untouched

  held_untouched : (h g : ℕ) → h < g → g ≤ b.frame.held → IsUntouched b g (b.stack_pointer + 8 * (b.frame.locals + h))
  held_untouched h g below few = inl (omega arith, omega arith)

  -- the same sizes and places in other words
  all_equal : (h own more to next : ℕ) (cs : List Class) (o : Outcome (List Value)) (s : MachineState) → own ≡ more → to ≡ next
      → Meets w (IsUntouched b h) b.stack_pointer b.calls_left own (GivesValues w b h to cs) o s → Meets w (IsUntouched b h) b.stack_pointer b.calls_left more (GivesValues w b h next cs) o s
  all_equal h own more to next cs o s e f m =
      subst (λ k. Meets w (IsUntouched b h) b.stack_pointer b.calls_left k (GivesValues w b h next cs) o s) e
      (subst (λ p. Meets w (IsUntouched b h) b.stack_pointer b.calls_left own (GivesValues w b h p cs) o s) f m)

  -- no argument
  pub no_arguments_row : (h : ℕ) → RunsAll w b known locals n h [] [] (gives [])
  unfolding size
  no_arguments_row h st s r here = record {
    end = s;
    reaches = reaches_here w.code w.words s;
    at = r.at;
    keeps = λ _ _. refl;
    holds = (omega arith, tt);
  }

  -- one argument, and then others
  pub argument_row : (h : ℕ) (c : Class) (cs : List Class) (code more : List CodePart) (f : State → Outcome Value) (fs : State → Outcome (List Value))
      → h < b.frame.held → IsValue c → Runs w b known locals n h c code f → RunsAll w b known locals n (suc h) cs more fs
      → RunsAll w b known locals n h (c ∷ cs) (code ++ hold b.frame h ∷ more) (λ st. and_then (f st) (λ x st. and_then (fs st) (λ xs. gives (x ∷ xs))))
  argument_row h c cs code more f fs few some runs runs_all st s r here =
      let store = Sd 2 10 (held_slot b.frame h) in
      let all : size (code ++ hold b.frame h ∷ more) ≡ size code + (1 + (size more + 0)) = size-append code (hold b.frame h ∷ more) ∙ ap (λ k. size code + k) (one_more store more ∙ omega arith) in
      let end : ℕ = s.pc + 4 * size (code ++ hold b.frame h ∷ more) in
      all_equal h (size code + (1 + (size more + 0))) (size (code ++ hold b.frame h ∷ more)) end end (c ∷ cs) (and_then (f st) next) s (sym all) refl
      (meets_then w (IsUntouched b h) (IsUntouched b h) (IsUntouched b h) b.stack_pointer b.calls_left (size code) (1 + (size more + 0))
      (GivesValue w c (s.pc + 4 * size code)) (GivesValues w b h end (c ∷ cs)) (f st) next s (λ _ k. k) (λ _ k. k)
      (runs st s r (stands_prefix w b s.pc code (hold b.frame h ∷ more) here))
      (λ x later t at ends keeps down.
      let there = stands_rest w b s.pc t.pc code (hold b.frame h ∷ more) (sym ends.0) here in
      let held = holds_value w sees b frame h later t at few (represents_small w sees c x (t.x 10) some ends.1) there.code_at.0 in
      let u : MachineState = record t { mem = held.memory; pc = t.pc + 4 } in
      let ready_t = still_ready w sees b frame known locals n h st later s t r at keeps down in
      let ready = still_ready w sees b frame known locals n h later later t u ready_t held.at held.keeps (let e : t.steps ≤ t.steps = omega arith in e) in
      let more_there = stands_rest w b t.pc u.pc (instruction store ∷ []) more (one_word store t.pc) there in
      meets_after w (IsUntouched b h) (IsUntouched b h) b.stack_pointer b.calls_left 1 (size more + 0) (GivesValues w b h end (c ∷ cs)) (next x later) t u (λ _ k. k)
      (moves_last w t u held.goes) held.keeps
      (meets_then w (IsUntouched b h) (IsUntouched b (suc h)) (IsUntouched b h) b.stack_pointer b.calls_left (size more) 0
      (GivesValues w b (suc h) (u.pc + 4 * size more) cs) (GivesValues w b h end (c ∷ cs)) (fs later) (λ xs. gives (x ∷ xs)) u more_untouched (λ _ k. k)
      (runs_all later u ready more_there)
      (λ xs last v at_v ends_v keeps_v down_v. record {
        end = v;
        reaches = reaches_here w.code w.words v;
        at = at_v;
        keeps = λ _ _. refl;
        holds = (
          (let e1 = ends.0 in let e2 = ends_v.0 in omega (arith, all)),
          (record { word = t.x 10; is = keeps_v (b.stack_pointer + 8 * (b.frame.locals + h)) (held_untouched h (suc h) (omega arith) (omega arith)) ∙ held.is; represents = ends.1 }, ends_v.1),
        );
      }))))
    where
      next : Value → State → Outcome (List Value)
      next = λ x st. and_then (fs st) (λ xs. gives (x ∷ xs))

      more_untouched : (at : ℕ) → IsUntouched b h at → IsUntouched b (suc h) at
      more_untouched at (inl u) = inl (u.0, let high = u.1 in omega arith)
      more_untouched at (inr u) = inr u

  -- ---- arguments in registers

  -- The held values are in registers from one on; those before it are as they were.
  pub record Loads (h rd : ℕ) (cs : List Class) (xs : List Value) (s : MachineState) : Type 0 where
    pub registers : ℕ → ℕ
    pub reaches : Reaches w.code w.words (length cs) s (record s { x = registers; pc = s.pc + 4 * length cs })
    pub others : (k : ℕ) → k < rd → registers k ≡ s.x k
    pub loaded : AreInRegisters w rd cs xs registers

  set_here : (x : ℕ → ℕ) (r v : ℕ) → set x (suc r) v (suc r) ≡ v
  set_here x r v = let same : eqb (suc r) (suc r) ≡ true = grind (arith, nat_tests) in rw same refl

  set_before : (x : ℕ → ℕ) (r v k : ℕ) → k < suc r → set x (suc r) v k ≡ x k
  set_before x r v k below = let test : eqb k (suc r) ≡ false = grind (arith, nat_tests) in rw test refl

  pub loads_held : (h r : ℕ) (cs : List Class) (xs : List Value) (st : State) (s : MachineState) → IsAt w b.stack_pointer b.calls_left st s → 9 ≤ r → h + length cs ≤ b.frame.held
      → AreHeld w b s.mem h cs xs → Stands w b s.pc (load_held b.frame h (suc r) (length cs)) → Loads h (suc r) cs xs s
  unfolding load_held
  loads_held h r [] [] st s at from few held here =
      let same : s.pc ≡ s.pc + 4 * 0 = omega arith in
      record { registers = s.x; reaches = subst (λ p. Reaches w.code w.words 0 s (record s { pc = p })) same (reaches_here w.code w.words s); others = λ _ _. refl; loaded = tt }
  loads_held h r [] (x ∷ xs) st s at from few held here = absurd held
  loads_held h r (c ∷ cs) [] st s at from few held here = absurd held
  loads_held h r (c ∷ cs) (x ∷ xs) st s at from few held here =
      let first = Ld (suc r) 2 (held_slot b.frame h) in
      let bound = frame.few in
      let word : ℕ = held.0.word in
      let go = moves_load w sees.apart s (suc r) 2 (held_slot b.frame h) (b.stack_pointer + 8 * (b.frame.locals + h)) word at.ready here.code_at.0
      (offset_is w sees b frame s (8 * (b.frame.locals + h)) at.stack (omega arith)) held.0.is in
      let t : MachineState = record s { x = set s.x (suc r) word; pc = s.pc + 4 } in
      let at_t = moved_at w b.stack_pointer b.calls_left st s t.x t.pc at (set_before s.x r word 2 (omega arith)) (set_before s.x r word 9 (omega arith)) in
      let there = stands_rest w b s.pc t.pc (instruction first ∷ []) (load_held b.frame (suc h) (suc (suc r)) (length cs)) (one_word first s.pc) here in
      let rest = loads_held (suc h) (suc r) cs xs st t at_t (omega arith) (omega arith) held.1 there in
      let next : s.pc + 4 + 4 * length cs ≡ s.pc + 4 * suc (length cs) = omega arith in
      let own : 1 + length cs ≡ suc (length cs) = omega arith in
      record {
        registers = rest.registers;
        reaches = subst (λ p. Reaches w.code w.words (suc (length cs)) s (record s { x = rest.registers; pc = p })) next
            (subst (λ k. Reaches w.code w.words k s (record t { x = rest.registers; pc = t.pc + 4 * length cs })) own
            (moves_then w (length cs) s t (record t { x = rest.registers; pc = t.pc + 4 * length cs }) go rest.reaches));
        others = λ k below. rest.others k (omega arith) ∙ set_before s.x r word k below;
        loaded = (subst (λ v. Represents w c x v) (sym (rest.others (suc r) (omega arith) ∙ set_here s.x r word)) held.0.represents, rest.loaded);
      }
