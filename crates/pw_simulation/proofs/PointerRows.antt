-- The row of a call through a pointer: the callee comes after the arguments, and it is tested.
use Rattle.std.proofs.Common.{◌≡◌, ◌≢◌, ℕ, zero, suc, ◌+◌, ◌*◌, ◌^◌, ◌<◌, ◌≤◌, Bool, true, false, ◌&&◌, cond, List, [], ◌∷◌, ◌++◌, length, map, Some, None, refl, sym, ◌∙◌, ap, subst, arith, inl, inr, pos, append_assoc}
use Rattle.std.specs.Prelude.{nat_le}
use Rattle.std.specs.List.{list_all}
use Rattle.pw_base.specs.Limits.{parameters}
use Rattle.pw_isa.specs.declared.instruction.Inst.{Inst}
use Rattle.pw_isa.specs.declared.instruction.Inst.TheVariants.{Jalr, Addi, Bne}
use Rattle.pw_tree.specs.declared.ty.Ty.{Ty}
use Rattle.pw_tree.specs.declared.ty.Ty.TheVariants.{Void, Long, Ulong, Fn}
use Rattle.pw_tree.specs.declared.ty.Sig.{Sig}
use Rattle.pw_tree.specs.Types.{same_type, pointer_to}
use Rattle.pw_tree.specs.Names.{Definition}
use Rattle.pw_tree.specs.States.{Value, null, pointer, null_call, checked, State, Locals, Outcome, and_then}
use Rattle.pw_tree.specs.States as values
use Rattle.pw_tree.specs.Evaluation.{call_through}
use Rattle.pw_tree.specs.WellTypedExpressions.{Class, number, class_of}
use Rattle.pw_tree.specs.WellTypedExpressions as classes
use Rattle.pw_mem.specs.Memory.{Mem}
use Rattle.pw_hart.specs.Bits.{bits64}
use Rattle.pw_hart.specs.Integer.{add}
use Rattle.pw_hart.specs.State.{MachineState, set, goes_on}
use Rattle.pw_code.specs.Items.{CodePart, instruction, size}
use Rattle.pw_code.specs.Pieces.{fault, load_held}
use Rattle.pw_code.proofs.Exports.{size-append, size-load_held}
use Rattle.pw_simulation.specs.World.{World}
use Rattle.pw_simulation.specs.Memories.{Keeps}
use Rattle.pw_simulation.specs.Values.{Represents}
use Rattle.pw_simulation.specs.Moments.{IsAt, Reaches, Meets}
use Rattle.pw_simulation.specs.Sees.{Sees}
use Rattle.pw_simulation.specs.Bodies.{Body, HasFrame, IsUntouched, context_of, Stands, GivesValue, Runs}
use Rattle.pw_simulation.specs.Calls.{AreHeld, AreInRegisters, GivesValues, RunsAll, IsCalling, IsAbove, CallsRun}
use Rattle.pw_simulation.proofs.Reach.{reaches_then}
use Rattle.pw_simulation.proofs.Steps.{Moves, moves_then, moves_last, moves_on, moves_past, moves_into}
use Rattle.pw_simulation.proofs.Meets.{moved_at, halts_as, halts_after, meets_after, meets_then, meets_as}
use Rattle.pw_simulation.proofs.Rows.{stands_prefix, stands_rest, still_ready}
use Rattle.pw_simulation.proofs.Sequences.{one_word, alone, one_more, meets_equal}
use Rattle.pw_simulation.proofs.CheckRows.{fault_stops, short_fault}
use Rattle.pw_simulation.proofs.ArgumentRows.{loads_held}
use Rattle.pw_simulation.proofs.CallRows.{untouched_above}

-- ---- the functions that pointers point to

-- so many numbers
abbrev pub numbers : ℕ → List Class
numbers zero = []
numbers (suc k) = number ∷ numbers k

pub length_of_numbers : (k : ℕ) → length (numbers k) ≡ k
length_of_numbers zero = refl
length_of_numbers (suc k) = ap suc (length_of_numbers k)

long_class : (ty : Ty) → same_type ty Long ≡ true → class_of ty ≡ number
long_class Void h = cc
long_class Long h = refl
long_class Ulong h = refl
long_class (Fn k) h = cc

both_hold : (s t : Bool) → s && t ≡ true → (s ≡ true) × (t ≡ true)
both_hold true t h = (refl, h)
both_hold false t h = cc

long_classes : (tys : List Ty) → list_all (λ p. same_type p Long) tys ≡ true → map class_of tys ≡ numbers (length tys)
long_classes [] h = refl
long_classes (ty ∷ tys) h =
    let e = both_hold (same_type ty Long) (list_all (λ p. same_type p Long) tys) h in
    ap (λ c. c ∷ map class_of tys) (long_class ty e.0) ∙ ap (λ cs. number ∷ cs) (long_classes tys e.1)

-- a function to which a pointer may point takes numbers and gives a number
pub record TakesNumbers (sig : Sig) (k : ℕ) : Type 0 where
  pub params : map class_of sig.params ≡ numbers k
  pub result : class_of sig.result ≡ number

takes_by : (sig : Sig) (k : ℕ) (t : Bool) → same_type sig.result Long && list_all (λ p. same_type p Long) sig.params && nat_le (length sig.params) parameters ≡ t
    → cond t (Some (Fn (length sig.params))) None ≡ Some (Fn k) → TakesNumbers sig k
takes_by sig k true e h =
    let first = both_hold (same_type sig.result Long && list_all (λ p. same_type p Long) sig.params) (nat_le (length sig.params) parameters) e in
    let second = both_hold (same_type sig.result Long) (list_all (λ p. same_type p Long) sig.params) first.0 in
    let same : length sig.params ≡ k = cc in
    record { params = long_classes sig.params second.1 ∙ ap numbers same; result = long_class sig.result second.0 }
takes_by sig k false e h = cc

pub takes_numbers : (sig : Sig) (k : ℕ) → pointer_to sig ≡ Some (Fn k) → TakesNumbers sig k
takes_numbers sig k h = takes_by sig k _ refl h

module _ (w : World) (sees : Sees w) (b : Body) (frame : HasFrame w b) (known : List ℕ) (locals : Locals) (n h : ℕ) where
  -- held values stay where the slots are untouched
  held_stay : (g k : ℕ) (cs : List Class) (xs : List Value) (old new : Mem) → g + length cs ≤ k → Keeps (IsUntouched b k) old new → AreHeld w b old g cs xs → AreHeld w b new g cs xs
  held_stay g k [] [] old new few keeps h = tt
  held_stay g k [] (x ∷ xs) old new few keeps h = absurd h
  held_stay g k (c ∷ cs) [] old new few keeps h = absurd h
  held_stay g k (c ∷ cs) (x ∷ xs) old new few keeps h = (
    record { word = h.0.word; is = keeps (b.stack_pointer + 8 * (b.frame.locals + g)) (inl (omega arith, omega arith)) ∙ h.0.is; represents = h.0.represents },
    held_stay (suc g) k cs xs old new (omega arith) keeps h.1,
  )

  more_untouched : (k at : ℕ) → IsUntouched b h at → IsUntouched b (h + k) at
  more_untouched k at (inl u) = inl (u.0, let high = u.1 in omega arith)
  more_untouched k at (inr u) = inr u

  module _ (calls : Definition → List Value → State → Outcome Value) (turns line k : ℕ) (calls_run : CallsRun w calls n) (small : line < 2 ^ 64) (few : h + k ≤ b.frame.held) where
    abbrev piece : List CodePart
    piece = fault 3 line

    abbrev branch : Inst
    branch = Bne 5 0 (pos (4 * suc (size piece)))

    -- the callee is moved and tested
    abbrev checks : List CodePart
    checks = instruction (Addi 5 10 (pos 0)) ∷ instruction branch ∷ piece

    abbrev loads : List CodePart
    loads = load_held b.frame h 10 k

    abbrev tail : List CodePart
    tail = instruction (Jalr 1 5 (pos 0)) ∷ []

    abbrev ending : List CodePart
    ending = checks ++ (loads ++ tail)

    size_checks : size checks ≡ 2 + size piece
    size_checks = one_more (Addi 5 10 (pos 0)) (instruction branch ∷ piece) ∙ omega (arith, one_more branch piece)

    size_ending : size ending ≡ 2 + size piece + (k + 1)
    size_ending = size-append checks (loads ++ tail) ∙ omega (arith, size_checks, size-append loads tail, size-load_held b.frame h 10 k, alone (Jalr 1 5 (pos 0)))

    -- the callee is in t0
    abbrev moved : MachineState → MachineState
    moved t = record t { x = set t.x 5 (t.x 10); pc = t.pc + 4 }

    moves_callee : (st : State) (t : MachineState) → IsAt w b.stack_pointer b.calls_left st t → Stands w b t.pc ending → t.x 10 < 2 ^ 64 → Moves w t (moved t)
    moves_callee st t at here low =
        let whole : add (t.x 10) (bits64 (pos 0)) ≡ t.x 10 = omega arith in
        moves_on w sees.apart t (Addi 5 10 (pos 0)) (set t.x 5 (t.x 10)) at.ready here.code_at.0 (ap (λ v. goes_on (set t.x 5 v) t) whole)

    branch_there : (t : MachineState) → Stands w b t.pc ending → Stands w b (t.pc + 4) ((instruction branch ∷ piece) ++ (loads ++ tail))
    branch_there t here = stands_rest w b t.pc (t.pc + 4) (instruction (Addi 5 10 (pos 0)) ∷ []) ((instruction branch ∷ piece) ++ (loads ++ tail)) (one_word (Addi 5 10 (pos 0)) t.pc) here

    -- what follows the callee, which is null or a function
    pointer_follows : (xs : List Value) (y : Value) (st : State) (t : MachineState) → IsAt w b.stack_pointer b.calls_left st t → st.steps ≤ n → AreHeld w b t.mem h (numbers k) xs
        → Represents w (classes.pointer k) y (t.x 10) → Stands w b t.pc ending
        → Meets w (IsUntouched b h) b.stack_pointer b.calls_left (size ending) (GivesValue w number (t.pc + 4 * size ending)) (call_through (context_of w b calls turns) line xs y st) t
    pointer_follows xs (values.number m) st t at fuel held stands_for here = absurd stands_for
    pointer_follows xs null st t at fuel held stands_for here =
        let s1 : MachineState = moved t in
        let go1 = moves_callee st t at here (omega (arith, stands_for)) in
        let there = branch_there t here in
        let s2 : MachineState = record s1 { pc = s1.pc + 4 } in
        let go2 = moves_into w sees.apart s1 5 (4 * suc (size piece)) at.ready there.code_at.0 stands_for in
        let at2 = moved_at w b.stack_pointer b.calls_left st t s1.x s2.pc at refl refl in
        let piece_there = stands_prefix w b s2.pc piece (loads ++ tail) (stands_rest w b s1.pc s2.pc (instruction branch ∷ []) (piece ++ (loads ++ tail)) (one_word branch s1.pc) there) in
        halts_as w (2 + size piece) (size ending) _ st t (omega (arith, size_ending))
        (halts_after w 2 (size piece) _ st t s2 (moves_then w 1 t s1 s2 go1 (moves_last w s1 s2 go2)) (fault_stops w sees b frame known locals n h null_call line st s2 small at2 piece_there))
    pointer_follows xs (pointer f) st t at fuel held stands_for here =
        let place = sees.function_places f stands_for.kept in
        let target : t.x 10 ≡ w.function_place f = stands_for.is in
        let low : t.x 10 < 2 ^ 64 = let l = place.low in omega (arith, target) in
        let other : t.x 10 ≢ 0 = λ z. let some = place.some in omega (arith, target, z) in
        let takes = takes_numbers stands_for.callee.sig k stands_for.type in
        let s1 : MachineState = moved t in
        let go1 = moves_callee st t at here low in
        let there = branch_there t here in
        let short = short_fault w sees b frame known locals n h 3 line in
        let s2 : MachineState = record s1 { pc = s1.pc + 4 * suc (size piece) } in
        let go2 = moves_past w sees.apart s1 5 (4 * suc (size piece)) at.ready there.code_at.0 other (omega arith) (omega arith) (omega arith) in
        let at2 = moved_at w b.stack_pointer b.calls_left st t s1.x s2.pc at refl refl in
        let loads_there : Stands w b s2.pc (loads ++ tail) = stands_rest w b s1.pc s2.pc (instruction branch ∷ piece) (loads ++ tail) (ap (λ m. s1.pc + 4 * m) (one_more branch piece ∙ omega arith)) there in
        let count = length_of_numbers k in
        let loads_here : Stands w b s2.pc (load_held b.frame h 10 (length (numbers k))) = subst (λ m. Stands w b s2.pc (load_held b.frame h 10 m)) (sym count) (stands_prefix w b s2.pc loads tail loads_there) in
        let l = loads_held w sees b frame known locals n h 9 (numbers k) xs st s2 at2 (omega arith) (omega (arith, count)) held loads_here in
        let v : MachineState = record s2 { x = l.registers; pc = s2.pc + 4 * length (numbers k) } in
        let at_v = moved_at w b.stack_pointer b.calls_left st s2 l.registers v.pc at2 (l.others 2 (omega arith)) (l.others 9 (omega arith)) in
        let tail_there = stands_rest w b s2.pc v.pc loads tail (omega (arith, size-load_held b.frame h 10 k, count)) loads_there in
        let calling : IsCalling w b.stack_pointer b.calls_left f stands_for.callee xs st v = record {
          function = record { there = stands_for.there; kept = stands_for.kept };
          at = at_v;
          room = frame.room;
          high = let high = frame.high in omega arith;
          even = frame.even;
          here = tail_there.code_at.0;
          target = l.others 5 (omega arith) ∙ target;
          arguments_are = subst (λ ks. AreInRegisters w 10 ks xs l.registers) (sym takes.params) l.loaded;
        } in
        let called = calls_run b.stack_pointer b.calls_left f stands_for.callee xs st v calling fuel in
        let to : v.pc + 4 ≡ t.pc + 4 * size ending = omega (arith, size_ending, count) in
        let reach : Reaches w.code w.words (2 + length (numbers k)) t v =
        reaches_then w.code w.words 2 (length (numbers k)) t s2 v (moves_then w 1 t s1 s2 go1 (moves_last w s1 s2 go2)) l.reaches in
        let own : 2 + length (numbers k) + 1 ≤ size ending = omega (arith, size_ending, count) in
        meets_as w (IsUntouched b h) b.stack_pointer b.calls_left (2 + length (numbers k) + 1) (size ending) (GivesValue w (class_of stands_for.callee.sig.result) (v.pc + 4)) (GivesValue w number (t.pc + 4 * size ending)) (calls f xs st) t own
        (λ y z g. (g.0 ∙ to, subst (λ c. Represents w c y (z.x 10)) takes.result g.1))
        (meets_after w (IsUntouched b h) (IsAbove b.stack_pointer) b.stack_pointer b.calls_left (2 + length (numbers k)) 1 (GivesValue w (class_of stands_for.callee.sig.result) (v.pc + 4)) (calls f xs st) t v
        (untouched_above w sees b frame known locals n h) reach (λ _ _. refl) called)

    -- arguments, the callee, the call
    pub pointer_row : (code ecode : List CodePart) (fs : State → Outcome (List Value)) (fe : State → Outcome Value)
        → RunsAll w b known locals n h (numbers k) code fs → Runs w b known locals n (h + k) (classes.pointer k) ecode fe
        → Runs w b known locals n h number (code ++ ecode ++ checks ++ loads ++ tail) (λ st. and_then (fs st) (λ xs st. and_then (fe st) (call_through (context_of w b calls turns) line xs)))
    pointer_row code ecode fs fe runs_all runs st s r here =
        meets_equal w sees b frame known locals n h (size code + (size ecode + size ending)) (size all_code) end end number (and_then (fs st) next) s (sym all) refl
        (meets_then w (IsUntouched b h) (IsUntouched b h) (IsUntouched b h) b.stack_pointer b.calls_left (size code) (size ecode + size ending)
        (GivesValues w b h (s.pc + 4 * size code) (numbers k)) (GivesValue w number end) (fs st) next s (λ _ q. q) (λ _ q. q)
        (runs_all st s r (stands_prefix w b s.pc code (ecode ++ ending) whole))
        (λ xs later t at ends keeps down.
        let there = stands_rest w b s.pc t.pc code (ecode ++ ending) (sym ends.0) whole in
        let ready = still_ready w sees b frame known locals n h st later s t r at keeps down in
        meets_then w (IsUntouched b h) (IsUntouched b (h + k)) (IsUntouched b h) b.stack_pointer b.calls_left (size ecode) (size ending)
        (GivesValue w (classes.pointer k) (t.pc + 4 * size ecode)) (GivesValue w number end) (fe later) (call_through (context_of w b calls turns) line xs) t (more_untouched k) (λ _ q. q)
        (runs later t ready (stands_prefix w b t.pc ecode ending there))
        (λ y last v at_v ends_v keeps_v down_v.
        let ready_v = still_ready w sees b frame known locals n (h + k) later last t v ready at_v keeps_v down_v in
        let held = held_stay h (h + k) (numbers k) xs t.mem v.mem (omega (arith, length_of_numbers k)) keeps_v ends.1 in
        let ending_there = stands_rest w b t.pc v.pc ecode ending (sym ends_v.0) there in
        let to : v.pc + 4 * size ending ≡ end = let e1 = ends.0 in let e2 = ends_v.0 in omega (arith, all) in
        meets_equal w sees b frame known locals n h (size ending) (size ending) (v.pc + 4 * size ending) end number (call_through (context_of w b calls turns) line xs y last) v refl to
        (pointer_follows xs y last v at_v ready_v.fuel held ends_v.1 ending_there))))
      where
        all_code : List CodePart
        all_code = code ++ ecode ++ checks ++ loads ++ tail

        together : all_code ≡ code ++ (ecode ++ ending)
        together = append_assoc (code ++ ecode ++ checks) loads tail ∙ append_assoc (code ++ ecode) checks (loads ++ tail) ∙ append_assoc code ecode ending

        whole : Stands w b s.pc (code ++ (ecode ++ ending))
        whole = subst (λ c. Stands w b s.pc c) together here

        all : size all_code ≡ size code + (size ecode + size ending)
        all = ap size together ∙ size-append code (ecode ++ ending) ∙ ap (λ m. size code + m) (size-append ecode ending)

        end : ℕ
        end = s.pc + 4 * size all_code

        next : List Value → State → Outcome Value
        next = λ xs st. and_then (fe st) (call_through (context_of w b calls turns) line xs)
