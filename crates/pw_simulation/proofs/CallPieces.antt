-- The pieces of a call: the frame is opened, the parameters are stored, or no call is left; and the frame is left.
use Rattle.std.proofs.Common.{◌≡◌, ℕ, zero, suc, ◌+◌, ◌-◌, ◌*◌, ◌/◌, ◌%◌, ◌^◌, ◌<◌, ◌≤◌, ◌≢◌, List, ◌∷◌, length, refl, ◌∙◌, ap, subst, arith, Some, pos, negsuc}
use Rattle.std.specs.Prelude.{◌-ℤ◌}
use Rattle.std.proofs.lemmas.Int.{ints}
use Rattle.std.proofs.lemmas.Bool.Decides.{nat_tests}
use Rattle.pw_isa.specs.declared.instruction.Inst.TheVariants.{Sd, Addi, Bne}
use Rattle.pw_tree.specs.Units.{Function}
use Rattle.pw_tree.specs.Names.{Definition}
use Rattle.pw_tree.specs.States.{State, depth, checked}
use Rattle.pw_mem.specs.Words.{doubleword, put_doubleword}
use Rattle.pw_mem.proofs.Words.{word-put_same}
use Rattle.pw_hart.specs.Bits.{bits64}
use Rattle.pw_hart.specs.Integer.{add}
use Rattle.pw_hart.specs.State.{MachineState, set, goes_on}
use Rattle.pw_code.specs.Items.{CodePart, instruction, size}
use Rattle.pw_code.specs.Frames.{frame_bytes, return_slot}
use Rattle.pw_code.specs.Pieces.{past, fault}
use Rattle.pw_code.specs.FunctionCode.{frame_of, store_parameters, opens, closes}
use Rattle.pw_code.proofs.Exports.{size-fault, fault_words_at_most}
use Rattle.pw_simulation.specs.World.{World, InStack}
use Rattle.pw_simulation.specs.CodeAt.{HasAt}
use Rattle.pw_simulation.specs.Memories.{Keeps}
use Rattle.pw_simulation.specs.Moments.{IsAt, Reaches, IsInside, Halts}
use Rattle.pw_simulation.specs.Sees.{Sees, IsKeptFunction}
use Rattle.pw_simulation.specs.Bodies.{Body, slots_end, HasFrame, HasCallRoom}
use Rattle.pw_simulation.specs.Calls.{IsAbove}
use Rattle.pw_simulation.specs.Programs.{body_of, IsRunnableFunction}
use Rattle.pw_simulation.proofs.Placed.{has_prefix, has_rest, keeps_put}
use Rattle.pw_simulation.proofs.Steps.{Moves, moves_then, moves_last, moves_on, moves_load, moves_store, moves_past, moves_into, moves_back}
use Rattle.pw_simulation.proofs.Meets.{moved_at, halts_after}
use Rattle.pw_simulation.proofs.Pieces.{fault_halts}
use Rattle.pw_simulation.proofs.Rows.{offset_is, put_at}
use Rattle.pw_simulation.proofs.Sequences.{one_more}

-- ---- the size of a frame

frame_least : (n : ℕ) → 8 * n + 8 ≤ (8 * (n + 1) + 15) / 16 * 16
frame_least n = omega arith

frame_most : (n : ℕ) → n ≤ 220 → (8 * (n + 1) + 15) / 16 * 16 ≤ 1776
frame_most n few = omega arith

frame_even : (p n : ℕ) → p % 16 ≡ 0 → (p - n / 16 * 16) % 16 ≡ 0
frame_even p n even = omega arith

-- a number less
less_by : (p k : ℕ) → k ≤ p → p < 2 ^ 64 → add p (bits64 (pos 0 -ℤ pos k)) ≡ p - k
less_by p zero fits small = omega arith
less_by p (suc k) fits small =
    let e : pos 0 -ℤ pos (suc k) ≡ negsuc k = omega (arith, ints) in ap (λ z. add p (bits64 z)) e ∙ omega arith

module _ (w : World) (sees : Sees w) (d : Definition) (f : Function) (kept : IsKeptFunction w d f) (r : IsRunnableFunction w d f) where
  -- how long the code of the fault is
  short_fault : size (fault 4 f.line) ≤ 7
  short_fault = omega (arith, size-fault 4 f.line, fault_words_at_most f.line r.typed.line)

  past_words : (n : ℕ) (p : ℕ) → p + 4 * size (past (Bne 9 0) (fault 4 n)) ≡ p + 4 * suc (size (fault 4 n))
  past_words n p = omega (arith, one_more (Bne 9 0 (pos (4 * suc (size (fault 4 n))))) (fault 4 n))

  -- the code behind the test
  abbrev opens_frame : List CodePart
  opens_frame =
      instruction (Addi 9 9 (negsuc 0)) ∷ instruction (Addi 2 2 (pos 0 -ℤ pos (frame_bytes (frame_of f)))) ∷ instruction (Sd 2 1 (return_slot (frame_of f)))
      ∷ store_parameters 0 (length f.sig.params)

  -- ---- no call is left

  inside_function : (at : ℕ) → w.function_place d ≤ at → at < w.function_place d + 4 + 4 * size (fault 4 f.line) → IsInside w d at
  inside_function at from to = record { function = f; there = kept.there; from = from; to = let words = size-fault 4 f.line in omega arith }

  pub faults : (m u : ℕ) (st : State) (s : MachineState) (sp : ℕ) → IsAt w sp 0 st s → s.pc ≡ w.function_place d → HasAt w m u s.pc (opens f)
      → Halts w (1 + size (fault 4 f.line)) (checked depth d f.line) st s
  faults m u st s sp at place here =
      let piece = fault 4 f.line in
      let s1 : MachineState = record s { pc = s.pc + 4 } in
      let go : Moves w s s1 = moves_into w sees.apart s 9 (4 * suc (size piece)) at.ready here.0 at.register in
      let at1 = moved_at w sp 0 st s s.x s1.pc at refl refl in
      let there = (has_prefix w m u s.pc (past (Bne 9 0) piece) opens_frame here).1 in
      let small : f.line < 2 ^ 64 = let l = r.typed.line in omega arith in
      halts_after w 1 (size piece) (checked depth d f.line) st s s1 (moves_last w s s1 go)
      (fault_halts w sees.apart m u sp 0 depth f.line d st s1 small at1 there (λ a from to. inside_function a (omega arith) (omega arith)))

-- ---- a call of a function, from a stack pointer, that leaves so many calls

module _ (w : World) (sees : Sees w) (d : Definition) (f : Function) (kept : IsKeptFunction w d f) (r : IsRunnableFunction w d f)
    (stack_pointer c : ℕ) (room : HasCallRoom w stack_pointer (suc c)) (high : stack_pointer ≤ w.stack_high) (even : stack_pointer % 16 ≡ 0) where
  -- how many slots the frame has beside the one of the return address
  abbrev slots : ℕ
  slots = f.locals + f.held

  -- where the frame begins
  abbrev pub base : ℕ
  base = stack_pointer - frame_bytes (frame_of f)

  abbrev pub body : Body
  body = body_of d r.unit r.typed.classes f base c

  few_slots : slots ≤ 220
  few_slots = omega (arith, r.typed.few_locals, r.typed.few_held)

  pub fits : frame_bytes (frame_of f) ≤ stack_pointer
  fits = let most = frame_most slots few_slots in omega arith

  pub frame : HasFrame w body
  frame =
      let least = frame_least slots in
      let most = frame_most slots few_slots in
      record { low = omega arith; high = omega arith; even = frame_even stack_pointer (8 * (slots + 1) + 15) even; room = omega arith; few = omega (arith, few_slots) }

  -- where the return address is kept
  abbrev pub return_place : ℕ
  return_place = base + 8 * slots

  return_in : InStack w return_place
  return_in = let h = frame in let low = h.low in let top = h.high in let e = h.even in record { from = omega arith; to = omega arith; even = omega arith }

  -- what stands behind the frame stands behind its slots
  pub past_frame : (a : ℕ) → IsAbove stack_pointer a → slots_end body ≤ a
  past_frame a above = let least = frame_least slots in let f_fits = fits in omega arith

  -- ---- the frame is opened

  -- A call is taken, the frame opened, and the return address kept.
  pub record Opened (m u : ℕ) (st : State) (s : MachineState) : Type 0 where
    pub end : MachineState
    pub reaches : Reaches w.code w.words 4 s end
    pub pc : end.pc ≡ s.pc + 4 * (4 + size (fault 4 f.line))
    pub at : IsAt w base c (record st { calls = c }) end
    pub keeps : Keeps (IsAbove stack_pointer) s.mem end.mem
    pub saved : doubleword end.mem return_place ≡ Some (s.x 1)
    pub arguments : (k : ℕ) → 10 ≤ k → end.x k ≡ s.x k
    pub stores : HasAt w m u end.pc (store_parameters 0 (length f.sig.params))

  pub opens_runs : (m u : ℕ) (st : State) (s : MachineState) → IsAt w stack_pointer (suc c) st s → s.x 1 < 2 ^ 64
      → HasAt w m u s.pc (opens f) → Opened m u st s
  opens_runs m u st s at small here =
      let h = frame in
      let piece = fault 4 f.line in
      let short = short_fault w sees d f kept r in
      let top = sees.apart.stack_is_low in
      let code = subst (λ p. HasAt w m u p (opens_frame w sees d f kept r)) (past_words w sees d f kept r f.line s.pc) (has_rest w m u s.pc (past (Bne 9 0) piece) (opens_frame w sees d f kept r) here) in
      let nine : s.x 9 ≢ 0 = λ e. omega (arith, at.register, e) in
      let s1 : MachineState = record s { pc = s.pc + 4 * suc (size piece) } in
      let go1 : Moves w s s1 = moves_past w sees.apart s 9 (4 * suc (size piece)) at.ready here.0 nine (omega arith) (omega arith) (omega arith) in
      let less : add (s.x 9) (bits64 (negsuc 0)) ≡ c = let e = at.register in let few = at.few in omega arith in
      let s2 : MachineState = record s1 { x = set s1.x 9 c; pc = s1.pc + 4 } in
      let go2 : Moves w s1 s2 = moves_on w sees.apart s1 (Addi 9 9 (negsuc 0)) (set s1.x 9 c) at.ready code.0 (ap (λ v. goes_on (set s1.x 9 v) s1) less) in
      let lower : add (s.x 2) (bits64 (pos 0 -ℤ pos (frame_bytes (frame_of f)))) ≡ base = ap (λ v. add v (bits64 (pos 0 -ℤ pos (frame_bytes (frame_of f))))) at.stack ∙ less_by stack_pointer (frame_bytes (frame_of f)) fits (omega arith) in
      let s3 : MachineState = record s2 { x = set s2.x 2 base; pc = s2.pc + 4 } in
      let go3 : Moves w s2 s3 = moves_on w sees.apart s2 (Addi 2 2 (pos 0 -ℤ pos (frame_bytes (frame_of f)))) (set s2.x 2 base) at.ready code.1.0 (ap (λ v. goes_on (set s2.x 2 v) s2) lower) in
      let at3 : IsAt w base c (record st { calls = c }) s3 = record {
        ready = at.ready;
        variables = at.variables;
        stack = refl;
        register = refl;
        calls = refl;
        few = let few = at.few in omega arith;
        steps = at.steps;
        input = at.input;
        output = at.output;
        bytes = at.bytes;
      } in
      let was = at.ready.stack return_place return_in in
      let s4 : MachineState = record s3 { mem = put_doubleword s.mem return_place (s.x 1); pc = s3.pc + 4 } in
      let go4 : Moves w s3 s4 = moves_store w sees.apart s3 2 1 (return_slot (frame_of f)) return_place was.value at.ready code.1.1.0 (offset_is w sees body h s3 (8 * slots) refl (let few = few_slots in omega arith)) was.is in
      record {
        end = s4;
        reaches = moves_then w 3 s s1 s4 go1 (moves_then w 2 s1 s2 s4 go2 (moves_then w 1 s2 s3 s4 go3 (moves_last w s3 s4 go4)));
        pc = omega arith;
        at = put_at w sees body h (record st { calls = c }) s3 return_place (s.x 1) s4.pc at3 return_in small;
        keeps = keeps_put w s.mem return_place (s.x 1) (IsAbove stack_pointer) at.ready return_in (λ a above. let least = frame_least slots in let f = fits in omega arith);
        saved = word-put_same s.mem return_place was.value (s.x 1) small was.is;
        arguments = λ k from. others k from;
        stores = code.1.1.1;
      }
    where
      others : (k : ℕ) → 10 ≤ k → set (set s.x 9 c) 2 base k ≡ s.x k
      others k from = let a : ◌≢◌ {A = ℕ} k 2 = (λ e. omega (arith, e)) in let b : ◌≢◌ {A = ℕ} k 9 = (λ e. omega (arith, e)) in grind (arith, nat_tests)

  -- ---- the frame is left

  -- The call is given back, and the run goes on after the call.
  pub record Closed (to : ℕ) (st : State) (s : MachineState) : Type 0 where
    pub end : MachineState
    pub reaches : Reaches w.code w.words 4 s end
    pub at : IsAt w stack_pointer (suc c) (record st { calls = suc st.calls }) end
    pub pc : end.pc ≡ to
    pub memory : end.mem ≡ s.mem
    pub value : end.x 10 ≡ s.x 10

  pub closes_runs : (m u to : ℕ) (st : State) (s : MachineState) → IsAt w base c st s → suc c ≤ 1000
      → doubleword s.mem return_place ≡ Some to → to % 4 ≡ 0 → to < 2 ^ 64
      → HasAt w m u s.pc (closes f) → Closed to st s
  closes_runs m u to st s at few saved whole small here =
      let h = frame in
      let top = sees.apart.stack_is_low in
      let f_fits = fits in
      let s1 : MachineState = record s { x = set s.x 1 to; pc = s.pc + 4 } in
      let go1 : Moves w s s1 = moves_load w sees.apart s 1 2 (return_slot (frame_of f)) return_place to at.ready here.0 (offset_is w sees body h s (8 * slots) at.stack (let few = few_slots in omega arith)) saved in
      let more : add (s.x 2) (bits64 (pos (frame_bytes (frame_of f)))) ≡ stack_pointer = let e = at.stack in omega arith in
      let s2 : MachineState = record s1 { x = set s1.x 2 stack_pointer; pc = s1.pc + 4 } in
      let go2 : Moves w s1 s2 = moves_on w sees.apart s1 (Addi 2 2 (pos (frame_bytes (frame_of f)))) (set s1.x 2 stack_pointer) at.ready here.1.0 (ap (λ v. goes_on (set s1.x 2 v) s1) more) in
      let back : add (s.x 9) (bits64 (pos 1)) ≡ suc c = let e = at.register in omega arith in
      let s3 : MachineState = record s2 { x = set s2.x 9 (suc c); pc = s2.pc + 4 } in
      let go3 : Moves w s2 s3 = moves_on w sees.apart s2 (Addi 9 9 (pos 1)) (set s2.x 9 (suc c)) at.ready here.1.1.0 (ap (λ v. goes_on (set s2.x 9 v) s2) back) in
      let s4 : MachineState = record s3 { pc = to } in
      let go4 : Moves w s3 s4 = moves_back w sees.apart s3 1 to at.ready here.1.1.1.0 refl whole small in
      record {
        end = s4;
        reaches = moves_then w 3 s s1 s4 go1 (moves_then w 2 s1 s2 s4 go2 (moves_then w 1 s2 s3 s4 go3 (moves_last w s3 s4 go4)));
        at = record {
          ready = at.ready;
          variables = at.variables;
          stack = refl;
          register = refl;
          calls = ap suc at.calls;
          few = few;
          steps = at.steps;
          input = at.input;
          output = at.output;
          bytes = at.bytes;
        };
        pc = refl;
        memory = refl;
        value = refl;
      }
