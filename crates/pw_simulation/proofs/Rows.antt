-- What every row of the scheme stands on: moments and places move on, and a row's last instructions compute its value.
use Rattle.std.proofs.Common.{◌≡◌, ◌≢◌, ℕ, ◌+◌, ◌*◌, ◌^◌, ◌<◌, ◌≤◌, List, ◌++◌, Some, refl, sym, ◌∙◌, subst, arith, inl, inr, pos, Option, None}
use Rattle.pw_isa.specs.declared.instruction.Inst.TheVariants.{Sd}
use Rattle.pw_tree.specs.declared.ty.Ty.{Ty}
use Rattle.pw_tree.specs.declared.ty.Ty.TheVariants.{Void, Long, Ulong, Fn}
use Rattle.pw_tree.specs.States.{Value, State, Locals, gives, value_or_zero}
use Rattle.pw_tree.specs.WellTypedExpressions.{Class, class_of}
use Rattle.pw_mem.specs.Memory.{Mem}
use Rattle.pw_mem.specs.Words.{doubleword, put_doubleword}
use Rattle.pw_mem.proofs.Words.{word-put_same, word-put_other}
use Rattle.pw_hart.specs.Bits.{bits64}
use Rattle.pw_hart.specs.Integer.{add}
use Rattle.pw_hart.specs.State.{MachineState, get}
use Rattle.pw_code.specs.Items.{CodePart, size}
use Rattle.pw_code.specs.Frames.{held_slot}
use Rattle.pw_code.specs.LoadImmediate.{load_immediate}
use Rattle.pw_code.proofs.Exports.{size-append}
use Rattle.pw_simulation.specs.World.{World, InStack}
use Rattle.pw_simulation.specs.CodeAt.{HasAt}
use Rattle.pw_simulation.specs.Memories.{IsReady, Keeps}
use Rattle.pw_simulation.specs.Values.{Represents, AreCarried}
use Rattle.pw_simulation.specs.Moments.{IsAt, Meets}
use Rattle.pw_simulation.specs.Sees.{Sees}
use Rattle.pw_simulation.specs.Bodies.{Body, HasFrame, IsUntouched, RepresentsLocal, IsReadyFor, Stands, GivesValue}
use Rattle.pw_simulation.proofs.LoadImmediate.{leaves_immediate}
use Rattle.pw_simulation.proofs.Operators.{Computes}
use Rattle.pw_simulation.proofs.Placed.{has_prefix, has_rest, ready_put, keeps_put}
use Rattle.pw_simulation.proofs.Steps.{Moves, moves_store}
use Rattle.pw_simulation.proofs.Meets.{moved_at}
use Rattle.pw_simulation.proofs.Pieces.{after_code, straight_runs}

-- ---- places

pub stands_prefix : (w : World) (b : Body) (at : ℕ) (code more : List CodePart) → Stands w b at (code ++ more) → Stands w b at code
stands_prefix w b at code more h = record {
  code_at = has_prefix w b.self.in_module b.self.in_unit at code more h.code_at;
  body = h.body;
  there = h.there;
  short = h.short;
  from = h.from;
  to = omega (arith, h.to, size-append code more);
}

pub stands_rest : (w : World) (b : Body) (at to : ℕ) (code more : List CodePart) → at + 4 * size code ≡ to → Stands w b at (code ++ more) → Stands w b to more
stands_rest w b at to code more e h = subst (λ p. Stands w b p more) e (record {
  code_at = has_rest w b.self.in_module b.self.in_unit at code more h.code_at;
  body = h.body;
  there = h.there;
  short = h.short;
  from = omega (arith, h.from);
  to = omega (arith, h.to, size-append code more);
})

-- ---- values

-- what a local gives where it was only declared
pub local_represents : (w : World) (ty : Ty) (x : Option Value) (v : ℕ) → RepresentsLocal w (class_of ty) x v → Represents w (class_of ty) (value_or_zero ty x) v
local_represents w ty (Some x) v h = h
local_represents w Void None v h = tt
local_represents w Long None v h = (h, omega arith)
local_represents w Ulong None v h = (h, omega arith)
local_represents w (Fn k) None v h = h

-- ---- moments

module _ (w : World) (sees : Sees w) (b : Body) (frame : HasFrame w b) where
  -- an offset from the stack pointer
  pub offset_is : (s : MachineState) (k : ℕ) → s.x 2 ≡ b.stack_pointer → k < 2 ^ 12 → add (get s.x 2) (bits64 (pos k)) ≡ b.stack_pointer + k
  offset_is s k e few =
      let top = sees.apart.stack_is_low in
      let high = frame.high in
      omega arith

  -- a slot of the frame
  pub slot_in : (k : ℕ) → k < b.frame.locals + b.frame.held → InStack w (b.stack_pointer + 8 * k)
  slot_in k few = let low = frame.low in let high = frame.high in let even = frame.even in record { from = omega arith; to = omega arith; even = omega arith }

  variables_stay : (m : Mem) (a x : ℕ) (vs : _) → IsReady w m → InStack w a → AreCarried w vs m → AreCarried w vs (put_doubleword m a x)
  variables_stay m a x vs ready in_it carried d i v is =
      let c = carried d i v is in
      let was = ready.stack a in_it in
      let beside : a ≢ w.variable_place d + 8 * i = let p = (sees.element_places d i v is).below in let from = in_it.from in omega arith in
      record { word = c.word; is = word-put_other m a (w.variable_place d + 8 * i) was.value x was.is beside ∙ c.is; represents = c.represents }

  -- a doubleword stored in the stack changes nothing of what holds at a moment
  pub put_at : (st : State) (s : MachineState) (a x pc : ℕ) → IsAt w b.stack_pointer b.calls_left st s → InStack w a → x < 2 ^ 64
      → IsAt w b.stack_pointer b.calls_left st (record s { mem = put_doubleword s.mem a x; pc = pc })
  put_at st s a x pc at in_it small = record {
    ready = ready_put w sees.apart s.mem a x at.ready in_it small;
    variables = variables_stay s.mem a x st.variables at.ready in_it at.variables;
    stack = at.stack;
    register = at.register;
    calls = at.calls;
    few = at.few;
    steps = at.steps;
    input = at.input;
    output = at.output;
    bytes = at.bytes;
  }

  -- the locals' slots are untouched
  pub local_untouched : (h i : ℕ) → i < b.frame.locals → IsUntouched b h (b.stack_pointer + 8 * i)
  local_untouched h i below = inl (omega arith, omega arith)

  -- and so the next phrase is as ready
  pub still_ready : (known : List ℕ) (locals : Locals) (n h : ℕ) (st later : State) (s t : MachineState) → IsReadyFor w b known locals n st s
      → IsAt w b.stack_pointer b.calls_left later t → Keeps (IsUntouched b h) s.mem t.mem → t.steps ≤ s.steps → IsReadyFor w b known locals n later t
  still_ready known locals n h st later s t r at keeps down = record {
    at = at;
    carried = λ i c is_known is_class.
        let l = r.carried i c is_known is_class in
        record { below = l.below; word = l.word; is = keeps (b.stack_pointer + 8 * i) (local_untouched h i l.below) ∙ l.is; represents = l.represents };
    fuel = let e1 = at.steps in let e2 = r.at.steps in let f = r.fuel in omega arith;
  }

  -- ---- the end of a row

  -- code that computes a value gives it
  pub code_gives : (h : ℕ) (c : Class) (code : List CodePart) (x : Value) (v : ℕ) (st : State) (s : MachineState) → IsAt w b.stack_pointer b.calls_left st s
      → HasAt w b.self.in_module b.self.in_unit s.pc code → Computes code s.x v → Represents w c x v
      → Meets w (IsUntouched b h) b.stack_pointer b.calls_left (size code) (GivesValue w c (s.pc + 4 * size code)) (gives x st) s
  code_gives h c code x v st s at here computes represents = record {
    end = after_code s code computes.registers;
    reaches = straight_runs w sees.apart b.self.in_module b.self.in_unit code s computes.registers at.ready here computes.is;
    at = moved_at w b.stack_pointer b.calls_left st s computes.registers (s.pc + 4 * size code) at computes.stack computes.register;
    keeps = λ _ _. refl;
    holds = (refl, subst (λ n. Represents w c x n) (sym computes.value) represents);
  }

  -- loading a number computes it
  pub immediate_computes : (value : ℕ) (x : ℕ → ℕ) → value < 2 ^ 64 → Computes (load_immediate 10 value) x value
  immediate_computes value x small =
      let l = leaves_immediate 9 value x small in
      record { registers = l.registers; is = l.is; value = l.puts.is; stack = l.puts.others 2 two; register = l.puts.others 9 nine }
    where
      two : ◌≢◌ {A = ℕ} 2 10
      two e = cc

      nine : ◌≢◌ {A = ℕ} 9 10
      nine e = cc

  -- ---- holding a value

  -- a0 is put into a held slot
  pub record Holds (h : ℕ) (st : State) (s : MachineState) : Type 0 where
    pub memory : Mem
    pub goes : Moves w s (record s { mem = memory; pc = s.pc + 4 })
    pub at : IsAt w b.stack_pointer b.calls_left st (record s { mem = memory; pc = s.pc + 4 })
    pub keeps : Keeps (IsUntouched b h) s.mem memory
    pub is : doubleword memory (b.stack_pointer + 8 * (b.frame.locals + h)) ≡ Some (s.x 10)

  pub holds_value : (h : ℕ) (st : State) (s : MachineState) → IsAt w b.stack_pointer b.calls_left st s → h < b.frame.held → s.x 10 < 2 ^ 64
      → w.code s.pc ≡ Some (Sd 2 10 (held_slot b.frame h)) → Holds h st s
  holds_value h st s at few small here =
      let k : ℕ = b.frame.locals + h in
      let a : ℕ = b.stack_pointer + 8 * k in
      let bound = frame.few in
      let in_it : InStack w a = slot_in k (omega arith) in
      let was = at.ready.stack a in_it in
      record {
        memory = put_doubleword s.mem a (s.x 10);
        goes = moves_store w sees.apart s 2 10 (held_slot b.frame h) a was.value at.ready here (offset_is s (8 * k) at.stack (omega arith)) was.is;
        at = put_at st s a (s.x 10) (s.pc + 4) at in_it small;
        keeps = keeps_put w s.mem a (s.x 10) (IsUntouched b h) at.ready in_it (apart k refl);
        is = word-put_same s.mem a was.value (s.x 10) small was.is;
      }
    where
      apart : (k : ℕ) → k ≡ b.frame.locals + h → (p : ℕ) → IsUntouched b h p → b.stack_pointer + 8 * k ≢ p
      apart k e p (inl u) = let low = u.0 in let high = u.1 in omega arith
      apart k e p (inr u) = omega arith
