-- Stretches of a run one after another, beside the meaning of one phrase after another.
use Rattle.std.proofs.Common.{◌≡◌, ℕ, ◌+◌, ◌≤◌, ◌∙◌, arith}
use Rattle.pw_isa.specs.Registers.{sp, s1}
use Rattle.pw_tree.specs.States.{State, StopReason, Outcome, gives, stops, and_then}
use Rattle.pw_hart.specs.State.{MachineState}
use Rattle.pw_simulation.specs.World.{World}
use Rattle.pw_simulation.specs.Memories.{Keeps}
use Rattle.pw_simulation.specs.Moments.{IsAt, Reaches, Lands, Halts, Meets}
use Rattle.pw_simulation.proofs.Reach.{reaches_then, reaches_as}

module _ (w : World) where
  -- other registers and another pc change nothing of what holds at a moment
  pub moved_at : (stack_pointer c : ℕ) (st : State) (s : MachineState) (x : ℕ → ℕ) (pc : ℕ) → IsAt w stack_pointer c st s → x sp ≡ s.x sp → x s1 ≡ s.x s1
      → IsAt w stack_pointer c st (record s { x = x; pc = pc })
  moved_at stack_pointer c st s x pc a same_sp same_s1 = record {
    ready = a.ready;
    variables = a.variables;
    stack = same_sp ∙ a.stack;
    register = same_s1 ∙ a.register;
    calls = a.calls;
    few = a.few;
    steps = a.steps;
    input = a.input;
    output = a.output;
    bytes = a.bytes;
  }

  pub halts_as : (own more : ℕ) (why : StopReason) (st : State) (s : MachineState) → own ≤ more → Halts w own why st s → Halts w more why st s
  halts_as own more why st s fits h = record {
    last = h.last;
    before = h.before;
    room = let r = h.room in omega arith;
    reaches = h.reaches;
    here = h.here;
    end = h.end;
    after = h.after;
    ends = h.ends;
    because = h.because;
    input = h.input;
    output = h.output;
  }

  -- a stretch before a stop
  pub halts_after : (own more : ℕ) (why : StopReason) (st : State) (s t : MachineState) → Reaches w.code w.words own s t → Halts w more why st t → Halts w (own + more) why st s
  halts_after own more why st s t r h = record {
    last = h.last;
    before = own + h.before;
    room = let room = h.room in omega arith;
    reaches = reaches_then w.code w.words own h.before s t h.last r h.reaches;
    here = h.here;
    end = h.end;
    after = h.after;
    ends = h.ends;
    because = h.because;
    input = h.input;
    output = h.output;
  }

  -- a stretch, and then what the meaning comes to
  pub meets_after : {A : Type 0} (kept later : ℕ → Type 0) (stack_pointer c own more : ℕ) (P : A → MachineState → Type 0) (o : Outcome A) (s t : MachineState)
      → ((at : ℕ) → kept at → later at) → Reaches w.code w.words own s t → Keeps kept s.mem t.mem
      → Meets w later stack_pointer c more P o t → Meets w kept stack_pointer c (own + more) P o s
  meets_after kept later stack_pointer c own more P (gives a st) s t less r k l = record {
    end = l.end;
    reaches = reaches_then w.code w.words own more s t l.end r l.reaches;
    at = l.at;
    keeps = λ b h. l.keeps b (less b h) ∙ k b h;
    holds = l.holds;
  }
  meets_after kept later stack_pointer c own more P (stops why st) s t less r k h = halts_after own more why st s t r h

  -- one phrase after another
  pub meets_then : {A B : Type 0} (kept first second : ℕ → Type 0) (stack_pointer c own more : ℕ) (P : A → MachineState → Type 0) (Q : B → MachineState → Type 0)
      (o : Outcome A) (next : A → State → Outcome B) (s : MachineState)
      → ((at : ℕ) → kept at → first at) → ((at : ℕ) → kept at → second at) → Meets w first stack_pointer c own P o s
      → ((a : A) (st : State) (t : MachineState) → IsAt w stack_pointer c st t → P a t → Keeps first s.mem t.mem → t.steps ≤ s.steps
      → Meets w second stack_pointer c more Q (next a st) t)
      → Meets w kept stack_pointer c (own + more) Q (and_then o next) s
  meets_then kept first second stack_pointer c own more P Q (gives a st) next s less1 less2 l rest =
      meets_after kept second stack_pointer c own more Q (next a st) s l.end less2 l.reaches (λ b h. l.keeps b (less1 b h))
      (rest a st l.end l.at l.holds l.keeps l.reaches.down)
  meets_then kept first second stack_pointer c own more P Q (stops why st) next s less1 less2 h rest =
      halts_as own (own + more) why st s (omega arith) h

  -- the same with more room, and with a weaker end
  pub meets_as : {A : Type 0} (kept : ℕ → Type 0) (stack_pointer c own more : ℕ) (P Q : A → MachineState → Type 0) (o : Outcome A) (s : MachineState)
      → own ≤ more → ((a : A) (t : MachineState) → P a t → Q a t)
      → Meets w kept stack_pointer c own P o s → Meets w kept stack_pointer c more Q o s
  meets_as kept stack_pointer c own more P Q (gives a st) s fits weaker l = record {
    end = l.end;
    reaches = reaches_as w.code w.words own more s l.end fits l.reaches;
    at = l.at;
    keeps = l.keeps;
    holds = weaker a l.end l.holds;
  }
  meets_as kept stack_pointer c own more P Q (stops why st) s fits weaker h = halts_as own more why st s fits h

  -- what an end goes on with, where there is one
  pub meets_followed : {A : Type 0} (kept : ℕ → Type 0) (stack_pointer c own more : ℕ) (P Q : A → MachineState → Type 0) (o : Outcome A) (s : MachineState)
      → ((a : A) (st : State) (t : MachineState) → IsAt w stack_pointer c st t → P a t → Lands w kept stack_pointer c more st t (Q a))
      → Meets w kept stack_pointer c own P o s → Meets w kept stack_pointer c (own + more) Q o s
  meets_followed kept stack_pointer c own more P Q (gives a st) s follows l =
      let k = follows a st l.end l.at l.holds in
      record {
        end = k.end;
        reaches = reaches_then w.code w.words own more s l.end k.end l.reaches k.reaches;
        at = k.at;
        keeps = λ b h. k.keeps b h ∙ l.keeps b h;
        holds = k.holds;
      }
  meets_followed kept stack_pointer c own more P Q (stops why st) s follows h = halts_as own (own + more) why st s (omega arith) h
