-- The function whose body runs: its unit, the classes of its locals, its frame, and what its names mean.
use Rattle.std.specs.Prelude.{◌≡◌, ℕ, ◌+◌, ◌*◌, ◌%◌, ◌^◌, ◌<◌, ◌≤◌, ◌⊎◌, true, List, map, Option, Some, None, slice_get}
use Rattle.pw_tree.specs.declared.ty.Sig.{Sig}
use Rattle.pw_tree.specs.declared.ty.Ref.{Ref}
use Rattle.pw_tree.specs.declared.tunit.TVar.{TVar}
use Rattle.pw_tree.specs.Types.{pointer_to}
use Rattle.pw_tree.specs.Units.{Function, TypedUnit}
use Rattle.pw_tree.specs.Names.{Definition, function, object, resolved, function_at, variable_at}
use Rattle.pw_tree.specs.States.{Value, State, Locals, Outcome}
use Rattle.pw_tree.specs.Evaluation.{Context}
use Rattle.pw_tree.specs.Meaning.{named_in}
use Rattle.pw_tree.specs.WellTypedExpressions.{Class, class_of, IsFunction, HasClass, IsKnown}
use Rattle.pw_tree.specs.WellTypedUnits.{room}
use Rattle.pw_mem.specs.Memory.{Mem}
use Rattle.pw_mem.specs.Words.{doubleword}
use Rattle.pw_isa.specs.Registers.{a0}
use Rattle.pw_hart.specs.State.{MachineState}
use Rattle.pw_code.specs.declared.frame.Frame.{Frame}
use Rattle.pw_code.specs.Items.{CodePart, size}
use Rattle.pw_code.specs.FunctionCode.{function_words}
use Rattle.pw_code.specs.Frames.{slot_bytes}
use Rattle.pw_simulation.specs.World.{World}
use Rattle.pw_simulation.specs.CodeAt.{HasAt}
use Rattle.pw_simulation.specs.Values.{Represents}
use Rattle.pw_simulation.specs.Moments.{IsAt, Meets}

-- The function whose body runs, in this frame, with so many calls left.
pub record Body : Type 0 where
  pub self : Definition
  pub unit : TypedUnit
  pub classes : List Class
  pub frame : Frame
  pub stack_pointer : ℕ
  pub calls_left : ℕ

-- ---- the frame

-- How many bytes from the stack pointer the slots of the locals and of the values held take.
abbrev pub slots_end : Body → ℕ
slots_end b = b.stack_pointer + slot_bytes * (b.frame.locals + b.frame.held)

-- The greatest frame: all the locals and held values that a function may have, and the return address.
abbrev pub greatest_frame : ℕ
greatest_frame = 1776

-- Below a stack pointer the stack has room for so many frames.
abbrev pub HasCallRoom : World → (stack_pointer calls_left : ℕ) → Type 0
HasCallRoom w stack_pointer calls_left = w.stack_low + greatest_frame * calls_left ≤ stack_pointer

-- The frame's slots, and the one of the return address, lie in the stack, and their offsets have room in immediates.
pub record HasFrame (w : World) (b : Body) : Type 0 where
  pub low : w.stack_low ≤ b.stack_pointer
  pub high : slots_end b + slot_bytes ≤ w.stack_high
  pub even : b.stack_pointer % 16 ≡ 0
  -- below it there is room for as many frames as calls are left
  pub room : HasCallRoom w b.stack_pointer b.calls_left
  pub few : b.frame.locals + b.frame.held < 256

-- What an expression that may use the held slots from h on leaves as it was: of the frame what stands before them, and
-- whatever stands after the frame's slots.
abbrev pub IsUntouched : Body → (h : ℕ) → (at : ℕ) → Type 0
IsUntouched b h at =
    ((b.stack_pointer ≤ at) × (at < b.stack_pointer + slot_bytes * (b.frame.locals + h))) ⊎ (slots_end b ≤ at)

-- ---- locals

-- A number stands for what a local holds; a local that was only declared holds zero.
abbrev pub RepresentsLocal : World → Class → Option Value → ℕ → Type 0
RepresentsLocal w c (Some x) v = Represents w c x v
RepresentsLocal w c None v = v ≡ 0

-- The slot of a local.
pub record IsLocalCarried (w : World) (b : Body) (m : Mem) (i : ℕ) (c : Class) (x : Option Value) : Type 0 where
  pub below : i < b.frame.locals
  pub word : ℕ
  pub is : doubleword m (b.stack_pointer + slot_bytes * i) ≡ Some word
  pub represents : RepresentsLocal w c x word

-- The locals that are known at a place stand in their slots.
abbrev pub AreLocalsCarried : World → Body → List ℕ → Locals → Mem → Type 0
AreLocalsCarried w b known locals m =
    (i : ℕ) (c : Class) → IsKnown known i → slice_get b.classes i ≡ Some c → IsLocalCarried w b m i c (locals i)

-- ---- names

-- A name means a variable of a class, or an array of so many elements of it.
pub record MeansVariable (w : World) (b : Body) (name : Ref) (size : Option ℕ) (c : Class) : Type 0 where
  pub d : Definition
  pub found : resolved w.project b.self.in_module b.self.in_unit name ≡ Some (object d)
  pub variable : TVar
  pub there : variable_at w.project d ≡ Some variable
  pub class_is : class_of variable.ty ≡ c
  pub room_is : room variable.count ≡ room size

-- A name means a kept function of a signature, up to what is said of its values.
pub record MeansFunction (w : World) (b : Body) (name : Ref) (sig : Sig) : Type 0 where
  pub d : Definition
  pub found : resolved w.project b.self.in_module b.self.in_unit name ≡ Some (function d)
  pub callee : Function
  pub there : function_at w.project d ≡ Some callee
  pub kept : w.keep d ≡ true
  pub pointer_is : pointer_to callee.sig ≡ pointer_to sig
  pub result_is : class_of callee.sig.result ≡ class_of sig.result
  pub parameters_are : map class_of callee.sig.params ≡ map class_of sig.params

-- A name that the body uses means what its unit says.
pub record IsLinked (w : World) (b : Body) (name : Ref) : Type 0 where
  pub variable : (size : Option ℕ) (c : Class) → HasClass b.unit name size c → MeansVariable w b name size c
  pub function : (sig : Sig) → IsFunction b.unit name sig → MeansFunction w b name sig

-- ---- the meaning's context

-- What the body is evaluated in, given what a call comes to and how often a loop may go back.
abbrev pub context_of : World → Body → (called : Definition → List Value → State → Outcome Value) → (turns : ℕ) → Context
context_of w b calls turns = record {
  self = b.self;
  named = named_in w.project b.self.in_module b.self.in_unit;
  called = calls;
  iterations_left = turns;
}

-- ---- laws of phrases

-- What the law of an expression asks of a moment: the states agree, the known locals stand in their slots, and no more steps
-- are left than a number.
pub record IsReadyFor (w : World) (b : Body) (known : List ℕ) (locals : Locals) (n : ℕ) (st : State) (s : MachineState) : Type 0 where
  pub at : IsAt w b.stack_pointer b.calls_left st s
  pub carried : AreLocalsCarried w b known locals s.mem
  pub fuel : st.steps ≤ n

-- Code of the body stands at a place, inside the function, which is so short that a jump reaches from each word to each.
pub record Stands (w : World) (b : Body) (at : ℕ) (code : List CodePart) : Type 0 where
  pub code_at : HasAt w b.self.in_module b.self.in_unit at code
  pub body : Function
  pub there : function_at w.project b.self ≡ Some body
  pub short : function_words body < 2 ^ 18
  pub from : w.function_place b.self ≤ at
  pub to : at + 4 * size code ≤ w.function_place b.self + 4 * function_words body

-- After an expression the run stands after its code, with the value in a0.
abbrev pub GivesValue : World → Class → (to : ℕ) → Value → MachineState → Type 0
GivesValue w c to x t = (t.pc ≡ to) × Represents w c x (t.x a0)

-- The law of an expression: wherever its code stands, the machine does what the expression comes to.
abbrev pub Runs : (w : World) (b : Body) (known : List ℕ) (locals : Locals) (n h : ℕ) → Class → List CodePart → (State → Outcome Value) → Type 0
Runs w b known locals n h c code means =
    (st : State) (s : MachineState) → IsReadyFor w b known locals n st s → Stands w b s.pc code →
    Meets w (IsUntouched b h) b.stack_pointer b.calls_left (size code) (GivesValue w c (s.pc + 4 * size code)) (means st) s
