-- Arguments and calls: where arguments are held, which registers they go into, and the law of calls.
use Rattle.std.specs.Prelude.{◌≡◌, ℕ, suc, ◌+◌, ◌*◌, ◌%◌, ◌≤◌, List, [], ◌∷◌, map, pos, Some, ⊤}
use Rattle.std.specs.List.{AllByRecursion}
use Rattle.pw_isa.specs.declared.instruction.Inst.TheVariants.{Jalr}
use Rattle.pw_isa.specs.Registers.{ra, t0, a0}
use Rattle.pw_tree.specs.Units.{Function}
use Rattle.pw_tree.specs.Names.{Definition}
use Rattle.pw_tree.specs.States.{Value, State, Locals, Outcome}
use Rattle.pw_tree.specs.TypedExpressions.{TypedExpression}
use Rattle.pw_tree.specs.Held.{held}
use Rattle.pw_tree.specs.Depends.{names_in}
use Rattle.pw_tree.specs.Evaluation.{eval}
use Rattle.pw_tree.specs.WellTypedExpressions.{Class, class_of, class, Throughout, HasFittingParts, ReadsKnown, HasSmallNumbers}
use Rattle.pw_mem.specs.Memory.{Mem}
use Rattle.pw_mem.specs.Words.{doubleword}
use Rattle.pw_hart.specs.State.{MachineState}
use Rattle.pw_code.specs.Items.{CodePart, size}
use Rattle.pw_code.specs.Frames.{slot_bytes}
use Rattle.pw_code.specs.ExpressionCode.{expression_code}
use Rattle.pw_simulation.specs.World.{World}
use Rattle.pw_simulation.specs.Values.{Represents}
use Rattle.pw_simulation.specs.Moments.{IsAt, Meets}
use Rattle.pw_simulation.specs.Sees.{Sees, IsKeptFunction}
use Rattle.pw_simulation.specs.Bodies.{Body, HasFrame, HasCallRoom, IsUntouched, IsLinked, context_of, IsReadyFor, Stands, GivesValue, Runs}

-- ---- arguments

-- A held slot has a number that stands for a value.
pub record IsHeld (w : World) (b : Body) (m : Mem) (h : ℕ) (c : Class) (x : Value) : Type 0 where
  pub word : ℕ
  pub is : doubleword m (b.stack_pointer + slot_bytes * (b.frame.locals + h)) ≡ Some word
  pub represents : Represents w c x word

-- The held slots from h on have numbers that stand for values of these classes, one each.
abbrev pub AreHeld : World → Body → Mem → (h : ℕ) → List Class → List Value → Type 0
AreHeld w b m h [] [] = ⊤
AreHeld w b m h (c ∷ cs) (x ∷ xs) = IsHeld w b m h c x × AreHeld w b m (suc h) cs xs
AreHeld w b m h [] (x ∷ xs) = ⊥
AreHeld w b m h (c ∷ cs) [] = ⊥

-- The registers from one on stand for values of these classes, one each.
abbrev pub AreInRegisters : World → (rd : ℕ) → List Class → List Value → (ℕ → ℕ) → Type 0
AreInRegisters w rd [] [] x = ⊤
AreInRegisters w rd (c ∷ cs) (v ∷ vs) x = Represents w c v (x rd) × AreInRegisters w (suc rd) cs vs x
AreInRegisters w rd [] (v ∷ vs) x = ⊥
AreInRegisters w rd (c ∷ cs) [] x = ⊥

-- After arguments the run stands after their code, with the values in held slots.
abbrev pub GivesValues : World → Body → (h to : ℕ) → List Class → List Value → MachineState → Type 0
GivesValues w b h to cs xs t = (t.pc ≡ to) × AreHeld w b t.mem h cs xs

-- The law of arguments.
abbrev pub RunsAll : (w : World) (b : Body) (known : List ℕ) (locals : Locals) (n h : ℕ) → List Class → List CodePart → (State → Outcome (List Value)) → Type 0
RunsAll w b known locals n h cs code means =
    (st : State) (s : MachineState) → IsReadyFor w b known locals n st s → Stands w b s.pc code →
    Meets w (IsUntouched b h) b.stack_pointer b.calls_left (size code) (GivesValues w b h (s.pc + 4 * size code) cs) (means st) s

-- ---- calls

-- The machine is about to call a function with some arguments.
pub record IsCalling (w : World) (stack_pointer calls_left : ℕ) (d : Definition) (f : Function) (arguments : List Value) (st : State) (s : MachineState) : Type 0 where
  pub function : IsKeptFunction w d f
  pub at : IsAt w stack_pointer calls_left st s
  pub room : HasCallRoom w stack_pointer calls_left
  pub high : stack_pointer ≤ w.stack_high
  pub even : stack_pointer % 16 ≡ 0
  pub here : w.code s.pc ≡ Some (Jalr ra t0 (pos 0))
  pub target : s.x t0 ≡ w.function_place d
  pub arguments_are : AreInRegisters w a0 (map class_of f.sig.params) arguments s.x

-- What is left untouched by a call: all of the stack from the caller's stack pointer on.
abbrev pub IsAbove : (stack_pointer : ℕ) → (at : ℕ) → Type 0
IsAbove stack_pointer at = stack_pointer ≤ at

-- The law of calls, for at most so many steps left: the machine does what a call comes to. It fetches one word of its own; the
-- function's come with the step that the call takes.
abbrev pub CallsRun : World → (Definition → List Value → State → Outcome Value) → (n : ℕ) → Type 0
CallsRun w calls n =
    (stack_pointer calls_left : ℕ) (d : Definition) (f : Function) (arguments : List Value) (st : State) (s : MachineState) →
    IsCalling w stack_pointer calls_left d f arguments st s → st.steps ≤ n →
    Meets w (IsAbove stack_pointer) stack_pointer calls_left 1 (GivesValue w (class_of f.sig.result) (s.pc + 4)) (calls d arguments st) s

-- ---- expressions

-- An expression is one of the body's: its parts have fitting classes, it reads known locals, its numbers are small, the values
-- that it holds have slots from h on, and its names mean what the unit says.
pub record IsExpressionOf (w : World) (b : Body) (known : List ℕ) (h : ℕ) (e : TypedExpression) : Type 0 where
  pub parts : Throughout (HasFittingParts b.unit b.classes) e
  pub reads : Throughout (ReadsKnown known) e
  pub numbers : Throughout HasSmallNumbers e
  pub held : h + held e ≤ b.frame.held
  pub links : AllByRecursion (IsLinked w b) (names_in e)

-- The law of expressions: if calls do what they mean, the code of an expression does what the expression comes to. It ends
-- after itself with the value in a0, or where the meaning stops, and it fetches its own words alone and those of the calls.
abbrev pub ExpressionsRun : Type 0
ExpressionsRun =
    (w : World) (b : Body) (known : List ℕ) (locals : Locals) (n h turns : ℕ) (calls : Definition → List Value → State → Outcome Value) (e : TypedExpression) →
    Sees w → HasFrame w b → CallsRun w calls n → IsExpressionOf w b known h e →
    Runs w b known locals n h (class e) (expression_code b.frame h e) (eval (context_of w b calls turns) e locals)
