-- Statements: where one stands among the statements round it, where the run stands after it, and the law of statements.
use Rattle.std.specs.Prelude.{◌≡◌, ℕ, ◌+◌, ◌*◌, ◌^◌, ◌<◌, ◌≤◌, Bool, true, List, length, Option, Some, None}
use Rattle.std.specs.List.{AllByRecursion}
use Rattle.pw_isa.specs.Registers.{a0}
use Rattle.pw_tree.specs.TypedStatements.{TypedStatements}
use Rattle.pw_tree.specs.Names.{Definition}
use Rattle.pw_tree.specs.States.{Value, State, Locals, Outcome}
use Rattle.pw_tree.specs.Held.{held_by_all}
use Rattle.pw_tree.specs.Depends.{names_of_all}
use Rattle.pw_tree.specs.Execution.{Completion, normal, broke, continued, returned, exec_all}
use Rattle.pw_tree.specs.WellTypedExpressions.{Class, nothing, IsValueClass}
use Rattle.pw_tree.specs.WellTypedStatements.{EverywhereIn, StatementFits, StatementsRead, AllLeaveLoops, HasSimpleParts, StatementHasSmallNumbers}
use Rattle.pw_hart.specs.State.{MachineState}
use Rattle.pw_code.specs.Items.{CodePart, size}
use Rattle.pw_code.specs.StatementCode.{Targets, statements_code}
use Rattle.pw_simulation.specs.World.{World}
use Rattle.pw_simulation.specs.Values.{Represents}
use Rattle.pw_simulation.specs.Moments.{Meets}
use Rattle.pw_simulation.specs.Sees.{Sees}
use Rattle.pw_simulation.specs.Bodies.{Body, HasFrame, slots_end, AreLocalsCarried, IsLinked, context_of, IsReadyFor, Stands}
use Rattle.pw_simulation.specs.Calls.{CallsRun}

-- ---- the body

-- The body is one of a kept function, and each of its locals has a slot, and a class of values.
pub record IsKeptBody (w : World) (b : Body) : Type 0 where
  pub kept : w.keep b.self ≡ true
  pub each : length b.classes ≡ b.frame.locals
  pub values : AllByRecursion IsValueClass b.classes

-- The address of a word of the body's function, counted from the function's start.
abbrev pub word_place : World → Body → ℕ → ℕ
word_place w b at = w.function_place b.self + 4 * at

-- What a statement leaves as it was: whatever stands after the frame's slots.
abbrev pub IsPastSlots : Body → (at : ℕ) → Type 0
IsPastSlots b at = slots_end b ≤ at

-- ---- where a statement stands

-- What is round a statement: whether a loop is, where `break`, `continue` and `return` jump to, and the class of what the
-- function returns.
pub record Surroundings : Type 0 where
  pub in_loop : Bool
  pub targets : Targets
  pub result : Class

-- A word of the function at which a jump from before a word may end.
pub record IsAhead (behind target : ℕ) : Type 0 where
  pub from : behind ≤ target
  pub near : target < 2 ^ 18

-- The targets stand at or after the word behind a statement: those of `break` and `continue` where a loop is round it.
pub record AreAhead (around : Surroundings) (behind : ℕ) : Type 0 where
  pub for_return : IsAhead behind around.targets.return_to
  pub for_break : around.in_loop ≡ true → IsAhead behind around.targets.break_to
  pub for_continue : around.in_loop ≡ true → IsAhead behind around.targets.continue_to

-- Code of a statement stands at a word of the function, before its targets, and the machine is about to run it.
pub record IsAboutToRun (w : World) (b : Body) (around : Surroundings) (at : ℕ) (code : List CodePart) (s : MachineState) : Type 0 where
  pub here : s.pc ≡ word_place w b at
  pub code_there : Stands w b s.pc code
  pub ahead : AreAhead around (at + size code)

-- ---- after a statement

-- A number stands for what a function returns; where nothing is returned, it has no result.
abbrev pub RepresentsReturned : World → Class → Option Value → ℕ → Type 0
RepresentsReturned w result (Some x) v = Represents w result x v
RepresentsReturned w result None v = result ≡ nothing

-- After a statement the run stands behind it, or at one of the targets. The locals in `later` are known behind it, those in
-- `known` where it leaves a loop; what is returned is in a0.
abbrev pub CompletesAt : World → Body → Surroundings → (known later : List ℕ) → (behind : ℕ) → Completion → MachineState → Type 0
CompletesAt w b around known later behind (normal locals) t = (t.pc ≡ word_place w b behind) × AreLocalsCarried w b later locals t.mem
CompletesAt w b around known later behind (broke locals) t =
    (around.in_loop ≡ true) × (t.pc ≡ word_place w b around.targets.break_to) × AreLocalsCarried w b known locals t.mem
CompletesAt w b around known later behind (continued locals) t =
    (around.in_loop ≡ true) × (t.pc ≡ word_place w b around.targets.continue_to) × AreLocalsCarried w b known locals t.mem
CompletesAt w b around known later behind (returned x) t =
    (t.pc ≡ word_place w b around.targets.return_to) × RepresentsReturned w around.result x (t.x a0)

-- The law of a statement: wherever its code stands, the machine does what the statement comes to. Of its own it fetches no more
-- words than its code has: each jump back takes a step, and with it as many words more as all texts have.
abbrev pub RunsStatement : (w : World) (b : Body) → Surroundings → (known later : List ℕ) → (n at : ℕ) → List CodePart
    → (Locals → State → Outcome Completion) → Type 0
RunsStatement w b around known later n at code means =
    (locals : Locals) (st : State) (s : MachineState) → IsReadyFor w b known locals n st s → IsAboutToRun w b around at code s →
    Meets w (IsPastSlots b) b.stack_pointer b.calls_left (size code) (CompletesAt w b around known later (at + size code)) (means locals st) s

-- ---- statements

-- Statements are some of the body's: what they set, test and return has fitting classes, and so have the parts of their
-- expressions; they read known locals; `break` and `continue` stand in loops; the parts of a `for` are simple; their numbers are
-- small, the values that they hold have slots, and their names mean what the unit says.
pub record AreStatementsOf (w : World) (b : Body) (around : Surroundings) (known : List ℕ) (ss : TypedStatements) : Type 0 where
  pub fits : EverywhereIn (StatementFits b.unit around.result b.classes) ss
  pub reads : StatementsRead known ss
  pub loops : AllLeaveLoops around.in_loop ss
  pub simple_parts : EverywhereIn HasSimpleParts ss
  pub numbers : EverywhereIn StatementHasSmallNumbers ss
  pub held : held_by_all ss ≤ b.frame.held
  pub links : AllByRecursion (IsLinked w b) (names_of_all ss)

-- The law of statements: if calls do what they mean, the code of statements does what they come to. Known behind them are at
-- least the locals that are known before them.
abbrev pub StatementsRun : Type 0
StatementsRun =
    (w : World) (b : Body) (around : Surroundings) (known : List ℕ) (n at : ℕ) (calls : Definition → List Value → State → Outcome Value)
    (ss : TypedStatements) →
    Sees w → HasFrame w b → IsKeptBody w b → CallsRun w calls n → AreStatementsOf w b around known ss →
    RunsStatement w b around known known n at (statements_code b.frame around.targets at ss) (exec_all (context_of w b calls n) ss)
