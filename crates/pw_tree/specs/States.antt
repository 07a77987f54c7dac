-- Values, states, and what an evaluation comes to.
use Rattle.std.specs.Prelude.{ℕ, zero, suc, ◌%◌, Bool, true, false, not, ◌&&◌, List, [], ◌∷◌, ◌++◌, Option, Some, None, if◌then◌else◌, nat_eq}
use Rattle.pw_tree.specs.Names.{Definition, same_definition}
use Rattle.pw_tree.specs.declared.ty.Ty.{Ty}
use Rattle.pw_tree.specs.declared.ty.Ty.TheVariants.{Fn}

-- A value: a number of 64 bits, the null pointer, or a pointer to a function.
pub data Value : Type 0 where
  number : ℕ → Value
  null : Value
  pointer : Definition → Value

-- The value of an object of a type that nothing was stored in: 0, or null.
abbrev pub zero_of : Ty → Value
zero_of (Fn k) = null
zero_of _ = number 0

-- A value holds as a condition when it is neither 0 nor null.
abbrev pub holds : Value → Bool
holds (number n) = not (nat_eq n 0)
holds null = false
holds (pointer f) = true

-- The number that a value is; typed trees ask it of numbers alone.
abbrev pub as_number : Value → ℕ
as_number (number n) = n
as_number _ = 0

-- Two values are equal; two functions exactly if they are the same definition.
abbrev pub same_value : Value → Value → Bool
same_value (number m) (number n) = nat_eq m n
same_value null null = true
same_value (pointer f) (pointer g) = same_definition f g
same_value _ _ = false

-- The parameters and locals of a function by number; `None` is what a declaration without initialiser leaves.
abbrev pub Locals : Type 0
Locals = ℕ → Option Value

-- A value read at a type, at which nothing stored is 0 or null.
abbrev pub value_or_zero : Ty → Option Value → Value
value_or_zero ty (Some v) = v
value_or_zero ty None = zero_of ty

-- The locals with one of them set.
abbrev pub with_local_set : Locals → ℕ → Option Value → Locals
with_local_set locals i value = λ j. if nat_eq i j then value else locals j

-- The state of a run: the elements of the variables, of which one that is no array has element 0 alone; the input
-- that is left and the output; how many steps and how many calls may still be taken.
pub record State : Type 0 where
  pub variables : Definition → ℕ → Value
  pub input : List ℕ
  pub output : List ℕ
  pub steps : ℕ
  pub calls : ℕ

-- The state with one element of a variable set.
abbrev pub with_element : Definition → ℕ → Value → State → State
with_element x i value st = record st {
  variables = λ y j. if same_definition x y && nat_eq i j then value else st.variables y j;
}

-- The state after `__in()`, with the first byte taken from the input.
abbrev pub with_input : List ℕ → State → State
with_input input st = record st { input = input }

-- The state after `__out(v)`, which writes the low byte of v.
abbrev pub with_output : ℕ → State → State
with_output v st = record st { output = st.output ++ (v % 256 ∷ []) }

-- Which check failed: an index is not below its array's size, a divisor is 0, a callee is null, or a function is
-- called while 1,000 calls are alive.
pub data Fault : Type 0 where
  index : Fault
  division : Fault
  null_call : Fault
  depth : Fault

-- Why a run stops before its end: a failed check, with the function and the line, or no step is left.
pub data StopReason : Type 0 where
  checked : Fault → Definition → ℕ → StopReason
  spent : StopReason

-- What an evaluation comes to: a result and the state, or a stop and the state.
pub data Outcome (A : Type 0) : Type 0 where
  gives : A → State → Outcome A
  stops : StopReason → State → Outcome A

-- One evaluation after another: a sequence point lies between them, also between operands and between arguments,
-- which C leaves unsequenced (C17, 5.1.2.3).
abbrev pub and_then : {A B : Type 0} → Outcome A → (A → State → Outcome B) → Outcome B
and_then (gives result st) next = next result st
and_then (stops why st) next = stops why st

-- One of two evaluations, by a condition.
abbrev pub chosen : {A : Type 0} → Bool → (State → Outcome A) → (State → Outcome A) → State → Outcome A
chosen true first second st = first st
chosen false first second st = second st

-- With n steps left: spent where n is 0, and else the evaluation with one step less.
abbrev pub stepped_from : {A : Type 0} → ℕ → (State → Outcome A) → State → Outcome A
stepped_from zero next st = stops spent st
stepped_from (suc left) next st = next (record st { steps = left })

-- Takes a step, and then evaluates; where no step is left, the run is spent.
abbrev pub stepped : {A : Type 0} → (State → Outcome A) → State → Outcome A
stepped next st = stepped_from st.steps next st
