-- What a project means: what a call comes to, and with it the output and the end of a run.
use Rattle.std.specs.Prelude.{ℕ, zero, suc, List, [], Option, Some, None, slice_get, unwrap_or, option_map, option_and_then, codes, false}
use Rattle.std.specs.Option.{option_map_or}
use Rattle.pw_base.specs.Limits.{calls as calls_limit}
use Rattle.pw_tree.specs.TypedStatements.{nil}
use Rattle.pw_tree.specs.Units.{Function}
use Rattle.pw_tree.specs.Names.{Project, Definition, Entity, function, object, resolved, function_at, variable_at}
use Rattle.pw_tree.specs.States.{Value, number, pointer, zero_of, as_number, Locals, value_or_zero, State, depth, StopReason, checked, spent, Outcome, gives, stops, and_then, stepped}
use Rattle.pw_tree.specs.Evaluation.{Context}
use Rattle.pw_tree.specs.Execution.{Completion, returned, exec_all}
use Rattle.pw_tree.specs.declared.ty.Ty.{Ty}
use Rattle.pw_tree.specs.declared.ty.Ty.TheVariants.{Void}
use Rattle.pw_tree.specs.declared.ty.Ref.{Ref}
use Rattle.pw_tree.specs.declared.ty.Ref.TheVariants.{Global}
use Rattle.pw_tree.specs.declared.tunit.Init.{Init}
use Rattle.pw_tree.specs.declared.tunit.Init.TheVariants.{Num, Fun}
use Rattle.pw_tree.specs.declared.tunit.TVar.{TVar}

-- The definition of a function or a variable; of an unbound name, which no project that is run has, the first.
abbrev pub definition_or_first : Option Entity → Definition
definition_or_first (Some (function d)) = d
definition_or_first (Some (object d)) = d
definition_or_first None = record { in_module = 0; in_unit = 0; number = 0 }

-- The definition that a name means in a unit.
abbrev pub named_in : Project → ℕ → ℕ → Ref → Definition
named_in project m u name = definition_or_first (resolved project m u name)

-- A function with an empty body, which stands where a definition is none of a function.
abbrev pub no_function : Function
no_function = record {
  name = [];
  global = false;
  sig = record { result = Void; params = [] };
  line = 0;
  locals = 0;
  held = 0;
  body = nil;
}

-- The function that a pointer points to.
abbrev pub called_function : Project → Definition → Function
called_function project f = unwrap_or (function_at project f) no_function

-- The value that a body returns: falling off its end gives 0, or null, of the result's type.
abbrev pub result_of : Ty → Completion → Value
result_of ty (returned value) = value_or_zero ty value
result_of ty _ = zero_of ty

-- Gives a call back, with the value of the body.
abbrev pub call_returns : Ty → Completion → State → Outcome Value
call_returns ty done st = gives (result_of ty done) (record st { calls = suc st.calls })

-- Runs a body under one of the calls left, or stops at the line of the function's name where there is none.
abbrev pub entered_from : ℕ → Definition → Function → (State → Outcome Completion) → State → Outcome Value
entered_from zero f callee body st = stops (checked depth f callee.line) st
entered_from (suc left) f callee body st = and_then (body (record st { calls = left })) (call_returns callee.sig.result)

-- The locals of a function as its body begins: its arguments are the first ones.
abbrev pub locals_at_entry : List Value → Locals
locals_at_entry arguments i = slice_get arguments i

-- What a call comes to. It takes a step, then one of the calls left, runs the body, and gives the call back.
-- The first number is no less than the steps left, so that none is left where it is 0.
abbrev pub call_of : Project → ℕ → Definition → List Value → State → Outcome Value
call_of project zero f arguments st = stops spent st
call_of project (suc n) f arguments st =
    let callee = called_function project f in
    let x : Context = record { self = f; named = named_in project f.in_module f.in_unit; called = call_of project n; iterations_left = n } in
    stepped (λ st. entered_from st.calls f callee (exec_all x callee.body (locals_at_entry arguments)) st) st

-- The value of an element of an initialiser.
abbrev pub initial_element : Project → ℕ → ℕ → Init → Value
initial_element project m u (Num n) = number n
initial_element project m u (Fun f) = pointer (named_in project m u f)

-- The value of an element of a variable before the run: 0, or null, where the initialiser leaves it out.
abbrev pub initial_value : Project → Definition → TVar → ℕ → Value
initial_value project d x i = value_or_zero x.ty
    (option_map (initial_element project d.in_module d.in_unit) (option_and_then (λ items. slice_get items i) x.init))

-- The elements of all variables before the run.
abbrev pub initial_variables : Project → Definition → ℕ → Value
initial_variables project d i = option_map_or (λ x. initial_value project d x i) (variable_at project d) (number 0)

-- The state in which a run begins: with the input, no output, `bound` steps and 1,000 calls.
abbrev pub initial_state : Project → List ℕ → ℕ → State
initial_state project input bound = record {
  variables = initial_variables project;
  input = input;
  output = [];
  steps = bound;
  calls = calls_limit;
}

-- What a run ends with: the value of `main`, or why it stopped.
pub data End : Type 0 where
  exit : ℕ → End
  stopped : StopReason → End

-- What a run gives: its output, the input that is left, and its end.
pub record Run : Type 0 where
  pub output : List ℕ
  pub rest : List ℕ
  pub end : End

-- What is seen of a run once it has come to an end.
abbrev pub run_of : Outcome Value → Run
run_of (gives v st) = record { output = st.output; rest = st.input; end = exit (as_number v) }
run_of (stops why st) = record { output = st.output; rest = st.input; end = stopped why }

-- The function that a run calls first: the program's `main`.
abbrev pub main_definition : Project → Definition
main_definition project = named_in project 0 0 (Global (codes "main"))

-- What a project means, given an input and a bound on the steps.
abbrev pub meaning : Project → List ℕ → ℕ → Run
meaning project input bound = run_of (call_of project bound (main_definition project) [] (initial_state project input bound))
