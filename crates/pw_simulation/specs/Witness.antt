-- A small project, and its world: it has a variable with function values in it, a loop, an index and a call through a pointer.
use Rattle.std.specs.Prelude.{ℕ, ◌+◌, true, false, List, [], ◌∷◌, Option, Some, None, codes, bytes_eq}
use Rattle.std.specs.List.{list_any}
use Rattle.std.specs.Option.{option_or}
use Rattle.pw_base.specs.Limits.{stack_start, stack_bytes}
use Rattle.pw_isa.specs.declared.instruction.Inst.{Inst}
use Rattle.pw_tree.specs.declared.ty.Ty.TheVariants.{Long, Fn}
use Rattle.pw_tree.specs.declared.ty.Ref.TheVariants.{Global, LocalFun}
use Rattle.pw_tree.specs.declared.operator.Un.TheVariants.{Bang}
use Rattle.pw_tree.specs.TypedExpressions.{Mark, TypedExpression, constant, designator, element, unary, call_pointer}
use Rattle.pw_tree.specs.TypedExpressions as expressions
use Rattle.pw_tree.specs.TypedStatements.{returns, set_element, while_loop, block, nil, cons}
use Rattle.pw_tree.specs.declared.tunit.TVar.{TVar}
use Rattle.pw_tree.specs.Units.{Function, TypedUnit}
use Rattle.pw_tree.specs.Names.{Project, Definition, same_definition}
use Rattle.pw_code.specs.FunctionCode.{function_code, entry_code}
use Rattle.pw_agree.specs.Kept.{Keep}
use Rattle.pw_agree.specs.Placing.{text_of, slots_of, slot_address, function_address, variable_address, target_address}
use Rattle.pw_simulation.specs.World.{World}
use Rattle.pw_simulation.specs.Sees.{Sees}
use Rattle.pw_simulation.specs.Tables.{instructions_at, in_table}

-- ---- the source

-- static long f(void) { return 7; }
-- fn0 t[2];
-- long main(void) { while (!t[1]) { t[1] = f; } return t[1](); }

-- an expression of type long in this line
abbrev pub at : ℕ → Mark
at in_line = record { ty = Long; line = in_line }

-- an expression in the last line that gives a function
abbrev pub at_pointer : Mark
at_pointer = record { ty = Fn 0; line = 3 }

-- the function `f`
abbrev pub f_function : Function
f_function = record {
  name = codes "f";
  global = false;
  sig = record { result = Long; params = [] };
  line = 1;
  locals = 0;
  held = 0;
  body = cons (returns (Some (constant (at 1) 7))) nil;
}

-- the element `t[1]`
abbrev pub second_element : TypedExpression
second_element = element at_pointer (Global (codes "t")) 2 (constant (at 3) 1)

-- the function `main`, which stores `f` in `t[1]` and calls it from there
abbrev pub main_function : Function
main_function = record {
  name = codes "main";
  global = true;
  sig = record { result = Long; params = [] };
  line = 3;
  locals = 0;
  held = 1;
  body =
      cons (while_loop (unary (at 3) Bang second_element) (block (cons (set_element (Global (codes "t")) 2 3 (constant (at 3) 1) (designator at_pointer (LocalFun 0))) nil)))
      (cons (returns (Some (call_pointer (at 3) second_element expressions.nil))) nil);
}

-- the variable `t`: two function values, neither with an initialiser
abbrev pub t_variable : TVar
t_variable = record { name = codes "t"; global = true; ty = Fn 0; count = Some 2; init = None }

-- the unit of that source, and its names with external linkage
abbrev pub unit : TypedUnit
unit = record {
  functions = f_function ∷ main_function ∷ [];
  variables = t_variable ∷ [];
  names = record { name = codes "t"; text = codes "0[2]" } ∷ record { name = codes "main"; text = codes "l()" } ∷ [];
}

-- the project is one module of this unit
abbrev pub project : Project
project = (unit ∷ []) ∷ []

-- ---- the world

-- the definition of this number in the unit: of its functions, `f` is number 0 and `main` number 1
abbrev pub definition : ℕ → Definition
definition i = record { in_module = 0; in_unit = 0; number = i }

-- both functions are kept
abbrev pub keep : Keep
keep d = list_any (same_definition d) (definition 0 ∷ definition 1 ∷ [])

-- the instructions of the entry
abbrev pub entry_instructions : List Inst
entry_instructions = instructions_at (target_address project 0 0) (text_of 0) entry_code

-- the instructions of `f`
abbrev pub f_instructions : List Inst
f_instructions = instructions_at (target_address project 0 0) (function_address project (definition 0)) (function_code f_function)

-- the instructions of `main`
abbrev pub main_instructions : List Inst
main_instructions = instructions_at (target_address project 0 0) (function_address project (definition 1)) (function_code main_function)

-- the instruction at an address: of the entry, of `f` or of `main`
abbrev pub code : ℕ → Option Inst
code place = option_or (in_table (text_of 0) entry_instructions place)
    (option_or (in_table (function_address project (definition 0)) f_instructions place) (in_table (function_address project (definition 1)) main_instructions place))

-- the world has that code, and places everything as the image of the project does
abbrev pub world : World
world = record {
  project = project;
  keep = keep;
  code = code;
  entry_place = text_of 0;
  function_place = function_address project;
  variable_place = variable_address project;
  has_slot = λ m name. list_any (λ other. bytes_eq other name) (slots_of project m);
  slot_place = slot_address project;
  stack_low = stack_start;
  stack_high = stack_start + stack_bytes;
  -- the entry has 6, `f` has 15 and `main` has 65
  words = 86;
}

-- ---- the law

-- This world shows the project, so that no law about worlds is empty.
abbrev pub WorldSees : Type 0
WorldSees = Sees world
