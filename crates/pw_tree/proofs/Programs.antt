-- Short forms, in which the programs of the worked rows are written out.
use Rattle.std.proofs.Common.{ℕ, Bool, true, false, List, [], ◌∷◌, Option}
use Rattle.pw_tree.specs.TypedExpressions.{Mark}
use Rattle.pw_tree.specs.TypedStatements.{TypedStatement, typed_statements}
use Rattle.pw_tree.specs.Units.{Function, TypedUnit}
use Rattle.pw_tree.specs.Names.{Project, Definition}
use Rattle.pw_tree.specs.Meaning.{Run, End}
use Rattle.pw_tree.specs.declared.ty.Ty.{Ty}
use Rattle.pw_tree.specs.declared.ty.Ty.TheVariants.{Void, Long, Ulong, Fn}
use Rattle.pw_tree.specs.declared.tunit.Init.{Init}
use Rattle.pw_tree.specs.declared.tunit.TVar.{TVar}

-- A long, an unsigned long, a pointer to a function of k longs, and void, at a line.
abbrev pub at : ℕ → Mark
at line = record { ty = Long; line = line }

abbrev pub at_unsigned : ℕ → Mark
at_unsigned line = record { ty = Ulong; line = line }

abbrev pub at_pointer : ℕ → ℕ → Mark
at_pointer k line = record { ty = Fn k; line = line }

abbrev pub at_void : ℕ → Mark
at_void line = record { ty = Void; line = line }

-- A function with external linkage, and one with internal linkage: its name, result, parameters, line and body.
abbrev pub external : List ℕ → Ty → List Ty → ℕ → List TypedStatement → Function
external name result params line body = record {
  name = name;
  global = true;
  sig = record { result = result; params = params };
  line = line;
  locals = 0;
  held = 0;
  body = typed_statements body;
}

abbrev pub internal : List ℕ → Ty → List Ty → ℕ → List TypedStatement → Function
internal name result params line body = record (external name result params line body) { global = false }

-- A variable: whether its linkage is external, its name, its type, an array's size, and its initialiser.
abbrev pub object_of : Bool → List ℕ → Ty → Option ℕ → Option (List Init) → TVar
object_of global name ty count init = record { name = name; global = global; ty = ty; count = count; init = init }

-- A unit of these functions and variables.
abbrev pub unit : List Function → List TVar → TypedUnit
unit functions variables = record { functions = functions; variables = variables; names = [] }

-- A project of one program with one unit.
abbrev pub program : List Function → List TVar → Project
program functions variables = (unit functions variables ∷ []) ∷ []

-- The definition of a module, a unit and a number.
abbrev pub definition : ℕ → ℕ → ℕ → Definition
definition m u i = record { in_module = m; in_unit = u; number = i }

-- The run with this output, this rest of the input and this end.
abbrev pub run : List ℕ → List ℕ → End → Run
run output rest end = record { output = output; rest = rest; end = end }
