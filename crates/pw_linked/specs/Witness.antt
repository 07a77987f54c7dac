-- A small program of two modules, so that no law of linked modules is empty.
use Rattle.std.specs.Prelude.{ℕ, List, [], ◌∷◌, Some, true, codes}
use Rattle.pw_tree.specs.declared.ty.Ty.TheVariants.{Long}
use Rattle.pw_tree.specs.declared.ty.Ref.TheVariants.{Global}
use Rattle.pw_tree.specs.TypedExpressions.{Mark, TypedExpression, constant, call}
use Rattle.pw_tree.specs.TypedExpressions as expressions
use Rattle.pw_tree.specs.TypedStatements.{returns, nil, cons}
use Rattle.pw_tree.specs.declared.tunit.Ext.{Ext}
use Rattle.pw_tree.specs.Units.{Function, TypedUnit}
use Rattle.pw_agree.specs.LoadOrder.{ProjectModule}
use Rattle.pw_linked.specs.Linking.{AreLinked}

-- a long in the first line
abbrev pub first_line : Mark
first_line = record { ty = Long; line = 1 }

-- long NAME(void) { return e; }
abbrev pub returning : List ℕ → TypedExpression → Function
returning name e = record {
  name = name;
  global = true;
  sig = record { result = Long; params = [] };
  line = 1;
  locals = 0;
  held = 0;
  body = cons (returns (Some e)) nil;
}

-- a name of a function without parameters that returns a long
abbrev pub function_name : List ℕ → Ext
function_name name = record { name = name; text = codes "l()" }

-- extern long f(void); long main(void) { return f(); }
abbrev pub program_unit : TypedUnit
program_unit = record {
  functions = returning (codes "main") (call first_line (Global (codes "f")) expressions.nil) ∷ [];
  variables = [];
  names = function_name (codes "f") ∷ function_name (codes "main") ∷ [];
}

-- long f(void) { return 7; }
abbrev pub library_unit : TypedUnit
library_unit = record {
  functions = returning (codes "f") (constant first_line 7) ∷ [];
  variables = [];
  names = function_name (codes "f") ∷ [];
}

-- the program needs the library
abbrev pub program : List ProjectModule
program =
    record { name = codes "app"; needs = codes "lib" ∷ []; units = program_unit ∷ [] }
    ∷ record { name = codes "lib"; needs = []; units = library_unit ∷ [] } ∷ []

-- These modules are linked.
abbrev pub ProgramIsLinked : Type 0
ProgramIsLinked = AreLinked program
