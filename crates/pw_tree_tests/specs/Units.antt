-- Short forms of units.
use Rattle.std.specs.Prelude.{ℕ, false, List, [], ◌∷◌}
use Rattle.pw_tree.specs.TypedExpressions.{Mark}
use Rattle.pw_tree.specs.TypedStatements.{TypedStatement, typed_statements}
use Rattle.pw_tree.specs.Units.{Function, TypedUnit}
use Rattle.pw_tree.specs.declared.ty.Ty.{Ty}
use Rattle.pw_tree.specs.declared.ty.Ty.TheVariants.{Void, Long, Ulong, Fn}

-- the mark of a long at a line
abbrev pub at : ℕ → Mark
at line = record { ty = Long; line = line }

-- the mark of an unsigned long
abbrev pub at_unsigned : ℕ → Mark
at_unsigned line = record { ty = Ulong; line = line }

-- the mark of void
abbrev pub at_void : ℕ → Mark
at_void line = record { ty = Void; line = line }

-- the mark of a pointer to a function of k longs
abbrev pub at_pointer : ℕ → ℕ → Mark
at_pointer k line = record { ty = Fn k; line = line }

-- a static function `f` of so many longs, so many locals and this body
abbrev pub static_function : List Ty → ℕ → List TypedStatement → Function
static_function params locals body = record {
  name = 102 ∷ [];
  global = false;
  sig = record { result = Long; params = params };
  line = 1;
  locals = locals;
  held = 0;
  body = typed_statements body;
}

-- a unit of one function
abbrev pub unit_of_function : Function → TypedUnit
unit_of_function f = record { functions = f ∷ []; variables = []; names = [] }
