-- The project of one unit, and the objects that it is linked from.
use Rattle.std.specs.Prelude.{ℕ, List, [], ◌∷◌}
use Rattle.pw_tree.specs.Units.{TypedUnit}
use Rattle.pw_tree.specs.Names.{Project, Definition}
use Rattle.pw_code.specs.declared.object.Object.{Object}
use Rattle.pw_code.specs.Objects.{object_of}

-- One module, the program, of one unit.
abbrev pub project_of : TypedUnit → Project
project_of unit = (unit ∷ []) ∷ []

-- The object of the unit, which goes by this name.
abbrev pub objects_of : List ℕ → TypedUnit → List Object
objects_of name unit = object_of name unit ∷ []

-- The unit's definition of this number.
abbrev pub own_definition : ℕ → Definition
own_definition i = record { in_module = 0; in_unit = 0; number = i }
