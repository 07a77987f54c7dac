-- A program that uses an array which its library defines with another size, or nobody defines.
use Rattle.std.specs.Prelude.{◌≡◌, true, [], ◌∷◌, Some, None, codes}
use Rattle.pw_tree.specs.declared.ty.Ty.TheVariants.{Long}
use Rattle.pw_tree.specs.declared.ty.Ref.TheVariants.{Global}
use Rattle.pw_tree.specs.TypedExpressions.{TypedExpression, constant, element}
use Rattle.pw_tree.specs.Units.{TypedUnit}
use Rattle.pw_tree.specs.Names.{Project, object, resolved, text_at}
use Rattle.pw_tree.specs.Binding.{Uses, IsUnbound, Differs}
use Rattle.pw_agree_tests.specs.Units.{at, external_function, function_named, definition}

-- extern long t[16];
-- long main(void) { return e; }
abbrev pub program_returning : TypedExpression → TypedUnit
program_returning e = record {
  functions = external_function (codes "main") 2 e ∷ [];
  variables = [];
  names = record { name = codes "t"; text = codes "l[16]" } ∷ function_named (codes "main") ∷ [];
}

-- t[0], and 0
abbrev pub using_unit : TypedUnit
using_unit = program_returning (element (at 2) (Global (codes "t")) 16 (constant (at 2) 0))

-- the array is declared, and not used
abbrev pub declaring_unit : TypedUnit
declaring_unit = program_returning (constant (at 2) 0)

-- long t[8];
abbrev pub library_unit : TypedUnit
library_unit = record {
  functions = [];
  variables = record { name = codes "t"; global = true; ty = Long; count = Some 8; init = None } ∷ [];
  names = record { name = codes "t"; text = codes "l[8]" } ∷ [];
}

-- the unit as a program that needs the library
abbrev pub with_library : TypedUnit → Project
with_library unit = (unit ∷ []) ∷ (library_unit ∷ []) ∷ []

-- the unit as a program that needs nothing
abbrev pub alone : TypedUnit → Project
alone unit = (unit ∷ []) ∷ []

-- Each name means what it should, and the faults are where they should be.
pub record IsBoundSo : Type 0 where
  pub means : resolved (with_library using_unit) 0 0 (Global (codes "t")) ≡ Some (object (definition 1 0 0))
  pub text : text_at (with_library using_unit) (object (definition 1 0 0)) ≡ Some (codes "l[8]")
  pub differs : Differs (with_library using_unit) using_unit (codes "t") (codes "l[16]") (codes "l[8]")
  pub unbound : IsUnbound (alone using_unit) using_unit (codes "t")
  -- a name that is only declared is not used
  pub not_used : Uses declaring_unit (codes "t") → ⊥
