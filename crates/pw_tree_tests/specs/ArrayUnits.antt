-- Units that read an element of an array.
use Rattle.std.specs.Prelude.{true, [], ◌∷◌, Some, None, codes}
use Rattle.pw_tree.specs.TypedExpressions.{constant, element, unary}
use Rattle.pw_tree.specs.TypedStatements.{returns, typed_statements}
use Rattle.pw_tree.specs.Units.{TypedUnit}
use Rattle.pw_tree.specs.declared.operator.Un.TheVariants.{Neg}
use Rattle.pw_tree.specs.declared.ty.Ty.TheVariants.{Long}
use Rattle.pw_tree.specs.declared.ty.Ref.TheVariants.{Global}
use Rattle.pw_tree_tests.specs.Units.{at}

-- long t[16];
-- long main(void) { return t[-1]; }
abbrev pub index_minus_one : TypedUnit
index_minus_one = record {
  functions =
      record {
        name = codes "main";
        global = true;
        sig = record { result = Long; params = [] };
        line = 2;
        locals = 0;
        held = 0;
        body = typed_statements (
            returns (Some (element (at 2) (Global (codes "t")) 16 (unary (at 2) Neg (constant (at 2) 1)))) ∷
            []);
      } ∷
      [];
  variables =
      record { name = codes "t"; global = true; ty = Long; count = Some 16; init = None } ∷
      [];
  names =
      record { name = codes "t"; text = codes "l[16]" } ∷
      record { name = codes "main"; text = codes "l()" } ∷
      [];
}

-- long t[16];
-- long main(void) { return t[16]; }
abbrev pub index_of_the_size : TypedUnit
index_of_the_size = record {
  functions =
      record {
        name = codes "main";
        global = true;
        sig = record { result = Long; params = [] };
        line = 2;
        locals = 0;
        held = 0;
        body = typed_statements (
            returns (Some (element (at 2) (Global (codes "t")) 16 (constant (at 2) 16))) ∷
            []);
      } ∷
      [];
  variables =
      record { name = codes "t"; global = true; ty = Long; count = Some 16; init = None } ∷
      [];
  names =
      record { name = codes "t"; text = codes "l[16]" } ∷
      record { name = codes "main"; text = codes "l()" } ∷
      [];
}

-- long t[16];
-- long main(void) { return t[15]; }
abbrev pub last_index : TypedUnit
last_index = record {
  functions =
      record {
        name = codes "main";
        global = true;
        sig = record { result = Long; params = [] };
        line = 2;
        locals = 0;
        held = 0;
        body = typed_statements (
            returns (Some (element (at 2) (Global (codes "t")) 16 (constant (at 2) 15))) ∷
            []);
      } ∷
      [];
  variables =
      record { name = codes "t"; global = true; ty = Long; count = Some 16; init = None } ∷
      [];
  names =
      record { name = codes "t"; text = codes "l[16]" } ∷
      record { name = codes "main"; text = codes "l()" } ∷
      [];
}
