-- Units of sums and quotients.
use Rattle.std.specs.Prelude.{true, false, [], ◌∷◌, Some, None, codes}
use Rattle.pw_tree.specs.TypedExpressions.{constant, local, unary, binary}
use Rattle.pw_tree.specs.TypedStatements.{set_local, returns, typed_statements}
use Rattle.pw_tree.specs.Units.{TypedUnit}
use Rattle.pw_tree.specs.declared.operator.Un.TheVariants.{Neg}
use Rattle.pw_tree.specs.declared.operator.Bin.TheVariants.{Div, Add, Sub}
use Rattle.pw_tree.specs.declared.ty.Ty.TheVariants.{Long}
use Rattle.pw_tree_tests.specs.Units.{at}

-- long main(void) { return 9223372036854775807 + 1; }
abbrev pub wrapping_sum : TypedUnit
wrapping_sum = record {
  functions =
      record {
        name = codes "main";
        global = true;
        sig = record { result = Long; params = [] };
        line = 1;
        locals = 0;
        held = 1;
        body = typed_statements (
            returns (Some (binary (at 1) Add false (constant (at 1) 9223372036854775807) (constant (at 1) 1))) ∷
            []);
      } ∷
      [];
  variables = [];
  names =
      record { name = codes "main"; text = codes "l()" } ∷
      [];
}

-- long main(void) {
-- long z;
-- z = 0;
-- return 1 / z; }
abbrev pub quotient_by_zero : TypedUnit
quotient_by_zero = record {
  functions =
      record {
        name = codes "main";
        global = true;
        sig = record { result = Long; params = [] };
        line = 1;
        locals = 1;
        held = 1;
        body = typed_statements (
            set_local 0 None ∷
            set_local 0 (Some (constant (at 3) 0)) ∷
            returns (Some (binary (at 4) Div false (constant (at 4) 1) (local (at 4) 0))) ∷
            []);
      } ∷
      [];
  variables = [];
  names =
      record { name = codes "main"; text = codes "l()" } ∷
      [];
}

-- long main(void) { return (-9223372036854775807 - 1) / -1; }
abbrev pub least_by_minus_one : TypedUnit
least_by_minus_one = record {
  functions =
      record {
        name = codes "main";
        global = true;
        sig = record { result = Long; params = [] };
        line = 1;
        locals = 0;
        held = 1;
        body = typed_statements (
            returns (Some (binary (at 1) Div false (binary (at 1) Sub false (unary (at 1) Neg (constant (at 1) 9223372036854775807)) (constant (at 1) 1)) (unary (at 1) Neg (constant (at 1) 1)))) ∷
            []);
      } ∷
      [];
  variables = [];
  names =
      record { name = codes "main"; text = codes "l()" } ∷
      [];
}
