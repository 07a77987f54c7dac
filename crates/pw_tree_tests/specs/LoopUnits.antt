-- Units with a loop.
use Rattle.std.specs.Prelude.{true, [], ◌∷◌, Some, codes}
use Rattle.pw_tree.specs.TypedExpressions.{constant, output}
use Rattle.pw_tree.specs.TypedStatements.{evaluate, block, while_loop, returns, breaks, typed_statements}
use Rattle.pw_tree.specs.Units.{TypedUnit}
use Rattle.pw_tree.specs.declared.ty.Ty.TheVariants.{Long}
use Rattle.pw_tree_tests.specs.Units.{at, at_void}

-- long main(void) { while (1) { __out(46); } return 0; }
abbrev pub dots : TypedUnit
dots = record {
  functions =
      record {
        name = codes "main";
        global = true;
        sig = record { result = Long; params = [] };
        line = 1;
        locals = 0;
        held = 0;
        body = typed_statements (
            while_loop (constant (at 1) 1) (block (typed_statements ((evaluate (output (at_void 1) (constant (at 1) 46))) ∷ []))) ∷
            returns (Some (constant (at 1) 0)) ∷
            []);
      } ∷
      [];
  variables = [];
  names =
      record { name = codes "main"; text = codes "l()" } ∷
      [];
}

-- long main(void) { while (1) { break; } return 0; }
abbrev pub one_break : TypedUnit
one_break = record {
  functions =
      record {
        name = codes "main";
        global = true;
        sig = record { result = Long; params = [] };
        line = 1;
        locals = 0;
        held = 0;
        body = typed_statements (
            while_loop (constant (at 1) 1) (block (typed_statements (breaks ∷ []))) ∷
            returns (Some (constant (at 1) 0)) ∷
            []);
      } ∷
      [];
  variables = [];
  names =
      record { name = codes "main"; text = codes "l()" } ∷
      [];
}
