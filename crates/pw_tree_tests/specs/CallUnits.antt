-- Units with calls, of null and of themselves.
use Rattle.std.specs.Prelude.{true, false, [], ◌∷◌, Some, None, codes}
use Rattle.pw_tree.specs.TypedExpressions.{constant, local, variable, binary, call, call_pointer, output, typed_expressions}
use Rattle.pw_tree.specs.TypedStatements.{evaluate, block, if_else, returns, absent, typed_statements}
use Rattle.pw_tree.specs.Units.{TypedUnit}
use Rattle.pw_tree.specs.declared.operator.Bin.TheVariants.{Add, Sub, Eq}
use Rattle.pw_tree.specs.declared.ty.Ty.TheVariants.{Long, Fn}
use Rattle.pw_tree.specs.declared.ty.Ref.TheVariants.{Global}
use Rattle.pw_tree_tests.specs.Units.{at, at_pointer, at_void}

-- long main(void) { return 0; }
abbrev pub empty_main : TypedUnit
empty_main = record {
  functions =
      record {
        name = codes "main";
        global = true;
        sig = record { result = Long; params = [] };
        line = 1;
        locals = 0;
        held = 0;
        body = typed_statements (
            returns (Some (constant (at 1) 0)) ∷
            []);
      } ∷
      [];
  variables = [];
  names =
      record { name = codes "main"; text = codes "l()" } ∷
      [];
}

-- long w(long c) { __out(c); return c; }
-- fn1 p;
-- long main(void) { return p(w(65)); }
abbrev pub null_callee : TypedUnit
null_callee = record {
  functions =
      record {
        name = codes "w";
        global = true;
        sig = record { result = Long; params = Long ∷ [] };
        line = 1;
        locals = 1;
        held = 0;
        body = typed_statements (
            evaluate (output (at_void 1) (local (at 1) 0)) ∷
            returns (Some (local (at 1) 0)) ∷
            []);
      } ∷
      record {
        name = codes "main";
        global = true;
        sig = record { result = Long; params = [] };
        line = 3;
        locals = 0;
        held = 1;
        body = typed_statements (
            returns (Some (call_pointer (at 3) (variable (at_pointer 1 3) (Global (codes "p"))) (typed_expressions ((call (at 3) (Global (codes "w")) (typed_expressions ((constant (at 3) 65) ∷ []))) ∷ [])))) ∷
            []);
      } ∷
      [];
  variables =
      record { name = codes "p"; global = true; ty = Fn 1; count = None; init = None } ∷
      [];
  names =
      record { name = codes "w"; text = codes "l(l)" } ∷
      record { name = codes "p"; text = codes "1" } ∷
      record { name = codes "main"; text = codes "l()" } ∷
      [];
}

-- long f(long n) { if (n == 0) { return 0; } return f(n - 1) + 1; }
-- long main(void) { return f(998); }
abbrev pub thousand_calls : TypedUnit
thousand_calls = record {
  functions =
      record {
        name = codes "f";
        global = true;
        sig = record { result = Long; params = Long ∷ [] };
        line = 1;
        locals = 1;
        held = 1;
        body = typed_statements (
            if_else (binary (at 1) Eq false (local (at 1) 0) (constant (at 1) 0)) (block (typed_statements ((returns (Some (constant (at 1) 0))) ∷ []))) absent ∷
            returns (Some (binary (at 1) Add false (call (at 1) (Global (codes "f")) (typed_expressions ((binary (at 1) Sub false (local (at 1) 0) (constant (at 1) 1)) ∷ []))) (constant (at 1) 1))) ∷
            []);
      } ∷
      record {
        name = codes "main";
        global = true;
        sig = record { result = Long; params = [] };
        line = 2;
        locals = 0;
        held = 1;
        body = typed_statements (
            returns (Some (call (at 2) (Global (codes "f")) (typed_expressions ((constant (at 2) 998) ∷ [])))) ∷
            []);
      } ∷
      [];
  variables = [];
  names =
      record { name = codes "f"; text = codes "l(l)" } ∷
      record { name = codes "main"; text = codes "l()" } ∷
      [];
}

-- long f(long n) { if (n == 0) { return 0; } return f(n - 1) + 1; }
-- long main(void) { return f(999); }
abbrev pub one_call_more : TypedUnit
one_call_more = record {
  functions =
      record {
        name = codes "f";
        global = true;
        sig = record { result = Long; params = Long ∷ [] };
        line = 1;
        locals = 1;
        held = 1;
        body = typed_statements (
            if_else (binary (at 1) Eq false (local (at 1) 0) (constant (at 1) 0)) (block (typed_statements ((returns (Some (constant (at 1) 0))) ∷ []))) absent ∷
            returns (Some (binary (at 1) Add false (call (at 1) (Global (codes "f")) (typed_expressions ((binary (at 1) Sub false (local (at 1) 0) (constant (at 1) 1)) ∷ []))) (constant (at 1) 1))) ∷
            []);
      } ∷
      record {
        name = codes "main";
        global = true;
        sig = record { result = Long; params = [] };
        line = 2;
        locals = 0;
        held = 1;
        body = typed_statements (
            returns (Some (call (at 2) (Global (codes "f")) (typed_expressions ((constant (at 2) 999) ∷ [])))) ∷
            []);
      } ∷
      [];
  variables = [];
  names =
      record { name = codes "f"; text = codes "l(l)" } ∷
      record { name = codes "main"; text = codes "l()" } ∷
      [];
}
