-- Units of programs of two modules.
use Rattle.std.specs.Prelude.{true, false, [], ◌∷◌, Some, None, codes}
use Rattle.pw_tree.specs.TypedExpressions.{constant, local, variable, unary, binary, conditional, call, call_pointer, input, output, typed_expressions}
use Rattle.pw_tree.specs.TypedStatements.{evaluate, set_local, block, if_else, while_loop, returns, absent, typed_statements}
use Rattle.pw_tree.specs.Units.{TypedUnit}
use Rattle.pw_tree.specs.declared.operator.Un.TheVariants.{Neg}
use Rattle.pw_tree.specs.declared.operator.Bin.TheVariants.{Div, Rem, Add, Sub, Lt, Gt, Le, Ge, Ne, AndAnd}
use Rattle.pw_tree.specs.declared.ty.Ty.TheVariants.{Long, Fn}
use Rattle.pw_tree.specs.declared.ty.Ref.TheVariants.{Global, LocalFun}
use Rattle.pw_tree.specs.declared.tunit.Init.TheVariants.{Fun}
use Rattle.pw_tree_tests.specs.Units.{at, at_pointer, at_void}
use Rattle.pw_tree.specs.TypedExpressions as tree

-- long f(void) { return 1; }
-- extern long g(void);
-- long main(void) { return g(); }
abbrev pub calling_unit : TypedUnit
calling_unit = record {
  functions =
      record {
        name = codes "f";
        global = true;
        sig = record { result = Long; params = [] };
        line = 1;
        locals = 0;
        held = 0;
        body = typed_statements (
            returns (Some (constant (at 1) 1)) ∷
            []);
      } ∷
      record {
        name = codes "main";
        global = true;
        sig = record { result = Long; params = [] };
        line = 3;
        locals = 0;
        held = 0;
        body = typed_statements (
            returns (Some (call (at 3) (Global (codes "g")) tree.nil)) ∷
            []);
      } ∷
      [];
  variables = [];
  names =
      record { name = codes "f"; text = codes "l()" } ∷
      record { name = codes "g"; text = codes "l()" } ∷
      record { name = codes "main"; text = codes "l()" } ∷
      [];
}

-- long f(void) { return 2; }
-- long g(void) { return f(); }
abbrev pub called_unit : TypedUnit
called_unit = record {
  functions =
      record {
        name = codes "f";
        global = true;
        sig = record { result = Long; params = [] };
        line = 1;
        locals = 0;
        held = 0;
        body = typed_statements (
            returns (Some (constant (at 1) 2)) ∷
            []);
      } ∷
      record {
        name = codes "g";
        global = true;
        sig = record { result = Long; params = [] };
        line = 2;
        locals = 0;
        held = 0;
        body = typed_statements (
            returns (Some (call (at 2) (Global (codes "f")) tree.nil)) ∷
            []);
      } ∷
      [];
  variables = [];
  names =
      record { name = codes "f"; text = codes "l()" } ∷
      record { name = codes "g"; text = codes "l()" } ∷
      [];
}

-- extern long put_dec(long v);
-- static long upper(long c) { return c >= 'A' && c <= 'Z'; }
-- static long lower(long c) { return c >= 'a' && c <= 'z'; }
-- fn1 test = lower;
-- long main(void) {
--   long c; long n;
--   c = __in();
--   while (c != -1) {
--     if (test(c)) { n = n + 1; }
--     c = __in();
--   }
--   put_dec(n);
--   return 0;
-- }
abbrev pub letter_counter : TypedUnit
letter_counter = record {
  functions =
      record {
        name = codes "upper";
        global = false;
        sig = record { result = Long; params = Long ∷ [] };
        line = 2;
        locals = 1;
        held = 1;
        body = typed_statements (
            returns (Some (binary (at 2) AndAnd false (binary (at 2) Ge false (local (at 2) 0) (constant (at 2) 65)) (binary (at 2) Le false (local (at 2) 0) (constant (at 2) 90)))) ∷
            []);
      } ∷
      record {
        name = codes "lower";
        global = false;
        sig = record { result = Long; params = Long ∷ [] };
        line = 3;
        locals = 1;
        held = 1;
        body = typed_statements (
            returns (Some (binary (at 3) AndAnd false (binary (at 3) Ge false (local (at 3) 0) (constant (at 3) 97)) (binary (at 3) Le false (local (at 3) 0) (constant (at 3) 122)))) ∷
            []);
      } ∷
      record {
        name = codes "main";
        global = true;
        sig = record { result = Long; params = [] };
        line = 5;
        locals = 2;
        held = 1;
        body = typed_statements (
            set_local 0 None ∷
            set_local 1 None ∷
            set_local 0 (Some (input (at 7))) ∷
            while_loop (binary (at 8) Ne false (local (at 8) 0) (unary (at 8) Neg (constant (at 8) 1))) (block (typed_statements ((if_else (call_pointer (at 9) (variable (at_pointer 1 9) (Global (codes "test"))) (typed_expressions ((local (at 9) 0) ∷ []))) (block (typed_statements ((set_local 1 (Some (binary (at 9) Add false (local (at 9) 1) (constant (at 9) 1)))) ∷ []))) absent) ∷ (set_local 0 (Some (input (at 10)))) ∷ []))) ∷
            evaluate (call (at 12) (Global (codes "put_dec")) (typed_expressions ((local (at 12) 1) ∷ []))) ∷
            returns (Some (constant (at 13) 0)) ∷
            []);
      } ∷
      [];
  variables =
      record { name = codes "test"; global = true; ty = Fn 1; count = None; init = Some (Fun (LocalFun 1) ∷ []) } ∷
      [];
  names =
      record { name = codes "put_dec"; text = codes "l(l)" } ∷
      record { name = codes "test"; text = codes "1" } ∷
      record { name = codes "main"; text = codes "l()" } ∷
      [];
}

-- long put_dec(long v) {
--   if (v > 9) { put_dec(v / 10); }
--   __out('0' + v % 10);
--   return 0;
-- }
-- long put_hex(long v) {
--   if (v > 15) { put_hex(v / 16); }
--   __out(v % 16 < 10 ? '0' + v % 16 : 'a' + v % 16 - 10);
--   return 0;
-- }
abbrev pub number_printer : TypedUnit
number_printer = record {
  functions =
      record {
        name = codes "put_dec";
        global = true;
        sig = record { result = Long; params = Long ∷ [] };
        line = 1;
        locals = 1;
        held = 2;
        body = typed_statements (
            if_else (binary (at 2) Gt false (local (at 2) 0) (constant (at 2) 9)) (block (typed_statements ((evaluate (call (at 2) (Global (codes "put_dec")) (typed_expressions ((binary (at 2) Div false (local (at 2) 0) (constant (at 2) 10)) ∷ [])))) ∷ []))) absent ∷
            evaluate (output (at_void 3) (binary (at 3) Add false (constant (at 3) 48) (binary (at 3) Rem false (local (at 3) 0) (constant (at 3) 10)))) ∷
            returns (Some (constant (at 4) 0)) ∷
            []);
      } ∷
      record {
        name = codes "put_hex";
        global = true;
        sig = record { result = Long; params = Long ∷ [] };
        line = 6;
        locals = 1;
        held = 2;
        body = typed_statements (
            if_else (binary (at 7) Gt false (local (at 7) 0) (constant (at 7) 15)) (block (typed_statements ((evaluate (call (at 7) (Global (codes "put_hex")) (typed_expressions ((binary (at 7) Div false (local (at 7) 0) (constant (at 7) 16)) ∷ [])))) ∷ []))) absent ∷
            evaluate (output (at_void 8) (conditional (at 8) (binary (at 8) Lt false (binary (at 8) Rem false (local (at 8) 0) (constant (at 8) 16)) (constant (at 8) 10)) (binary (at 8) Add false (constant (at 8) 48) (binary (at 8) Rem false (local (at 8) 0) (constant (at 8) 16))) (binary (at 8) Sub false (binary (at 8) Add false (constant (at 8) 97) (binary (at 8) Rem false (local (at 8) 0) (constant (at 8) 16))) (constant (at 8) 10)))) ∷
            returns (Some (constant (at 9) 0)) ∷
            []);
      } ∷
      [];
  variables = [];
  names =
      record { name = codes "put_dec"; text = codes "l(l)" } ∷
      record { name = codes "put_hex"; text = codes "l(l)" } ∷
      [];
}
