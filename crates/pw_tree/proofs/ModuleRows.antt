-- Worked rows on projects of several modules and units, computed from the definition.
use Rattle.std.proofs.Common.{◌≡◌, true, false, [], ◌∷◌, Some, None, refl, codes}
use Rattle.pw_tree.specs.TypedExpressions.{constant, local, variable, unary, binary, conditional, call, call_pointer, input, output, typed_expressions}
use Rattle.pw_tree.specs.TypedStatements.{evaluate, set_local, block, if_else, while_loop, returns, absent, typed_statements}
use Rattle.pw_tree.specs.Names.{Project}
use Rattle.pw_tree.specs.States.{spent}
use Rattle.pw_tree.specs.Meaning.{meaning, exit, stopped}
use Rattle.pw_tree.specs.declared.ty.Ty.TheVariants.{Long, Fn}
use Rattle.pw_tree.specs.declared.ty.Ref.TheVariants.{Global, LocalFun}
use Rattle.pw_tree.specs.declared.operator.Un.TheVariants.{Neg}
use Rattle.pw_tree.specs.declared.operator.Bin.TheVariants.{Div, Rem, Add, Sub, Lt, Gt, Le, Ge, Ne, AndAnd}
use Rattle.pw_tree.specs.declared.tunit.Init.{Init}
use Rattle.pw_tree.proofs.Programs.{at, at_pointer, at_void, external, internal, object_of, unit, run}

-- app, main.c:
--   long f(void) { return 1; }
--   extern long g(void);
--   long main(void) { return g(); }
-- liba, a.c:
--   long f(void) { return 2; }
--   long g(void) { return f(); }
abbrev interposed : Project
interposed =
    (unit (
    external (codes "f") Long [] 1 (
    (returns (Some (constant (at 1) 1))) ∷
    []) ∷
    external (codes "main") Long [] 3 (
    (returns (Some (call (at 3) (Global (codes "g")) (typed_expressions [])))) ∷
    []) ∷
    []) [] ∷ []) ∷
    (unit (
    external (codes "f") Long [] 1 (
    (returns (Some (constant (at 1) 2))) ∷
    []) ∷
    external (codes "g") Long [] 2 (
    (returns (Some (call (at 2) (Global (codes "f")) (typed_expressions [])))) ∷
    []) ∷
    []) [] ∷ []) ∷
    []

-- A name means the first definition in load order, in a library too.
pub the_first_module_in_load_order_defines_a_name : meaning interposed [] 40 ≡ run [] [] (exit 1)
the_first_module_in_load_order_defines_a_name = refl

-- app, m.c:
--   static long h(void) { return 3; }
--   long main(void) { return h(); }
-- app, n.c:
--   static long h(void) { return 4; }
--   long other(void) { return h(); }
abbrev two_statics : Project
two_statics =
    (unit (
    internal (codes "h") Long [] 1 (
    (returns (Some (constant (at 1) 3))) ∷
    []) ∷
    external (codes "main") Long [] 2 (
    (returns (Some (call (at 2) (LocalFun 0) (typed_expressions [])))) ∷
    []) ∷
    []) [] ∷ unit (
    internal (codes "h") Long [] 1 (
    (returns (Some (constant (at 1) 4))) ∷
    []) ∷
    external (codes "other") Long [] 2 (
    (returns (Some (call (at 2) (LocalFun 0) (typed_expressions [])))) ∷
    []) ∷
    []) [] ∷ []) ∷
    []

-- A static name means its own unit's definition.
pub a_static_name_means_its_own_unit : meaning two_statics [] 40 ≡ run [] [] (exit 3)
a_static_name_means_its_own_unit = refl

-- app, main.c:
--   extern long f(void);
--   long main(void) { return f(); }
-- a, a.c:
--   long x;
-- b, b.c:
--   long f(void) { return 11; }
-- c, c.c:
--   long f(void) { return 12; }
abbrev two_libraries : Project
two_libraries =
    (unit (
    external (codes "main") Long [] 2 (
    (returns (Some (call (at 2) (Global (codes "f")) (typed_expressions [])))) ∷
    []) ∷
    []) [] ∷ []) ∷
    (unit [] (
    object_of true (codes "x") Long None None ∷
    []) ∷ []) ∷
    (unit (
    external (codes "f") Long [] 1 (
    (returns (Some (constant (at 1) 11))) ∷
    []) ∷
    []) [] ∷ []) ∷
    (unit (
    external (codes "f") Long [] 1 (
    (returns (Some (constant (at 1) 12))) ∷
    []) ∷
    []) [] ∷ []) ∷
    []

-- The load order is app, a, b, c, and a does not define the name.
pub the_nearer_library_comes_first : meaning two_libraries [] 40 ≡ run [] [] (exit 11)
the_nearer_library_comes_first = refl

-- app, main.c:
--   extern long put_dec(long v);
--   static long upper(long c) { return c >= 'A' && c <= 'Z'; }
--   static long lower(long c) { return c >= 'a' && c <= 'z'; }
--   fn1 test = lower;
--   long main(void) {
--     long c; long n;
--     c = __in();
--     while (c != -1) {
--       if (test(c)) { n = n + 1; }
--       c = __in();
--     }
--     put_dec(n);
--     return 0;
--   }
-- num, num.c:
--   long put_dec(long v) {
--     if (v > 9) { put_dec(v / 10); }
--     __out('0' + v % 10);
--     return 0;
--   }
--   long put_hex(long v) {
--     if (v > 15) { put_hex(v / 16); }
--     __out(v % 16 < 10 ? '0' + v % 16 : 'a' + v % 16 - 10);
--     return 0;
--   }
abbrev counts_letters : Project
counts_letters =
    (unit (
    internal (codes "upper") Long (Long ∷ []) 2 (
    (returns (Some (binary (at 2) AndAnd false (binary (at 2) Ge false (local (at 2) 0) (constant (at 2) 65)) (binary (at 2) Le false (local (at 2) 0) (constant (at 2) 90))))) ∷
    []) ∷
    internal (codes "lower") Long (Long ∷ []) 3 (
    (returns (Some (binary (at 3) AndAnd false (binary (at 3) Ge false (local (at 3) 0) (constant (at 3) 97)) (binary (at 3) Le false (local (at 3) 0) (constant (at 3) 122))))) ∷
    []) ∷
    external (codes "main") Long [] 5 (
    (set_local 0 None) ∷
    (set_local 1 None) ∷
    (set_local 0 (Some (input (at 7)))) ∷
    (while_loop (binary (at 8) Ne false (local (at 8) 0) (unary (at 8) Neg (constant (at 8) 1))) (block (typed_statements ((if_else (call_pointer (at 9) (variable (at_pointer 1 9) (Global (codes "test"))) (typed_expressions ((local (at 9) 0) ∷ []))) (block (typed_statements ((set_local 1 (Some (binary (at 9) Add false (local (at 9) 1) (constant (at 9) 1)))) ∷ []))) absent) ∷ (set_local 0 (Some (input (at 10)))) ∷ [])))) ∷
    (evaluate (call (at 12) (Global (codes "put_dec")) (typed_expressions ((local (at 12) 1) ∷ [])))) ∷
    (returns (Some (constant (at 13) 0))) ∷
    []) ∷
    []) (
    object_of true (codes "test") (Fn 1) None (Some ((Init.Fun (LocalFun 1)) ∷ [])) ∷
    []) ∷ []) ∷
    (unit (
    external (codes "put_dec") Long (Long ∷ []) 1 (
    (if_else (binary (at 2) Gt false (local (at 2) 0) (constant (at 2) 9)) (block (typed_statements ((evaluate (call (at 2) (Global (codes "put_dec")) (typed_expressions ((binary (at 2) Div false (local (at 2) 0) (constant (at 2) 10)) ∷ [])))) ∷ []))) absent) ∷
    (evaluate (output (at_void 3) (binary (at 3) Add false (constant (at 3) 48) (binary (at 3) Rem false (local (at 3) 0) (constant (at 3) 10))))) ∷
    (returns (Some (constant (at 4) 0))) ∷
    []) ∷
    external (codes "put_hex") Long (Long ∷ []) 6 (
    (if_else (binary (at 7) Gt false (local (at 7) 0) (constant (at 7) 15)) (block (typed_statements ((evaluate (call (at 7) (Global (codes "put_hex")) (typed_expressions ((binary (at 7) Div false (local (at 7) 0) (constant (at 7) 16)) ∷ [])))) ∷ []))) absent) ∷
    (evaluate (output (at_void 8) (conditional (at 8) (binary (at 8) Lt false (binary (at 8) Rem false (local (at 8) 0) (constant (at 8) 16)) (constant (at 8) 10)) (binary (at 8) Add false (constant (at 8) 48) (binary (at 8) Rem false (local (at 8) 0) (constant (at 8) 16))) (binary (at 8) Sub false (binary (at 8) Add false (constant (at 8) 97) (binary (at 8) Rem false (local (at 8) 0) (constant (at 8) 16))) (constant (at 8) 10))))) ∷
    (returns (Some (constant (at 9) 0))) ∷
    []) ∷
    []) [] ∷ []) ∷
    []

-- The run takes 39 steps.
pub lower_case_letters_are_counted : meaning counts_letters (codes "Hello, Piece World") 39 ≡ run (codes "12") [] (exit 0)
lower_case_letters_are_counted = refl

-- With one less it is spent before it writes.
pub one_step_too_few : meaning counts_letters (codes "Hello, Piece World") 38 ≡ run [] [] (stopped spent)
one_step_too_few = refl
