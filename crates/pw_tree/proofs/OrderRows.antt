-- Worked rows on the order of evaluation and on pointers, computed from the definition.
use Rattle.std.proofs.Common.{◌≡◌, true, false, [], ◌∷◌, Some, None, refl, codes}
use Rattle.pw_tree.specs.TypedExpressions.{constant, local, variable, designator, element, unary, binary, conditional, call, call_pointer, output, typed_expressions}
use Rattle.pw_tree.specs.TypedStatements.{evaluate, set_element, returns}
use Rattle.pw_tree.specs.Names.{Project}
use Rattle.pw_tree.specs.States.{index, null_call, checked}
use Rattle.pw_tree.specs.Meaning.{meaning, exit, stopped}
use Rattle.pw_tree.specs.declared.ty.Ty.TheVariants.{Long, Fn}
use Rattle.pw_tree.specs.declared.ty.Ref.TheVariants.{Global}
use Rattle.pw_tree.specs.declared.operator.Un.TheVariants.{Bang}
use Rattle.pw_tree.specs.declared.operator.Bin.TheVariants.{Mul, Add, Sub, Eq, AndAnd, OrOr}
use Rattle.pw_tree.specs.declared.tunit.Init.{Init}
use Rattle.pw_tree.proofs.Programs.{at, at_pointer, at_void, external, object_of, program, definition, run}

-- long w(long c) { __out(c); return c; }
-- fn1 p;
-- long main(void) { return p(w(65)); }
abbrev null_callee : Project
null_callee = program (
    external (codes "w") Long (Long ∷ []) 1 (
    (evaluate (output (at_void 1) (local (at 1) 0))) ∷
    (returns (Some (local (at 1) 0))) ∷
    []) ∷
    external (codes "main") Long [] 3 (
    (returns (Some (call_pointer (at 3) (variable (at_pointer 1 3) (Global (codes "p"))) (typed_expressions ((call (at 3) (Global (codes "w")) (typed_expressions ((constant (at 3) 65) ∷ []))) ∷ []))))) ∷
    []) ∷
    []) (
    object_of true (codes "p") (Fn 1) None None ∷
    [])

-- The argument is evaluated before the callee is found to be null.
pub arguments_come_before_the_test_of_a_callee : meaning null_callee [] 40 ≡ run (codes "A") [] (stopped (checked null_call (definition 0 0 1) 3))
arguments_come_before_the_test_of_a_callee = refl

-- long w(long c) { __out(c); return c; }
-- fn1 q(void) { w(66); return w; }
-- long main(void) { return q()(w(65)); }
abbrev callee_after_arguments : Project
callee_after_arguments = program (
    external (codes "w") Long (Long ∷ []) 1 (
    (evaluate (output (at_void 1) (local (at 1) 0))) ∷
    (returns (Some (local (at 1) 0))) ∷
    []) ∷
    external (codes "q") (Fn 1) [] 2 (
    (evaluate (call (at 2) (Global (codes "w")) (typed_expressions ((constant (at 2) 66) ∷ [])))) ∷
    (returns (Some (designator (at_pointer 1 2) (Global (codes "w"))))) ∷
    []) ∷
    external (codes "main") Long [] 3 (
    (returns (Some (call_pointer (at 3) (call (at_pointer 1 3) (Global (codes "q")) (typed_expressions [])) (typed_expressions ((call (at 3) (Global (codes "w")) (typed_expressions ((constant (at 3) 65) ∷ []))) ∷ []))))) ∷
    []) ∷
    []) []

-- A callee that is evaluated comes after the arguments.
pub a_callee_comes_after_the_arguments : meaning callee_after_arguments [] 40 ≡ run (codes "ABA") [] (exit 65)
a_callee_comes_after_the_arguments = refl

-- long w(long c) { __out(c); return c; }
-- long main(void) { return w(65) - w(66); }
abbrev two_operands : Project
two_operands = program (
    external (codes "w") Long (Long ∷ []) 1 (
    (evaluate (output (at_void 1) (local (at 1) 0))) ∷
    (returns (Some (local (at 1) 0))) ∷
    []) ∷
    external (codes "main") Long [] 2 (
    (returns (Some (binary (at 2) Sub false (call (at 2) (Global (codes "w")) (typed_expressions ((constant (at 2) 65) ∷ []))) (call (at 2) (Global (codes "w")) (typed_expressions ((constant (at 2) 66) ∷ [])))))) ∷
    []) ∷
    []) []

-- Operands are evaluated from left to right.
pub operands_go_from_left_to_right : meaning two_operands [] 40 ≡ run (codes "AB") [] (exit 18446744073709551615)
operands_go_from_left_to_right = refl

-- long w(long c) { __out(c); return c; }
-- long g(long a, long b, long c) { return c; }
-- long main(void) { return g(w(65), w(66), w(67)); }
abbrev three_arguments : Project
three_arguments = program (
    external (codes "w") Long (Long ∷ []) 1 (
    (evaluate (output (at_void 1) (local (at 1) 0))) ∷
    (returns (Some (local (at 1) 0))) ∷
    []) ∷
    external (codes "g") Long (Long ∷ Long ∷ Long ∷ []) 2 (
    (returns (Some (local (at 2) 2))) ∷
    []) ∷
    external (codes "main") Long [] 3 (
    (returns (Some (call (at 3) (Global (codes "g")) (typed_expressions ((call (at 3) (Global (codes "w")) (typed_expressions ((constant (at 3) 65) ∷ []))) ∷ (call (at 3) (Global (codes "w")) (typed_expressions ((constant (at 3) 66) ∷ []))) ∷ (call (at 3) (Global (codes "w")) (typed_expressions ((constant (at 3) 67) ∷ []))) ∷ []))))) ∷
    []) ∷
    []) []

-- And so are arguments.
pub arguments_go_from_left_to_right : meaning three_arguments [] 40 ≡ run (codes "ABC") [] (exit 67)
arguments_go_from_left_to_right = refl

-- long w(long c) { __out(c); return c; }
-- long main(void) { return 0 && w(65); }
abbrev and_of_0 : Project
and_of_0 = program (
    external (codes "w") Long (Long ∷ []) 1 (
    (evaluate (output (at_void 1) (local (at 1) 0))) ∷
    (returns (Some (local (at 1) 0))) ∷
    []) ∷
    external (codes "main") Long [] 2 (
    (returns (Some (binary (at 2) AndAnd false (constant (at 2) 0) (call (at 2) (Global (codes "w")) (typed_expressions ((constant (at 2) 65) ∷ [])))))) ∷
    []) ∷
    []) []

-- `&&` leaves its right operand out where the left one is 0.
pub and_leaves_its_right_operand_out : meaning and_of_0 [] 40 ≡ run [] [] (exit 0)
and_leaves_its_right_operand_out = refl

-- long w(long c) { __out(c); return c; }
-- long main(void) { return 5 && w(65); }
abbrev and_of_5 : Project
and_of_5 = program (
    external (codes "w") Long (Long ∷ []) 1 (
    (evaluate (output (at_void 1) (local (at 1) 0))) ∷
    (returns (Some (local (at 1) 0))) ∷
    []) ∷
    external (codes "main") Long [] 2 (
    (returns (Some (binary (at 2) AndAnd false (constant (at 2) 5) (call (at 2) (Global (codes "w")) (typed_expressions ((constant (at 2) 65) ∷ [])))))) ∷
    []) ∷
    []) []

-- `&&` gives 0 or 1.
pub and_gives_0_or_1 : meaning and_of_5 [] 40 ≡ run (codes "A") [] (exit 1)
and_gives_0_or_1 = refl

-- long w(long c) { __out(c); return c; }
-- long main(void) { return 5 || w(65); }
abbrev or_of_5 : Project
or_of_5 = program (
    external (codes "w") Long (Long ∷ []) 1 (
    (evaluate (output (at_void 1) (local (at 1) 0))) ∷
    (returns (Some (local (at 1) 0))) ∷
    []) ∷
    external (codes "main") Long [] 2 (
    (returns (Some (binary (at 2) OrOr false (constant (at 2) 5) (call (at 2) (Global (codes "w")) (typed_expressions ((constant (at 2) 65) ∷ [])))))) ∷
    []) ∷
    []) []

-- `||` leaves its right operand out where the left one is not 0.
pub or_leaves_its_right_operand_out : meaning or_of_5 [] 40 ≡ run [] [] (exit 1)
or_leaves_its_right_operand_out = refl

-- long w(long c) { __out(c); return c; }
-- long main(void) { return 0 ? w(65) : w(66); }
abbrev choice_of_two : Project
choice_of_two = program (
    external (codes "w") Long (Long ∷ []) 1 (
    (evaluate (output (at_void 1) (local (at 1) 0))) ∷
    (returns (Some (local (at 1) 0))) ∷
    []) ∷
    external (codes "main") Long [] 2 (
    (returns (Some (conditional (at 2) (constant (at 2) 0) (call (at 2) (Global (codes "w")) (typed_expressions ((constant (at 2) 65) ∷ []))) (call (at 2) (Global (codes "w")) (typed_expressions ((constant (at 2) 66) ∷ [])))))) ∷
    []) ∷
    []) []

-- One value of two is evaluated.
pub one_value_of_two_is_evaluated : meaning choice_of_two [] 40 ≡ run (codes "B") [] (exit 66)
one_value_of_two_is_evaluated = refl

-- long t[16];
-- long w(long c) { __out(c); return c; }
-- long main(void) { t[16] = w(65); return 0; }
abbrev index_before_value : Project
index_before_value = program (
    external (codes "w") Long (Long ∷ []) 2 (
    (evaluate (output (at_void 2) (local (at 2) 0))) ∷
    (returns (Some (local (at 2) 0))) ∷
    []) ∷
    external (codes "main") Long [] 3 (
    (set_element (Global (codes "t")) 16 3 (constant (at 3) 16) (call (at 3) (Global (codes "w")) (typed_expressions ((constant (at 3) 65) ∷ [])))) ∷
    (returns (Some (constant (at 3) 0))) ∷
    []) ∷
    []) (
    object_of true (codes "t") Long (Some 16) None ∷
    [])

-- An index is tested before the value is evaluated.
pub an_index_is_tested_before_the_value : meaning index_before_value [] 40 ≡ run [] [] (stopped (checked index (definition 0 0 1) 3))
an_index_is_tested_before_the_value = refl

-- long t[16];
-- long w(long c) { __out(c); return c; }
-- long main(void) { t[w(3)] = w(65); return t[3] + t[2]; }
abbrev element_assigned : Project
element_assigned = program (
    external (codes "w") Long (Long ∷ []) 2 (
    (evaluate (output (at_void 2) (local (at 2) 0))) ∷
    (returns (Some (local (at 2) 0))) ∷
    []) ∷
    external (codes "main") Long [] 3 (
    (set_element (Global (codes "t")) 16 3 (call (at 3) (Global (codes "w")) (typed_expressions ((constant (at 3) 3) ∷ []))) (call (at 3) (Global (codes "w")) (typed_expressions ((constant (at 3) 65) ∷ [])))) ∷
    (returns (Some (binary (at 3) Add false (element (at 3) (Global (codes "t")) 16 (constant (at 3) 3)) (element (at 3) (Global (codes "t")) 16 (constant (at 3) 2))))) ∷
    []) ∷
    []) (
    object_of true (codes "t") Long (Some 16) None ∷
    [])

-- One element is assigned.
pub an_element_is_assigned : meaning element_assigned [] 40 ≡ run (3 ∷ 65 ∷ []) [] (exit 65)
an_element_is_assigned = refl

-- long f(void) { return 1; }
-- long g(void) { return 1; }
-- fn0 p = f;
-- fn0 n;
-- long main(void) { return (p == f) + (p == g) * 2 + (n == f) * 4 + !n * 8 + !p * 16; }
abbrev same_functions : Project
same_functions = program (
    external (codes "f") Long [] 1 (
    (returns (Some (constant (at 1) 1))) ∷
    []) ∷
    external (codes "g") Long [] 2 (
    (returns (Some (constant (at 2) 1))) ∷
    []) ∷
    external (codes "main") Long [] 5 (
    (returns (Some (binary (at 5) Add false (binary (at 5) Add false (binary (at 5) Add false (binary (at 5) Add false (binary (at 5) Eq false (variable (at_pointer 0 5) (Global (codes "p"))) (designator (at_pointer 0 5) (Global (codes "f")))) (binary (at 5) Mul false (binary (at 5) Eq false (variable (at_pointer 0 5) (Global (codes "p"))) (designator (at_pointer 0 5) (Global (codes "g")))) (constant (at 5) 2))) (binary (at 5) Mul false (binary (at 5) Eq false (variable (at_pointer 0 5) (Global (codes "n"))) (designator (at_pointer 0 5) (Global (codes "f")))) (constant (at 5) 4))) (binary (at 5) Mul false (unary (at 5) Bang (variable (at_pointer 0 5) (Global (codes "n")))) (constant (at 5) 8))) (binary (at 5) Mul false (unary (at 5) Bang (variable (at_pointer 0 5) (Global (codes "p")))) (constant (at 5) 16))))) ∷
    []) ∷
    []) (
    object_of true (codes "p") (Fn 0) None (Some ((Init.Fun (Global (codes "f"))) ∷ [])) ∷
    object_of true (codes "n") (Fn 0) None None ∷
    [])

-- Pointers are equal where their function is the same definition.
pub functions_are_equal_where_they_are_one : meaning same_functions [] 40 ≡ run [] [] (exit 9)
functions_are_equal_where_they_are_one = refl
