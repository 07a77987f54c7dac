-- Worked rows on numbers, arrays and input, computed from the definition.
use Rattle.std.proofs.Common.{◌≡◌, true, false, [], ◌∷◌, Some, None, refl, codes}
use Rattle.pw_tree.specs.TypedExpressions.{constant, local, variable, element, unary, binary, input, output}
use Rattle.pw_tree.specs.TypedStatements.{evaluate, set_local, returns}
use Rattle.pw_tree.specs.Names.{Project}
use Rattle.pw_tree.specs.States.{index, division, checked}
use Rattle.pw_tree.specs.Meaning.{meaning, exit, stopped}
use Rattle.pw_tree.specs.declared.ty.Ty.TheVariants.{Long, Ulong}
use Rattle.pw_tree.specs.declared.ty.Ref.TheVariants.{Global}
use Rattle.pw_tree.specs.declared.operator.Un.TheVariants.{Neg, Not}
use Rattle.pw_tree.specs.declared.operator.Bin.TheVariants.{Mul, Div, Rem, Add, Sub, Shl, Shr, Lt, Ge, Eq, And, Xor, Or, AndAnd}
use Rattle.pw_tree.specs.declared.tunit.Init.TheVariants.{Num}
use Rattle.pw_tree.proofs.Programs.{at, at_unsigned, at_void, external, object_of, program, definition, run}

-- long main(void) { return 9223372036854775807 + 1; }
abbrev greatest_plus_one : Project
greatest_plus_one = program (
    external (codes "main") Long [] 1 (
    (returns (Some (binary (at 1) Add false (constant (at 1) 9223372036854775807) (constant (at 1) 1)))) ∷
    []) ∷
    []) []

-- Signed sums wrap.
pub a_sum_wraps : meaning greatest_plus_one [] 40 ≡ run [] [] (exit 9223372036854775808)
a_sum_wraps = refl

-- long main(void) {
-- long z;
-- z = 0;
-- return 1 / z; }
abbrev one_by_zero : Project
one_by_zero = program (
    external (codes "main") Long [] 1 (
    (set_local 0 None) ∷
    (set_local 0 (Some (constant (at 3) 0))) ∷
    (returns (Some (binary (at 4) Div false (constant (at 4) 1) (local (at 4) 0)))) ∷
    []) ∷
    []) []

-- The fault names the line of the operator.
pub a_divisor_0_stops : meaning one_by_zero [] 40 ≡ run [] [] (stopped (checked division (definition 0 0 0) 4))
a_divisor_0_stops = refl

-- long main(void) { return (-9223372036854775807 - 1) / -1; }
abbrev least_by_minus_one : Project
least_by_minus_one = program (
    external (codes "main") Long [] 1 (
    (returns (Some (binary (at 1) Div false (binary (at 1) Sub false (unary (at 1) Neg (constant (at 1) 9223372036854775807)) (constant (at 1) 1)) (unary (at 1) Neg (constant (at 1) 1))))) ∷
    []) ∷
    []) []

-- The least number divided by -1 gives itself.
pub the_least_number_by_minus_one : meaning least_by_minus_one [] 40 ≡ run [] [] (exit 9223372036854775808)
the_least_number_by_minus_one = refl

-- long main(void) { return (-9223372036854775807 - 1) % -1; }
abbrev least_rest_minus_one : Project
least_rest_minus_one = program (
    external (codes "main") Long [] 1 (
    (returns (Some (binary (at 1) Rem false (binary (at 1) Sub false (unary (at 1) Neg (constant (at 1) 9223372036854775807)) (constant (at 1) 1)) (unary (at 1) Neg (constant (at 1) 1))))) ∷
    []) ∷
    []) []

-- And its remainder is 0.
pub the_rest_of_the_least_number : meaning least_rest_minus_one [] 40 ≡ run [] [] (exit 0)
the_rest_of_the_least_number = refl

-- long main(void) { return (-7 / 2 == -3) && (-7 % 2 == -1) && (7 / -2 == -3) && (7 % -2 == 1); }
abbrev division_truncates : Project
division_truncates = program (
    external (codes "main") Long [] 1 (
    (returns (Some (binary (at 1) AndAnd false (binary (at 1) AndAnd false (binary (at 1) AndAnd false (binary (at 1) Eq false (binary (at 1) Div false (unary (at 1) Neg (constant (at 1) 7)) (constant (at 1) 2)) (unary (at 1) Neg (constant (at 1) 3))) (binary (at 1) Eq false (binary (at 1) Rem false (unary (at 1) Neg (constant (at 1) 7)) (constant (at 1) 2)) (unary (at 1) Neg (constant (at 1) 1)))) (binary (at 1) Eq false (binary (at 1) Div false (constant (at 1) 7) (unary (at 1) Neg (constant (at 1) 2))) (unary (at 1) Neg (constant (at 1) 3)))) (binary (at 1) Eq false (binary (at 1) Rem false (constant (at 1) 7) (unary (at 1) Neg (constant (at 1) 2))) (constant (at 1) 1))))) ∷
    []) ∷
    []) []

-- Division truncates.
pub division_rounds_to_0 : meaning division_truncates [] 40 ≡ run [] [] (exit 1)
division_rounds_to_0 = refl

-- long main(void) { return 0xffffffffffffffff == -1; }
abbrev all_ones : Project
all_ones = program (
    external (codes "main") Long [] 1 (
    (returns (Some (binary (at 1) Eq true (constant (at_unsigned 1) 18446744073709551615) (unary (at 1) Neg (constant (at 1) 1))))) ∷
    []) ∷
    []) []

-- -1 is the greatest unsigned number.
pub minus_one_is_all_ones : meaning all_ones [] 40 ≡ run [] [] (exit 1)
minus_one_is_all_ones = refl

-- long main(void) { return -8 >> 1 == -4; }
abbrev minus_eight_shifted : Project
minus_eight_shifted = program (
    external (codes "main") Long [] 1 (
    (returns (Some (binary (at 1) Eq false (binary (at 1) Shr false (unary (at 1) Neg (constant (at 1) 8)) (constant (at 1) 1)) (unary (at 1) Neg (constant (at 1) 4))))) ∷
    []) ∷
    []) []

-- A signed shift copies the sign.
pub a_signed_shift_copies_the_sign : meaning minus_eight_shifted [] 40 ≡ run [] [] (exit 1)
a_signed_shift_copies_the_sign = refl

-- long main(void) { return 0xfffffffffffffff8 >> 1 == 0x7ffffffffffffffc; }
abbrev unsigned_shifted : Project
unsigned_shifted = program (
    external (codes "main") Long [] 1 (
    (returns (Some (binary (at 1) Eq true (binary (at_unsigned 1) Shr true (constant (at_unsigned 1) 18446744073709551608) (constant (at 1) 1)) (constant (at 1) 9223372036854775804)))) ∷
    []) ∷
    []) []

-- An unsigned shift does not.
pub an_unsigned_shift_does_not : meaning unsigned_shifted [] 40 ≡ run [] [] (exit 1)
an_unsigned_shift_does_not = refl

-- long main(void) { return (1 << 65) + (8 >> 65); }
abbrev shifted_by_65 : Project
shifted_by_65 = program (
    external (codes "main") Long [] 1 (
    (returns (Some (binary (at 1) Add false (binary (at 1) Shl false (constant (at 1) 1) (constant (at 1) 65)) (binary (at 1) Shr false (constant (at 1) 8) (constant (at 1) 65))))) ∷
    []) ∷
    []) []

-- A count is taken modulo 64.
pub a_count_is_taken_modulo_64 : meaning shifted_by_65 [] 40 ≡ run [] [] (exit 6)
a_count_is_taken_modulo_64 = refl

-- unsigned long u;
-- long main(void) { return (-1 < 0) + (-1 < u) * 2 + (-1 >= u) * 4; }
abbrev compared : Project
compared = program (
    external (codes "main") Long [] 2 (
    (returns (Some (binary (at 2) Add false (binary (at 2) Add false (binary (at 2) Lt false (unary (at 2) Neg (constant (at 2) 1)) (constant (at 2) 0)) (binary (at 2) Mul false (binary (at 2) Lt true (unary (at 2) Neg (constant (at 2) 1)) (variable (at_unsigned 2) (Global (codes "u")))) (constant (at 2) 2))) (binary (at 2) Mul false (binary (at 2) Ge true (unary (at 2) Neg (constant (at 2) 1)) (variable (at_unsigned 2) (Global (codes "u")))) (constant (at 2) 4))))) ∷
    []) ∷
    []) (
    object_of true (codes "u") Ulong None None ∷
    [])

-- Numbers are compared as signed ones, or as unsigned ones where one is.
pub comparisons_by_sign : meaning compared [] 40 ≡ run [] [] (exit 5)
comparisons_by_sign = refl

-- long main(void) { return (12 & 10) + (12 | 10) * 100 + (12 ^ 10) * 10000 + ~0 * 1000000; }
abbrev bits : Project
bits = program (
    external (codes "main") Long [] 1 (
    (returns (Some (binary (at 1) Add false (binary (at 1) Add false (binary (at 1) Add false (binary (at 1) And false (constant (at 1) 12) (constant (at 1) 10)) (binary (at 1) Mul false (binary (at 1) Or false (constant (at 1) 12) (constant (at 1) 10)) (constant (at 1) 100))) (binary (at 1) Mul false (binary (at 1) Xor false (constant (at 1) 12) (constant (at 1) 10)) (constant (at 1) 10000))) (binary (at 1) Mul false (unary (at 1) Not (constant (at 1) 0)) (constant (at 1) 1000000))))) ∷
    []) ∷
    []) []

-- The operators that go bit by bit.
pub operators_on_bits : meaning bits [] 40 ≡ run [] [] (exit 18446744073708613024)
operators_on_bits = refl

-- long t[16];
-- long main(void) { return t[-1]; }
abbrev index_below_0 : Project
index_below_0 = program (
    external (codes "main") Long [] 2 (
    (returns (Some (element (at 2) (Global (codes "t")) 16 (unary (at 2) Neg (constant (at 2) 1))))) ∷
    []) ∷
    []) (
    object_of true (codes "t") Long (Some 16) None ∷
    [])

-- The fault names the line of the bracket.
pub an_index_is_unsigned : meaning index_below_0 [] 40 ≡ run [] [] (stopped (checked index (definition 0 0 0) 2))
an_index_is_unsigned = refl

-- long t[16];
-- long main(void) { return t[16]; }
abbrev index_at_size : Project
index_at_size = program (
    external (codes "main") Long [] 2 (
    (returns (Some (element (at 2) (Global (codes "t")) 16 (constant (at 2) 16)))) ∷
    []) ∷
    []) (
    object_of true (codes "t") Long (Some 16) None ∷
    [])

-- An index is below the size.
pub an_index_is_below_the_size : meaning index_at_size [] 40 ≡ run [] [] (stopped (checked index (definition 0 0 0) 2))
an_index_is_below_the_size = refl

-- long t[16];
-- long main(void) { return t[15]; }
abbrev last_index : Project
last_index = program (
    external (codes "main") Long [] 2 (
    (returns (Some (element (at 2) (Global (codes "t")) 16 (constant (at 2) 15)))) ∷
    []) ∷
    []) (
    object_of true (codes "t") Long (Some 16) None ∷
    [])

-- Elements without a value of their own begin as 0.
pub elements_begin_as_0 : meaning last_index [] 40 ≡ run [] [] (exit 0)
elements_begin_as_0 = refl

-- long t[3] = {7, 8};
-- long main(void) { return t[0] + t[1] * 10 + t[2] * 100; }
abbrev initialised : Project
initialised = program (
    external (codes "main") Long [] 2 (
    (returns (Some (binary (at 2) Add false (binary (at 2) Add false (element (at 2) (Global (codes "t")) 3 (constant (at 2) 0)) (binary (at 2) Mul false (element (at 2) (Global (codes "t")) 3 (constant (at 2) 1)) (constant (at 2) 10))) (binary (at 2) Mul false (element (at 2) (Global (codes "t")) 3 (constant (at 2) 2)) (constant (at 2) 100))))) ∷
    []) ∷
    []) (
    object_of true (codes "t") Long (Some 3) (Some ((Num 7) ∷ (Num 8) ∷ [])) ∷
    [])

-- An initialiser may leave elements out.
pub an_initialiser_may_leave_elements_out : meaning initialised [] 40 ≡ run [] [] (exit 87)
an_initialiser_may_leave_elements_out = refl

-- long main(void) { __out(__in()); __out(__in()); return __in() == -1; }
abbrev input_ends : Project
input_ends = program (
    external (codes "main") Long [] 1 (
    (evaluate (output (at_void 1) (input (at 1)))) ∷
    (evaluate (output (at_void 1) (input (at 1)))) ∷
    (returns (Some (binary (at 1) Eq false (input (at 1)) (unary (at 1) Neg (constant (at 1) 1))))) ∷
    []) ∷
    []) []

-- Bytes of the input, and -1 at its end.
pub the_input_ends : meaning input_ends (codes "AB") 40 ≡ run (codes "AB") [] (exit 1)
the_input_ends = refl

-- A byte that is not taken is left.
pub input_is_left : meaning input_ends (codes "ABCD") 40 ≡ run (codes "AB") (codes "D") (exit 0)
input_is_left = refl
