-- The pieces of code that rows of the scheme have in common have words.
use Rattle.std.proofs.Common.{◌≡◌, ℕ, zero, suc, ◌+◌, ◌-◌, ◌*◌, ◌^◌, ◌<◌, ◌≤◌, Bool, true, false, List, [], ◌∷◌, ◌++◌, refl, arith, nat_lt, lit<}
use Rattle.std.specs.Prelude.{ℤ, pos, negsuc, if◌then◌else◌}
use Rattle.std.specs.Int.{cast_signed, w64}
use Rattle.std.proofs.lemmas.Bool.Decides.{nat_tests}
use Rattle.pw_isa.specs.declared.instruction.Inst.TheVariants.{Addi, Slli, Jal, Bne}
use Rattle.pw_isa.specs.Encoding.{IsEncodable}
use Rattle.pw_isa.specs.Registers.{x0, a0, a1, t0, t1}
use Rattle.pw_tree.specs.declared.operator.Un.{Un}
use Rattle.pw_tree.specs.declared.operator.Un.TheVariants.{Neg, Plus, Not, Bang}
use Rattle.pw_tree.specs.declared.operator.Bin.{Bin}
use Rattle.pw_tree.specs.declared.operator.Bin.TheVariants as operators
use Rattle.pw_code.specs.declared.frame.Frame.{Frame}
use Rattle.pw_code.specs.Items.{CodePart, instruction}
use Rattle.pw_code.specs.LoadImmediate.{is_within, lower, rest, load_32_bits, load_signed, load_immediate}
use Rattle.pw_code.specs.Pieces.{skip, back, jump, unless_zero, unless_nonzero, past, fault, check_index, unary_code, check_divisor, binary_code, less, shift_right, divide, remainder, hold, load_held}
use Rattle.pw_code.proofs.Exports.{size-fault, fault_words_at_most}
use Rattle.pw_code.proofs.Immediates.{lower_fits_field, immediate_fits_field, upper_fits_field}
use Rattle.pw_simulation.specs.Encodable.{PartHasWords, CodeHasWords}
use Rattle.pw_simulation.proofs.Numbers.{magnitude, rest_is_smaller, signed_magnitude, within_is}
use Rattle.pw_simulation.proofs.NamesInBodies.{all_both}

pub words_both : (a b : List CodePart) → CodeHasWords a → CodeHasWords b → CodeHasWords (a ++ b)
words_both a b ha hb = all_both PartHasWords a b ha hb

-- ---- numbers

within_from : (v : ℤ) → magnitude v < 2 ^ 31 → is_within 31 v ≡ true
within_from (pos n) h = grind (arith, nat_tests)
within_from (negsuc n) h = grind (arith, nat_tests)

words_of_32 : (rd : ℕ) (v : ℤ) → rd < 32 → magnitude v < 2 ^ 31 → (t : Bool) → is_within 11 v ≡ t → CodeHasWords (load_32_bits rd v)
words_of_32 rd v low small true e = rw e ((low, lit< tt, immediate_fits_field v e), tt)
words_of_32 rd v low small false e = rw e ((low, upper_fits_field v (within_from v small)), ((low, low, lower_fits_field v), tt))

-- the number of bits goes down by twelve each time
abbrev greatest : ℕ → ℕ
greatest zero = 2 ^ 27
greatest (suc times) = 4096 * greatest times

words_of_signed : (times rd : ℕ) (v : ℤ) → rd < 32 → magnitude v < 2 ^ 63 → magnitude v ≤ greatest times → CodeHasWords (load_signed times rd v)
unfolding load_signed
words_of_signed zero rd v low small few = words_of_32 rd v low (omega arith) (is_within 11 v) refl
words_of_signed (suc times) rd v low small few = by_width (is_within 31 v) refl (words_of_signed times rd (rest v) low still_small below)
  where
    still_small : magnitude (rest v) < 2 ^ 63
    still_small = let h : magnitude (rest v) ≤ 2 ^ 51 = rest_is_smaller v (2 ^ 51) small (omega arith) in omega arith

    below : magnitude (rest v) ≤ greatest times
    below = rest_is_smaller v (greatest times) small few

    by_width : (t : Bool) → is_within 31 v ≡ t → CodeHasWords (load_signed times rd (rest v))
        → CodeHasWords (if t then load_32_bits rd v else load_signed times rd (rest v) ++ instruction (Slli rd rd 12) ∷ instruction (Addi rd rd (lower v)) ∷ [])
    by_width true test l = words_of_32 rd v low (within_is 31 v true test refl) (is_within 11 v) refl
    by_width false test l = words_both (load_signed times rd (rest v)) (instruction (Slli rd rd 12) ∷ instruction (Addi rd rd (lower v)) ∷ []) l ((low, low, lit< tt), ((low, low, lower_fits_field v), tt))

pub words_of_number : (rd v : ℕ) → rd < 32 → v < 2 ^ 64 → CodeHasWords (load_immediate rd v)
words_of_number rd v low small = words_of_signed 3 rd (cast_signed w64 v) low (signed_magnitude v small) (let h = signed_magnitude v small in omega arith)

-- ---- jumps

pub words_of_skip : (n : ℕ) → n + 1 < 2 ^ 18 → PartHasWords (skip n)
words_of_skip n h = (lit< tt, omega arith, omega arith)

back_words : (n : ℕ) → n < 2 ^ 18 → PartHasWords (back n)
back_words zero h = (lit< tt, lit< tt, refl)
back_words (suc n) h = (lit< tt, omega arith, omega arith)

jump_by : (from to : ℕ) → from < 2 ^ 18 → to < 2 ^ 18 → (t : Bool) → nat_lt to from ≡ t → PartHasWords (if t then back (from - to) else instruction (Jal x0 (pos (4 * (to - from)))))
jump_by from to hf ht true e = back_words (from - to) (omega arith)
jump_by from to hf ht false e = (lit< tt, omega arith, omega arith)

pub words_of_jump : (from to : ℕ) → from < 2 ^ 18 → to < 2 ^ 18 → PartHasWords (jump from to)
words_of_jump from to hf ht = jump_by from to hf ht (nat_lt to from) refl

pub words_of_unless_zero : (n : ℕ) → n + 1 < 2 ^ 18 → CodeHasWords (unless_zero n)
words_of_unless_zero n h = ((lit< tt, lit< tt, lit< tt, refl), (words_of_skip n h, tt))

pub words_of_unless_nonzero : (n : ℕ) → n + 1 < 2 ^ 18 → CodeHasWords (unless_nonzero n)
words_of_unless_nonzero n h = ((lit< tt, lit< tt, lit< tt, refl), (words_of_skip n h, tt))

-- ---- faults

pub words_of_fault : (kind line : ℕ) → kind < 2048 → line < 2 ^ 32 → CodeHasWords (fault kind line)
words_of_fault kind line few small =
    ((lit< tt, lit< tt, few), words_both (load_immediate a1 line) _ (words_of_number a1 line (lit< tt) (omega arith)) ((lit< tt, lit< tt, lit< tt), (tt, tt)))

pub words_of_check : (r s kind line : ℕ) → r < 32 → s < 32 → kind < 2048 → line < 2 ^ 32 → CodeHasWords (past (Bne r s) (fault kind line))
words_of_check r s kind line hr hs few small =
    let n = fault_words_at_most line small in
    ((hr, hs, omega (arith, size-fault kind line), omega arith), words_of_fault kind line few small)

pub words_of_check_index : (array_size line : ℕ) → array_size < 2 ^ 64 → line < 2 ^ 32 → CodeHasWords (check_index array_size line)
words_of_check_index array_size line hs small =
    let n = fault_words_at_most line small in
    words_both (load_immediate t1 array_size) _ (words_of_number t1 array_size (lit< tt) hs)
    ((lit< tt, lit< tt, omega (arith, size-fault 1 line), omega arith), words_of_fault 1 line (lit< tt) small)

-- ---- operators

pub words_of_unary : (op : Un) → CodeHasWords (unary_code op)
words_of_unary Neg = ((lit< tt, lit< tt, lit< tt), tt)
words_of_unary Not = ((lit< tt, lit< tt, lit< tt), tt)
words_of_unary Bang = ((lit< tt, lit< tt, lit< tt), tt)
words_of_unary Plus = tt

words_of_less : (unsigned : Bool) (rd rs1 rs2 : ℕ) → rd < 32 → rs1 < 32 → rs2 < 32 → IsEncodable (less unsigned rd rs1 rs2)
words_of_less true rd rs1 rs2 a b c = (a, b, c)
words_of_less false rd rs1 rs2 a b c = (a, b, c)

words_of_shift : (unsigned : Bool) (rd rs1 rs2 : ℕ) → rd < 32 → rs1 < 32 → rs2 < 32 → IsEncodable (shift_right unsigned rd rs1 rs2)
words_of_shift true rd rs1 rs2 a b c = (a, b, c)
words_of_shift false rd rs1 rs2 a b c = (a, b, c)

words_of_divide : (unsigned : Bool) (rd rs1 rs2 : ℕ) → rd < 32 → rs1 < 32 → rs2 < 32 → IsEncodable (divide unsigned rd rs1 rs2)
words_of_divide true rd rs1 rs2 a b c = (a, b, c)
words_of_divide false rd rs1 rs2 a b c = (a, b, c)

words_of_remainder : (unsigned : Bool) (rd rs1 rs2 : ℕ) → rd < 32 → rs1 < 32 → rs2 < 32 → IsEncodable (remainder unsigned rd rs1 rs2)
words_of_remainder true rd rs1 rs2 a b c = (a, b, c)
words_of_remainder false rd rs1 rs2 a b c = (a, b, c)

pub words_of_binary : (line : ℕ) (op : Bin) (unsigned : Bool) → line < 2 ^ 32 → CodeHasWords (binary_code line op unsigned)
words_of_binary line operators.Mul unsigned small = ((lit< tt, lit< tt, lit< tt), tt)
words_of_binary line operators.Div unsigned small =
    words_both (check_divisor line) _ (words_of_check a0 x0 2 line (lit< tt) (lit< tt) (lit< tt) small) (words_of_divide unsigned a0 t0 a0 (lit< tt) (lit< tt) (lit< tt), tt)
words_of_binary line operators.Rem unsigned small =
    words_both (check_divisor line) _ (words_of_check a0 x0 2 line (lit< tt) (lit< tt) (lit< tt) small) (words_of_remainder unsigned a0 t0 a0 (lit< tt) (lit< tt) (lit< tt), tt)
words_of_binary line operators.Add unsigned small = ((lit< tt, lit< tt, lit< tt), tt)
words_of_binary line operators.Sub unsigned small = ((lit< tt, lit< tt, lit< tt), tt)
words_of_binary line operators.Shl unsigned small = ((lit< tt, lit< tt, lit< tt), tt)
words_of_binary line operators.Shr unsigned small = (words_of_shift unsigned a0 t0 a0 (lit< tt) (lit< tt) (lit< tt), tt)
words_of_binary line operators.Lt unsigned small = (words_of_less unsigned a0 t0 a0 (lit< tt) (lit< tt) (lit< tt), tt)
words_of_binary line operators.Gt unsigned small = (words_of_less unsigned a0 a0 t0 (lit< tt) (lit< tt) (lit< tt), tt)
words_of_binary line operators.Le unsigned small = (words_of_less unsigned a0 a0 t0 (lit< tt) (lit< tt) (lit< tt), ((lit< tt, lit< tt, lit< tt), tt))
words_of_binary line operators.Ge unsigned small = (words_of_less unsigned a0 t0 a0 (lit< tt) (lit< tt) (lit< tt), ((lit< tt, lit< tt, lit< tt), tt))
words_of_binary line operators.Eq unsigned small = ((lit< tt, lit< tt, lit< tt), ((lit< tt, lit< tt, lit< tt), tt))
words_of_binary line operators.Ne unsigned small = ((lit< tt, lit< tt, lit< tt), ((lit< tt, lit< tt, lit< tt), tt))
words_of_binary line operators.And unsigned small = ((lit< tt, lit< tt, lit< tt), tt)
words_of_binary line operators.Xor unsigned small = ((lit< tt, lit< tt, lit< tt), tt)
words_of_binary line operators.Or unsigned small = ((lit< tt, lit< tt, lit< tt), tt)
words_of_binary line operators.AndAnd unsigned small = tt
words_of_binary line operators.OrOr unsigned small = tt

-- ---- slots

pub words_of_hold : (frame : Frame) (h : ℕ) → frame.locals + h < 256 → PartHasWords (hold frame h)
words_of_hold frame h few = (lit< tt, lit< tt, omega arith)

pub words_of_load_held : (frame : Frame) (h rd n : ℕ) → frame.locals + (h + n) ≤ 256 → rd + n ≤ 32 → CodeHasWords (load_held frame h rd n)
unfolding load_held
words_of_load_held frame h rd zero few low = tt
words_of_load_held frame h rd (suc n) few low = ((omega arith, lit< tt, omega arith), words_of_load_held frame (suc h) (suc rd) n (omega arith) (omega arith))
