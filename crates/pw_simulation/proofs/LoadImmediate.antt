-- Loading a number leaves it in the register.
use Rattle.std.proofs.Common.{◌≡◌, ◌≢◌, ℕ, zero, suc, ◌*◌, ◌^◌, ◌<◌, ◌≤◌, Bool, true, false, eqb, List, [], ◌∷◌, ◌++◌, Some, refl, ◌∙◌, ap, arith}
use Rattle.std.specs.Prelude.{ℤ, if◌then◌else◌}
use Rattle.std.specs.Int.{cast_signed, w64}
use Rattle.std.proofs.lemmas.Bool.Decides.{nat_tests}
use Rattle.pw_isa.specs.declared.instruction.Inst.TheVariants.{Addi, Slli}
use Rattle.pw_hart.specs.Bits.{bits64}
use Rattle.pw_hart.specs.Integer.{add, sll}
use Rattle.pw_hart.specs.Word.{addw}
use Rattle.pw_hart.specs.State.{set}
use Rattle.pw_hart.specs.Exec as machine
use Rattle.pw_code.specs.Items.{CodePart, instruction}
use Rattle.pw_code.specs.LoadImmediate.{is_within, lower, upper_immediate, rest, load_32_bits, load_signed, load_immediate}
use Rattle.pw_simulation.specs.Straight.{Puts, LoadImmediateLoads}
use Rattle.pw_simulation.proofs.Straight.{effects, effects_then, carried_out_effects}
use Rattle.pw_simulation.proofs.Numbers.{magnitude, rest_and_lower, rest_is_smaller, upper_and_lower, signed_magnitude, bits_of_signed, bits_are_small, within_is}

-- ---- registers

pub get_set : (x : ℕ → ℕ) (r v : ℕ) → set x (suc r) v (suc r) ≡ v
get_set x r v = let same : eqb (suc r) (suc r) ≡ true = grind (arith, nat_tests) in rw same refl

set_other : (x : ℕ → ℕ) (r v k : ℕ) → k ≢ suc r → set x (suc r) v k ≡ x k
set_other x r v k other = let test : eqb k (suc r) ≡ false = grind (arith, nat_tests) in rw test refl

pub puts_set : (x : ℕ → ℕ) (r v : ℕ) → Puts (suc r) v x (set x (suc r) v)
puts_set x r v = record { is = get_set x r v; others = λ k other. set_other x r v k other }

-- what a register had before is of no account
pub puts_again : (x y : ℕ → ℕ) (r u v : ℕ) → Puts (suc r) u x y → Puts (suc r) v x (set y (suc r) v)
puts_again x y r u v p = record { is = get_set y r v; others = λ k other. set_other y r v k other ∙ p.others k other }

puts_as : (x y : ℕ → ℕ) (rd u v : ℕ) → u ≡ v → Puts rd u x y → Puts rd v x y
puts_as x y rd u v e p = record { is = p.is ∙ e; others = p.others }

-- ---- code

-- code leaves a value in a register, and the others as they were
pub record Leaves (rd value : ℕ) (code : List CodePart) (x : ℕ → ℕ) : Type 0 where
  pub registers : ℕ → ℕ
  pub is : effects code x ≡ Some registers
  pub puts : Puts rd value x registers

leaves_32 : (r : ℕ) (v : ℤ) (x : ℕ → ℕ) → magnitude v < 2 ^ 31 → (t : Bool) → is_within 11 v ≡ t → Leaves (suc r) (bits64 v) (load_32_bits (suc r) v) x
leaves_32 r v x small true test = rw test (record {
  registers = set x (suc r) (add 0 (bits64 v));
  is = refl;
  puts = puts_as x _ (suc r) (add 0 (bits64 v)) (bits64 v) (let few = bits_are_small v (omega arith) in omega arith) (puts_set x r (add 0 (bits64 v)));
})
leaves_32 r v x small false test =
    let high : ℕ = machine.upper (upper_immediate v) in
    let first : ℕ → ℕ = set x (suc r) high in
    let both : ℕ = addw (first (suc r)) (bits64 (lower v)) in
    rw test (record {
      registers = set first (suc r) both;
      is = refl;
      puts = puts_as x _ (suc r) both (bits64 v) (ap (λ u. addw u (bits64 (lower v))) (get_set x r high) ∙ upper_and_lower v small) (puts_again x first r high both (puts_set x r high));
    })

-- of a wider number the rest, then a shift and a sum
leaves_wide : (r : ℕ) (v : ℤ) (x : ℕ → ℕ) (code : List CodePart) → magnitude v < 2 ^ 63 → Leaves (suc r) (bits64 (rest v)) code x
    → Leaves (suc r) (bits64 v) (code ++ instruction (Slli (suc r) (suc r) 12) ∷ instruction (Addi (suc r) (suc r) (lower v)) ∷ []) x
leaves_wide r v x code small l =
    let shifted : ℕ = sll (l.registers (suc r)) 12 in
    let second : ℕ → ℕ = set l.registers (suc r) shifted in
    let sum : ℕ = add (second (suc r)) (bits64 (lower v)) in
    record {
      registers = set second (suc r) sum;
      is = effects_then code (instruction (Slli (suc r) (suc r) 12) ∷ instruction (Addi (suc r) (suc r) (lower v)) ∷ []) x l.registers (set second (suc r) sum) l.is refl;
      puts = puts_as x _ (suc r) sum (bits64 v)
          (ap (λ u. add u (bits64 (lower v))) (get_set l.registers r shifted ∙ ap (λ u. sll u 12) l.puts.is) ∙ rest_and_lower v small)
          (puts_again x second r shifted sum (puts_again x l.registers r (bits64 (rest v)) shifted l.puts));
    }

-- the number of bits goes down by twelve each time
abbrev greatest : ℕ → ℕ
greatest zero = 2 ^ 27
greatest (suc times) = 4096 * greatest times

leaves_signed : (times r : ℕ) (v : ℤ) (x : ℕ → ℕ) → magnitude v < 2 ^ 63 → magnitude v ≤ greatest times → Leaves (suc r) (bits64 v) (load_signed times (suc r) v) x
unfolding load_signed
leaves_signed zero r v x small few = leaves_32 r v x (omega arith) (is_within 11 v) refl
leaves_signed (suc times) r v x small few = by_width (is_within 31 v) refl (leaves_signed times r (rest v) x still_small below)
  where
    still_small : magnitude (rest v) < 2 ^ 63
    still_small = let h : magnitude (rest v) ≤ 2 ^ 51 = rest_is_smaller v (2 ^ 51) small (omega arith) in omega arith

    below : magnitude (rest v) ≤ greatest times
    below = rest_is_smaller v (greatest times) small few

    by_width : (t : Bool) → is_within 31 v ≡ t → Leaves (suc r) (bits64 (rest v)) (load_signed times (suc r) (rest v)) x
        → Leaves (suc r) (bits64 v) (if t then load_32_bits (suc r) v else load_signed times (suc r) (rest v) ++ instruction (Slli (suc r) (suc r) 12) ∷ instruction (Addi (suc r) (suc r) (lower v)) ∷ []) x
    by_width true test l = leaves_32 r v x (within_is 31 v true test refl) (is_within 11 v) refl
    by_width false test l = leaves_wide r v x (load_signed times (suc r) (rest v)) small l

pub leaves_immediate : (r value : ℕ) (x : ℕ → ℕ) → value < 2 ^ 64 → Leaves (suc r) value (load_immediate (suc r) value) x
leaves_immediate r value x small =
    let l = leaves_signed 3 r (cast_signed w64 value) x (signed_magnitude value small) (let h = signed_magnitude value small in omega arith) in
    record { registers = l.registers; is = l.is; puts = puts_as x l.registers (suc r) (bits64 (cast_signed w64 value)) value (bits_of_signed value small) l.puts }

pub load_immediate_loads : LoadImmediateLoads
load_immediate_loads zero value s other small short = absurd (other refl)
load_immediate_loads (suc r) value s other small short =
    let l = leaves_immediate r value s.x small in
    record { registers = l.registers; puts = l.puts; goes = carried_out_effects (load_immediate (suc r) value) s l.registers l.is short }
