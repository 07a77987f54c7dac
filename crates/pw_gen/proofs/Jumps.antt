-- Jumps forward and back.
use Rattle.std.proofs.Common.{◌≡◌, ℕ, zero, suc, ◌+◌, ◌-◌, ◌*◌, ◌<◌, ◌≤◌, List, [], ◌∷◌, cond, refl, sym, ap, subst, ◌∙◌, arith, Result}
use Rattle.std.specs.Prelude.{ℤ, pos, negsuc, ◌-ℤ◌, nat_lt}
use Rattle.std.proofs.lemmas.Bool.{lt-ltb, le-ltb}
use Rattle.std.proofs.lemmas.Int.{ints}
use Rattle.pw_base.specs.declared.no_memory.NoMemory.{NoMemory}
use Rattle.pw_isa.specs.declared.instruction.Inst.TheVariants.{Jal}
use Rattle.pw_isa.specs.Registers.{x0}
use Rattle.pw_code.specs.declared.item.Item.{Item}
use Rattle.pw_code.specs.Items.{CodePart, instruction}
use Rattle.pw_code.specs.Pieces.{back, jump}
use Rattle.pw_genexpr.specs.Appends.{Appends}

minus : (n : ℕ) → negsuc (3 + 4 * n) ≡ (pos 0 -ℤ pos (4 * suc n))
minus n = omega (arith, ints)

back_is : (n : ℕ) → back n ≡ instruction (Jal x0 (pos 0 -ℤ pos (4 * n)))
back_is zero = refl
back_is (suc n) = ap (λ z. instruction (Jal x0 z)) (minus n)

pub jump_back : (from to : ℕ) → to < from → instruction (Jal x0 (pos 0 -ℤ pos (4 * (from - to)))) ≡ jump from to
jump_back from to h =
    sym (ap (λ b. cond b (back (from - to)) (instruction (Jal x0 (pos (4 * (to - from)))))) (lt-ltb to from h) ∙ back_is (from - to))

pub jump_on : (from to : ℕ) → from ≤ to → instruction (Jal x0 (pos (4 * (to - from)))) ≡ jump from to
jump_on from to h = sym (ap (λ b. cond b (back (from - to)) (instruction (Jal x0 (pos (4 * (to - from)))))) (le-ltb to from h))
