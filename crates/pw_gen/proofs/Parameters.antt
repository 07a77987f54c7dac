-- Stores of parameters, from the first on.
use Rattle.std.proofs.Common.{◌≡◌, ℕ, zero, suc, ◌+◌, ◌-◌, ◌≤◌, List, [], ◌∷◌, arith, refl, sym, ap, subst, add-one}
use Rattle.pw_isa.specs.declared.instruction.Inst.TheVariants.{Sd}
use Rattle.pw_isa.specs.Registers.{sp, a0}
use Rattle.pw_code.specs.Items.{CodePart, instruction}
use Rattle.pw_code.specs.Frames.{local_slot}
use Rattle.pw_code.specs.FunctionCode.{store_parameters}

pub store_none : (i n : ℕ) → n ≡ 0 → store_parameters i n ≡ []
unfolding store_parameters
store_none i n e = subst (λ k. store_parameters i k ≡ []) (sym e) refl

store_next : (i n k : ℕ) → n ≡ suc k → store_parameters i n ≡ instruction (Sd sp (a0 + i) (local_slot i)) ∷ store_parameters (i + 1) k
unfolding store_parameters
store_next i n k e =
    subst (λ m. store_parameters i m ≡ instruction (Sd sp (a0 + i) (local_slot i)) ∷ store_parameters (i + 1) k) (sym e) (rw (add-one i) refl)

pub store_first : (i n : ℕ) → 1 ≤ n → store_parameters i n ≡ instruction (Sd sp (a0 + i) (local_slot i)) ∷ store_parameters (i + 1) (n - 1)
store_first i n some = store_next i n (n - 1) (omega arith)
