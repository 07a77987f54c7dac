-- Where a jump lands that does not trap.
use Rattle.std.specs.Prelude.{nat_eq}
use Rattle.std.proofs.Common.{◌≡◌, ℕ, zero, suc, ◌-◌, ◌%◌, ◌≢◌, true, false, refl, ap, arith}
use Rattle.std.proofs.lemmas.Bool.Decides.{nat_tests}
use Rattle.pw_hart.specs.State.{MachineState}
use Rattle.pw_hart.specs.Exec.{jumps, takes_step, lands}

-- a counted jump lands where a step is left
takes_step-left : (n target : ℕ) (x : ℕ → ℕ) (s : MachineState) → n ≢ 0 → takes_step true n target x s ≡ lands (n - 1) target x s
takes_step-left zero target x s some = absurd (some refl)
takes_step-left (suc n) target x s some = ap (λ k. lands k target x s) (omega arith)

pub jumps-counted : (target : ℕ) (x : ℕ → ℕ) (s : MachineState) → target % 4 ≡ 0 → s.steps ≢ 0 →
    jumps true target x s ≡ lands (s.steps - 1) target x s
jumps-counted target x s aligned some =
    let t : nat_eq (target % 4) 0 ≡ true = grind (arith, nat_tests) in rw t (takes_step-left s.steps target x s some)

-- a jump that is not counted lands
pub jumps-free : (target : ℕ) (x : ℕ → ℕ) (s : MachineState) → target % 4 ≡ 0 → jumps false target x s ≡ lands s.steps target x s
jumps-free target x s aligned = let t : nat_eq (target % 4) 0 ≡ true = grind (arith, nat_tests) in rw t refl
