-- Loads of held values, from the first on.
use Rattle.std.proofs.Common.{◌≡◌, ℕ, suc, ◌+◌, ◌-◌, ◌≤◌, [], ◌∷◌, arith, refl, sym, subst, add-one}
use Rattle.pw_isa.specs.declared.instruction.Inst.TheVariants.{Ld}
use Rattle.pw_isa.specs.Registers.{sp}
use Rattle.pw_code.specs.declared.frame.Frame.{Frame}
use Rattle.pw_code.specs.Items.{instruction}
use Rattle.pw_code.specs.Frames.{held_slot}
use Rattle.pw_code.specs.Pieces.{load_held}

pub load_none : (frame : Frame) (h rd n : ℕ) → n ≡ 0 → load_held frame h rd n ≡ []
unfolding load_held
load_none frame h rd n e = subst (λ k. load_held frame h rd k ≡ []) (sym e) refl

load_next : (frame : Frame) (h rd n k : ℕ) → n ≡ suc k →
    load_held frame h rd n ≡ instruction (Ld rd sp (held_slot frame h)) ∷ load_held frame (h + 1) (rd + 1) k
unfolding load_held
load_next frame h rd n k e =
    subst (λ m. load_held frame h rd m ≡ instruction (Ld rd sp (held_slot frame h)) ∷ load_held frame (h + 1) (rd + 1) k) (sym e)
    (rw (add-one h, add-one rd) refl)

pub load_first : (frame : Frame) (h rd n : ℕ) → 1 ≤ n →
    load_held frame h rd n ≡ instruction (Ld rd sp (held_slot frame h)) ∷ load_held frame (h + 1) (rd + 1) (n - 1)
load_first frame h rd n some = load_next frame h rd n (n - 1) (omega arith)
