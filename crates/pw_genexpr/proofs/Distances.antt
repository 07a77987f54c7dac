-- How far a branch goes past the code of a checked fault.
use Rattle.std.proofs.Common.{◌≡◌, ℕ, suc, ◌+◌, ◌*◌, ◌≤◌, pos, arith, ap, sym, ◌∙◌}
use Rattle.std.specs.Int.{w32}
use Rattle.std.proofs.lemmas.Int.{ints}
use mir.Val.{to_z}
use Rattle.pw_code.specs.Items.{size}
use Rattle.pw_code.specs.Pieces.{bytes_of_words, fault, fault_words}
use Rattle.pw_code.proofs.Exports.{size-fault}

-- The distance as it is computed is that of the code.
pub past_fault : (kind line words : ℕ) → words ≡ fault_words line → words ≤ 7 →
    to_z w32 (4 * (words + 1)) ≡ pos (bytes_of_words (suc (size (fault kind line))))
past_fault kind line words e few =
    let computed : to_z w32 (4 * (words + 1)) ≡ pos (4 * suc words) = omega (arith, ints) in
    computed ∙ ap (λ n. pos (4 * suc n)) (e ∙ sym (size-fault kind line))
