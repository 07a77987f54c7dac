-- The answers to the goals of `signed_words` in `src/immediate.rt`.
use Rattle.std.proofs.Common.{◌≡◌, ◌∙◌, sym, true, false, arith, ap, ◌+◌, ◌-◌}
use Rattle.std.specs.Int.RustNames.{FitsSigned}
use Rattle.std.specs.Int.{w64}
use Rattle.std.proofs.lemmas.Int.{to_z-of_z}
use Rattle.pw_code.specs.LoadImmediate.{is_within, rest, signed_words}
use Rattle.pw_code.proofs.Exports.{words_at_once, words_with_rest, shorter_rest, has_rest}
use Rattle.pw_genexpr.proofs.immediate.+signed_words.Goals as goal

pub returns-then-is_narrow-clause-words : goal.returns-then-is_narrow-clause-words
returns-then-is_narrow-clause-words t c =
    let wide : FitsSigned w64 c.args.value = c.ranges.value in
    let narrow : is_within 31 c.args.value ≡ true = sym (simp to_z-of_z at c.is_narrow.ensures) ∙ c.if-is_narrow.true in
    simp to_z-of_z at c.words_at_once.ensures.words ∙ sym (words_at_once c.args.times c.args.value narrow)

pub signed_words-requires : goal.signed_words-requires
signed_words-requires t c =
    let value : FitsSigned w64 c.args.value = c.ranges.value in
    let shorter : FitsSigned w64 c.rest.result = record { sfits = c.rest.type_inv } in
    let wide : is_within 31 c.args.value ≡ false = sym (simp to_z-of_z at c.is_narrow.ensures) ∙ c.if-is_narrow.false in
    let some = has_rest c.args.times c.args.value c.requires.narrow wide in (
      omega arith,
      (
        omega arith,
        simp to_z-of_z (rw (simp to_z-of_z at c.rest.ensures) (shorter_rest c.args.times c.args.value c.requires.few value c.requires.narrow wide)),
      ),
    )

pub returns-clause-words : goal.returns-clause-words
returns-clause-words t c =
    let shorter : FitsSigned w64 c.rest.result = record { sfits = c.rest.type_inv } in
    let value : FitsSigned w64 c.args.value = c.ranges.value in
    let wide : is_within 31 c.args.value ≡ false = sym (simp to_z-of_z at c.is_narrow.ensures) ∙ c.if-is_narrow.false in
    let words : c.signed_words.result ≡ signed_words (c.args.times - 1) c.rest.result = simp to_z-of_z at c.signed_words.ensures.words in
    let after : c.rest.result ≡ rest c.args.value = simp to_z-of_z at c.rest.ensures in
    ap (λ n. n + 2) (words ∙ ap (signed_words (c.args.times - 1)) after)
    ∙ sym (words_with_rest c.args.times c.args.value c.requires.narrow wide)
