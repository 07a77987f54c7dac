-- The digits are a size where they are those of a number that is one.
use Rattle.std.proofs.Common.{sym, subst, ◌∙◌, leb-true, le-leb}
use Rattle.pw_base.specs.TypeText.{IsSize}
use Rattle.pw_base.proofs.Sizes.{first_and_rest, size_of_number, size_is_numeral, size_is_some}
use Rattle.pw_base.proofs.type_text.is_size.Goals as goal

pub returns-in-empty : goal.returns-in-empty
returns-in-empty c = (λ no. cc, λ is_size. absurd (size_is_some c.args.digits.now c.in-empty.len_below is_size))

pub returns-then-is_numeral : goal.returns-then-is_numeral
returns-then-is_numeral c =
    let whole = first_and_rest c.args.digits.now c.in-len1-up.len_at_least in
    let decides = size_of_number c.args.digits.now c.number.result c.number.type_inv (c.number.ensures.0 ∙ sym whole) c.number.ensures.1 in
    (λ test. decides.0 (leb-true _ _ test), λ is_size. le-leb _ _ (decides.1 is_size))

pub returns-else-is_numeral : goal.returns-else-is_numeral
returns-else-is_numeral c =
    let whole = first_and_rest c.args.digits.now c.in-len1-up.len_at_least in
    (λ is_one. absurd (let never = sym is_one ∙ c.if-is_numeral.false in cc), λ is_size. c.is_numeral.ensures ∙ size_is_numeral _ _ (subst IsSize whole is_size))
