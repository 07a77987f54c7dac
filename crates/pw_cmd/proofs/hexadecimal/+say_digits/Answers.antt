-- The digits of the number without its last digit, and then the last.
use Rattle.std.proofs.lemmas.Fmt.{hex_one_digit}
use Rattle.std.proofs.lemmas.Result.{err_from_is_err_and}
use Rattle.pw_cmd.proofs.HexadecimalDigits.{hexadecimal_more}
use Rattle.pw_cmd.proofs.Texts.{broken_first, puts_byte, puts_rest}
use Rattle.pw_cmd.proofs.hexadecimal.+say_digits.Goals as goal

pub returns-then-number-lt16 : goal.returns-then-number-lt16
returns-then-number-lt16 g t c =
    rw (hex_one_digit _ c.args.number c.if-number-lt16.true, ← c.glyph.ensures)
    (puts_byte _ _ _ c.put.result c.put.ensures.ok c.put.ensures.err)

pub returns-in_err-say_digits : goal.returns-in_err-say_digits
returns-in_err-say_digits g t c =
    let p = err_from_is_err_and c.from_residual.result c.from_residual.ensures.1 in
    rw p.1 (broken_first _ _ _ _ _ (hexadecimal_more c.args.number c.if-number-lt16.false c.ranges.number.fits) c.in_err-say_digits.ensures)

pub returns : goal.returns
returns g t c =
    let more = hexadecimal_more c.args.number c.if-number-lt16.false c.ranges.number.fits in
    puts_rest _ _ _ _ _ _ c.put-2.result more c.in_ok-say_digits.ensures
    (rw (← c.glyph-2.ensures) (puts_byte _ _ _ c.put-2.result c.put-2.ensures.ok c.put-2.ensures.err))
