-- Where there is a fault, there is a token, so the text's end stands in a line that fits.
use Rattle.std.proofs.Common.{◌≤◌, ◌+◌, length, count_by, arith}
use Rattle.pw_lex.specs.Text.{is_newline}
use Rattle.pw_front.proofs.Lines.{end_within}
use Rattle.pw_front.proofs.unit.syntactic.Goals as goal

pub overflow_cast-end_line : goal.overflow_cast-end_line
overflow_cast-end_line c =
    let within : 1 + count_by is_newline c.args.text.now ≤ length c.args.text.now = end_within c.args.text.now c.args.tokens.now c.args.fault c.requires.tokens (c.requires.is (λ e. grind arith)) in
    let line = c.end_line.ensures.line in
    let short = c.requires.short in
    omega arith
