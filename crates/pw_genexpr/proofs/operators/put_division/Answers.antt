-- The check, and then the division.
use Rattle.std.proofs.Common.{◌≡◌, ◌+◌, ◌*◌, ◌++◌, [], ◌∷◌, ◌∙◌}
use Rattle.pw_code.specs.Pieces.{check_divisor}
use Rattle.pw_genexpr.proofs.Appending.{prefix_of_more, appends_after, gave_up}
use Rattle.pw_genexpr.proofs.operators.put_division.Goals as goal

pub returns-in_err-put_check_nonzero : goal.returns-in_err-put_check_nonzero
returns-in_err-put_check_nonzero c =
    gave_up _ _ _ _ _ c.from_residual.ensures.1 (prefix_of_more (check_divisor c.args.line) _ _ _ c.in_err-put_check_nonzero.ensures)

pub returns : goal.returns
returns c = appends_after (check_divisor c.args.line) _ _ _ _ _ c.in_ok-put_check_nonzero.ensures c.put_instruction.ensures
