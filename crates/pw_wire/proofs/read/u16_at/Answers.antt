-- The answers to the goals of `u16_at` in `src/read.rt`.
use Rattle.std.proofs.Common.{◌≡◌, ◌∙◌, ap, Some, arith}
use Rattle.pw_wire.proofs.Orders.{number_is_field, no_field}
use Rattle.pw_wire.proofs.read.u16_at.Goals as goal

pub returns-in_err-rest-clause-value : goal.returns-in_err-rest-clause-value
returns-in_err-rest-clause-value c = c.from_residual.ensures ∙ no_field 2 c.args.off c.args.bytes.now (omega arith) c.in_err-rest.ensures

pub returns-clause-value : goal.returns-clause-value
returns-clause-value c = ap Some c.read_u16.ensures ∙ number_is_field 2 c.args.off c.args.bytes.now c.in_ok-rest.rest.now c.in_ok-rest.ensures.0 c.in_ok-rest.ensures.1
