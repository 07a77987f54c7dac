-- The unit is well typed.
use Rattle.pw_gen_tests.proofs.QuietUnits.{as_built}
use Rattle.pw_gen_tests.proofs.quiet.quiet_unit.Goals as goal

pub returns : goal.returns
returns c = as_built c.in_ok-copy.field-0 c.args.line c.new.result c.new-2.result c.new-funs.result c.push.new.self c.new-3.result c.new-4.result c.ranges.line.fits c.new.ensures c.new-2.ensures c.new-funs.ensures c.in_ok-push.ensures.ok c.new-3.ensures c.new-4.ensures
