-- The two laws of the table, at these bytes.
use Rattle.pw_deps.proofs.Whole.{is_found, is_only, bytes_are}
use Rattle.pw_deps.proofs.reading.read.Goals as goal

pub returns-clause-found : goal.returns-clause-found
returns-clause-found c = is_found c.args.symbols c.args.text c.args.bytes.now c.whole.result (bytes_are c.args.bytes.now c.type_inv.bytes) c.whole.ensures

pub returns-clause-only : goal.returns-clause-only
returns-clause-only c = λ t reads. is_only c.args.symbols c.args.text c.args.bytes.now c.whole.result t c.ranges.symbols.fits reads c.whole.ensures
