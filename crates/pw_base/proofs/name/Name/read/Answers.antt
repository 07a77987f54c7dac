-- Bytes that pass the three tests are a name.
use Rattle.std.proofs.Common.{◌∙◌, sym, rules}
use Rattle.pw_base.specs.Name.{IsName}
use Rattle.pw_base.proofs.name.Name.read.Goals as goal

is_name : (c : goal.In-Ok) → IsName c.args.bytes.now
is_name c = record { some = search rules; short = search rules; good = sym (c.are_good.ensures) ∙ c.if-not-are_good.false }

pub invariant_of-result : goal.invariant_of-result
invariant_of-result c = rw (c.in-Ok.ensures.items) (is_name c)

pub returns-in-Ok : goal.returns-in-Ok
returns-in-Ok c = (is_name c, c.in-Ok.ensures.items)
