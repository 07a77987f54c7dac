-- The numbers before are each a symbol's, so the first wrong one of all is that of the others.
use Rattle.std.proofs.Common.{◌≡◌, drop}
use Rattle.pw_module.specs.Reading as definition
use Rattle.pw_deps.proofs.check.bad_in.Given as goal

abbrev pub invariant-loop-n : goal.invariant-loop-n
invariant-loop-n l = definition.bad_in l.symbols (drop l.n-index l.numbers) ≡ definition.bad_in l.symbols l.numbers
