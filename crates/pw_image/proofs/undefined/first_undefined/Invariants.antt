-- No symbol so far was undefined: what is left has the first.
use Rattle.std.proofs.Common.{◌≡◌, drop}
use Rattle.pw_image.specs.Unbound as unbound
use Rattle.pw_image.proofs.undefined.first_undefined.Given as goal

abbrev pub invariant-loop-symbol : goal.invariant-loop-symbol
invariant-loop-symbol l = unbound.first_undefined (drop l.symbol-index l.symbols) ≡ unbound.first_undefined l.symbols
