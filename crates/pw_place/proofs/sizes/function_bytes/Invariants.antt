-- The bytes of the items so far.
use Rattle.std.proofs.Common.{◌≡◌, take}
use Rattle.pw_place.specs.Sizes.{code_bytes}
use Rattle.pw_place.proofs.sizes.function_bytes.Given as goal

abbrev pub invariant-loop-item : goal.invariant-loop-item
invariant-loop-item l = l.bytes ≡ code_bytes (take l.item-index l.item-items)
