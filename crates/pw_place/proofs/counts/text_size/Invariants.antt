-- The bytes of the entry and of the objects so far.
use Rattle.std.proofs.Common.{◌≡◌, ◌+◌, take, sum_by}
use Rattle.pw_place.specs.Sizes.{code_bytes, entry_items, function_bytes}
use Rattle.pw_place.specs.Places.{functions}
use Rattle.pw_place.proofs.counts.text_size.Given as goal

abbrev pub invariant-loop-object : goal.invariant-loop-object
invariant-loop-object l =
    l.bytes ≡ code_bytes (entry_items l.fn.kind) + sum_by function_bytes (functions (take l.object-index l.objects))
