-- Those so far are appended.
use Rattle.std.proofs.Common.{◌≡◌, ◌++◌, take}
use Rattle.std.specs.List.{flat_map}
use Rattle.pw_module.specs.Spelling as spelling
use Rattle.pw_deps.proofs.writing.put_numbers.Given as goal

abbrev pub invariant-loop-n : goal.invariant-loop-n
invariant-loop-n l = l.to.items ≡ l.fn.to.items ++ flat_map spelling.number_bytes (take l.n-index l.numbers)
