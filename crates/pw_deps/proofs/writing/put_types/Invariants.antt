-- Those so far are appended.
use Rattle.std.proofs.Common.{◌≡◌, ◌++◌, take}
use Rattle.std.specs.List.{flat_map}
use Rattle.pw_module.specs.Spelling as spelling
use Rattle.pw_deps.proofs.writing.put_types.Given as goal

abbrev pub invariant-loop-found : goal.invariant-loop-found
invariant-loop-found l = l.to.items ≡ l.fn.to.items ++ flat_map spelling.type_bytes (take l.found-index l.types)
