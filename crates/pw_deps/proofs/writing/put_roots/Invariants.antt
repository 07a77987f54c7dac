-- Those so far are appended.
use Rattle.std.proofs.Common.{◌≡◌, ◌++◌, take}
use Rattle.std.specs.List.{flat_map}
use Rattle.pw_module.specs.Spelling as spelling
use Rattle.pw_deps.proofs.writing.put_roots.Given as goal

abbrev pub invariant-loop-root : goal.invariant-loop-root
invariant-loop-root l = l.to.items ≡ l.fn.to.items ++ flat_map spelling.root_bytes (take l.root-index l.roots)
