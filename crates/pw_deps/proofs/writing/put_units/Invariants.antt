-- Those so far are appended.
use Rattle.std.proofs.Common.{◌≡◌, ◌++◌, take}
use Rattle.std.specs.List.{flat_map}
use Rattle.pw_module.specs.Spelling as spelling
use Rattle.pw_deps.proofs.writing.put_units.Given as goal

abbrev pub invariant-loop-unit : goal.invariant-loop-unit
invariant-loop-unit l = l.to.items ≡ l.fn.to.items ++ flat_map spelling.sized_string_bytes (take l.unit-index l.units)
