-- Those so far are appended.
use Rattle.std.proofs.Common.{◌≡◌, ◌++◌, take}
use Rattle.std.specs.List.{flat_map}
use Rattle.pw_module.specs.Spelling as spelling
use Rattle.pw_deps.proofs.writing.put_functions.Given as goal

abbrev pub invariant-loop-function : goal.invariant-loop-function
invariant-loop-function l = l.to.items ≡ l.fn.to.items ++ flat_map spelling.function_bytes (take l.function-index l.functions)
