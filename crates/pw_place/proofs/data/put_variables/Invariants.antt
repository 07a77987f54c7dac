-- Those so far are appended.
use Rattle.std.proofs.Common.{◌≡◌, ◌++◌, take}
use Rattle.std.specs.List.{flat_map}
use Rattle.pw_place.specs.Contents.{variable_content}
use Rattle.pw_place.proofs.data.put_variables.Given as goal

abbrev pub invariant-loop-x : goal.invariant-loop-x
invariant-loop-x l = l.to.items ≡ l.fn.to.items ++ flat_map variable_content (take l.x-index l.xs)
