-- Those so far are appended.
use Rattle.std.proofs.Common.{◌≡◌, ◌++◌, take}
use Rattle.std.specs.List.{flat_map}
use Rattle.pw_base.specs.Field.{field}
use Rattle.pw_place.proofs.data.put_slots.Given as goal

abbrev pub invariant-loop : goal.invariant-loop
invariant-loop l = l.to.items ≡ l.fn.to.items ++ flat_map (λ name. field 8 0) (take l.counter l.names)
