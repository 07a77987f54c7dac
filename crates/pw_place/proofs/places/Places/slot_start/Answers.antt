-- The slots have room in the numbers.
use Rattle.std.proofs.Common.{ap, length, not, arith}
use Rattle.std.specs.Str.{bytes_eq}
use Rattle.std.proofs.lemmas.List.Sums.{prefix_len-le-length}
use Rattle.pw_place.proofs.Bounds.{have_room}
use Rattle.pw_place.proofs.places.Places.slot_start.Goals as goal

pub number-requires : goal.number-requires
number-requires c =
    let s = c.args.self.now in
    let same = ap length s.placed.with_slots in
    let room = have_room s.kind s.objects.now s.placed.limits in
    omega (arith, same, room.slots)

pub overflow_mul-result : goal.overflow_mul-result
overflow_mul-result c =
    let s = c.args.self.now in
    let same = ap length s.placed.with_slots in
    let room = have_room s.kind s.objects.now s.placed.limits in
    let within = prefix_len-le-length (λ n. not (bytes_eq c.args.name.now n)) s.slots in
    omega (arith, same, room.slots, within, c.number.ensures)
