-- The places have room in the numbers.
use Rattle.std.proofs.Common.{ap, length, arith}
use Rattle.pw_place.proofs.Bounds.{have_room}
use Rattle.pw_place.proofs.places.first_places.Goals as goal

pub overflow_cast-slots_size : goal.overflow_cast-slots_size
overflow_cast-slots_size c =
    let room = have_room c.args.kind c.args.objects.now c.requires.limits in
    let same = ap length c.requires.slots in
    omega (arith, room.slots, same, c.len.ensures)

pub overflow_mul-slots_size : goal.overflow_mul-slots_size
overflow_mul-slots_size c =
    let room = have_room c.args.kind c.args.objects.now c.requires.limits in
    let same = ap length c.requires.slots in
    omega (arith, room.slots, same, c.len.ensures)

pub initialised_bytes-requires : goal.initialised_bytes-requires
initialised_bytes-requires c =
    let room = have_room c.args.kind c.args.objects.now c.requires.limits in
    omega (arith, room.variables)

pub overflow_cast-result-2 : goal.overflow_cast-result-2
overflow_cast-result-2 c =
    let room = have_room c.args.kind c.args.objects.now c.requires.limits in
    omega (arith, room.variables, c.initialised_bytes.ensures)

pub overflow_add-result : goal.overflow_add-result
overflow_add-result c =
    let room = have_room c.args.kind c.args.objects.now c.requires.limits in
    let same = ap length c.requires.slots in
    omega (arith, room.slots, room.variables, same, c.len.ensures, c.initialised_bytes.ensures)
