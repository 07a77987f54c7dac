-- The places have room in the numbers.
use Rattle.std.proofs.Common.{not, arith}
use Rattle.std.specs.Str.{bytes_eq}
use Rattle.std.proofs.lemmas.List.Sums.{prefix_len-le-length}
use Rattle.pw_place.specs.Places.{slot_names}
use Rattle.pw_place.proofs.Bounds.{have_room, function_within, variable_within}
use Rattle.pw_place.proofs.places.Places.target.Goals as goal

pub overflow_add-result : goal.overflow_add-result
overflow_add-result c =
    let s = c.args.self.now in
    let room = have_room s.kind s.objects.now s.placed.limits in
    let within = prefix_len-le-length (λ n. not (bytes_eq c.bytes.result.now n)) (slot_names s.kind s.objects.now) in
    omega (arith, room.slots, within, c.slot_start.ensures)

pub overflow_add-result-in-LocalFun : goal.overflow_add-result-in-LocalFun
overflow_add-result-in-LocalFun c =
    let s = c.args.self.now in
    let room = have_room s.kind s.objects.now s.placed.limits in
    let within = function_within s.kind s.objects.now c.args.unit c.in-LocalFun.i in
    omega (arith, room.text, within, c.function_start.ensures)

pub overflow_add-result-in-LocalVar : goal.overflow_add-result-in-LocalVar
overflow_add-result-in-LocalVar c =
    let s = c.args.self.now in
    let room = have_room s.kind s.objects.now s.placed.limits in
    let within = variable_within s.kind s.objects.now c.args.unit c.in-LocalVar.i in
    omega (arith, room.slots, room.variables, within, c.variable_start.ensures)
