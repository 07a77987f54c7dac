-- Of at most 8 bytes, those after the first say less than 2 ^ 56.
use Rattle.std.proofs.Common.{◌≤◌, ◌-◌, length, take, drop, arith}
use Rattle.std.proofs.lemmas.List.{places}
use Rattle.pw_mem.proofs.Bytes.{room_for_byte}
use Rattle.pw_mem.proofs.flat_region.+number.Goals as goal

pub overflow_mul-result : goal.overflow_mul-result
overflow_mul-result t c =
    let few : length (take (length c.args.bytes.now - 1) (drop 1 c.args.bytes.now)) ≤ 7 = grind (arith, places) in
    let small = room_for_byte _ c.number.result few c.number.ensures.bound in omega arith

pub overflow_add-result : goal.overflow_add-result
overflow_add-result t c =
    let few : length (take (length c.args.bytes.now - 1) (drop 1 c.args.bytes.now)) ≤ 7 = grind (arith, places) in
    let small = room_for_byte _ c.number.result few c.number.ensures.bound in
    let byte = c.type_inv.bytes 0 in omega (arith, c.from.ensures)
