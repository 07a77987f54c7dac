-- A function ends within the text, so its bytes are few.
use Rattle.std.proofs.Common.{arith}
use Rattle.pw_place.proofs.Extents.{function_end}
use Rattle.pw_place.proofs.records.function_record.Goals as goal

pub function_bytes-requires : goal.function_bytes-requires
function_bytes-requires c =
    let places = c.args.numbers.now.places.now in
    omega (
      arith,
      function_end places.kind places.objects.now c.args.unit c.args.i c.args.f.now c.requires.function,
      places.placed.limits.text,
    )

pub overflow_cast-result-2 : goal.overflow_cast-result-2
overflow_cast-result-2 c =
    let places = c.args.numbers.now.places.now in
    omega (
      arith,
      function_end places.kind places.objects.now c.args.unit c.args.i c.args.f.now c.requires.function,
      places.placed.limits.text,
      c.function_bytes.ensures,
    )
