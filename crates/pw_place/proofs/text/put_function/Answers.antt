-- A function stands within the text.
use Rattle.std.proofs.Common.{arith}
use Rattle.pw_place.proofs.Extents.{function_end}
use Rattle.pw_place.proofs.text.put_function.Goals as goal

pub overflow_add-at : goal.overflow_add-at
overflow_add-at c =
    let end =
    function_end c.args.places.now.kind c.args.places.now.objects.now c.args.unit c.args.i c.args.f.now c.requires.function in
    omega (arith, c.function_start-at.ensures, c.args.places.now.placed.limits.text)

pub put_code-requires-clause-place : goal.put_code-requires-clause-place
put_code-requires-clause-place c =
    let end =
    function_end c.args.places.now.kind c.args.places.now.objects.now c.args.unit c.args.i c.args.f.now c.requires.function in
    rw c.as_slice.ensures (omega (arith, c.function_start-at.ensures, c.args.places.now.placed.limits.text))
