-- Few elements have few bytes.
use Rattle.std.proofs.Common.{arith}
use Rattle.pw_place.proofs.Extents.{few_zeros}
use Rattle.pw_place.proofs.data.data_zeros.Goals as goal

pub all_zeros-requires : goal.all_zeros-requires
all_zeros-requires c = omega (arith, few_zeros c.args.places.now.objects.now, c.args.places.now.placed.limits.elements)
