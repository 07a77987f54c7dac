-- The first regions are made.
use Rattle.std.proofs.Common.{◌≡◌, map, take}
use Rattle.pw_mem.specs.Map.{fresh}
use Rattle.pw_mem.specs.Flat.{region_of}
use Rattle.pw_mem.proofs.flat_region.fresh_regions.Given as goal

abbrev pub invariant-loop-region : goal.invariant-loop-region
invariant-loop-region l = map region_of l.made.items ≡ map fresh (take l.region-index l.regions)
