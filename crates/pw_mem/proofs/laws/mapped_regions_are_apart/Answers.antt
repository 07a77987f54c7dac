-- Regions that can be mapped have no address in common once they are mapped.
use Rattle.pw_mem.proofs.Apart.{mapped_regions_are_apart}
use Rattle.pw_mem.proofs.laws.mapped_regions_are_apart.Goals as goal

pub returns : goal.returns
returns c = mapped_regions_are_apart
