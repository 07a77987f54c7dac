-- The answers to the goals of `laid_parts_stand_at_their_places` in `src/file_laws.rt`.
use Rattle.pw_base.proofs.LaidParts.{laid_parts_stand}
use Rattle.pw_base.proofs.file_laws.laid_parts_stand_at_their_places.Goals as goal

pub returns : goal.returns
returns c = laid_parts_stand
