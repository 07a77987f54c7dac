use Rattle.pw_image.proofs.KeptRows.{rows_find_kept}
use Rattle.pw_image.proofs.laws.rows_find_kept.Goals as goal

pub returns : goal.returns
returns c = rows_find_kept
