use Rattle.pw_image.proofs.PlacedRows.{rows_keep_levels}
use Rattle.pw_image.proofs.laws.rows_keep_levels.Goals as goal

pub returns : goal.returns
returns c = rows_keep_levels
