use Rattle.pw_image.proofs.PlacedRows.{rows_are_rows}
use Rattle.pw_image.proofs.laws.rows_are_rows.Goals as goal

pub returns : goal.returns
returns c = rows_are_rows
