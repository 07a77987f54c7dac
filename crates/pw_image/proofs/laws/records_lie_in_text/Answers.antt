use Rattle.pw_image.proofs.RecordsInText.{records_lie_in_text}
use Rattle.pw_image.proofs.laws.records_lie_in_text.Goals as goal

pub returns : goal.returns
returns c = records_lie_in_text
