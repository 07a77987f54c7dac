use Rattle.pw_image.proofs.Records.{references_have_records}
use Rattle.pw_image.proofs.laws.references_have_records.Goals as goal

pub returns : goal.returns
returns c = references_have_records
