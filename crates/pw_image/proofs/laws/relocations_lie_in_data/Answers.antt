use Rattle.pw_image.proofs.RelocationsInData.{relocations_lie_in_data}
use Rattle.pw_image.proofs.laws.relocations_lie_in_data.Goals as goal

pub returns : goal.returns
returns c = relocations_lie_in_data
