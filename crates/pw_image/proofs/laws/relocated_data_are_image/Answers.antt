use Rattle.pw_image.proofs.RelocatedData.{relocated_data_are_image}
use Rattle.pw_image.proofs.laws.relocated_data_are_image.Goals as goal

pub returns : goal.returns
returns c = relocated_data_are_image
