use Rattle.pw_image.proofs.TextImage.{text_is_image}
use Rattle.pw_image.proofs.laws.text_is_image.Goals as goal

pub returns : goal.returns
returns c = text_is_image
