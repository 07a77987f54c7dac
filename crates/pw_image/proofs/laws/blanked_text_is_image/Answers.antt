use Rattle.pw_image.proofs.Blanking.{blanked_text_is_image}
use Rattle.pw_image.proofs.laws.blanked_text_is_image.Goals as goal

pub returns : goal.returns
returns c = blanked_text_is_image
