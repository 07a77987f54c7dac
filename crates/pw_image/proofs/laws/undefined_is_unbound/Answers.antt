use Rattle.pw_image.proofs.UnboundNames.{undefined_is_unbound}
use Rattle.pw_image.proofs.laws.undefined_is_unbound.Goals as goal

pub returns : goal.returns
returns c = undefined_is_unbound
