use Rattle.pw_image.proofs.Slots.{slots_stand}
use Rattle.pw_image.proofs.laws.slots_stand.Goals as goal

pub returns : goal.returns
returns c = slots_stand
