-- The unit is the one of this function's contract.
use Rattle.pw_cmd.proofs.primitives.put_image.Given as goal

abbrev pub ghost-image : goal.ghost-image
ghost-image g a = g.unit
