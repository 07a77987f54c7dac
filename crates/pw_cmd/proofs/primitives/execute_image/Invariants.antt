-- The unit is the one of this function's contract.
use Rattle.pw_cmd.proofs.primitives.execute_image.Given as goal

abbrev pub ghost-execute : goal.ghost-execute
ghost-execute g a = g.unit
