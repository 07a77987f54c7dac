-- The unit is the one whose image the memory holds.
use Rattle.pw_tree.specs.Units.{unit_of}
use Rattle.pw_cmd.proofs.primitives.run_image.Given as goal

abbrev pub ghost-execute_image : goal.ghost-execute_image
ghost-execute_image g a = unit_of a._unit.now
