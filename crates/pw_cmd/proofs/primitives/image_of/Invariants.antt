-- The unit is the one that was compiled.
use Rattle.pw_tree.specs.Units.{unit_of}
use Rattle.pw_cmd.proofs.primitives.image_of.Given as goal

abbrev pub ghost-put_image : goal.ghost-put_image
ghost-put_image g a = unit_of a._unit.now
