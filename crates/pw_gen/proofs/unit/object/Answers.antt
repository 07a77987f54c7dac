-- The object of the scheme is sound.
use Rattle.pw_tree.specs.Units.{unit_of}
use Rattle.pw_gen.proofs.SoundObject.{sound_result}
use Rattle.pw_gen.proofs.unit.object.Goals as goal

pub returns-clause-sound : goal.returns-clause-sound
returns-clause-sound c = sound_result c.args.name.now (unit_of c.args.unit.now) c.requires c.compile.result c.compile.ensures
