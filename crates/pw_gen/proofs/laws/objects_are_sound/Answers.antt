use Rattle.pw_gen.proofs.SoundObject.{sound_object}
use Rattle.pw_gen.proofs.laws.objects_are_sound.Goals as goal

pub returns : goal.returns
returns c = sound_object
