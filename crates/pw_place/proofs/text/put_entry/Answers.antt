-- A library has no entry.
use Rattle.pw_place.proofs.Written.{no_entry}
use Rattle.pw_place.proofs.text.put_entry.Goals as goal

pub returns-in-Library : goal.returns-in-Library
returns-in-Library c = no_entry c.args.places.now.kind c.args.places.now.objects.now c.args.words.now c.in-Library.is
