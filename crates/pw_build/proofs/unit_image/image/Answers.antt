-- The object is the unit's, so its parts are those of the image of the unit's project.
use Rattle.std.proofs.lemmas.Result.{err_from_is_err_and}
use Rattle.pw_build.proofs.Building.{object_is_sound, object_is_whole, refused, fit, built}
use Rattle.pw_build.proofs.unit_image.image.Goals as goal

pub image_parts-requires-clause-sound : goal.image_parts-requires-clause-sound
image_parts-requires-clause-sound g c = object_is_sound c.args.object.unit g.unit c.requires.1.0 c.args.object c.requires.1.1

pub image_parts-requires-clause-whole : goal.image_parts-requires-clause-whole
image_parts-requires-clause-whole g c = object_is_whole c.args.object.unit g.unit c.requires.1.0 c.args.object c.requires.1.1

pub returns-in_err-parts : goal.returns-in_err-parts
returns-in_err-parts g c =
    let p = err_from_is_err_and c.from_residual.result c.from_residual.ensures.1 in
    rw (p.1, p.2)
    (refused c.args.object.unit g.unit c.requires.1.0 c.args.object c.in_err-parts.field-0.0 (g.M.Memory.state c.args.mem.now)
    c.requires.1.1 c.in_err-parts.ensures)

pub place-requires : goal.place-requires
place-requires g c =
    fit c.args.object.unit g.unit c.requires.1.0 c.args.object c.in_ok-parts.parts _ _ c.requires.1.1 c.in_ok-parts.ensures
    c.deref.ensures.value c.deref-2.ensures.value

pub returns : goal.returns
returns g c =
    built c.args.object.unit g.unit c.requires.1.0 c.args.object c.in_ok-parts.parts _ _ (g.M.Memory.state c.place.new.mem)
    c.requires.1.1 c.in_ok-parts.ensures c.deref.ensures.value c.deref-2.ensures.value c.in_ok-place.ensures
