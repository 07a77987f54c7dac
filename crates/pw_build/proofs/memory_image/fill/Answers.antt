-- The text and the data are put into fresh regions.
use Rattle.std.proofs.Common.{◌∙◌}
use Rattle.pw_build.proofs.Putting.{filled}
use Rattle.pw_build.proofs.memory_image.fill.Goals as goal

pub returns : goal.returns
returns g c =
    c.seal.ensures
    ∙ filled c.args.text.now c.args.data.now _ _ _ c.put.result c.put-2.result c.requires.fit c.requires.fresh c.put.ensures c.put-2.ensures
