-- The answer to the goal of `NameList::contains` in `src/name_list.rt`.
use Rattle.std.proofs.Common.{◌∙◌, ap}
use Rattle.std.specs.List.{list_any}
use Rattle.std.specs.Str.{bytes_eq}
use Rattle.pw_place.proofs.NameKeys.{bytes, among}
use Rattle.pw_place.proofs.name_list.NameList.contains.Goals as goal

pub returns : goal.returns
returns c =
    c.contains.ensures
    ∙ among bytes c.args.name.now c.self.inside.set.keys
    ∙ ap (list_any (bytes_eq c.args.name.now)) c.self.view_is
