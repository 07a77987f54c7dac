-- The names stand as the entries do.
use Rattle.std.proofs.Common.{◌∙◌, ap}
use Rattle.std.specs.List.{position_or_len}
use Rattle.std.specs.Str.{bytes_eq}
use Rattle.pw_place.proofs.Sums.{entry_number}
use Rattle.pw_place.proofs.externals.Externals.number.Goals as goal

pub returns : goal.returns
returns c =
    c.number.ensures
    ∙ ap (position_or_len (bytes_eq c.args.name.now)) c.args.self.now.same
    ∙ entry_number c.args.name.now c.args.self.now.entries
