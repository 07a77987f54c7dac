-- The answers to the goals of `Names::number` in `src/declared_names.rt`.
use Rattle.std.proofs.Common.{◌∙◌, sym, ap}
use Rattle.pw_types.specs.Scopes.{number_of}
use Rattle.pw_types.proofs.Keys.{bytes}
use Rattle.pw_types.proofs.NameNumbers.{placed, lacking}
use Rattle.pw_types.proofs.declared_names.Names.number.Goals as goal

pub returns-in-Some : goal.returns-in-Some
returns-in-Some c =
    placed bytes c.args.name.now c.self.inside.set.keys c.in-Some.number (sym c.in-Some.ensures.index)
    ∙ ap (number_of c.args.name.now) c.self.view_is

pub returns-in-None : goal.returns-in-None
returns-in-None c =
    c.len.ensures.len
    ∙ lacking bytes c.args.name.now c.self.inside.set.keys (sym c.in-None.ensures.index)
    ∙ ap (number_of c.args.name.now) c.self.view_is
