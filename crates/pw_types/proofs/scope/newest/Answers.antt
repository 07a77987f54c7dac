-- The answers to the goals of `newest` in `src/scope.rt`.
use Rattle.std.proofs.Common.{◌∙◌}
use Rattle.pw_types.proofs.NewestLocals as locals
use Rattle.pw_types.proofs.scope.newest.Goals as goal

pub returns : goal.returns
returns c = c.last_named.ensures ∙ locals.newest c.args.name.now c.args.locals.now
