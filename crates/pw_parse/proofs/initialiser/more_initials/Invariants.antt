-- What is left to read gives what the whole gives.
use Rattle.std.proofs.Common.{◌≡◌, ◌-◌}
use Rattle.pw_grammar.specs.Reading.Declarations.{more_initials}
use Rattle.pw_parse.proofs.initialiser.more_initials.Given as goal

abbrev pub invariant-loop-iteration : goal.invariant-loop-iteration
invariant-loop-iteration l =
    more_initials l.iterations l.fn.found l.fn.cursor ≡ more_initials (l.iterations - l._iteration) l.found l.cursor
