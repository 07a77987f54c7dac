-- What is left of the list finds what the whole list does.
use Rattle.std.proofs.Common.{◌≡◌, ◌≤◌, ◌+◌, length}
use Rattle.pw_grammar.specs.Reading.Limits as spec
use Rattle.pw_parse.specs.Steps.Walk.{walk_of}
use Rattle.pw_parse.proofs.limits.first_late.Given as goal

abbrev pub invariant-loop-rest : goal.invariant-loop-rest
invariant-loop-rest l = (spec.first_late (walk_of l.stand) l.rest ≡ spec.first_late (spec.anew 0) l.fn.tokens)
    × (l.stand.at + length l.rest ≡ length l.fn.tokens) × (l.stand.depth ≤ l.stand.at) × (l.stand.start ≤ l.stand.at)

abbrev pub decreases-loop-rest : goal.decreases-loop-rest
decreases-loop-rest l = length l.rest
