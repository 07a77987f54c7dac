-- What is left of the list finds what the whole list does.
use Rattle.std.proofs.Common.{◌≡◌, ◌≤◌, ◌+◌, length}
use Rattle.pw_grammar.specs.Reading.Limits as spec
use Rattle.pw_parse.proofs.limits.first_nested.Given as goal

abbrev pub invariant-loop-rest : goal.invariant-loop-rest
invariant-loop-rest l = (spec.first_nested l.at l.depth l.rest ≡ spec.first_nested 0 0 l.fn.tokens)
    × (l.at + length l.rest ≡ length l.fn.tokens) × (l.depth ≤ l.at)

abbrev pub decreases-loop-rest : goal.decreases-loop-rest
decreases-loop-rest l = length l.rest
