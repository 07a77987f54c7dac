-- The operand so far, after the operators that are left, is the whole.
use Rattle.std.proofs.Common.{◌≡◌, ◌-◌, ◌≤◌, length}
use Rattle.pw_grammar.specs.Reading.Expressions.{under_operators}
use Rattle.pw_parse.proofs.operator.wrapped.Given as goal

abbrev pub invariant-inner : goal.invariant-inner
invariant-inner l =
    (under_operators (l.fn.at - length l.fn.ops) l.last l.fn.ops l.fn.operand ≡ under_operators (l.at - length l.ops) l.last l.ops l.whole)
    × (length l.ops ≤ l.at)

abbrev pub decreases-inner : goal.decreases-inner
decreases-inner l = length l.ops
