-- What is left of the list gives what the whole list gives.
use Rattle.std.proofs.Common.{◌≡◌, drop, map}
use Rattle.pw_lex.specs.Reading.{number_from}
use Rattle.pw_lex.proofs.spellings.number_of.Given as goal

abbrev pub invariant-loop-number : goal.invariant-loop-number
invariant-loop-number l =
    number_from l.number (map (λ entry. entry.now) (drop l.number l.list)) l.text ≡ number_from 0 (map (λ entry. entry.now) l.list) l.text
