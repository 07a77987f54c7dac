-- What was read, with what is still read from the bytes left, is all.
use Rattle.std.proofs.Common.{◌≡◌, ◌≤◌, ◌-◌, length}
use Rattle.pw_module.specs.Reading.{many, remaining, dependency_at}
use Rattle.pw_deps.proofs.Loop.{preceded_by}
use Rattle.pw_deps.proofs.repeat.deps.Given as goal

abbrev pub invariant-loop-index : goal.invariant-loop-index
invariant-loop-index l =
    record {
      read : preceded_by l.numbers (many (dependency_at l.total) l.index (l.count - l.index) (remaining 0 l.left)) ≡ many (dependency_at l.total) 0 l.count (remaining 0 l.fn.rest);
      shorter : length l.left ≤ length l.fn.rest;
    }
