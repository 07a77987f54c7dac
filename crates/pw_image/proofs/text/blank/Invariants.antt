-- The records and levels that are left blank the words so far as all of them do the words of the start.
use Rattle.std.proofs.Common.{◌≡◌, map}
use Rattle.std.specs.Option.{is_some}
use Rattle.pw_image.specs.Blanked.{blanked}
use Rattle.pw_image.proofs.text.blank.Given as goal

abbrev pub invariant-loop-record : goal.invariant-loop-record
invariant-loop-record l =
    blanked l.words l.record-iterator.a.rest.now (map (λ level. is_some level) l.record-iterator.b.rest.now)
    ≡ blanked l.fn.words l.records (map (λ level. is_some level) l.levels)
