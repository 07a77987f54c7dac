-- One more sound object is pushed.
use Rattle.pw_code.specs.Soundness.{IsSound}
use Rattle.pw_place_tests.proofs.SoundLists.{all_pushed}
use Rattle.pw_place_tests.proofs.limits.many.Goals as goal

pub loop-n-preserved : goal.loop-n-preserved
loop-n-preserved c =
    all_pushed IsSound c.loop-n.objects c.in_ok-compiled.field-0 c.push.new.self c.loop-n.invariant c.in_ok-compiled.ensures
    c.in_ok-push.ensures.ok
