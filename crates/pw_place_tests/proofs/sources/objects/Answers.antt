-- One more sound object is pushed.
use Rattle.pw_code.specs.Soundness.{IsSound}
use Rattle.pw_place_tests.proofs.SoundLists.{all_pushed}
use Rattle.pw_place_tests.proofs.sources.objects.Goals as goal

pub loop-name-preserved : goal.loop-name-preserved
loop-name-preserved c =
    all_pushed IsSound c.loop-name.objects c.in_ok-compiled.field-0 c.push.new.self c.loop-name.invariant c.in_ok-compiled.ensures
    c.in_ok-push.ensures.ok
