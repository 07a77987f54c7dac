-- What each instruction leaves adds up.
use Rattle.pw_hart.proofs.Runs.{follows_none, follows_more, answers_end, answers_limit}
use Rattle.pw_hart.proofs.hart.Hart.run.Goals as goal

pub loop-fetched-init : goal.loop-fetched-init
loop-fetched-init g c = follows_none _

pub returns-in-Some : goal.returns-in-Some
returns-in-Some g c =
    answers_end c.loop-fetched._fetched c.args.limit _ _ _ c.loop-fetched.used_up c.carry_out.new.used_up c.in-Some.end
    c.loop-fetched-test.true c.loop-fetched.invariant c.in-Some.ensures

pub loop-fetched-preserved : goal.loop-fetched-preserved
loop-fetched-preserved g c = follows_more c.loop-fetched._fetched _ _ _ _ _ c.loop-fetched.invariant c.in_default.ensures

pub returns : goal.returns
returns g c =
    answers_limit c.loop-fetched._fetched c.args.limit _ _ c.loop-fetched.used_up c.loop-fetched.auto._fetched-end
    c.loop-fetched-test.false c.loop-fetched.invariant
