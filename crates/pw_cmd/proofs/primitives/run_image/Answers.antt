-- The run's end, what it means, and the answer of it.
use Rattle.pw_cmd.proofs.primitives.run_image.Goals as goal

pub returns : goal.returns
returns g c = λ store messages.
    let run = rw c.as_slice.ensures at c.execute_image-ended.ensures in
    record {
      ended = c.execute_image-ended.result;
      executes = run.executes store messages;
      meant = run.meant store messages;
      result_is = c.ending_of.ensures;
    }
