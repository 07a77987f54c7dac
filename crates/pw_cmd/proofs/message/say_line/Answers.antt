-- The sentence, the end of the line, and the flush.
use Rattle.pw_cmd.proofs.Texts.{put_more}
use Rattle.pw_cmd.proofs.Lines.{line_ends}
use Rattle.pw_cmd.proofs.message.say_line.Goals as goal

pub returns : goal.returns
returns g c =
    line_ends _ _ _ _ c.flush.result (put_more _ _ _ _ _ c.in_ok-say_answer.ensures c.in_ok-put.ensures.ok) c.flush.ensures.ok c.flush.ensures.err
