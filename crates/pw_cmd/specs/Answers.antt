-- What the call that the program is answers and leaves: the words' command does its stages, and its answer is reported.
use Rattle.std.specs.Prelude.{ℕ, List}
use Rattle.pw_hart.specs.Outside.{Outside}
use Rattle.pw_cmd.specs.Answer.{Answer, message_line, status_of}
use Rattle.pw_cmd.specs.Message.{Reports, unreported}
use Rattle.pw_cmd.specs.Commands.{performs}

-- The words are carried out with this answer, and it is reported: its line stands on the messages and the status is its own,
-- or the reporting failed and the status is 7.
pub record Answers (words : List (List ℕ)) (old new : Outside) (status : ℕ) : Type 0 where
  pub answer : Answer
  pub performed : performs words old (unreported old new) answer
  pub reported : Reports (message_line words answer) (status_of answer) old.messages new.messages status
