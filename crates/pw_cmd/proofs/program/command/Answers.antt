-- The words have the bytes of the arguments, so what `top` answers for them is the answer for the arguments.
use Rattle.std.proofs.Common.{ap, ◌∙◌}
use Rattle.pw_cmd.specs.Words.{texts}
use Rattle.pw_cmd.proofs.Programs.{answered}
use Rattle.pw_cmd.proofs.program.command.Goals as goal

pub returns-in-Ok : goal.returns-in-Ok
returns-in-Ok g c =
    answered _ _ _ _ _ (ap texts c.as_slice.ensures.value ∙ c.in-Ok.ensures.same) c.in-Ok.ensures.are_words
    c.top.ensures.answers
