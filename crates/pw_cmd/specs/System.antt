-- What is known of a run on the system, whose ports report nothing.
use Rattle.std.specs.Prelude.{ℕ, None}
use Rattle.pw_hart.specs.Outside.{Outside}
use Rattle.pw_cmd.specs.Program.{Exits}

-- The program ended so between some states of the outside, of which the system reports nothing.
pub record ExitsSomehow (status : ℕ) : Type 0 where
  pub old : Outside
  pub new : Outside
  pub exits : Exits None old new status
