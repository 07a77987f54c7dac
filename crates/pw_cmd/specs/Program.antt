-- What the program ends with: the status of `top` for the words after its name, or that of a command line that gives none.
use Rattle.std.specs.Prelude.{◌≡◌, ℕ, ◌^◌, ◌⊎◌, List, [], Option, Err}
use Rattle.pw_arguments.specs.Arguments.{AreAfterName}
use Rattle.pw_arguments.specs.Words.{AreWords}
use Rattle.pw_cmd.specs.declared.answer.Stop.{Stop}
use Rattle.pw_cmd.specs.declared.answer.Stop.TheVariants.{Usage, NoMemory}
use Rattle.pw_cmd.specs.Answer.{message_line, status_of}
use Rattle.pw_cmd.specs.Message.{Reports}
use Rattle.pw_hart.specs.Outside.{Outside, with_messages}
use Rattle.pw_cmd.specs.Answers.{Answers}
use Rattle.pw_cmd.specs.Shows.{ShowsAll}

-- the words of a command are fewer than this, and so are their bytes together
abbrev pub words_end : ℕ
words_end = 2 ^ 31

-- The arguments are words, and the status is that of `top` for them.
pub record HasAnswered (arguments : List (List ℕ)) (old new : Outside) (status : ℕ) : Type 0 where
  pub are_words : AreWords words_end arguments
  pub answers : Answers arguments old new status
  pub shows : ShowsAll arguments old new status

-- No command was begun, for this reason: it is reported, the status is the reason's, or 7 where that failed, and all else is
-- as before.
pub record HasNotBegun (why : Stop) (old new : Outside) (status : ℕ) : Type 0 where
  pub stays : new ≡ with_messages old new.messages
  pub reported : Reports (message_line [] (Err why)) (status_of (Err why)) old.messages new.messages status

-- how the program ends for the arguments after its name: as the command does; with the line of usage where they are no words;
-- or out of memory, which is asked for only where they are words
abbrev pub Ends : List (List ℕ) → Outside → Outside → ℕ → Type 0
Ends arguments old new status =
    HasAnswered arguments old new status
    ⊎ ((¬ AreWords words_end arguments × HasNotBegun Usage old new status)
    ⊎ (AreWords words_end arguments × HasNotBegun NoMemory old new status))

-- The arguments after the program's name were read, and the program ended so for them.
pub record HasEnded (arguments : Option (List (List ℕ))) (old new : Outside) (status : ℕ) : Type 0 where
  pub found : List (List ℕ)
  pub after_name : AreAfterName arguments found
  pub ends : Ends found old new status

-- how the program ends for its arguments, the first of them its name; or memory to read them was refused
abbrev pub Exits : Option (List (List ℕ)) → Outside → Outside → ℕ → Type 0
Exits arguments old new status =
    HasEnded arguments old new status ⊎ HasNotBegun NoMemory old new status
