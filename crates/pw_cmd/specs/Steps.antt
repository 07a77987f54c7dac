-- The words of this crate's private contracts: a file and a number of counted steps, as two words give them.
use Rattle.std.specs.Prelude.{◌≡◌, ◌≢◌, ℕ, List, Option, Some, None, slice_get, Result, Ok, Err}
use Rattle.pw_base.specs.Name.{IsName}
use Rattle.pw_cmd.specs.declared.words.CommandError.{CommandError}
use Rattle.pw_cmd.specs.declared.words.CommandError.TheVariants.{NoCommand, NoMemory}
use Rattle.pw_cmd.specs.declared.words.Request.{Request}
use Rattle.pw_cmd.specs.Words.{WritesSteps}

-- The bytes name a file, and are no option.
pub record NamesFile (bytes : List ℕ) : Type 0 where
  pub name : IsName bytes
  pub no_option : slice_get bytes 0 ≢ Some 45

-- the name that the bytes are; memory is asked for only where they are one
abbrev pub ReadsFileName : List ℕ → Result (List ℕ) CommandError → Type 0
ReadsFileName bytes (Ok name) = NamesFile bytes × (name ≡ bytes)
ReadsFileName bytes (Err NoCommand) = ¬ NamesFile bytes
ReadsFileName bytes (Err NoMemory) = NamesFile bytes

-- the number of counted steps that a word writes
abbrev pub ReadsSteps : List ℕ → Option ℕ → Type 0
ReadsSteps word (Some steps) = WritesSteps word steps
ReadsSteps word None = (steps : ℕ) → ¬ WritesSteps word steps

-- what a word of this number for the file and another for the steps ask for
abbrev pub ReadsRequest : (file : List ℕ) (number : ℕ) (word : List ℕ) → Result Request CommandError → Type 0
ReadsRequest file number word (Ok request) =
    (request.file ≡ file) × (request.word ≡ number) × NamesFile file × WritesSteps word request.steps
ReadsRequest file number word (Err NoCommand) = (steps : ℕ) → NamesFile file → ¬ WritesSteps word steps
ReadsRequest file number word (Err NoMemory) = NamesFile file × ((steps : ℕ) × WritesSteps word steps)
