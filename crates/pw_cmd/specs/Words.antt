-- Which words ask for which command.
use Rattle.std.specs.Prelude.{◌≡◌, ◌≢◌, ℕ, ◌+◌, ◌*◌, ◌-◌, ◌<◌, ◌≤◌, ◌⊎◌, true, List, [], ◌∷◌, length, map, codes, slice_get, Some, Result, Ok, Err, String}
use Rattle.std.specs.List.{fold, list_all}
use Rattle.std.specs.String.{string_bytes}
use Rattle.std.specs.declared.alloc.Global.{Global}
use Rattle.pw_base.specs.Limits.{default_steps, given_steps}
use Rattle.pw_base.specs.Name.{IsName, is_from}
use Rattle.pw_cmd.specs.declared.words.CommandError.{CommandError}
use Rattle.pw_cmd.specs.declared.words.CommandError.TheVariants.{NoCommand, NoMemory}
use Rattle.pw_cmd.specs.declared.words.Request.{Request}

-- the bytes of each word
abbrev pub texts : List (String Global) → List (List ℕ)
texts words = map string_bytes words

-- the number that decimal digits write, the first of them the highest
abbrev pub decimal_value : List ℕ → ℕ
decimal_value digits = fold (λ value digit. 10 * value + (digit - 48)) 0 digits

-- a number of counted steps is written with at most so many digits
abbrev pub steps_digits : ℕ
steps_digits = 10

-- The word is 1 to 10 decimal digits, and writes a number of counted steps that may be given.
pub record WritesSteps (word : List ℕ) (steps : ℕ) : Type 0 where
  pub some : 0 < length word
  pub short : length word ≤ steps_digits
  pub digits : list_all (is_from 48 57) word ≡ true
  pub value : steps ≡ decimal_value word
  pub allowed : steps ≤ given_steps

-- the words are `one FILE`, so that the steps are those of a run that gives none
abbrev pub SaysFile : List (List ℕ) → Request → Type 0
SaysFile words request = (words ≡ codes "one" ∷ request.file ∷ []) × (request.word ≡ 1) × (request.steps ≡ default_steps)

-- or `one FILE --steps N`
abbrev pub SaysStepsLast : List (List ℕ) → Request → Type 0
SaysStepsLast words request = (steps : List ℕ) ×
    (words ≡ codes "one" ∷ request.file ∷ codes "--steps" ∷ steps ∷ []) × (request.word ≡ 1) × WritesSteps steps request.steps

-- or `one --steps N FILE`
abbrev pub SaysStepsFirst : List (List ℕ) → Request → Type 0
SaysStepsFirst words request = (steps : List ℕ) ×
    (words ≡ codes "one" ∷ codes "--steps" ∷ steps ∷ request.file ∷ []) × (request.word ≡ 3) × WritesSteps steps request.steps

-- The words ask for this: FILE is a name that begins with no dash, so that no option is taken for a file.
pub record AsksForOne (words : List (List ℕ)) (request : Request) : Type 0 where
  pub spelled : SaysFile words request ⊎ (SaysStepsLast words request ⊎ SaysStepsFirst words request)
  pub name : IsName request.file
  pub no_option : slice_get request.file 0 ≢ Some 45

-- what the words ask for, or that they are of no command; memory is asked for only where they are of one
abbrev pub ReadsCommand : List (List ℕ) → Result Request CommandError → Type 0
ReadsCommand words (Ok request) = AsksForOne words request
ReadsCommand words (Err NoCommand) = (request : Request) → ¬ AsksForOne words request
ReadsCommand words (Err NoMemory) = (request : Request) × AsksForOne words request
