-- Which arguments are the words of a command.
use Rattle.std.specs.Prelude.{◌≡◌, ℕ, ◌<◌, List, length, map, sum_by, All, IsUtf8, Result, Ok, Err, Vec, String, string_bytes}
use Rattle.std.specs.declared.alloc.Global.{Global}
use Rattle.pw_arguments.specs.declared.words.WordsError.{WordsError}
use Rattle.pw_arguments.specs.declared.words.WordsError.TheVariants.{NoWords, NoMemory}

-- The arguments are words: each is text, they are fewer than this limit, and so are their bytes together.
pub record AreWords (limit : ℕ) (arguments : List (List ℕ)) : Type 0 where
  pub few : length arguments < limit
  pub short : sum_by length arguments < limit
  pub texts : All IsUtf8 arguments

-- The words have the bytes of the arguments.
pub record HasWords (limit : ℕ) (arguments words : List (List ℕ)) : Type 0 where
  pub are_words : AreWords limit arguments
  pub same : words ≡ arguments

-- the words that arguments are, or that they are none; memory is asked for only where they are words
abbrev pub GivesWords : ℕ → List (List ℕ) → Result (Vec (String Global) Global) WordsError → Type 0
GivesWords limit arguments (Ok words) = HasWords limit arguments (map string_bytes words.items)
GivesWords limit arguments (Err NoWords) = ¬ AreWords limit arguments
GivesWords limit arguments (Err NoMemory) = AreWords limit arguments
