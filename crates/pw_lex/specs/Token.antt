-- The classes of tokens (C, 6.4).
use Rattle.std.specs.Prelude.{◌≡◌, ℕ, ◌≤◌, true, length}
use Rattle.std.specs.List.{list_all}
use Rattle.pw_base.specs.Limits.{name_bytes}
use Rattle.pw_lex.specs.declared.bytes.Class.TheVariants.{Letter}
use Rattle.pw_lex.specs.declared.token.TokenKind.{TokenKind}
use Rattle.pw_lex.specs.declared.token.TokenKind.TheVariants.{Word, Number, Char, Keyword, Punct}
use Rattle.pw_lex.specs.Bytes.{Text, BeginsWith, is_run_byte}
use Rattle.pw_lex.specs.Spellings.{keywords, punctuators, IsListed}
use Rattle.pw_lex.specs.Number.{IsNumber}
use Rattle.pw_lex.specs.Character.{IsCharacter}

-- a name: a letter, then letters and digits, at most as many bytes as a name may have, and no keyword (C, 6.4.2.1)
pub record IsWord (bytes : Text) : Type 0 where
  pub begins : BeginsWith Letter bytes
  pub goes_on : list_all is_run_byte bytes ≡ true
  pub within_limit : length bytes ≤ name_bytes
  pub no_keyword : (number : ℕ) → ¬ (IsListed keywords bytes number)

-- the bytes are a token of this kind
abbrev pub IsToken : Text → TokenKind → Type 0
IsToken bytes (Word name) = IsWord bytes × (name ≡ bytes)
IsToken bytes (Number value unsigned) = IsNumber bytes value unsigned
IsToken bytes (Char value) = IsCharacter bytes value
IsToken bytes (Keyword number) = IsListed keywords bytes number
IsToken bytes (Punct number) = IsListed punctuators bytes number
