-- What stands at a place of a text: a piece, judged with what follows it, or a fault.
use Rattle.std.specs.Prelude.{◌≡◌, ◌≢◌, ℕ, ◌<◌, ◌≤◌, Bool, true, false, not, ◌&&◌, ◌||◌, nat_eq, ◌⊎◌, [], ◌∷◌, ◌++◌, length, slice_index, ⊤}
use Rattle.std.specs.List.{list_all}
use Rattle.pw_base.specs.Limits.{name_bytes}
use Rattle.pw_lex.specs.declared.bytes.Class.TheVariants.{White, Letter, Digit}
use Rattle.pw_lex.specs.declared.token.TokenKind.{TokenKind}
use Rattle.pw_lex.specs.declared.number.Radix.{Radix}
use Rattle.pw_lex.specs.Bytes.{Text, BeginsWith, class_of, run}
use Rattle.pw_lex.specs.Number.{IsConstant, value, limit}
use Rattle.pw_lex.specs.Token.{IsToken}

-- a white byte, a comment without its marks (C, 6.4.9), or a token
pub data Piece : Type 0 where
  white : (byte : ℕ) → Piece
  line_comment : (body : Text) → Piece
  block_comment : (body : Text) → Piece
  token : (bytes : Text) (kind : TokenKind) → Piece

-- // and /* are 47 47 and 47 42; */ is 42 47
abbrev pub bytes_of : Piece → Text
bytes_of (white byte) = byte ∷ []
bytes_of (line_comment body) = 47 ∷ 47 ∷ body
bytes_of (block_comment body) = 47 ∷ 42 ∷ (body ++ 42 ∷ 47 ∷ [])
bytes_of (token bytes kind) = bytes

-- the text has a */
abbrev pub closes : Text → Bool
closes [] = false
closes (byte ∷ text) = (nat_eq byte 42 && nat_eq (slice_index text 0) 47) || closes text

-- whether the byte does not end a line
abbrev pub not_newline : ℕ → Bool
not_newline byte = not (nat_eq byte 10)

-- the text is empty or goes on with a byte 10
abbrev pub EndsLine : Text → Type 0
EndsLine [] = ⊤
EndsLine (byte ∷ _) = byte ≡ 10

-- the text begins with // or /*
abbrev pub OpensComment : Text → Type 0
OpensComment text = (rest : Text) × ((text ≡ 47 ∷ 47 ∷ rest) ⊎ (text ≡ 47 ∷ 42 ∷ rest))

-- /* with no */ after it
abbrev pub IsOpenComment : Text → Type 0
IsOpenComment text = (body : Text) × (text ≡ 47 ∷ 42 ∷ body) × (closes body ≡ false)

-- a run that begins with a digit and is no integer constant
abbrev pub IsBadNumber : Text → Type 0
IsBadNumber text =
    BeginsWith Digit text × ((radix : Radix) (digits : Text) (has_u : Bool) → ¬ (IsConstant (run text) radix digits has_u))

-- a run that is an integer constant above the limit of its type
abbrev pub IsTooWide : Text → Type 0
IsTooWide text =
    BeginsWith Digit text
    × ((radix : Radix) × (digits : Text) × (has_u : Bool) × IsConstant (run text) radix digits has_u × (limit radix has_u < value radix digits))

-- a run that begins with a letter and is longer than a name may be
abbrev pub IsLongName : Text → Type 0
IsLongName text = BeginsWith Letter text × (name_bytes < length (run text))

-- The text begins with the token `bytes`: no comment and no faulty run begins there, and no longer token
-- (C, 6.4, "the longest sequence of characters that could constitute" one).
pub record BeginsToken (text bytes : Text) (kind : TokenKind) : Type 0 where
  pub token : IsToken bytes kind
  pub longest : (longer rest : Text) (other : TokenKind) → text ≡ longer ++ rest → IsToken longer other →
      length longer ≤ length bytes
  pub no_comment : ¬ (OpensComment text)
  pub no_bad_number : ¬ (IsBadNumber text)
  pub no_wide_number : ¬ (IsTooWide text)
  pub no_long_name : ¬ (IsLongName text)

-- the piece stands before `rest`; a comment goes up to the next byte 10 or the end, or the next */
abbrev pub StandsBefore : Piece → Text → Type 0
StandsBefore (white byte) rest = class_of byte ≡ White
StandsBefore (line_comment body) rest = (list_all not_newline body ≡ true) × EndsLine rest
StandsBefore (block_comment body) rest = closes (body ++ 42 ∷ []) ≡ false
StandsBefore (token bytes kind) rest = BeginsToken (bytes ++ rest) bytes kind

-- there is a byte, and neither a piece nor another fault begins with it
pub record IsBadByte (text : Text) : Type 0 where
  pub some : text ≢ []
  pub no_piece : (piece : Piece) (rest : Text) → text ≡ bytes_of piece ++ rest → ¬ (StandsBefore piece rest)
  pub no_comment : ¬ (IsOpenComment text)
  pub no_bad_number : ¬ (IsBadNumber text)
  pub no_wide_number : ¬ (IsTooWide text)
  pub no_long_name : ¬ (IsLongName text)
