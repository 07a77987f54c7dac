-- How the code reads a text, from left to right; the laws between it and the definitions stand in proofs/.
use Rattle.std.specs.Prelude.{ℕ, ◌+◌, ◌^◌, Bool, ◌&&◌, ◌||◌, if◌then◌else◌, nat_eq, nat_lt, nat_le, List, [], ◌∷◌, length, take, drop, slice_index, Option, Some, None, Result, Ok, Err}
use Rattle.std.specs.List.{prefix_len}
use Rattle.std.specs.Option.{option_map}
use Rattle.std.specs.Str.{bytes_eq}
use Rattle.pw_base.specs.Limits.{name_bytes}
use Rattle.pw_lex.specs.declared.bytes.Class.{Class}
use Rattle.pw_lex.specs.declared.bytes.Class.TheVariants.{White, Letter, Digit, Quote, Other}
use Rattle.pw_lex.specs.declared.number.Radix.{Radix}
use Rattle.pw_lex.specs.declared.number.Radix.TheVariants.{Decimal, Hexadecimal}
use Rattle.pw_lex.specs.declared.number.Constant.{Constant}
use Rattle.pw_lex.specs.declared.prefix.Prefix.{Prefix}
use Rattle.pw_lex.specs.declared.prefix.Prefix.TheVariants.{Gap, Token}
use Rattle.pw_lex.specs.declared.token.Token as a_token
use Rattle.pw_lex.specs.declared.token.TokenKind.{TokenKind}
use Rattle.pw_lex.specs.declared.token.TokenKind.TheVariants.{Word, Number, Char, Keyword, Punct}
use Rattle.pw_lex.specs.declared.error.LexError.{LexError}
use Rattle.pw_lex.specs.declared.error.LexError.TheVariants.{BadByte, OpenComment, BadNumber, TooWide, LongName}
use Rattle.pw_lex.specs.Bytes.{Text, class_of, run}
use Rattle.pw_lex.specs.Spellings.{keywords, punctuators}
use Rattle.pw_lex.specs.Number.{is_digit_in, has_leading_zero, suffix_has_u, value, limit, is_unsigned}
use Rattle.pw_lex.specs.Character.{is_plain, escaped}
use Rattle.pw_lex.specs.Fault.{not_newline}

-- ---- lists of spellings

-- the number of a text in a list, where the first entry has the number `first`
abbrev pub number_from : ℕ → List Text → Text → Option ℕ
number_from first [] text = None
number_from first (entry ∷ list) text = if bytes_eq entry text then Some first else number_from (first + 1) list text

-- the number of the punctuator that the first `len` bytes are
abbrev pub punctuator_of : ℕ → Text → Option ℕ
punctuator_of len text = if nat_le len (length text) then number_from 0 punctuators (take len text) else None

-- the punctuator with its length, or another one
abbrev pub with_length : Option ℕ → ℕ → Option (ℕ × ℕ) → Option (ℕ × ℕ)
with_length None len other = other
with_length (Some number) len other = Some (number, len)

-- the number and the length of the longest punctuator that the text begins with
unfoldable pub longest_punctuator : Text → Option (ℕ × ℕ)
longest_punctuator text =
    with_length (punctuator_of 3 text) 3 (with_length (punctuator_of 2 text) 2 (with_length (punctuator_of 1 text) 1 None))

-- ---- what begins a text

-- the length up to and with the first */
abbrev pub close_from : ℕ → Text → Option ℕ
close_from at [] = None
close_from at (byte ∷ text) =
    if nat_eq byte 42 && nat_eq (slice_index text 0) 47 then Some (at + 2) else close_from (at + 1) text

-- a text that begins with /*, by the length up to its */
abbrev pub block_comment : ℕ → Option ℕ → Result Prefix LexError
block_comment at None = Err (OpenComment at)
block_comment at (Some len) = Ok (Gap (2 + len))

-- a text that begins with no comment, by the longest punctuator that it begins with
abbrev pub punctuator : ℕ → Option (ℕ × ℕ) → Result Prefix LexError
punctuator at None = Err (BadByte at)
punctuator at (Some entry) = Ok (Token (Punct entry.0) entry.1)

-- a text whose first byte is no white space, letter, digit or quote
unfoldable pub other : ℕ → Text → Result Prefix LexError
other at text =
    if nat_eq (slice_index text 0) 47 && nat_eq (slice_index text 1) 47 then Ok (Gap (prefix_len not_newline text))
    else (if nat_eq (slice_index text 0) 47 && nat_eq (slice_index text 1) 42 then block_comment at (close_from 0 (drop 2 text))
    else punctuator at (longest_punctuator text))

-- the value and the length of a character constant
unfoldable pub character_of : Text → Option (ℕ × ℕ)
character_of text =
    if nat_eq (slice_index text 1) 92 && nat_eq (slice_index text 3) 39 then option_map (λ value. (value, 4)) (escaped (slice_index text 2))
    else (if is_plain (slice_index text 1) && nat_eq (slice_index text 2) 39 then Some (slice_index text 1, 3) else None)

-- a text that begins with a quote, by its character constant
abbrev pub character : ℕ → Option (ℕ × ℕ) → Result Prefix LexError
character at None = Err (BadByte at)
character at (Some found) = Ok (Token (Char found.0) found.1)

-- the base of a run that begins with a digit
abbrev pub radix_of : Text → Radix
radix_of text =
    if nat_eq (slice_index text 0) 48 && (nat_eq (slice_index text 1) 120 || nat_eq (slice_index text 1) 88) then Hexadecimal else Decimal

-- the length of the mark of the base
abbrev pub mark_len : Radix → ℕ
mark_len Decimal = 0
mark_len Hexadecimal = 2

-- a value of 64 bits
abbrev pub word_value : ℕ → Option ℕ
word_value value = if nat_lt value (2 ^ 64) then Some value else None

-- the constant of what stands after the mark of the base
unfoldable pub constant_in : Radix → Text → Option Constant
constant_in radix after =
    let len = prefix_len (is_digit_in radix) after in
    if nat_eq len 0 || has_leading_zero radix (take len after) then None
    else option_map (λ has_u. record { radix = radix; value = word_value (value radix (take len after)); has_u = has_u }) (suffix_has_u (drop len after))

-- the constant of a whole run
abbrev pub constant_of : Text → Option Constant
constant_of bytes = constant_in (radix_of bytes) (drop (mark_len (radix_of bytes)) bytes)

-- the token of a constant, by its value
abbrev pub number_kind : ℕ → Radix → Bool → Option ℕ → Result TokenKind LexError
number_kind at radix has_u None = Err (TooWide at)
number_kind at radix has_u (Some value) =
    if nat_le value (limit radix has_u) then Ok (Number value (is_unsigned radix has_u value)) else Err (TooWide at)

-- the token of a run that begins with a digit, by its constant
abbrev pub number : ℕ → Option Constant → Result TokenKind LexError
number at None = Err (BadNumber at)
number at (Some constant) = number_kind at constant.radix constant.has_u constant.value

-- the token of a run that begins with a letter, by its number among the keywords
abbrev pub word : Text → Option ℕ → TokenKind
word bytes None = Word bytes
word bytes (Some number) = Keyword number

-- the token of a run that begins with a letter, unless the run is too long
unfoldable pub word_in : ℕ → Text → Result TokenKind LexError
word_in at bytes = if nat_lt name_bytes (length bytes) then Err (LongName at) else Ok (word bytes (number_from 0 keywords bytes))

-- a token of the whole run
abbrev pub run_token : ℕ → Result TokenKind LexError → Result Prefix LexError
run_token len (Err fault) = Err fault
run_token len (Ok kind) = Ok (Token kind len)

-- what begins a text whose first byte has this class
abbrev pub prefix_in : Class → ℕ → Text → Result Prefix LexError
prefix_in White at text = Ok (Gap 1)
prefix_in Letter at text = run_token (length (run text)) (word_in at (run text))
prefix_in Digit at text = run_token (length (run text)) (number at (constant_of (run text)))
prefix_in Quote at text = character at (character_of text)
prefix_in Other at text = other at text

-- what stands at the beginning of a text that has a byte, at the place `at`
unfoldable pub prefix : ℕ → Text → Result Prefix LexError
prefix at text = prefix_in (class_of (slice_index text 0)) at text

-- its length in bytes
abbrev pub len_of : Prefix → ℕ
len_of (Gap len) = len
len_of (Token kind len) = len

-- the token that stands at `at` on a line, if it is one
abbrev pub tokens_of_prefix : ℕ → ℕ → Prefix → List a_token.Token
tokens_of_prefix at line (Gap len) = []
tokens_of_prefix at line (Token kind len) = record { kind = kind; first = at; end = at + len; line = line } ∷ []
