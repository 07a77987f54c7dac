-- The bytes of a text by their classes (C, 5.2.1).
use Rattle.std.specs.Prelude.{◌≡◌, ℕ, Bool, true, false, ◌||◌, if◌then◌else◌, nat_eq, List, [], ◌∷◌}
use Rattle.std.specs.List.{take_while}
use Rattle.pw_base.specs.Name.{is_from}
use Rattle.pw_lex.specs.declared.bytes.Class.{Class}
use Rattle.pw_lex.specs.declared.bytes.Class.TheVariants.{White, Letter, Digit, Quote, Other}

-- the bytes of a text, as numbers
abbrev pub Text : Type 0
Text = List ℕ

-- white space is tab, line feed, carriage return and blank; `_` counts as a letter
unfoldable pub class_of : ℕ → Class
class_of byte =
    if nat_eq byte 9 || nat_eq byte 10 || nat_eq byte 13 || nat_eq byte 32 then White
    else (if is_from 65 90 byte || is_from 97 122 byte || nat_eq byte 95 then Letter
    else (if is_from 48 57 byte then Digit
    else (if nat_eq byte 39 then Quote else Other)))

-- the text begins with a byte of the class
abbrev pub BeginsWith : Class → Text → Type 0
BeginsWith class [] = ⊥
BeginsWith class (byte ∷ _) = class_of byte ≡ class

-- whether a byte of the class may stand in a name, a keyword or a number
abbrev pub runs_on : Class → Bool
runs_on White = false
runs_on Letter = true
runs_on Digit = true
runs_on Quote = false
runs_on Other = false

-- a letter or a digit
abbrev pub is_run_byte : ℕ → Bool
is_run_byte byte = runs_on (class_of byte)

-- the letters and digits at the beginning of a text, as many as stand together
abbrev pub run : Text → Text
run text = take_while is_run_byte text
