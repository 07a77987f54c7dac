-- Character constants (C, 6.4.4.4).
use Rattle.std.specs.Prelude.{◌≡◌, ℕ, Bool, true, not, ◌&&◌, ◌||◌, if◌then◌else◌, nat_eq, [], ◌∷◌, Option, Some, None}
use Rattle.pw_base.specs.Name.{is_from}
use Rattle.pw_lex.specs.Bytes.{Text}

-- a byte that stands for itself: one that prints, but no quote and no backslash
abbrev pub is_plain : ℕ → Bool
is_plain byte = is_from 32 126 byte && not (nat_eq byte 39 || nat_eq byte 92)

-- what \n \t \r \0 \\ \' \" stand for
abbrev pub escaped : ℕ → Option ℕ
escaped byte =
    if nat_eq byte 110 then Some 10
    else (if nat_eq byte 116 then Some 9
    else (if nat_eq byte 114 then Some 13
    else (if nat_eq byte 48 then Some 0
    else (if nat_eq byte 92 || nat_eq byte 39 || nat_eq byte 34 then Some byte else None))))

-- the bytes are a character constant of this value
pub data IsCharacter : Text → ℕ → Type 0 where
  plain : (byte : ℕ) → is_plain byte ≡ true → IsCharacter (39 ∷ byte ∷ 39 ∷ []) byte
  escape : (byte value : ℕ) → escaped byte ≡ Some value → IsCharacter (39 ∷ 92 ∷ byte ∷ 39 ∷ []) value
