-- Names in a string table (gABI, "String Table").
use Rattle.std.specs.Prelude.{ℕ, List, [], ◌∷◌, drop, Option, Some, None, nat_eq, if◌then◌else◌}
use Rattle.std.specs.Option.{option_map}
use Rattle.pw_base.specs.Tests.{is_name}

-- the bytes before the first zero byte, where there is one
abbrev pub until_zero : List ℕ → Option (List ℕ)
until_zero [] = None
until_zero (b ∷ bytes) = if nat_eq b 0 then Some [] else option_map (λ rest. b ∷ rest) (until_zero bytes)

-- the bytes, where they are a name
unfoldable pub name_of : List ℕ → Option (List ℕ)
name_of bytes = if is_name bytes then Some bytes else None

-- the bytes that were found, where they are a name
abbrev pub name_in : Option (List ℕ) → Option (List ℕ)
name_in None = None
name_in (Some text) = name_of text

-- the name at an offset: the bytes up to the next zero byte, where they are a name
unfoldable pub string_at : List ℕ → ℕ → Option (List ℕ)
string_at bytes off = name_in (until_zero (drop off bytes))
