-- What a name is, and what reading one answers.
use Rattle.std.specs.Prelude.{◌≡◌, ℕ, ◌<◌, ◌≤◌, Bool, true, false, ◌||◌, ◌&&◌, nat_le, nat_eq, List, length, Result, Ok, Err}
use Rattle.std.specs.List.{list_all, prefix_len}
use Rattle.pw_base.specs.Limits.{name_bytes}
use Rattle.pw_base.specs.declared.name.NameError.{NameError}
use Rattle.pw_base.specs.declared.name.NameError.TheVariants.{Empty, TooLong, BadByte, NoMemory}

-- is it from one byte to another?
abbrev pub is_from : ℕ → ℕ → ℕ → Bool
is_from low high byte = nat_le low byte && nat_le byte high

-- a letter, a digit, or one of _ . - /
abbrev pub is_name_byte : ℕ → Bool
is_name_byte byte =
    (is_from 65 90 byte || is_from 97 122 byte || is_from 48 57 byte)
    || (nat_eq byte 95 || nat_eq byte 46 || nat_eq byte 45 || nat_eq byte 47)

-- 1 to 63 bytes, each of which names may have
pub record IsName (bytes : List ℕ) : Type 0 where
  pub some : 0 < length bytes
  pub short : length bytes ≤ name_bytes
  pub good : list_all is_name_byte bytes ≡ true

-- the name of the bytes, or the first cause that stands, in this order; memory is asked for only where they are a name
abbrev pub ReadsName : List ℕ → Result (List ℕ) NameError → Type 0
ReadsName bytes (Ok name) = IsName bytes × (name ≡ bytes)
ReadsName bytes (Err Empty) = length bytes ≡ 0
ReadsName bytes (Err (TooLong n)) = (n ≡ length bytes) × (name_bytes < length bytes)
ReadsName bytes (Err (BadByte at)) =
    (0 < length bytes) × (length bytes ≤ name_bytes) × (list_all is_name_byte bytes ≡ false) × (at ≡ prefix_len is_name_byte bytes)
ReadsName bytes (Err NoMemory) = IsName bytes
