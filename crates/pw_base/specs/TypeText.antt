-- What a type string is, and what reading one answers.
use Rattle.std.specs.Prelude.{◌≡◌, ℕ, ◌≤◌, Bool, true, ◌||◌, nat_eq, ◌⊎◌, List, [], ◌∷◌, ◌++◌, length, Option, Some, None, Result, Ok, Err, codes, decimal}
use Rattle.std.specs.List.{list_all}
use Rattle.pw_base.specs.Limits.{parameters, array_elements}
use Rattle.pw_base.specs.Name.{is_from}
use Rattle.pw_base.specs.declared.no_memory.NoMemory.{NoMemory}

-- the letter of a type that has values: l long, u unsigned long, or the digit of one of fn0 to fn6
abbrev pub is_value_letter : ℕ → Bool
is_value_letter byte = nat_eq byte 108 || nat_eq byte 117 || is_from 48 54 byte

-- the letter of a type: v void, or of a type that has values
abbrev pub is_type_letter : ℕ → Bool
is_type_letter byte = nat_eq byte 118 || is_value_letter byte

-- one letter, as `l`
pub record IsLetterText (bytes : List ℕ) : Type 0 where
  pub letter : ℕ
  pub spelled : bytes ≡ letter ∷ []
  pub typed : is_type_letter letter ≡ true

-- a function's: its result's letter, and in brackets those of at most 6 parameters, none of them void, as `v(l1)`
pub record IsFunctionText (bytes : List ℕ) : Type 0 where
  pub result : ℕ
  pub params : List ℕ
  pub spelled : bytes ≡ result ∷ codes "(" ++ params ++ codes ")"
  pub typed : is_type_letter result ≡ true
  pub valued : list_all is_value_letter params ≡ true
  pub few : length params ≤ parameters

-- the size of an array, from 1 to 65536, in decimal
pub record IsSize (digits : List ℕ) : Type 0 where
  pub size : ℕ
  pub spelled : digits ≡ decimal size
  pub some : 1 ≤ size
  pub within : size ≤ array_elements

-- an array's: its element's letter, which is not void's, and in brackets its size, as `l[16]`
pub record IsArrayText (bytes : List ℕ) : Type 0 where
  pub element : ℕ
  pub digits : List ℕ
  pub spelled : bytes ≡ element ∷ codes "[" ++ digits ++ codes "]"
  pub valued : is_value_letter element ≡ true
  pub sized : IsSize digits

-- a type string: a letter's, a function's or an array's
abbrev pub IsTypeText : List ℕ → Type 0
IsTypeText bytes = IsLetterText bytes ⊎ IsFunctionText bytes ⊎ IsArrayText bytes

-- what may stand where a type string does: nothing, or a type string
abbrev pub IsTypeTextOrEmpty : List ℕ → Type 0
IsTypeTextOrEmpty bytes = (bytes ≡ []) ⊎ IsTypeText bytes

-- the text that the bytes are, or that they are none; memory is asked for only where they are one
abbrev pub ReadsTypeText : List ℕ → Result (Option (List ℕ)) NoMemory → Type 0
ReadsTypeText bytes (Ok (Some text)) = (text ≡ bytes) × IsTypeTextOrEmpty bytes
ReadsTypeText bytes (Ok None) = IsTypeTextOrEmpty bytes → ⊥
ReadsTypeText bytes (Err _) = IsTypeTextOrEmpty bytes
