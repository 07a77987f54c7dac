-- What the arguments of a command line are, where they are reported.
use Rattle.std.specs.Prelude.{◌≡◌, ℕ, List, drop, map, slice_get, Option, option_map, Vec, IfSome}
use Rattle.std.specs.declared.alloc.Global.{Global}

-- the argument of this number, or that there is none, where the arguments are reported
abbrev pub IsArgument : Option (List (List ℕ)) → ℕ → Option (Vec ℕ Global) → Type 0
IsArgument arguments number found = IfSome arguments (λ list. slice_get list number ≡ option_map (λ bytes. bytes.items) found)

-- the bytes of each
abbrev pub bytes_of : List (Vec ℕ Global) → List (List ℕ)
bytes_of arguments = map (λ argument. argument.items) arguments

-- the arguments after number 0, the program's name, where they are reported
abbrev pub AreAfterName : Option (List (List ℕ)) → List (List ℕ) → Type 0
AreAfterName arguments found = IfSome arguments (λ list. drop 1 list ≡ found)
