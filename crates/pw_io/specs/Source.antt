-- What a source of bytes means: the bytes left in it, where it reports them, and its count of faults.
use Rattle.std.specs.Prelude.{◌≡◌, ℕ, List, [], ◌∷◌, ◌++◌, length, drop, Option, option_map, IfSome}
use Rattle.pw_io.specs.declared.ports.Next.{Next}
use Rattle.pw_io.specs.declared.ports.Next.TheVariants.{Byte, End, Failed}
use Rattle.pw_io.specs.Faults.{Rises}

-- the bytes left, where they are reported, and how many calls have failed
pub record SourceState : Type 0 where
  pub left : Option (List ℕ)
  pub faults : ℕ

-- the source once these bytes were taken from it
abbrev pub after : List ℕ → SourceState → SourceState
after taken s = record { left = option_map (drop (length taken)) s.left; faults = s.faults }

-- what is left begins with these bytes, where it is reported
abbrev pub Offers : List ℕ → SourceState → Type 0
Offers bytes s = IfSome s.left (λ left. left ≡ bytes ++ drop (length bytes) left)

-- nothing is left, where that is reported
abbrev pub IsUsedUp : SourceState → Type 0
IsUsedUp s = IfSome s.left (λ left. left ≡ [])

-- a failed call takes nothing, and the count rises
pub record SourceFails (old new : SourceState) : Type 0 where
  pub left : new.left ≡ old.left
  pub faults : Rises old.faults new.faults

-- what a call for the next byte answers and leaves: the first byte left, the end where none is left, or a failure
abbrev pub Gives : SourceState → Next → SourceState → Type 0
Gives old (Byte byte) new = (new ≡ after (byte ∷ []) old) × Offers (byte ∷ []) old
Gives old End new = (new ≡ old) × IsUsedUp old
Gives old Failed new = SourceFails old new
