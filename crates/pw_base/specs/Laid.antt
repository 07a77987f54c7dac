-- Parts of a file one after another, each at a multiple of its alignment, with zero bytes between (gABI, "Sections").
use Rattle.std.specs.Prelude.{◌≡◌, ℕ, zero, suc, ◌+◌, ◌-◌, ◌%◌, List, [], ◌∷◌, ◌++◌, length, replicate, slice_get, Some}

-- the bytes have the part at this offset
pub record Has (bytes : List ℕ) (off : ℕ) (part : List ℕ) : Type 0 where
  pub before : List ℕ
  pub after : List ℕ
  pub parts : bytes ≡ before ++ (part ++ after)
  pub at : length before ≡ off

-- a part's contents, and the alignment of its offset
pub record Part : Type 0 where
  pub align : ℕ
  pub content : List ℕ

-- the bytes that are missing up to the next multiple
abbrev pub padding : ℕ → ℕ → ℕ
padding align off = (align - off % align) % align

-- the next multiple of the alignment, from this offset on
abbrev pub align_up : ℕ → ℕ → ℕ
align_up align off = off + padding align off

-- the bytes of the parts, where the first of them follows `off` others
abbrev pub laid : ℕ → List Part → List ℕ
laid off [] = []
laid off (p ∷ ps) = replicate (padding p.align off) 0 ++ (p.content ++ laid (align_up p.align off + length p.content) ps)

-- the offset of part number k
abbrev pub part_offset : ℕ → List Part → ℕ → ℕ
part_offset off [] k = off
part_offset off (p ∷ ps) zero = align_up p.align off
part_offset off (p ∷ ps) (suc k) = part_offset (align_up p.align off + length p.content) ps k

-- each part stands at its place, whatever stands before all of them and after
abbrev pub LaidPartsStandAtTheirPlaces : Type 0
LaidPartsStandAtTheirPlaces =
    (off : ℕ) (ps : List Part) (k : ℕ) (p : Part) (bytes : List ℕ) → Has bytes off (laid off ps) → slice_get ps k ≡ Some p →
    Has bytes (part_offset off ps k) p.content
