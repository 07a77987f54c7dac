-- The text of a module with zeros in place of the functions that are not kept.
use Rattle.std.specs.Prelude.{ℕ, ◌+◌, ◌/◌, Bool, true, if◌then◌else◌, List, [], ◌∷◌, ◌++◌, length, map, take, drop}
use Rattle.std.specs.List.{range_with_len}
use Rattle.pw_tree.specs.Units.{TypedUnit}
use Rattle.pw_mem.specs.Memory.{zeros}
use Rattle.pw_module.specs.declared.dep_table.FunRec.{FunRec}
use Rattle.pw_agree.specs.Kept.{Keep}
use Rattle.pw_image.specs.OneUnit.{own_definition}

-- Every function is kept.
abbrev pub keeps_all : Keep
keeps_all d = true

-- Which records of functions are of kept ones: the entry's, and those of the unit's functions for which the test holds.
abbrev pub kept_records : TypedUnit → Keep → List Bool
kept_records unit keep = true ∷ map (λ i. keep (own_definition i)) (range_with_len 0 (length unit.functions))

-- The bytes of an instruction word.
abbrev pub word_bytes : ℕ
word_bytes = 4

-- The words of a text with zeros in place of those of a function, whose record says where they stand.
abbrev pub without_function : List ℕ → FunRec → List ℕ
without_function text r =
    take (r.start / word_bytes) text
    ++ (zeros (r.size / word_bytes) ++ drop (r.start / word_bytes + r.size / word_bytes) text)

-- The words of a text with zeros in place of those functions whose record does not count as kept.
unfoldable pub blanked : List ℕ → List FunRec → List Bool → List ℕ
blanked text [] keeps = text
blanked text (r ∷ rs) [] = text
blanked text (r ∷ rs) (kept ∷ keeps) = blanked (if kept then text else without_function text r) rs keeps
