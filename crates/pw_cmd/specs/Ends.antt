-- The status and the line of each end of a meaning, in which no word of the machine stands.
use Rattle.std.specs.Prelude.{◌≡◌, ℕ, List, [], ◌++◌, codes, decimal, slice_get}
use Rattle.std.specs.Option.{option_map_or}
use Rattle.pw_base.specs.Bytes.{AreBytes}
use Rattle.pw_tree.specs.Units.{TypedUnit}
use Rattle.pw_tree.specs.Names.{Definition}
use Rattle.pw_tree.specs.States.{checked, spent}
use Rattle.pw_tree.specs.Meaning.{End, exit, stopped}
use Rattle.pw_io.specs.Source.{SourceState}
use Rattle.pw_hart.specs.Runs.{IsLeft}
use Rattle.pw_simulation.specs.Moments.{kind_of}
use Rattle.pw_image.specs.Rows.{program_name}
use Rattle.pw_build.specs.Meant.{meaning_of}
use Rattle.pw_cmd.specs.Answer.{status_of_value, checked_text, place_text, as_line}

-- the status of an end
abbrev pub status_of_end : End → ℕ
status_of_end (exit value) = status_of_value value
status_of_end (stopped (checked fault d line)) = 4
status_of_end (stopped spent) = 5

-- where a function of the file's unit stands, in words
abbrev pub function_text : (file : List ℕ) → TypedUnit → Definition → List ℕ
function_text file unit d = place_text program_name file (option_map_or (λ f. f.name) (slice_get unit.functions d.number) [])

-- an end in words
abbrev pub end_text : (file : List ℕ) → TypedUnit → End → List ℕ
end_text file unit (exit value) = codes "ended " ++ decimal value
end_text file unit (stopped (checked fault d line)) = checked_text (kind_of fault) (function_text file unit d) line
end_text file unit (stopped spent) = codes "step bound spent"

-- the line that says it
abbrev pub line_of_end : (file : List ℕ) → TypedUnit → End → List ℕ
line_of_end file unit end = as_line (end_text file unit end)

-- The status is that of the end which the unit means on an input of bytes: the one that is left, where that is reported.
pub record HasStatusOfEnd (unit : TypedUnit) (steps : ℕ) (old : SourceState) (status : ℕ) : Type 0 where
  pub input : List ℕ
  pub is_left : IsLeft input old
  pub bytes : AreBytes input
  pub status_is : status ≡ status_of_end (meaning_of unit input steps).end
