-- The status and the message line of each answer.
use Rattle.std.specs.Prelude.{ℕ, List, [], ◌∷◌, ◌++◌, codes, decimal, slice_index_or, if◌then◌else◌, ◌==◌, false, Option, Some, None, Result, Ok, Err}
use Rattle.std.specs.Fmt.{digits}
use Rattle.pw_base.specs.Limits as limits
use Rattle.pw_isa.specs.EnvironmentCalls.{index_fault, division_fault, null_call_fault, depth_fault}
use Rattle.pw_module.specs.declared.kept_row.KeptRow.{KeptRow}
use Rattle.pw_place.specs.declared.link_error.LinkError.{LinkError}
use Rattle.pw_place.specs.declared.link_error.LinkError.TheVariants as links
use Rattle.pw_place.specs.declared.link_error.What.{What}
use Rattle.pw_place.specs.declared.link_error.What.TheVariants.{Units, Names, Elements, TextBytes}
use Rattle.pw_cmd.specs.Faults.{fault_text}
use Rattle.pw_cmd.specs.declared.answer.Ending.{Ending}
use Rattle.pw_cmd.specs.declared.answer.Ending.TheVariants.{Ended, Faulted, Spent, Trapped, Limited}
use Rattle.pw_cmd.specs.declared.answer.Stop.{Stop}
use Rattle.pw_cmd.specs.declared.answer.Stop.TheVariants.{Usage, Refused, ReadFailed, WriteFailed, NoMemory}
use Rattle.pw_cmd.specs.declared.refusal.FileFault.{FileFault}
use Rattle.pw_cmd.specs.declared.refusal.FileFault.TheVariants.{TooLong, Source}
use Rattle.pw_cmd.specs.declared.refusal.Refusal.{Refusal}
use Rattle.pw_cmd.specs.declared.refusal.Refusal.TheVariants.{File, Link, Unbound}

-- what a command answers
abbrev pub Answer : Type 0
Answer = Result Ending Stop

-- ---- the status

-- the status that a value gives
abbrev pub status_of_value : ℕ → ℕ
status_of_value value = if value == 0 then 0 else 1

-- the status of a run that ended so
abbrev pub status_of_ending : Ending → ℕ
status_of_ending (Ended value) = status_of_value value
status_of_ending (Faulted kind row line) = 4
status_of_ending Spent = 5
status_of_ending (Limited limit) = 5
status_of_ending (Trapped cause pc value) = 9

-- the status that the program ends with
abbrev pub status_of : Answer → ℕ
status_of (Ok ending) = status_of_ending ending
status_of (Err Usage) = 2
status_of (Err (Refused _)) = 3
status_of (Err ReadFailed) = 6
status_of (Err WriteFailed) = 7
status_of (Err NoMemory) = 8

-- ---- the end of a run, in words

-- the kind of a checked fault in words; the machine knows no other number
abbrev pub kind_text : ℕ → List ℕ
kind_text kind =
    if kind == index_fault then codes "index"
    else if kind == division_fault then codes "division"
    else if kind == null_call_fault then codes "null call"
    else if kind == depth_fault then codes "depth"
    else codes "fault"

-- a place in a program: its module, its unit and its function
abbrev pub place_text : (module_name unit_name function_name : List ℕ) → List ℕ
place_text module_name unit_name function_name = module_name ++ (codes ":" ++ (unit_name ++ (codes ":" ++ function_name)))

-- a checked fault in words
abbrev pub checked_text : (kind : ℕ) (place : List ℕ) (line : ℕ) → List ℕ
checked_text kind place line = codes "checked fault " ++ (kind_text kind ++ (codes " in " ++ (place ++ (codes " line " ++ decimal line))))

-- the unit of a function; of the entry, which is in none, a dash
abbrev pub unit_text : Option (List ℕ) → List ℕ
unit_text (Some unit) = unit
unit_text None = codes "-"

-- where the function of a row stands; a run of bytes faults in no other place
abbrev pub row_text : Option KeptRow → List ℕ
row_text (Some row) = place_text row.module (unit_text row.unit) row.name
row_text None = codes "no function"

-- a number in hexadecimal behind its mark
abbrev pub address_text : ℕ → List ℕ
address_text at = codes "0x" ++ digits 16 false at

-- how a run ended, in words
abbrev pub ending_text : Ending → List ℕ
ending_text (Ended value) = codes "ended " ++ decimal value
ending_text (Faulted kind row line) = checked_text kind (row_text row) line
ending_text Spent = codes "step bound spent"
ending_text (Limited limit) = codes "instruction limit " ++ (decimal limit ++ codes " reached")
ending_text (Trapped cause pc value) =
    codes "trap " ++ (decimal cause ++ (codes " at " ++ (address_text pc ++ (codes " value " ++ address_text value))))

-- ---- a refusal, in words

-- the bytes of a word, by its number
abbrev pub word_at : List (List ℕ) → ℕ → List ℕ
word_at words number = slice_index_or words number []

-- what a file is refused for, in words
abbrev pub file_text : FileFault → List ℕ
file_text (TooLong limit) = codes "more than " ++ (decimal limit ++ codes " bytes")
file_text (Source fault) = fault_text fault

-- what a module has too many of, in words
abbrev pub what_text : What → List ℕ
what_text Units = codes "units"
what_text Names = codes "names"
what_text Elements = codes "elements"
what_text TextBytes = codes "text bytes"

-- how many of them a module may have
abbrev pub limit_of : What → ℕ
limit_of Units = limits.module_units
limit_of Names = limits.module_names
limit_of Elements = limits.module_elements
limit_of TextBytes = limits.text_bytes

-- the first fault of a link, in words
abbrev pub link_text : LinkError → List ℕ
link_text (links.TooMany what count) = decimal count ++ (codes " " ++ (what_text what ++ (codes ", at most " ++ decimal (limit_of what))))
link_text (links.Duplicate name) = name ++ codes " is defined twice"
link_text (links.TypeDiffers name type other) = name ++ (codes " has types " ++ (type ++ (codes " and " ++ other)))
link_text links.NoMain = codes "no main"
link_text (links.MainType type) = codes "main has type " ++ type
link_text links.NoMemory = codes "out of memory"

-- a refusal in words: a file is named by its word, and the program is `app`
abbrev pub refusal_text : List (List ℕ) → Refusal → List ℕ
refusal_text words (File number fault) = word_at words number ++ (codes ": " ++ file_text fault)
refusal_text words (Link fault) = codes "app: " ++ link_text fault
refusal_text words (Unbound name) = codes "app: " ++ (name ++ codes " is not defined")

-- ---- the line

-- why there is no ending, in words
abbrev pub reason_of : List (List ℕ) → Stop → List ℕ
reason_of words Usage = codes "usage: pw COMMAND ARGUMENTS"
reason_of words (Refused refusal) = codes "refused: " ++ refusal_text words refusal
reason_of words ReadFailed = codes "read failed"
reason_of words WriteFailed = codes "write failed"
reason_of words NoMemory = codes "out of memory"

-- the line that says it, without its end
abbrev pub sentence_of : List (List ℕ) → Answer → List ℕ
sentence_of words (Ok ending) = ending_text ending
sentence_of words (Err stop) = reason_of words stop

-- a line ends with byte 10
abbrev pub as_line : List ℕ → List ℕ
as_line sentence = sentence ++ 10 ∷ []

-- the line that says it
abbrev pub message_line : List (List ℕ) → Answer → List ℕ
message_line words answer = as_line (sentence_of words answer)
