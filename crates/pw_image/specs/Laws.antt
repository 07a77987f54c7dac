-- The laws of the image of one unit: what placing makes of its object is what the unit's project is in memory.
use Rattle.std.specs.Prelude.{◌≡◌, ◌↔◌, ◌≤◌, ◌<◌, ◌^◌, Contains, Some, None, slice_get, ℕ, suc, ◌+◌, ◌/◌, List, ◌++◌, length}
use Rattle.std.specs.List.{All}
use Rattle.pw_base.specs.declared.kinds.Kind.TheVariants.{Program}
use Rattle.pw_tree.specs.declared.ty.Ref.{Ref}
use Rattle.pw_tree.specs.Units.{Function, TypedUnit}
use Rattle.pw_tree.specs.Names.{Definition, function, resolved}
use Rattle.pw_tree.specs.Depends.{names_of_all}
use Rattle.pw_tree.specs.WellTypedUnits.{IsWellTyped}
use Rattle.pw_mem.specs.Memory as memory
use Rattle.pw_code.specs.Objects.{number_in_order, ref_in_order, dependencies, object_of}
use Rattle.pw_code.specs.Soundness.{IsFunctionRef}
use Rattle.pw_place.specs.Places.{function_start, slot_names, variable_start, target}
use Rattle.pw_place.specs.Symbols.{symbols, symbol_number}
use Rattle.pw_place.specs.Contents.{text, bytes, zeros, relocations}
use Rattle.pw_place.specs.Tables.{function_records}
use Rattle.pw_place.specs.Refusals.{link_fault}
use Rattle.pw_place.specs.Merging.{placed_of}
use Rattle.pw_close.specs.declared.graph.Graph.{Graph}
use Rattle.pw_close.specs.declared.graph.Levels.{Levels}
use Rattle.pw_close.specs.Closure.{AreLevels}
use Rattle.pw_agree.specs.Kept.{Keep}
use Rattle.pw_agree.specs.Image.{text_image, data_image, doubleword_bytes}
use Rattle.pw_agree.specs.Placing.{base_of, text_of, data_of, slots_of, function_address, variable_address, target_address}
use Rattle.pw_image.specs.OneUnit.{project_of, objects_of, own_definition}
use Rattle.pw_simulation.specs.Projects.{CanRun}
use Rattle.pw_image.specs.Blanked.{keeps_all, kept_records, word_bytes, blanked}
use Rattle.pw_image.specs.Relocated.{LiesInData, relocated}
use Rattle.pw_image.specs.Nodes.{ShowsProject}
use Rattle.pw_image.specs.Rows.{program_name, AreRows, keep_of}
use Rattle.pw_image.specs.Keeping.{have_levels}
use Rattle.pw_image.specs.Reported.{HasSymbol, rows_of}
use Rattle.pw_image.specs.Unbound.{first_unbound, first_undefined}
use Rattle.pw_image.specs.Records.{record_of, record_meant}

-- A function's place in the text is its address.
abbrev pub FunctionsStand : Type 0
FunctionsStand = (name : List ℕ) (unit : TypedUnit) (i : ℕ) →
    text_of 0 + function_start Program (objects_of name unit) 0 i ≡ function_address (project_of unit) (own_definition i)

-- The names that have a slot are the same.
abbrev pub SlotsStand : Type 0
SlotsStand = (name : List ℕ) (unit : TypedUnit) → slot_names Program (objects_of name unit) ≡ slots_of (project_of unit) 0

-- A variable's place in the data is its address; in the object it has another number.
abbrev pub VariablesStand : Type 0
VariablesStand = (name : List ℕ) (unit : TypedUnit) (i : ℕ) →
    data_of 0 + variable_start Program (objects_of name unit) 0 (number_in_order unit.variables i)
    ≡ variable_address (project_of unit) (own_definition i)

-- What a reference reaches stands at its target's address.
abbrev pub TargetsStand : Type 0
TargetsStand = (name : List ℕ) (unit : TypedUnit) (to : Ref) →
    base_of 0 + target Program (objects_of name unit) 0 (ref_in_order unit.variables to) ≡ target_address (project_of unit) 0 0 to

-- The words that placing puts into the text are those of the image in which every function is kept.
abbrev pub TextIsImage : Type 0
TextIsImage = (name : List ℕ) (unit : TypedUnit) →
    text Program (objects_of name unit) ≡ text_image (project_of unit) keeps_all 0

-- With zeros in place of the functions that are not kept, they are those of the image in which the others are.
abbrev pub BlankedTextIsImage : Type 0
BlankedTextIsImage = (name : List ℕ) (unit : TypedUnit) (keep : Keep) →
    blanked (text Program (objects_of name unit)) (function_records Program (objects_of name unit)) (kept_records unit keep)
    ≡ text_image (project_of unit) keep 0

-- The data of a well-typed unit's object, with addresses in the places of its relocations, are those of the image.
abbrev pub RelocatedDataAreImage : Type 0
RelocatedDataAreImage = (name : List ℕ) (unit : TypedUnit) → IsWellTyped unit →
    relocated (symbols Program (objects_of name unit)) (bytes Program (objects_of name unit) ++ memory.zeros (zeros (objects_of name unit)))
    (relocations Program (objects_of name unit))
    ≡ doubleword_bytes (data_image (project_of unit) 0)

-- In a well-typed unit, the symbol of a reference to a function has the record of what the reference designates.
abbrev pub ReferencesHaveRecords : Type 0
ReferencesHaveRecords = (name : List ℕ) (unit : TypedUnit) (f : Ref) → IsWellTyped unit → IsFunctionRef (object_of name unit) f →
    record_of (function_records Program (objects_of name unit)) (symbol_number Program (objects_of name unit) 0 f)
    ≡ record_meant (resolved (project_of unit) 0 0 f)

-- Of what a well-typed body names, the functions are the function's dependencies.
abbrev pub DependenciesAreNames : Type 0
DependenciesAreNames = (unit : TypedUnit) (i : ℕ) (f : Function) (r : Ref) (g : Definition) → IsWellTyped unit → slice_get unit.functions i ≡ Some f →
    resolved (project_of unit) 0 0 r ≡ Some (function g) → Contains (names_of_all f.body) r ↔ Contains (dependencies f) r

-- A well-typed unit whose object has no fault as a program, and which uses no name without a definition, can be run.
abbrev pub UnitsWithoutFaultsCanRun : Type 0
UnitsWithoutFaultsCanRun = (name : List ℕ) (unit : TypedUnit) → IsWellTyped unit →
    link_fault Program (objects_of name unit) ≡ None → first_unbound unit ≡ None → CanRun (project_of unit)

-- The first symbol without a definition is that of the first name that the unit uses and does not define.
abbrev pub UndefinedIsUnbound : Type 0
UndefinedIsUnbound = (name : List ℕ) (unit : TypedUnit) → IsWellTyped unit →
    first_undefined (symbols Program (objects_of name unit)) ≡ first_unbound unit

-- The rows of the placed object are those of the unit's program, where the levels are those of a graph that shows the project.
abbrev pub RowsAreRows : Type 0
RowsAreRows = (name : List ℕ) (unit : TypedUnit) (g : Graph) (levels : Levels) → IsWellTyped unit →
    ShowsProject g (project_of unit) → AreLevels g levels → g.funs ≡ suc (length unit.functions) →
    AreRows name unit (rows_of program_name (placed_of Program (objects_of name unit)) levels)

-- Those rows keep the functions that have a level.
abbrev pub RowsKeepLevels : Type 0
RowsKeepLevels = (name : List ℕ) (unit : TypedUnit) (g : Graph) (levels : Levels) → IsWellTyped unit →
    ShowsProject g (project_of unit) → AreLevels g levels → g.funs ≡ suc (length unit.functions) →
    kept_records unit (keep_of (rows_of program_name (placed_of Program (objects_of name unit)) levels)) ≡ have_levels levels

-- Every function's record lies in the text,
abbrev pub RecordsLieInText : Type 0
RecordsLieInText = (name : List ℕ) (unit : TypedUnit) →
    All (λ r. r.start / word_bytes + r.size / word_bytes ≤ length (text Program (objects_of name unit))) (function_records Program (objects_of name unit))

-- and every relocation in the data.
abbrev pub RelocationsLieInData : Type 0
RelocationsLieInData = (name : List ℕ) (unit : TypedUnit) → IsWellTyped unit →
    All (LiesInData (length (bytes Program (objects_of name unit)) + zeros (objects_of name unit))) (relocations Program (objects_of name unit))

-- Every record of a function has a symbol,
abbrev pub RecordsHaveSymbols : Type 0
RecordsHaveSymbols = (name : List ℕ) (unit : TypedUnit) → IsWellTyped unit →
    All (HasSymbol (symbols Program (objects_of name unit))) (function_records Program (objects_of name unit))

-- and there are as many records as functions, and one for the entry.
abbrev pub RecordsAreAll : Type 0
RecordsAreAll = (name : List ℕ) (unit : TypedUnit) → length (function_records Program (objects_of name unit)) ≡ suc (length unit.functions)

-- A program without a fault has fewer functions than numbers of 32 bits.
abbrev pub FunctionsAreFew : Type 0
FunctionsAreFew = (name : List ℕ) (unit : TypedUnit) → link_fault Program (objects_of name unit) ≡ None → suc (length unit.functions) < 2 ^ 32
