-- The parts of the image of a placed program: its rows, its text and its data, by the levels of its functions.
use Rattle.std.specs.Prelude.{◌≡◌, ◌+◌, ◌/◌, ◌^◌, ◌<◌, ◌≤◌, [], ◌∷◌, ◌++◌, length, Some, None, Result, Ok, Err, ⊤}
use Rattle.std.specs.List.{All}
use Rattle.pw_base.specs.declared.kinds.Kind.TheVariants.{Program}
use Rattle.pw_mem.specs.Memory.{zeros}
use Rattle.pw_mem.specs.Words.{text_bytes}
use Rattle.pw_code.specs.declared.object.Object.{Object}
use Rattle.pw_module.specs.declared.dep_table.DepTable.{DepTable}
use Rattle.pw_place.specs.declared.placed.Placed.{Placed}
use Rattle.pw_place.specs.Refusals.{link_fault}
use Rattle.pw_place.specs.Merging.{placed_of}
use Rattle.pw_close.specs.declared.graph.Graph.{Graph}
use Rattle.pw_close.specs.declared.graph.Levels.{Levels}
use Rattle.pw_close.specs.Closure.{AreLevels}
use Rattle.pw_image.specs.Blanked.{word_bytes, blanked}
use Rattle.pw_image.specs.Relocated.{LiesInData, relocated}
use Rattle.pw_image.specs.Graphs.{IsGraphOf}
use Rattle.pw_image.specs.Keeping.{have_levels}
use Rattle.pw_image.specs.Rows.{program_name}
use Rattle.pw_image.specs.Reported.{HasSymbol, rows_of}
use Rattle.pw_image.specs.Unbound.{first_undefined}
use Rattle.pw_build.specs.declared.image_error.ImageError.{ImageError}
use Rattle.pw_build.specs.declared.image_error.ImageError.TheVariants.{Link, Unbound, NoMemory}
use Rattle.pw_build.specs.declared.parts.Parts.{Parts}

-- The records and relocations of a placed program fit it, as those of each object without a fault do.
pub record IsWhole (placed : Placed) : Type 0 where
  pub some : 0 < length placed.deps.funs
  pub few : length placed.deps.funs < 2 ^ 32
  pub in_text : All (λ r. r.start / word_bytes + r.size / word_bytes ≤ length placed.text) placed.deps.funs
  pub in_data : All (LiesInData (length placed.bytes + placed.zeros)) placed.relocs
  pub named : All (HasSymbol placed.symbols) placed.deps.funs

-- The levels of the graph of a dependency table.
pub record AreLevelsOf (table : DepTable) (levels : Levels) : Type 0 where
  pub graph : Graph
  pub graph_is : IsGraphOf table graph
  pub are : AreLevels graph levels

-- These parts are made by such levels.
pub record ArePartsOf (placed : Placed) (parts : Parts) : Type 0 where
  pub levels : Levels
  pub levels_are : AreLevelsOf placed.deps levels
  pub rows : parts.rows ≡ rows_of program_name placed levels
  pub text : parts.text.items ≡ text_bytes (blanked placed.text placed.deps.funs (have_levels levels))
  pub content : parts.data.items ≡ relocated placed.symbols (placed.bytes ++ zeros placed.zeros) placed.relocs

-- the program of one object is placed, or the first fault of its link
abbrev pub Links : Object → Result Placed ImageError → Type 0
Links object (Ok placed) = (link_fault Program (object ∷ []) ≡ None) × (placed ≡ placed_of Program (object ∷ []))
Links object (Err (Link fault)) = link_fault Program (object ∷ []) ≡ Some fault
Links object (Err (Unbound name)) = ⊥
Links object (Err NoMemory) = ⊤

-- the parts of a placed program, or the name of its first symbol without a definition
abbrev pub Binds : Placed → Result Parts ImageError → Type 0
Binds placed (Ok parts) = (first_undefined placed.symbols ≡ None) × ArePartsOf placed parts
Binds placed (Err (Link fault)) = ⊥
Binds placed (Err (Unbound name)) = first_undefined placed.symbols ≡ Some name
Binds placed (Err NoMemory) = ⊤

-- the parts of the program of one object; or the first fault of its link, or else that name
abbrev pub MakesParts : Object → Result Parts ImageError → Type 0
MakesParts object (Ok parts) =
    (link_fault Program (object ∷ []) ≡ None) × (first_undefined (placed_of Program (object ∷ [])).symbols ≡ None)
    × ArePartsOf (placed_of Program (object ∷ [])) parts
MakesParts object (Err (Link fault)) = link_fault Program (object ∷ []) ≡ Some fault
MakesParts object (Err (Unbound name)) =
    (link_fault Program (object ∷ []) ≡ None) × (first_undefined (placed_of Program (object ∷ [])).symbols ≡ Some name)
MakesParts object (Err NoMemory) = ⊤
