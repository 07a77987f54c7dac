-- Names that join a list, each once.
use Rattle.std.specs.Prelude.{ℕ, if◌then◌else◌, List, [], ◌∷◌, ◌++◌, fold, bytes_eq}
use Rattle.std.specs.List.{list_any}
use Rattle.pw_code.specs.declared.item.Item.{Item}
use Rattle.pw_code.specs.declared.object.FunCode.{FunCode}
use Rattle.pw_code.specs.declared.object.Object.{Object}
use Rattle.pw_place.specs.Places.{names_in_item}

-- A name joins names, unless it is one of them.
abbrev pub joined : List (List ℕ) → List ℕ → List (List ℕ)
joined names name = if list_any (bytes_eq name) names then names else names ++ name ∷ []

-- These join names, one after another.
abbrev pub all_joined : List (List ℕ) → List (List ℕ) → List (List ℕ)
all_joined names more = fold joined names more

-- The names that an item refers to join names; those of code, of functions and of objects do.
abbrev pub item_joined : List (List ℕ) → Item → List (List ℕ)
item_joined names item = all_joined names (names_in_item item)

-- So for the names in a list of items,
abbrev pub code_joined : List (List ℕ) → List Item → List (List ℕ)
code_joined names items = fold item_joined names items

-- for those in the code of a function,
abbrev pub function_joined : List (List ℕ) → FunCode → List (List ℕ)
function_joined names f = code_joined names f.items

-- and for those in the code of a unit.
abbrev pub object_joined : List (List ℕ) → Object → List (List ℕ)
object_joined names o = fold function_joined names o.funs
