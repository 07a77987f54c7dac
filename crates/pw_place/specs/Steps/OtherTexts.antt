-- The names that have another text beside their first one.
use Rattle.std.specs.Prelude.{ℕ, Bool, false, ◌&&◌, not, if◌then◌else◌, List, fold, bytes_eq, slice_get}
use Rattle.std.specs.List.{position_or_len}
use Rattle.std.specs.Option.{option_map_or}
use Rattle.pw_tree.specs.declared.tunit.Ext.{Ext}
use Rattle.pw_code.specs.declared.object.Object.{Object}
use Rattle.pw_place.specs.Names.{same_name}
use Rattle.pw_place.specs.Steps.NameLists.{joined}

-- An entry has this one's name and another text.
abbrev pub is_other : Ext → Ext → Bool
is_other n other = same_name n other && not (bytes_eq n.text other.text)

-- An entry has another text than the one of its name among these.
abbrev pub differs : List Ext → Ext → Bool
differs entries n =
    option_map_or (λ first. not (bytes_eq first.text n.text)) (slice_get entries (position_or_len (λ m. bytes_eq n.name m.name) entries)) false

-- The name of such an entry joins names; those of a unit's entries do.
abbrev pub different_joined : List Ext → List (List ℕ) → Ext → List (List ℕ)
different_joined entries names n = if differs entries n then joined names n.name else names

-- So for the names of a unit.
abbrev pub unit_different : List Ext → List (List ℕ) → Object → List (List ℕ)
unit_different entries names o = fold (different_joined entries) names o.names
