-- Entries of names that join a list, each name once.
use Rattle.std.specs.Prelude.{if◌then◌else◌, List, [], ◌∷◌, ◌++◌, fold}
use Rattle.std.specs.List.{list_any}
use Rattle.pw_tree.specs.declared.tunit.Ext.{Ext}
use Rattle.pw_code.specs.declared.object.Object.{Object}
use Rattle.pw_place.specs.Names.{same_name}

-- An entry joins others, unless one of them has its name.
abbrev pub entry_joined : List Ext → Ext → List Ext
entry_joined entries n = if list_any (same_name n) entries then entries else entries ++ n ∷ []

-- These join others, one after another.
abbrev pub entries_joined : List Ext → List Ext → List Ext
entries_joined entries more = fold entry_joined entries more

-- The entries of a unit join others.
abbrev pub unit_joined : List Ext → Object → List Ext
unit_joined entries o = entries_joined entries o.names
