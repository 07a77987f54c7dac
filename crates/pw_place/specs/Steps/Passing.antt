-- A check of a link's faults, and its faults in parts.
use Rattle.std.specs.Prelude.{◌≡◌, ℕ, if◌then◌else◌, List, length, find, bytes_eq, Option, Some, None, option_map, option_and_then, Result, Ok, Err, ⊤}
use Rattle.std.specs.List.{list_any}
use Rattle.std.specs.Option.{option_or}
use Rattle.pw_base.specs.Limits.{module_units, module_names, module_elements, text_bytes}
use Rattle.pw_base.specs.declared.kinds.Kind.{Kind}
use Rattle.pw_base.specs.declared.kinds.Kind.TheVariants.{Program, Library}
use Rattle.pw_tree.specs.declared.tunit.Ext.{Ext}
use Rattle.pw_tree.specs.WellTypedExpressions.{text_named}
use Rattle.pw_code.specs.declared.object.Object.{Object}
use Rattle.pw_place.specs.Names.{external_names}
use Rattle.pw_place.specs.Places.{text_size}
use Rattle.pw_place.specs.Refusals.{above, elements, main_name, wrong_text, duplicate, type_differs, no_main, main_type}
use Rattle.pw_place.specs.declared.defined_names.DefinedNames.{DefinedNames}
use Rattle.pw_place.specs.declared.link_error.What.TheVariants.{Units, Names, Elements, TextBytes}
use Rattle.pw_place.specs.declared.link_error.LinkError.{LinkError}
use Rattle.pw_place.specs.declared.link_error.LinkError.TheVariants.{TooMany, Duplicate, TypeDiffers, NoMain, MainType, NoMemory}

-- A check answers whether there is a fault, and which. Out of memory says nothing.
abbrev pub Passes : {Y : Type 0} → Option LinkError → Result Y LinkError → Type 0
Passes fault (Ok y) = fault ≡ None
Passes fault (Err NoMemory) = ⊤
Passes fault (Err (TooMany what count)) = fault ≡ Some (TooMany what count)
Passes fault (Err (Duplicate name)) = fault ≡ Some (Duplicate name)
Passes fault (Err (TypeDiffers name first other)) = fault ≡ Some (TypeDiffers name first other)
Passes fault (Err NoMain) = fault ≡ Some NoMain
Passes fault (Err (MainType text)) = fault ≡ Some (MainType text)

-- The first count above its limit.
abbrev pub count_fault : Kind → List Object → Option LinkError
count_fault kind objects =
    option_or (above Units module_units (length objects))
    (option_or (above Names module_names (length (external_names objects)))
    (option_or (above Elements module_elements (elements objects)) (above TextBytes text_bytes (text_size kind objects))))

-- The first of the entries whose name is one of these.
abbrev pub first_among : List (List ℕ) → List Ext → Option Ext
first_among names entries = find (λ n. list_any (bytes_eq n.name) names) entries

-- The first of the entries whose name is defined twice.
abbrev pub duplicate_among : (twice : List (List ℕ)) → List Ext → Option LinkError
duplicate_among twice entries = option_map (λ n. Duplicate n.name) (first_among twice entries)

-- What is wrong with `main`, where these names are defined.
abbrev pub main_lacks : Kind → (all : List (List ℕ)) → Option LinkError
main_lacks Program all = if list_any (bytes_eq main_name) all then None else Some NoMain
main_lacks Library all = None

-- A program gives `main` another type in these entries.
abbrev pub main_differs : Kind → List Ext → Option LinkError
main_differs Program entries = option_and_then wrong_text (text_named main_name entries)
main_differs Library entries = None

-- The first fault of definitions and types, where these are the external names and the defined ones.
abbrev pub names_fault : Kind → List Object → List Ext → DefinedNames → Option LinkError
names_fault kind objects entries names =
    option_or (duplicate_among names.twice entries)
    (option_or (type_differs objects) (option_or (main_lacks kind names.all) (main_differs kind entries)))

-- The same, of objects.
abbrev pub definitions_fault : Kind → List Object → Option LinkError
definitions_fault kind objects =
    option_or (duplicate objects) (option_or (type_differs objects) (option_or (no_main kind objects) (main_type kind objects)))
