-- Why objects make no module: the first fault of a link.
use Rattle.std.specs.Prelude.{ℕ, Bool, ◌&&◌, not, if◌then◌else◌, List, [], ◌∷◌, map, length, find, sum_by, codes, bytes_eq, nat_eq, nat_lt, Option, Some, None, option_map, option_and_then}
use Rattle.std.specs.Option.{option_or}
use Rattle.pw_base.specs.Limits.{module_units, module_names, module_elements, text_bytes}
use Rattle.pw_base.specs.declared.kinds.Kind.{Kind}
use Rattle.pw_base.specs.declared.kinds.Kind.TheVariants.{Program, Library}
use Rattle.pw_tree.specs.declared.tunit.Ext.{Ext}
use Rattle.pw_tree.specs.WellTypedExpressions.{text_named}
use Rattle.pw_tree.specs.WellTypedUnits.{room}
use Rattle.pw_code.specs.declared.object.Object.{Object}
use Rattle.pw_place.specs.Names.{same_name, declared_names, external_names, definitions_of}
use Rattle.pw_place.specs.Places.{variables, text_size}
use Rattle.pw_place.specs.declared.link_error.What.{What}
use Rattle.pw_place.specs.declared.link_error.What.TheVariants.{Units, Names, Elements, TextBytes}
use Rattle.pw_place.specs.declared.link_error.LinkError.{LinkError}
use Rattle.pw_place.specs.declared.link_error.LinkError.TheVariants.{TooMany, Duplicate, TypeDiffers, NoMain, MainType}

-- The first that is there.
unfoldable pub first_some : {A : Type 0} → List (Option A) → Option A
first_some [] = None
first_some (x ∷ xs) = option_or x (first_some xs)

-- ---- what a module may have

-- A count is above its limit.
abbrev pub above : What → (limit count : ℕ) → Option LinkError
above what limit count = if nat_lt limit count then Some (TooMany what count) else None

-- The elements of all variables.
abbrev pub elements : List Object → ℕ
elements objects = sum_by (λ x. room x.count) (variables objects)

-- ---- names; the first is the first in order of first appearance

-- A name has two definitions.
abbrev pub is_defined_twice : List Object → Ext → Bool
is_defined_twice objects n = nat_lt 1 (definitions_of objects n.name)

-- The first external name that is defined twice.
abbrev pub duplicate : List Object → Option LinkError
duplicate objects = option_map (λ n. Duplicate n.name) (find (is_defined_twice objects) (external_names objects))

-- The first entry that has the name of this one and another text.
abbrev pub other_entry : List Object → Ext → Option Ext
other_entry objects n = find (λ other. same_name n other && not (bytes_eq n.text other.text)) (declared_names objects)

-- A name has two texts: its first, and the first other one.
abbrev pub type_fault : List Object → Ext → Option LinkError
type_fault objects n = option_map (λ other. TypeDiffers n.name n.text other.text) (other_entry objects n)

-- The first external name that has two types.
abbrev pub type_differs : List Object → Option LinkError
type_differs objects = first_some (map (type_fault objects) (external_names objects))

-- ---- `main`, which a program defines with the type `long main(void)`

-- The name of the function that a program begins with.
abbrev pub main_name : List ℕ
main_name = codes "main"

-- A program does not define it.
abbrev pub no_main : Kind → List Object → Option LinkError
no_main Program objects = if nat_eq (definitions_of objects main_name) 0 then Some NoMain else None
no_main Library objects = None

-- A type that is not `long main(void)`.
abbrev pub wrong_text : List ℕ → Option LinkError
wrong_text text = if bytes_eq text (codes "l()") then None else Some (MainType text)

-- A program gives it another type.
abbrev pub main_type : Kind → List Object → Option LinkError
main_type Program objects = option_and_then wrong_text (text_named main_name (external_names objects))
main_type Library objects = None

-- ---- all

-- The first fault of a link, in this order.
abbrev pub link_fault : Kind → List Object → Option LinkError
link_fault kind objects = first_some
    (above Units module_units (length objects)
    ∷ above Names module_names (length (external_names objects))
    ∷ above Elements module_elements (elements objects)
    ∷ above TextBytes text_bytes (text_size kind objects)
    ∷ duplicate objects
    ∷ type_differs objects
    ∷ no_main kind objects
    ∷ main_type kind objects
    ∷ [])
