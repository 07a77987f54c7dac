-- The names with external linkage of a module's units: in which order, with which text, and how often each is defined.
use Rattle.std.specs.Prelude.{ℕ, Bool, not, List, [], ◌∷◌, filter, flat_map, count_by, bytes_eq}
use Rattle.std.specs.List.{position_or_len}
use Rattle.pw_tree.specs.declared.tunit.Ext.{Ext}
use Rattle.pw_code.specs.declared.object.Object.{Object}
use Rattle.pw_code.specs.Soundness.{defined_names}

-- The first occurrence of each item of a list.
unfoldable pub first_of_each : {A : Type 0} → (A → A → Bool) → List A → List A
first_of_each same [] = []
first_of_each same (x ∷ xs) = x ∷ filter (λ y. not (same y x)) (first_of_each same xs)

-- Two entries have one name.
abbrev pub same_name : Ext → Ext → Bool
same_name a b = bytes_eq a.name b.name

-- The entries of all units, unit by unit.
abbrev pub declared_names : List Object → List Ext
declared_names objects = flat_map (λ o. o.names) objects

-- The external names of a module in order of first appearance, each with the text that it has there.
abbrev pub external_names : List Object → List Ext
external_names objects = first_of_each same_name (declared_names objects)

-- How many of the external names stand before this one.
abbrev pub name_number : List Object → List ℕ → ℕ
name_number objects name = position_or_len (λ n. bytes_eq name n.name) (external_names objects)

-- How many functions and variables with external linkage have a name.
abbrev pub definitions_of : List Object → List ℕ → ℕ
definitions_of objects name = count_by (bytes_eq name) (flat_map defined_names objects)
