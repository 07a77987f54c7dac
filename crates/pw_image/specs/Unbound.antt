-- The first name that a unit uses and does not define.
use Rattle.std.specs.Prelude.{ℕ, List, [], ◌∷◌, find, map, Option, Some, None}
use Rattle.std.specs.Option.{is_none, option_or}
use Rattle.pw_tree.specs.Units.{TypedUnit}
use Rattle.pw_tree.specs.Names.{definition_of}
use Rattle.pw_module.specs.declared.symbol.Symbol.{Symbol}
use Rattle.pw_module.specs.declared.symbol.SymKind.{SymKind}
use Rattle.pw_module.specs.declared.symbol.SymKind.TheVariants.{Fun, Var, Undefined}
use Rattle.pw_image.specs.OneUnit.{project_of}

-- Of the names that a unit defines or uses, in order of first declaration, the first that it does not define.
abbrev pub first_unbound : TypedUnit → Option (List ℕ)
first_unbound unit = find (λ name. is_none (definition_of (project_of unit) name)) (map (λ n. n.name) unit.names)

-- The name of a symbol that has no definition.
abbrev pub undefined_name_of : SymKind → List ℕ → Option (List ℕ)
undefined_name_of Undefined name = Some name
undefined_name_of (Fun start size) name = None
undefined_name_of (Var start size) name = None

-- The name of the first symbol that has no definition.
unfoldable pub first_undefined : List (Option Symbol) → Option (List ℕ)
first_undefined [] = None
first_undefined (None ∷ symbols) = first_undefined symbols
first_undefined (Some s ∷ symbols) = option_or (undefined_name_of s.kind s.name) (first_undefined symbols)
