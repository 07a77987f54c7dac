-- What external names stand for, as definitions are met one after another.
use Rattle.std.specs.Prelude.{ℕ, zero, suc, ◌&&◌, Bool, false, if◌then◌else◌, List, [], ◌∷◌, map, find, bytes_eq, slice_get, Option, Some, option_map}
use Rattle.std.specs.List.{position_or_len}
use Rattle.std.specs.Option.{option_or, option_map_or, is_none}
use Rattle.pw_tree.specs.declared.tunit.Ext.{Ext}
use Rattle.pw_module.specs.declared.symbol.Symbol.{Symbol}
use Rattle.pw_module.specs.declared.symbol.SymKind.{SymKind}

-- A symbol is that of an external definition with this name.
abbrev pub defines : (name : List ℕ) → Symbol → Bool
defines name s = s.global && bytes_eq s.name name

-- What a name stands for among the symbols of definitions, if it is defined there.
abbrev pub kind_among : List Symbol → (name : List ℕ) → Option SymKind
kind_among defined name = option_map (λ s. s.kind) (find (defines name) defined)

-- And what names stand for.
abbrev pub kinds_among : List Symbol → List Ext → List (Option SymKind)
kinds_among defined names = map (λ n. kind_among defined n.name) names

-- There is a name of this number, and nothing is known of it.
abbrev pub is_unknown_at : List (Option SymKind) → (number : ℕ) → Bool
is_unknown_at kinds number = option_map_or is_none (slice_get kinds number) false

-- A definition of the name of a number is met: the first one counts. No name has a number past the end.
abbrev pub met_at : List (Option SymKind) → (number : ℕ) → SymKind → List (Option SymKind)
met_at [] number kind = []
met_at (known ∷ kinds) zero kind = option_or known (Some kind) ∷ kinds
met_at (known ∷ kinds) (suc number) kind = known ∷ met_at kinds number kind

-- The symbol of a definition is met.
abbrev pub symbol_met : List Ext → List (Option SymKind) → Symbol → List (Option SymKind)
symbol_met names kinds s =
    if s.global then met_at kinds (position_or_len (λ n. bytes_eq s.name n.name) names) s.kind else kinds
