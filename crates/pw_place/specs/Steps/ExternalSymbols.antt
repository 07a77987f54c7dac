-- The symbols of external names, of which is known what each stands for.
use Rattle.std.specs.Prelude.{ℕ, true, List, Option, Some, None, slice_get}
use Rattle.pw_tree.specs.declared.tunit.Ext.{Ext}
use Rattle.pw_module.specs.declared.symbol.Symbol.{Symbol}
use Rattle.pw_module.specs.declared.symbol.SymKind.{SymKind}
use Rattle.pw_module.specs.declared.symbol.SymKind.TheVariants.{Undefined}

-- What is known, or that a name is not defined.
abbrev pub known_kind : Option (Option SymKind) → SymKind
known_kind (Some (Some kind)) = kind
known_kind (Some None) = Undefined
known_kind None = Undefined

-- What the name of this number stands for; nothing of this module where it has no number.
abbrev pub kind_at : List (Option SymKind) → (number : ℕ) → SymKind
kind_at kinds number = known_kind (slice_get kinds number)

-- The symbol of a name, which comes with its number.
abbrev pub symbol_of_name : List (Option SymKind) → ℕ × Ext → Symbol
symbol_of_name kinds (number, n) =
    record { name = n.name; global = true; kind = kind_at kinds number; text = n.text }
