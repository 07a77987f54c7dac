-- The data of the first module, with the addresses that its relocations ask for.
use Rattle.std.specs.Prelude.{ℕ, ◌+◌, ◌-◌, ◌≤◌, List, [], ◌∷◌, ◌++◌, length, take, drop, Option, slice_get, option_and_then}
use Rattle.std.specs.Option.{option_map_or}
use Rattle.pw_base.specs.Bytes.{le_bytes}
use Rattle.pw_base.specs.Limits.{data_offset}
use Rattle.pw_module.specs.declared.symbol.Symbol.{Symbol}
use Rattle.pw_module.specs.declared.symbol.SymKind.{SymKind}
use Rattle.pw_module.specs.declared.symbol.SymKind.TheVariants.{Fun, Var, Undefined}
use Rattle.pw_module.specs.declared.relocation.Reloc.{Reloc}
use Rattle.pw_module.specs.declared.relocation.RelocKind.{RelocKind}
use Rattle.pw_module.specs.declared.relocation.RelocKind.TheVariants.{Sym, Base}
use Rattle.pw_agree.specs.Placing.{base_of, text_of, data_of}

-- The address of what a symbol stands for; of a name without a definition it is 0.
abbrev pub address_of_kind : SymKind → ℕ
address_of_kind (Fun start size) = text_of 0 + start
address_of_kind (Var start size) = data_of 0 + start
address_of_kind Undefined = 0

-- The address of the symbol of this number, where there is one.
abbrev pub symbol_address : List (Option Symbol) → ℕ → ℕ
symbol_address symbols n = option_map_or (λ s. address_of_kind s.kind) (option_and_then (λ s. s) (slice_get symbols n)) 0

-- The address that a relocation asks for.
abbrev pub relocation_value : List (Option Symbol) → RelocKind → ℕ
relocation_value symbols (Sym n) = symbol_address symbols n
relocation_value symbols (Base distance) = base_of 0 + distance

-- Bytes with others put in at a place.
abbrev pub put_at : List ℕ → (at : ℕ) → List ℕ → List ℕ
put_at content at new = take at content ++ (new ++ drop (at + length new) content)

-- The data with the address of each relocation in its place.
unfoldable pub relocated : List (Option Symbol) → List ℕ → List Reloc → List ℕ
relocated symbols content [] = content
relocated symbols content (r ∷ rs) =
    relocated symbols (put_at content (r.offset - data_offset) (le_bytes 8 (relocation_value symbols r.kind))) rs

-- A relocation's place lies in data of so many bytes.
pub record LiesInData (size : ℕ) (r : Reloc) : Type 0 where
  pub from : data_offset ≤ r.offset
  pub to : r.offset - data_offset + 8 ≤ size
