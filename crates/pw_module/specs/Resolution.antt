-- What the symbols of modules mean (gABI, "Shared Object Dependencies", search for symbols), and which of them mean nothing.
use Rattle.std.specs.Prelude.{◌≡◌, ◌≢◌, ℕ, suc, Bool, true, false, ◌&&◌, ◌⊎◌, if◌then◌else◌, List, [], ◌∷◌, Option, Some, None, Contains, bytes_eq, slice_get, option_and_then}
use Rattle.std.specs.Option.{option_or}
use Rattle.pw_module.specs.declared.module.Module.{Module}
use Rattle.pw_module.specs.declared.module.Def.{Def}
use Rattle.pw_module.specs.declared.symbol.Symbol.{Symbol}
use Rattle.pw_module.specs.declared.symbol.SymKind.{SymKind}
use Rattle.pw_module.specs.declared.symbol.SymKind.TheVariants.{Fun, Var, Undefined}
use Rattle.pw_module.specs.declared.relocation.Reloc.{Reloc}
use Rattle.pw_module.specs.declared.relocation.RelocKind.TheVariants.{Sym}
use Rattle.pw_module.specs.declared.dep_table.FunRec.{FunRec}
use Rattle.pw_module.specs.declared.dep_table.RootRec.{RootRec}
use Rattle.pw_module.specs.LoadOrder.{order_of}

-- ---- symbols

-- A symbol of this kind is defined in its own module.
abbrev pub is_defined : SymKind → Bool
is_defined (Fun start size) = true
is_defined (Var start size) = true
is_defined Undefined = false

-- A symbol defines a name for other modules.
abbrev pub defines_name : List ℕ → Option Symbol → Bool
defines_name name None = false
defines_name name (Some s) = s.global && is_defined s.kind && bytes_eq s.name name

-- The number of the first symbol that does, counted from n on.
abbrev pub defining_from : ℕ → List (Option Symbol) → List ℕ → Option ℕ
defining_from n [] name = None
defining_from n (s ∷ ss) name = if defines_name name s then Some n else defining_from (suc n) ss name

-- The symbol of a number in the module of a number.
abbrev pub symbol_in : Option Module → ℕ → Option Symbol
symbol_in None n = None
symbol_in (Some m) n = option_and_then (λ s. s) (slice_get m.symbols n)

-- The symbol of number n in module number m.
abbrev pub module_symbol : List Module → (m n : ℕ) → Option Symbol
module_symbol modules m n = symbol_in (slice_get modules m) n

-- ---- the search

-- The definition of a name in the module of a number.
abbrev pub as_definition : ℕ → Option ℕ → Option Def
as_definition m None = None
as_definition m (Some n) = Some (record { «module» = m; sym = n })

-- The first definition of a name in the module of a number.
abbrev pub bound_in : Option Module → ℕ → List ℕ → Option Def
bound_in None m name = None
bound_in (Some it) m name = as_definition m (defining_from 0 it.symbols name)

-- The first definition of a name in modules that are searched in this order.
abbrev pub first_bound : List Module → List ℕ → List ℕ → Option Def
first_bound modules [] name = None
first_bound modules (m ∷ ms) name = option_or (bound_in (slice_get modules m) m name) (first_bound modules ms name)

-- A name with external linkage means its first definition in the load order.
abbrev pub bound_name : List Module → List ℕ → Option Def
bound_name modules name = first_bound modules (order_of modules) name

-- A static symbol means itself, and every other one what its name means.
abbrev pub bound_to : List Module → (m n : ℕ) → Symbol → Option Def
bound_to modules m n s = if s.global then bound_name modules s.name else Some (record { «module» = m; sym = n })

-- What the symbol of number n in module number m means.
abbrev pub bound_symbol : List Module → (m n : ℕ) → Option Def
bound_symbol modules m n = option_and_then (bound_to modules m n) (module_symbol modules m n)

-- ---- faults

-- A relocation or a dependency names a symbol, or it is the function's symbol of a root.
abbrev pub IsReferredTo : Module → ℕ → Type 0
IsReferredTo m n =
    ((at : ℕ) × Contains m.relocs (record { offset = at; kind = Sym n }))
    ⊎ ((f : FunRec) × Contains m.deps.funs f × Contains f.deps n)
    ⊎ ((r : RootRec) × Contains m.deps.roots r × (r.fun ≡ n))

-- A symbol that a loaded module refers to has no definition.
pub record IsUnboundSymbol (modules : List Module) (m n : ℕ) : Type 0 where
  pub loaded : Contains (order_of modules) m
  pub it : Module
  pub there : slice_get modules m ≡ Some it
  pub referred : IsReferredTo it n
  pub symbol : Symbol
  pub is : module_symbol modules m n ≡ Some symbol
  pub nowhere : bound_symbol modules m n ≡ None

-- The type string of a symbol that a loaded module refers to is not that of its definition.
pub record DiffersFromBound (modules : List Module) (m n : ℕ) : Type 0 where
  pub loaded : Contains (order_of modules) m
  pub it : Module
  pub there : slice_get modules m ≡ Some it
  pub referred : IsReferredTo it n
  pub symbol : Symbol
  pub is : module_symbol modules m n ≡ Some symbol
  pub definition : Def
  pub means : bound_symbol modules m n ≡ Some definition
  pub defining : Symbol
  pub definition_is : module_symbol modules definition.«module» definition.sym ≡ Some defining
  pub other : symbol.text ≢ defining.text
