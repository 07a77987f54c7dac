-- Which kinds of names have a type's text, and which names are used.
use Rattle.std.specs.Prelude.{◌≡◌, ℕ, ◌<◌, Bool, false, List, [], ◌∷◌, length, ⊤, nat_eq, slice_index_or}
use Rattle.std.specs.List.{list_any}
use Rattle.pw_tree.specs.Types.{IsValueType, IsArraySize}
use Rattle.pw_tree.specs.WellTypedExpressions.{IsSignature}
use Rattle.pw_types.specs.declared.names.Kind.{Kind}
use Rattle.pw_types.specs.declared.names.Kind.TheVariants.{Function, Variable}
use Rattle.pw_types.specs.declared.names.File.{File}

-- a kind of names whose type has a text
abbrev pub HasText : Kind → Type 0
HasText (Function sig) = IsSignature sig
HasText (Variable ty size) = IsValueType ty × IsArraySize size

-- each of the names has one
unfoldable pub HaveTexts : List File → Type 0
HaveTexts [] = ⊤
HaveTexts (f ∷ fs) = HasText f.kind × HaveTexts fs

-- the numbers below the flags' number that are used are flagged
abbrev pub AreFlags : List ℕ → List Bool → Type 0
AreFlags used flags = (k : ℕ) → k < length flags → slice_index_or flags k false ≡ list_any (λ n. nat_eq n k) used
