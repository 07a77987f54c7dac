-- Expressions that are names, and what looking such a name up answers.
use Rattle.std.specs.Prelude.{◌≡◌, ℕ, List, [], ◌∷◌, Option, Some, None}
use Rattle.pw_tree.specs.Expressions.{Expression, constant, word, unary, binary, conditional, call, index, input, output}
use Rattle.pw_types.specs.declared.expression_word.NamedFunction.{NamedFunction}
use Rattle.pw_types.specs.declared.expression_word.NamedArray.{NamedArray}
use Rattle.pw_types.specs.Scopes.{Scope, function_reference, variable_reference}
use Rattle.pw_types.specs.Typed.{Array, Designated}

-- the name that an expression is
abbrev pub word_in : Expression → Option (List ℕ)
word_in (word at name) = Some name
word_in (constant at value unsigned) = None
word_in (unary at op e) = None
word_in (binary at op l r) = None
word_in (conditional at c a b) = None
word_in (call at f es) = None
word_in (index at b i) = None
word_in (input at) = None
word_in (output at e) = None

-- the function that is designated, and its one use
pub record Designates (scope : Scope) (d : Option Designated) (uses : List ℕ) (f : NamedFunction) : Type 0 where
  pub function : d ≡ Some (record { reference = function_reference scope f.file.now; sig = f.sig.now })
  pub used : uses ≡ f.number ∷ []

-- the function that a name designates, if it designates one
abbrev pub IsNamedFunction : Scope → Option Designated → List ℕ → Option NamedFunction → Type 0
IsNamedFunction scope d uses None = d ≡ None
IsNamedFunction scope d uses (Some f) = Designates scope d uses f

-- the array that is designated, and its one use
pub record HasElements (scope : Scope) (a : Option Array) (uses : List ℕ) (e : NamedArray) : Type 0 where
  pub array : a ≡ Some (record { reference = variable_reference scope e.file.now; ty = e.ty; size = e.size })
  pub used : uses ≡ e.number ∷ []

-- the array that a name designates, if it designates one
abbrev pub IsNamedArray : Scope → Option Array → List ℕ → Option NamedArray → Type 0
IsNamedArray scope a uses None = a ≡ None
IsNamedArray scope a uses (Some e) = HasElements scope a uses e
