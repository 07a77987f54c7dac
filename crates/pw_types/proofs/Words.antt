-- What an expression that is a name designates.
use Rattle.std.proofs.Common.{◌≡◌, ℕ, List, Option, Some, subst}
use Rattle.pw_tree.specs.Expressions.{Span, Expression, constant, word, unary, binary, conditional, call, index, input, output}
use Rattle.pw_types.specs.declared.expression_word.NamedFunction.{NamedFunction}
use Rattle.pw_types.specs.declared.expression_word.NamedArray.{NamedArray}
use Rattle.pw_types.specs.Scopes.{Scope}
use Rattle.pw_types.specs.Typed.{array_named, array_of, function_named, function_of}
use Rattle.pw_types.specs.Steps.Uses.{uses, uses_of_name}
use Rattle.pw_types.specs.Steps.Words.{word_in, IsNamedFunction, IsNamedArray}

of_word : (P : Expression → Type 0) (p : Expression) (name : List ℕ) → word_in p ≡ Some name →
    ((at : Span) → P (word at name)) → P p
of_word P (word at n) name h found = let e : name ≡ n = cc in subst (λ m. P (word at m)) e (found at)
of_word P (constant at value unsigned) name h found = cc
of_word P (unary at op e) name h found = cc
of_word P (binary at op l r) name h found = cc
of_word P (conditional at c a b) name h found = cc
of_word P (call at f es) name h found = cc
of_word P (index at b i) name h found = cc
of_word P (input at) name h found = cc
of_word P (output at e) name h found = cc

pub function_by_word : (scope : Scope) (p : Expression) (name : List ℕ) (r : Option NamedFunction) → word_in p ≡ Some name
    → IsNamedFunction scope (function_named scope name) (uses_of_name scope name) r → IsNamedFunction scope (function_of scope p) (uses scope p) r
unfolding uses
function_by_word scope p name r is found = of_word (λ q. IsNamedFunction scope (function_of scope q) (uses scope q) r) p name is (λ at. found)

pub array_by_word : (scope : Scope) (p : Expression) (name : List ℕ) (r : Option NamedArray) → word_in p ≡ Some name
    → IsNamedArray scope (array_named scope name) (uses_of_name scope name) r → IsNamedArray scope (array_of scope p) (uses scope p) r
unfolding uses
array_by_word scope p name r is found = of_word (λ q. IsNamedArray scope (array_of scope q) (uses scope q) r) p name is (λ at. found)
