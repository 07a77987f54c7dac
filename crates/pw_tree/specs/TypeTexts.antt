-- The texts of types, by which two declarations of one name are compared.
use Rattle.std.specs.Prelude.{ℕ, ◌+◌, List, [], ◌∷◌, ◌++◌, Option, Some, None, map, decimal, codes}
use Rattle.pw_tree.specs.declared.ty.Ty.{Ty}
use Rattle.pw_tree.specs.declared.ty.Ty.TheVariants.{Void, Long, Ulong, Fn}
use Rattle.pw_tree.specs.declared.ty.Sig.{Sig}

-- A type's letter: `v` void, `l` long, `u` unsigned long, and the digit k for fnk.
abbrev pub letter_of : Ty → ℕ
letter_of Void = 118
letter_of Long = 108
letter_of Ulong = 117
letter_of (Fn k) = 48 + k

-- A function's text is its result, then its parameters in brackets: `l(l1)` is `long f(long, fn1)`.
abbrev pub text_of_function : Sig → List ℕ
text_of_function sig = letter_of sig.result ∷ codes "(" ++ map letter_of sig.params ++ codes ")"

-- A variable's text is its type's letter; an array's has its size after that, as `l[16]`.
abbrev pub text_of_variable : Ty → Option ℕ → List ℕ
text_of_variable ty None = letter_of ty ∷ []
text_of_variable ty (Some count) = letter_of ty ∷ codes "[" ++ decimal count ++ codes "]"
