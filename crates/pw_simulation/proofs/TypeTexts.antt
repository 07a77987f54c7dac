-- Types that have one text are one type.
use Rattle.std.proofs.Common.{◌≡◌, ℕ, ◌^◌, ◌<◌, List, [], ◌∷◌, ◌++◌, map, Option, Some, None, decimal, codes, refl, sym, ◌∙◌, ap, arith}
use Rattle.std.proofs.lemmas.Fmt.{decimal_is_IsNumeral}
use Rattle.std.specs.Str.Parse.{digits_value}
use Rattle.pw_tree.specs.declared.ty.Ty.{Ty}
use Rattle.pw_tree.specs.declared.ty.Ty.TheVariants.{Void, Long, Ulong, Fn}
use Rattle.pw_tree.specs.declared.ty.Sig.{Sig}
use Rattle.pw_tree.specs.Types.{IsResultType, IsValueType, AreValueTypes, IsArraySize}
use Rattle.pw_tree.specs.TypeTexts.{letter_of, text_of_function, text_of_variable}
use Rattle.pw_tree.specs.WellTypedExpressions.{IsSignature}

-- ---- letters

pub letter_says : (a b : Ty) → IsResultType a → IsResultType b → letter_of a ≡ letter_of b → a ≡ b
letter_says Void Void ha hb h = refl
letter_says Void Long ha hb h = absurd (omega arith)
letter_says Void Ulong ha hb h = absurd (omega arith)
letter_says Void (Fn k) ha hb h = absurd (omega arith)
letter_says Long Void ha hb h = absurd (omega arith)
letter_says Long Long ha hb h = refl
letter_says Long Ulong ha hb h = absurd (omega arith)
letter_says Long (Fn k) ha hb h = absurd (omega arith)
letter_says Ulong Void ha hb h = absurd (omega arith)
letter_says Ulong Long ha hb h = absurd (omega arith)
letter_says Ulong Ulong ha hb h = refl
letter_says Ulong (Fn k) ha hb h = absurd (omega arith)
letter_says (Fn j) Void ha hb h = absurd (omega arith)
letter_says (Fn j) Long ha hb h = absurd (omega arith)
letter_says (Fn j) Ulong ha hb h = absurd (omega arith)
letter_says (Fn j) (Fn k) ha hb h = let same : j ≡ k = omega arith in ap Fn same

pub as_result : (ty : Ty) → IsValueType ty → IsResultType ty
as_result Void h = absurd h
as_result Long h = tt
as_result Ulong h = tt
as_result (Fn k) h = h

letters_say : (xs ys : List Ty) → AreValueTypes xs → AreValueTypes ys → map letter_of xs ≡ map letter_of ys → xs ≡ ys
unfolding AreValueTypes
letters_say [] [] hx hy h = refl
letters_say [] (y ∷ ys) hx hy h = cc
letters_say (x ∷ xs) [] hx hy h = cc
letters_say (x ∷ xs) (y ∷ ys) hx hy h =
    let first : letter_of x ≡ letter_of y = cc in
    let rest : map letter_of xs ≡ map letter_of ys = cc in
    let a = letter_says x y (as_result x hx.0) (as_result y hy.0) first in
    let b = letters_say xs ys hx.1 hy.1 rest in cc

-- ---- lists that end in one element

not_empty : {X : Type 0} (xs : List X) (x : X) → xs ++ x ∷ [] ≡ [] → ⊥
not_empty [] x h = cc
not_empty (y ∷ ys) x h = cc

pub without_last : {X : Type 0} (xs ys : List X) (x : X) → xs ++ x ∷ [] ≡ ys ++ x ∷ [] → xs ≡ ys
without_last [] [] x h = refl
without_last [] (y ∷ ys) x h = let none : ys ++ x ∷ [] ≡ [] = cc in absurd (not_empty ys x none)
without_last (y ∷ ys) [] x h = let none : ys ++ x ∷ [] ≡ [] = cc in absurd (not_empty ys x none)
without_last (y ∷ ys) (z ∷ zs) x h =
    let first : y ≡ z = cc in
    let rest : ys ++ x ∷ [] ≡ zs ++ x ∷ [] = cc in
    let r = without_last ys zs x rest in cc

-- ---- texts

abbrev sig_of : Ty → List Ty → Sig
sig_of result params = record { result = result; params = params }

one_sig : (r s : Ty) (ps qs : List Ty) → r ≡ s → ps ≡ qs → sig_of r ps ≡ sig_of s qs
one_sig r s ps qs a b = cc

-- one text of functions is of one signature
pub function_text_says : (a b : Sig) → IsSignature a → IsSignature b → text_of_function a ≡ text_of_function b → a ≡ b
function_text_says a b ha hb h =
    let first : letter_of a.result ≡ letter_of b.result = cc in
    let rest : map letter_of a.params ++ codes ")" ≡ map letter_of b.params ++ codes ")" = cc in
    let params = letters_say a.params b.params ha.params hb.params (without_last (map letter_of a.params) (map letter_of b.params) 41 rest) in
    let result = letter_says a.result b.result ha.result hb.result first in
    one_sig a.result b.result a.params b.params result params

-- the digits of one number are of one number
digits_say : (m n : ℕ) → m < 2 ^ 64 → n < 2 ^ 64 → decimal m ≡ decimal n → m ≡ n
digits_say m n hm hn h = sym (decimal_is_IsNumeral m hm).1 ∙ ap (λ (ds : List ℕ). digits_value 10 ds) h ∙ (decimal_is_IsNumeral n hn).1

-- a type and a size
pub record IsOneShape (a b : Ty) (m n : Option ℕ) : Type 0 where
  pub types : a ≡ b
  pub sizes : m ≡ n

-- one text of variables is of one type and size
pub variable_text_says : (a b : Ty) (m n : Option ℕ) → IsValueType a → IsValueType b → IsArraySize m → IsArraySize n → text_of_variable a m ≡ text_of_variable b n → IsOneShape a b m n
variable_text_says a b None None ha hb hm hn h =
    let first : letter_of a ≡ letter_of b = cc in record { types = letter_says a b (as_result a ha) (as_result b hb) first; sizes = refl }
variable_text_says a b None (Some n) ha hb hm hn h = cc
variable_text_says a b (Some m) None ha hb hm hn h = cc
variable_text_says a b (Some m) (Some n) ha hb hm hn h =
    let first : letter_of a ≡ letter_of b = cc in
    let rest : decimal m ++ codes "]" ≡ decimal n ++ codes "]" = cc in
    let small_m = hm.1 in
    let small_n = hn.1 in
    let same = digits_say m n (omega arith) (omega arith) (without_last (decimal m) (decimal n) 93 rest) in
    record { types = letter_says a b (as_result a ha) (as_result b hb) first; sizes = ap Some same }

-- no function has the text of a variable
pub texts_differ : (sig : Sig) (ty : Ty) (size : Option ℕ) → text_of_function sig ≡ text_of_variable ty size → ⊥
texts_differ sig ty None h = cc
texts_differ sig ty (Some n) h =
    absurd (apart 40 91 refl refl (second (letter_of sig.result) 40 (map letter_of sig.params ++ codes ")") (letter_of ty) 91 (decimal n ++ codes "]") h))
  where
    second : (a b : ℕ) (xs : List ℕ) (c d : ℕ) (ys : List ℕ) → a ∷ b ∷ xs ≡ c ∷ d ∷ ys → b ≡ d
    second a b xs c d ys e = cc

    apart : (a b : ℕ) → a ≡ 40 → b ≡ 91 → a ≡ b → ⊥
    apart a b ha hb e = omega arith
