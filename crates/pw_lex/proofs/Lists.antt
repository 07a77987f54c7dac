-- Prefixes of lists that pass a test.
use Rattle.std.proofs.Common.{◌≡◌, ◌+◌, ◌≤◌, Bool, true, inl, inr, List, [], ◌∷◌, ◌++◌, length, take, length-take-le, one-add, refl, arith}
use Rattle.std.proofs.lemmas.List.Sums.{prefix_len-le-length}
use Rattle.std.specs.List.{prefix_len, list_all}
use Rattle.std.proofs.lemmas.Bool.{and_parts, cases_Bool}

-- a prefix that passes counts whole
pub prefix_len-append : {X : Type 0} (p : X → Bool) (v t : List X) → list_all p v ≡ true →
    prefix_len p (v ++ t) ≡ length v + prefix_len p t
prefix_len-append p [] t passes = omega arith
prefix_len-append p (x ∷ v) t passes =
    let parts = and_parts (p x) (list_all p v) passes in
    let more = prefix_len-append p v t parts.1 in
    rw parts.0 (omega arith)

pub length-le-prefix_len : {X : Type 0} (p : X → Bool) (v t : List X) → list_all p v ≡ true → length v ≤ prefix_len p (v ++ t)
length-le-prefix_len p v t passes = omega (arith, prefix_len-append p v t passes)

pub list_all-take_while : {X : Type 0} (p : X → Bool) (xs : List X) → list_all p (take (prefix_len p xs) xs) ≡ true
list_all-take_while p [] = refl
list_all-take_while p (x ∷ xs) =
    elim (cases_Bool (p x)) [
      | inl holds ↦ rw (holds, one-add) (rw holds (list_all-take_while p xs))
      | inr fails ↦ rw fails refl
    ]

pub length-take_while : {X : Type 0} (p : X → Bool) (xs : List X) → length (take (prefix_len p xs) xs) ≡ prefix_len p xs
length-take_while p xs = length-take-le (prefix_len p xs) xs (prefix_len-le-length p xs)
