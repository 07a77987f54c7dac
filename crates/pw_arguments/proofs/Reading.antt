-- What was read of the arguments so far, one more, and all of them.
use Rattle.std.proofs.Common.{◌≡◌, ℕ, zero, suc, ◌+◌, List, [], ◌∷◌, ◌++◌, drop, refl, ap, sym, ◌∙◌, append_assoc, append-nil, Some, None}
use Rattle.std.specs.Prelude.{Option, Vec, slice_get, IfSome}
use Rattle.std.specs.declared.alloc.Global.{Global}
use Rattle.std.proofs.lemmas.List.{drop_more, map-append}
use Rattle.std.proofs.lemmas.Option.{slice_get_within, get_or_from_slice_get}
use Rattle.pw_arguments.specs.Arguments.{IsArgument, AreAfterName, bytes_of}

-- what stands from a place on, by the element there
from_place : {A : Type 0} (xs : List A) (i : ℕ) (x : A) → slice_get xs i ≡ Some x → drop i xs ≡ x ∷ drop (i + 1) xs
from_place xs i x there =
    drop_more xs i x (slice_get_within xs i x there) ∙ ap (λ y. y ∷ drop (i + 1) xs) (get_or_from_slice_get xs i x x there)

-- nothing stands from a place on where no element is
from_no_place : {A : Type 0} (xs : List A) (i : ℕ) → slice_get xs i ≡ None → drop i xs ≡ []
from_no_place [] zero none = refl
from_no_place [] (suc i) none = refl
from_no_place (x ∷ xs) zero none = absurd (some_is_not_none none) where
  some_is_not_none : {A : Type 0} {x : A} → Some x ≡ None → ⊥
  some_is_not_none e = cc
from_no_place (x ∷ xs) (suc i) none = from_no_place xs i none

-- the arguments after the program's name are those that were read, and then those from this number on
abbrev pub IsReadTo : Option (List (List ℕ)) → List (Vec ℕ Global) → ℕ → Type 0
IsReadTo arguments found number = IfSome arguments (λ list. drop 1 list ≡ bytes_of found ++ drop number list)

pub read_none : (arguments : Option (List (List ℕ))) (found : List (Vec ℕ Global)) → found ≡ [] → IsReadTo arguments found 1
read_none None found is = tt
read_none (Some list) found is = ap (λ none. bytes_of none ++ drop 1 list) (sym is)

pub read_one : (arguments : Option (List (List ℕ))) (found more : List (Vec ℕ Global)) (argument : Vec ℕ Global) (number : ℕ) →
    more ≡ found ++ argument ∷ [] → IsReadTo arguments found number → IsArgument arguments number (Some argument) →
    IsReadTo arguments more (number + 1)
read_one None found more argument number is read there = tt
read_one (Some list) found more argument number is read there =
    read
    ∙ ap (λ rest. bytes_of found ++ rest) (from_place list number argument.items there)
    ∙ sym (append_assoc (bytes_of found) (argument.items ∷ []) (drop (number + 1) list))
    ∙ ap (λ bytes. bytes ++ drop (number + 1) list) (sym (ap bytes_of is ∙ map-append (λ a. a.items) found (argument ∷ [])))

pub read_all : (arguments : Option (List (List ℕ))) (found : List (Vec ℕ Global)) (number : ℕ) →
    IsReadTo arguments found number → IsArgument arguments number None → AreAfterName arguments (bytes_of found)
read_all None found number read there = tt
read_all (Some list) found number read there =
    read ∙ ap (λ rest. bytes_of found ++ rest) (from_no_place list number there) ∙ append-nil (bytes_of found)
