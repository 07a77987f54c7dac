-- External names: what a list finds under a name, and which of a unit's definitions has it.
use Rattle.std.proofs.Common.{◌≡◌, ℕ, Bool, true, false, not, cond, List, [], ◌∷◌, ◌++◌, map, Option, Some, None, refl, sym, ap, ◌∙◌, bytes_eq}
use Rattle.std.specs.Prelude.{find}
use Rattle.std.specs.Option.{option_or}
use Rattle.std.specs.List.{AllByRecursion, IsDistinct, filter}
use Rattle.std.proofs.lemmas.Slice.Eq.{bytes_eq-Decides}
use Rattle.pw_tree.specs.declared.tunit.Ext.{Ext}
use Rattle.pw_place.specs.Names.{first_of_each, same_name}
use Rattle.pw_image.proofs.Lists.{bytes_eq_sym, all_pass}

-- ---- equal texts

pub bytes_eq_is : (a b : List ℕ) → bytes_eq a b ≡ true → a ≡ b
bytes_eq_is a b h = (bytes_eq-Decides a b).0 h

pub bytes_eq_itself : (a : List ℕ) → bytes_eq a a ≡ true
bytes_eq_itself a = (bytes_eq-Decides a a).1 refl

-- ---- the first that passes

pub find_in_both : {X : Type 0} (p : X → Bool) (xs ys : List X) → find p (xs ++ ys) ≡ option_or (find p xs) (find p ys)
find_in_both p [] ys = refl
find_in_both p (x ∷ xs) ys = by_test (p x) x (find p (xs ++ ys)) (find p xs) (find p ys) (find_in_both p xs ys)
  where
    by_test : {X : Type 0} (b : Bool) (x : X) (both here there : Option X) → both ≡ option_or here there →
        cond b (Some x) both ≡ option_or (cond b (Some x) here) there
    by_test true x both here there h = refl
    by_test false x both here there h = h

pub or_none : {X : Type 0} (o : Option X) → option_or o None ≡ o
or_none None = refl
or_none (Some x) = refl

pub find_same : {X : Type 0} (p q : X → Bool) → ((x : X) → p x ≡ q x) → (xs : List X) → find p xs ≡ find q xs
find_same p q h [] = refl
find_same p q h (x ∷ xs) = λ i. cond (h x i) (Some x) (find_same p q h xs i)

-- what is found passes
pub found_passes : {X : Type 0} (p : X → Bool) (xs : List X) (x : X) → find p xs ≡ Some x → p x ≡ true
found_passes p [] x h = cc
found_passes p (y ∷ ys) x h = by_test (p y) refl h (found_passes p ys x)
  where
    by_test : (b : Bool) → p y ≡ b → cond b (Some y) (find p ys) ≡ Some x → (find p ys ≡ Some x → p x ≡ true) → p x ≡ true
    by_test true e g more = let same : y ≡ x = cc in ap p (sym same) ∙ e
    by_test false e g more = more g

-- ---- each name once

pub distinct_once : (ns : List Ext) → IsDistinct bytes_eq (map (λ (n : Ext). n.name) ns) → first_of_each same_name ns ≡ ns
unfolding first_of_each IsDistinct
distinct_once [] h = refl
distinct_once (n ∷ ns) h =
    ap (λ l. n ∷ l) (ap (filter (λ y. not (same_name y n))) (distinct_once ns h.1) ∙ all_pass (λ y. not (same_name y n)) ns (each ns h.0))
  where
    each : (ms : List Ext) → AllByRecursion (λ b. bytes_eq n.name b ≡ false) (map (λ (m : Ext). m.name) ms) → AllByRecursion (λ y. not (same_name y n) ≡ true) ms
    each [] k = tt
    each (m ∷ ms) k = (ap not (bytes_eq_sym m.name n.name ∙ k.0), each ms k.1)
