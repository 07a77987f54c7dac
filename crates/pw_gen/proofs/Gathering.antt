-- References that are gathered one after the other, each unless it is there already, are those of the list, each once.
use Rattle.std.proofs.Common.{◌≡◌, Bool, true, false, not, ◌||◌, ◌&&◌, cond, List, [], ◌∷◌, ◌++◌, refl, sym, ap, ◌∙◌, append_assoc, append-nil, Result, Ok, Err}
use Rattle.std.specs.Prelude.{OnOk}
use Rattle.pw_base.specs.declared.no_memory.NoMemory.{NoMemory}
use Rattle.std.specs.List.{filter, list_any}
use Rattle.std.proofs.lemmas.Grind.{fold-append}
use Rattle.std.proofs.lemmas.List.Elements.{filter_agree}
use Rattle.pw_tree.specs.declared.ty.Ref.{Ref}
use Rattle.pw_code.specs.Objects.{same_ref, each_once}
use Rattle.pw_gen.specs.Steps.Naming.{joined, joined_all}
use Rattle.pw_gen.specs.Steps.ReferenceKeys.{same_is_equal}

-- ---- filters

module _ {X : Type 0} (p : X → Bool) where
  filtered_step : (b : Bool) (x : X) (ys zs : List X) → filter p ys ≡ zs → filter p (cond b (x ∷ ys) ys) ≡ cond (b && p x) (x ∷ zs) zs
  filtered_step true x ys zs e = ap (λ l. cond (p x) (x ∷ l) l) e
  filtered_step false x ys zs e = e

  two_filters : (q : X → Bool) (xs : List X) → filter p (filter q xs) ≡ filter (λ x. q x && p x) xs
  two_filters q [] = refl
  two_filters q (x ∷ xs) = filtered_step (q x) x (filter q xs) (filter (λ x. q x && p x) xs) (two_filters q xs)

any_append : {X : Type 0} (t : X → Bool) (xs : List X) (y : X) → list_any t (xs ++ y ∷ []) ≡ (list_any t xs || (t y || false))
any_append t [] y = refl
any_append t (x ∷ xs) y = ap (λ b. t x || b) (any_append t xs y) ∙ sym (by (t x) (list_any t xs) (t y || false))
  where
    by : (a b c : Bool) → ((a || b) || c) ≡ (a || (b || c))
    by true b c = refl
    by false b c = refl

-- ---- one reference

-- whether a reference is none of those found
abbrev is_new : List Ref → Ref → Bool
is_new found r = not (list_any (λ other. same_ref other r) found)

abbrev is_other : Ref → Ref → Bool
is_other r other = not (same_ref r other)

-- where a reference is found already, those that are the same are found too
found_out : (found : List Ref) (r o : Ref) (known same : Bool) → list_any (λ other. same_ref other r) found ≡ known → known ≡ true →
    same_ref r o ≡ same → (not same && is_new found o) ≡ is_new found o
found_out found r o known true k t s =
    let e : r ≡ o = same_is_equal r o s in
    ap not (sym (ap (λ x. list_any (λ other. same_ref other x) found) (sym e) ∙ k ∙ t))
found_out found r o known false k t s = refl

not_both : (a b : Bool) → not (a || (b || false)) ≡ (not b && not a)
not_both true true = refl
not_both true false = refl
not_both false true = refl
not_both false false = refl

-- ---- all

gathered_by : (found : List Ref) (r : Ref) (rs : List Ref) (known : Bool) → list_any (λ other. same_ref other r) found ≡ known →
    ((f : List Ref) → joined_all f rs ≡ f ++ filter (is_new f) (each_once rs)) →
    joined_all (cond known found (found ++ r ∷ [])) rs
    ≡ found ++ cond (not known) (r ∷ filter (is_new found) (filter (is_other r) (each_once rs))) (filter (is_new found) (filter (is_other r) (each_once rs)))
gathered_by found r rs true k h =
    h found
    ∙ ap (λ l. found ++ l) (sym (two_filters (is_new found) (is_other r) (each_once rs)
    ∙ filter_agree (λ o. is_other r o && is_new found o) (is_new found) (λ o. found_out found r o true (same_ref r o) k refl refl) (each_once rs)))
gathered_by found r rs false k h =
    h (found ++ r ∷ [])
    ∙ append_assoc found (r ∷ []) (filter (is_new (found ++ r ∷ [])) (each_once rs))
    ∙ ap (λ l. found ++ r ∷ l) (filter_agree (is_new (found ++ r ∷ [])) (λ o. is_other r o && is_new found o)
    (λ o. ap not (any_append (λ other. same_ref other o) found r) ∙ not_both (list_any (λ other. same_ref other o) found) (same_ref r o)) (each_once rs)
    ∙ sym (two_filters (is_new found) (is_other r) (each_once rs)))

gathered_after : (rs found : List Ref) → joined_all found rs ≡ found ++ filter (is_new found) (each_once rs)
unfolding each_once
gathered_after [] found = sym (append-nil found)
gathered_after (r ∷ rs) found =
    gathered_by found r rs (list_any (λ other. same_ref other r) found) refl (λ f. gathered_after rs f)

every_new : (rs : List Ref) → filter (is_new []) rs ≡ rs
every_new [] = refl
every_new (r ∷ rs) = ap (λ l. r ∷ l) (every_new rs)

-- What is gathered from the start is the list, each once.
pub gathered : (rs : List Ref) → joined_all [] rs ≡ each_once rs
gathered rs = gathered_after rs [] ∙ every_new (each_once rs)

-- ---- lists after lists

joined_append : (found xs ys : List Ref) → joined_all found (xs ++ ys) ≡ joined_all (joined_all found xs) ys
joined_append found xs ys = fold-append joined found xs ys

-- Four lists join, one after the other.
pub four_joined : (old first second third last a b c d : List Ref) → first ≡ joined_all old a → second ≡ joined_all first b →
    third ≡ joined_all second c → last ≡ joined_all third d → last ≡ joined_all old (a ++ b ++ c ++ d)
four_joined old first second third last a b c d e1 e2 e3 e4 =
    e4 ∙ ap (λ x. joined_all x d) (e3 ∙ ap (λ x. joined_all x c) (e2 ∙ ap (λ x. joined_all x b) e1))
    ∙ sym (joined_append old (a ++ b ++ c) d ∙ ap (λ x. joined_all x d) (joined_append old (a ++ b) c ∙ ap (λ x. joined_all x c) (joined_append old a b)))

-- What follows of a call that succeeds.
pub on_ok : (r : Result (Unit {0}) NoMemory) (P Q : Type 0) → (P → Q) → OnOk r P → OnOk r Q
on_ok (Ok _) P Q f h = f h
on_ok (Err _) P Q f h = tt
