-- A set of names by their bytes, and the list of these.
use Rattle.std.proofs.Common.{◌≡◌, ℕ, ◌+◌, Bool, true, false, cond, not, ◌||◌, List, [], ◌∷◌, ◌++◌, map, length, position, None, Some, refl, sym, ap, ◌∙◌, if◌then◌else◌}
use Rattle.std.specs.List.{list_any, position_or_len}
use Rattle.std.specs.Cmp.Lexicographic.{nat_list_eq_equiv}
use Rattle.std.specs.Str.{bytes_eq}
use Rattle.std.proofs.lemmas.List.{map-append}
use Rattle.indexmap.specs.IndexSet.{insert_key}
use Rattle.pw_types.specs.Scopes.{number_of, joined}
use Rattle.pw_types.proofs.Places.{place, nowhere}

module _ {K : Type 0} (bytes : K → List ℕ) (name : List ℕ) where
  abbrev pub at_name : K → Bool
  at_name k = bytes_eq name (bytes k)

  asked : (k : K) → at_name k ≡ bytes_eq (bytes k) name
  asked k = nat_list_eq_equiv.symm name (bytes k)

  -- a name is a key where it is one of the names
  among : (ks : List K) → list_any at_name ks ≡ list_any (λ other. bytes_eq other name) (map bytes ks)
  among [] = refl
  among (k ∷ ks) = λ i. asked k i || among ks i

  -- and stands where its bytes stand
  number : (ks : List K) → position_or_len at_name ks ≡ number_of name (map bytes ks)
  number [] = refl
  number (k ∷ ks) = λ i. cond (not (asked k i)) (1 + number ks i) 0

  pub placed : (ks : List K) (i : ℕ) → position at_name ks ≡ Some i → i ≡ number_of name (map bytes ks)
  placed ks i there = place at_name ks i there ∙ number ks

  pub lacking : (ks : List K) → position at_name ks ≡ None → length ks ≡ number_of name (map bytes ks)
  lacking ks none = sym (nowhere at_name ks none) ∙ number ks

  -- a name that is known changes nothing
  pub joins_known : (ks : List K) → list_any at_name ks ≡ true → map bytes ks ≡ joined (map bytes ks) name
  joins_known ks there = sym (ap (λ b. if b then map bytes ks else map bytes ks ++ name ∷ []) (sym (among ks) ∙ there))

  -- a key that is inserted joins the names
  choice : (ks : List K) (k : K) (b : Bool) →
      map bytes (if b then ks else ks ++ k ∷ []) ≡ (if b then map bytes ks else map bytes ks ++ bytes k ∷ [])
  choice ks k true = refl
  choice ks k false = map-append bytes ks (k ∷ [])

-- a key that is inserted joins the names
pub joins_new : {K : Type 0} (bytes : K → List ℕ) (name : List ℕ) (ks : List K) (k : K) (new : List K) → bytes k ≡ name
    → new ≡ insert_key (λ x y. bytes_eq (bytes x) (bytes y)) ks k → map bytes new ≡ joined (map bytes ks) name
joins_new bytes name ks k new own e =
    ap (map bytes) e
    ∙ choice bytes name ks k (list_any (at_name bytes (bytes k)) ks)
    ∙ ap (λ b. if b then map bytes ks else map bytes ks ++ bytes k ∷ []) (among bytes (bytes k) ks)
    ∙ ap (joined (map bytes ks)) own
