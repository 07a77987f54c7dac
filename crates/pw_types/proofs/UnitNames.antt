-- Names that join one after another are those of the list, each once.
use Rattle.std.proofs.Common.{◌≡◌, ℕ, Bool, true, false, ◌||◌, if◌then◌else◌, List, [], ◌∷◌, ◌++◌, refl, sym, ◌∙◌, ap, append_assoc, bytes_eq}
use Rattle.std.specs.List.{list_any}
use Rattle.std.proofs.lemmas.List.{append-nil}
use Rattle.std.proofs.lemmas.List.Folds.{list_any-append}
use Rattle.std.proofs.lemmas.Slice.Eq.{bytes_eq-Decides}
use Rattle.pw_types.specs.Scopes.{joined}
use Rattle.pw_types.specs.Units.{without, each_once}

-- whether a name is among these
abbrev has : List (List ℕ) → List ℕ → Bool
has names name = list_any (λ other. bytes_eq other name) names

-- the others, without the names that are among these
unfoldable without_all : List (List ℕ) → List (List ℕ) → List (List ℕ)
without_all names [] = []
without_all names (other ∷ others) = if has names other then without_all names others else other ∷ without_all names others

-- names that join these, one after another
unfoldable pub joined_all : List (List ℕ) → List (List ℕ) → List (List ℕ)
joined_all names [] = names
joined_all names (name ∷ others) = joined_all (joined names name) others

-- ---- leaving out a name that is left out already

known_step : (names : List (List ℕ)) (name other : List ℕ) (others : List (List ℕ)) (b : Bool) → bytes_eq name other ≡ b
    → has names name ≡ true → without_all names (without name others) ≡ without_all names others
    → without_all names (if b then without name others else other ∷ without name others)
    ≡ (if has names other then without_all names others else other ∷ without_all names others)
unfolding without_all
known_step names name other others true e there same =
    let also : has names other ≡ true = sym (ap (has names) ((bytes_eq-Decides name other).0 e)) ∙ there in
    same ∙ sym (ap (λ c. if c then without_all names others else other ∷ without_all names others) also)
known_step names name other others false e there same =
    ap (λ l. if has names other then l else other ∷ l) same

without_known : (names : List (List ℕ)) (name : List ℕ) (others : List (List ℕ)) → has names name ≡ true
    → without_all names (without name others) ≡ without_all names others
unfolding without without_all
without_known names name [] there = refl
without_known names name (other ∷ others) there =
    known_step names name other others (bytes_eq name other) refl there (without_known names name others there)

-- ---- leaving out one name more

has_more : (names : List (List ℕ)) (name other : List ℕ) →
    has (names ++ name ∷ []) other ≡ (has names other || (bytes_eq name other || false))
has_more names name other = list_any-append (λ o. bytes_eq o other) names (name ∷ [])

or_false : (b : Bool) → (b || (false || false)) ≡ b
or_false true = refl
or_false false = refl

or_true : (b : Bool) → (b || (true || false)) ≡ true
or_true true = refl
or_true false = refl

more_step : (names : List (List ℕ)) (name other : List ℕ) (others : List (List ℕ)) (b : Bool) → bytes_eq name other ≡ b
    → without_all (names ++ name ∷ []) others ≡ without_all names (without name others)
    → (if has (names ++ name ∷ []) other then without_all (names ++ name ∷ []) others else other ∷ without_all (names ++ name ∷ []) others)
    ≡ without_all names (if b then without name others else other ∷ without name others)
unfolding without_all
more_step names name other others true e same =
    let left = without_all (names ++ name ∷ []) others in
    let is : has (names ++ name ∷ []) other ≡ true =
    has_more names name other ∙ ap (λ c. has names other || (c || false)) e ∙ or_true (has names other) in
    ap (λ c. if c then left else other ∷ left) is ∙ same
more_step names name other others false e same =
    let left = without_all (names ++ name ∷ []) others in
    let is : has (names ++ name ∷ []) other ≡ has names other =
    has_more names name other ∙ ap (λ c. has names other || (c || false)) e ∙ or_false (has names other) in
    ap (λ c. if c then left else other ∷ left) is ∙ ap (λ l. if has names other then l else other ∷ l) same

without_more : (names : List (List ℕ)) (name : List ℕ) (others : List (List ℕ))
    → without_all (names ++ name ∷ []) others ≡ without_all names (without name others)
unfolding without without_all
without_more names name [] = refl
without_more names name (other ∷ others) =
    more_step names name other others (bytes_eq name other) refl (without_more names name others)

-- ---- all

joined_step : (names : List (List ℕ)) (name : List ℕ) (others : List (List ℕ)) (b : Bool) → has names name ≡ b
    → ((before : List (List ℕ)) → joined_all before others ≡ before ++ without_all before (each_once others))
    → joined_all (if b then names else names ++ name ∷ []) others
    ≡ names ++ (if b then without_all names (without name (each_once others)) else name ∷ without_all names (without name (each_once others)))
joined_step names name others true e all =
    all names ∙ ap (λ l. names ++ l) (sym (without_known names name (each_once others) e))
joined_step names name others false e all =
    all (names ++ name ∷ []) ∙ append_assoc names (name ∷ []) _ ∙ ap (λ l. names ++ name ∷ l) (without_more names name (each_once others))

all_joined : (others names : List (List ℕ)) → joined_all names others ≡ names ++ without_all names (each_once others)
unfolding joined_all without_all each_once
all_joined [] names = sym (append-nil names)
all_joined (name ∷ others) names = joined_step names name others (has names name) refl (all_joined others)

none_out : (others : List (List ℕ)) → without_all [] others ≡ others
unfolding without_all
none_out [] = refl
none_out (other ∷ others) = ap (λ l. other ∷ l) (none_out others)

-- from none on
pub joined_once : (names : List (List ℕ)) → each_once names ≡ joined_all [] names
joined_once names = sym (all_joined names [] ∙ none_out (each_once names))
