-- Several records: what each takes, all take, and what each is read again from, all are.
use Rattle.std.proofs.Common.{◌≡◌, ℕ, zero, suc, List, [], ◌∷◌, ◌++◌, length, Result, Ok, refl, sym, ap, subst, ◌∙◌, append_assoc}
use Rattle.std.specs.List.{flat_map, AllByRecursion}
use Rattle.std.proofs.lemmas.List.Concat.{flat_map-cons}
use Rattle.pw_module.specs.declared.dep_error.DepError.{DepError}
use Rattle.pw_module.specs.Allowed.{Follow}
use Rattle.pw_module.specs.Reading.{◌>>=◌, many, Remaining, remaining}
use Rattle.pw_base.specs.Bytes.{AreBytes}
use Rattle.pw_module.proofs.Steps.{bind_ok, ok_is, Takes, Takes-then}

-- what one record took, and what it left
pub record Taken {A : Type 0} (spell : A → List ℕ) (Right : ℕ → A → Type 0) (next : ℕ → A → ℕ) (p : Remaining) (x : A × Remaining) : Type 0 where
  pub takes : Takes p.rest (spell x.0) x.1.rest
  pub right : Right p.former x.0
  pub leaves : x.1.former ≡ next p.former x.0

abbrev pub TakesEach : {A : Type 0} → (ℕ → Remaining → Result (A × Remaining) DepError) → (A → List ℕ) → (ℕ → A → Type 0) → (ℕ → A → ℕ) → Type 0
TakesEach {A = A} step spell Right next = (k : ℕ) (p : Remaining) (x : A × Remaining) → AreBytes p.rest → step k p ≡ Ok x → Taken spell Right next p x

pub many_take : {A : Type 0} (step : ℕ → Remaining → Result (A × Remaining) DepError) (spell : A → List ℕ)
    (Right : ℕ → A → Type 0) (next : ℕ → A → ℕ) (End : ℕ → Type 0)
    → TakesEach step spell Right next → (count k : ℕ) (p : Remaining) (x : List A × Remaining) → AreBytes p.rest
    → many step k count p ≡ Ok x → End x.1.former
    → Takes p.rest (flat_map spell x.0) x.1.rest × (length x.0 ≡ count) × Follow Right next End p.former x.0
unfolding many
many_take {A = A} step spell Right next End each zero k p x fits e ends =
    let same = ok_is ([], p) x e in
    let last : End p.former = subst (λ (y : List A × Remaining). End y.1.former) (sym same) ends in
    subst (λ (y : List A × Remaining). Takes p.rest (flat_map spell y.0) y.1.rest × (length y.0 ≡ zero) × Follow Right next End p.former y.0) same (record { parts = refl; rest_fits = fits }, refl, last)
many_take {A = A} step spell Right next End each (suc count) k p x fits e ends =
    let a = bind_ok (step k p) (λ first. many step (suc k) count first.1 >>= λ others. Ok (first.0 ∷ others.0, others.1)) x e in
    let b = bind_ok (many step (suc k) count a.0.1) (λ others. Ok (a.0.0 ∷ others.0, others.1)) x a.2 in
    let made : List A × Remaining = (a.0.0 ∷ b.0.0, b.0.1) in
    let same = ok_is made x b.2 in
    let first = each k p a.0 fits a.1 in
    let last : End b.0.1.former = subst (λ (y : List A × Remaining). End y.1.former) (sym same) ends in
    let second = many_take step spell Right next End each count (suc k) a.0.1 b.0 first.takes.rest_fits b.1 last in
    let both = Takes-then p.rest (spell a.0.0) a.0.1.rest (flat_map spell b.0.0) b.0.1.rest first.takes second.0 in
    let others : Follow Right next End (next p.former a.0.0) b.0.0 = subst (λ (former : ℕ). Follow Right next End former b.0.0) first.leaves second.2 in
    subst (λ (y : List A × Remaining). Takes p.rest (flat_map spell y.0) y.1.rest × (length y.0 ≡ suc count) × Follow Right next End p.former y.0) same (rw flat_map-cons both, ap suc second.1, (first.right, others))

-- the number that several items leave
abbrev pub last : {A : Type 0} → (ℕ → A → ℕ) → ℕ → List A → ℕ
last next former [] = former
last next former (x ∷ xs) = last next (next former x) xs

pub last_ends : {A : Type 0} (Right : ℕ → A → Type 0) (next : ℕ → A → ℕ) (End : ℕ → Type 0) (former : ℕ) (xs : List A) →
    Follow Right next End former xs → End (last next former xs)
last_ends Right next End former [] follow = follow
last_ends Right next End former (x ∷ xs) follow = last_ends Right next End (next former x) xs follow.1

abbrev pub ReadsEach : {A : Type 0} → (ℕ → Remaining → Result (A × Remaining) DepError) → (A → List ℕ) → (ℕ → A → Type 0) → (ℕ → A → ℕ) → Type 0
ReadsEach {A = A} step spell Right next = (k former : ℕ) (x : A) (rest : List ℕ) → Right former x → step k (remaining former (spell x ++ rest)) ≡ Ok (x, remaining (next former x) rest)

pub many_again : {A : Type 0} (step : ℕ → Remaining → Result (A × Remaining) DepError) (spell : A → List ℕ)
    (Right : ℕ → A → Type 0) (next : ℕ → A → ℕ) (End : ℕ → Type 0)
    → ReadsEach step spell Right next → (xs : List A) (k former : ℕ) (rest : List ℕ) → Follow Right next End former xs
    → many step k (length xs) (remaining former (flat_map spell xs ++ rest)) ≡ Ok (xs, remaining (last next former xs) rest)
unfolding many
many_again step spell Right next End each [] k former rest follow = refl
many_again step spell Right next End each (x ∷ xs) k former rest follow =
    let regrouped : flat_map spell (x ∷ xs) ++ rest ≡ spell x ++ (flat_map spell xs ++ rest) = ap (λ (t : List ℕ). t ++ rest) (flat_map-cons spell x xs) ∙ append_assoc (spell x) (flat_map spell xs) rest in
    ap (λ (t : List ℕ). many step k (suc (length xs)) (remaining former t)) regrouped
    ∙ rw (each k former x (flat_map spell xs ++ rest) follow.0, many_again step spell Right next End each xs (suc k) (next former x) rest follow.1) refl

-- items that do not look at their former are each right
abbrev pub stays : {A : Type 0} → ℕ → A → ℕ
stays former x = former

pub follow_from_all : {A : Type 0} (Right : A → Type 0) (xs : List A) (former : ℕ) → AllByRecursion Right xs →
    Follow (λ _ x. Right x) stays (λ _. Unit {0}) former xs
follow_from_all Right [] former all = tt
follow_from_all Right (x ∷ xs) former all = (all.0, follow_from_all Right xs former all.1)

pub all_from_follow : {A : Type 0} (Right : A → Type 0) (xs : List A) (former : ℕ) →
    Follow (λ _ x. Right x) stays (λ _. Unit {0}) former xs → AllByRecursion Right xs
all_from_follow Right [] former follow = tt
all_from_follow Right (x ∷ xs) former follow = (follow.0, all_from_follow Right xs former follow.1)
