-- Reading records one after another, as a loop does.
use Rattle.std.proofs.Common.{◌≡◌, ℕ, suc, ◌-◌, ◌+◌, ◌≤◌, ◌<◌, List, [], ◌∷◌, ◌++◌, Result, Ok, Err, refl, sym, ap, ◌∙◌, append_assoc, arith}
use Rattle.std.proofs.lemmas.List.{append-nil}
use Rattle.pw_module.specs.declared.dep_error.DepError.{DepError}
use Rattle.pw_module.specs.declared.dep_error.DepError.TheVariants.{Short, Version, BadName, BadIndex, BadRange, Overlap, BadType, Trailing, NoMemory}
use Rattle.pw_module.specs.Answer.{FailsAs}
use Rattle.pw_module.specs.Reading.{◌>>=◌, many, Remaining}

-- what is still read, with what was read earlier before it
abbrev pub preceded_by : {A : Type 0} → List A → Result (List A × Remaining) DepError → Result (List A × Remaining) DepError
preceded_by earlier read = read >>= λ x. Ok (earlier ++ x.0, x.1)

regroup : {A : Type 0} (earlier : List A) (n : A) (read : Result (List A × Remaining) DepError) →
    preceded_by earlier (read >>= λ x. Ok (n ∷ x.0, x.1)) ≡ preceded_by (earlier ++ n ∷ []) read
regroup {A = A} earlier n (Ok x) = ap (λ (ns : List A). Ok (ns, x.1)) (simp append_assoc)
regroup earlier n (Err f) = refl

pub starts : {A : Type 0} (read : Result (List A × Remaining) DepError) → preceded_by [] read ≡ read
starts (Ok x) = refl
starts (Err f) = refl

pub goes_on : {A : Type 0} (step : ℕ → Remaining → Result (A × Remaining) DepError) (earlier : List A) (count k : ℕ)
    (p : Remaining) (x : A) (after : Remaining) (total : Result (List A × Remaining) DepError) → k < count →
    step k p ≡ Ok (x, after)
    → preceded_by earlier (many step k (count - k) p) ≡ total → preceded_by (earlier ++ x ∷ []) (many step (k + 1) (count - (k + 1)) after) ≡ total
unfolding many
goes_on {A = A} step earlier count k p x after total lt h so_far =
    let left : count - k ≡ suc (count - (k + 1)) = omega arith in
    let next : k + 1 ≡ suc k = omega arith in
    let one : preceded_by earlier (many step k (count - k) p) ≡ preceded_by (earlier ++ x ∷ []) (many step (suc k) (count - (k + 1)) after) = rw (left, h) (regroup earlier x (many step (suc k) (count - (k + 1)) after)) in
    ap (λ (j : ℕ). preceded_by (earlier ++ x ∷ []) (many step j (count - (k + 1)) after)) next ∙ sym one ∙ so_far

pub is_done : {A : Type 0} (step : ℕ → Remaining → Result (A × Remaining) DepError) (earlier : List A) (count k : ℕ)
    (p : Remaining) (total : Result (List A × Remaining) DepError) → count ≤ k →
    preceded_by earlier (many step k (count - k) p) ≡ total → total ≡ Ok (earlier, p)
unfolding many
is_done {A = A} step earlier count k p total le so_far =
    let left : count - k ≡ 0 = omega arith in
    let one : preceded_by earlier (many step k (count - k) p) ≡ Ok (earlier, p) = rw left (ap (λ (ns : List A). Ok (ns, p)) (append-nil earlier)) in
    sym so_far ∙ one

-- a fault of one reading is that of another, where the other fails with it
pub FailsAs-from : {Y Z : Type 0} (e : DepError) (r : Result Y DepError) (s : Result Z DepError) →
    ((d : DepError) → r ≡ Err d → s ≡ Err d) → FailsAs e r → FailsAs e s
FailsAs-from (Short at) r s same h = same (Short at) h
FailsAs-from (Version n) r s same h = same (Version n) h
FailsAs-from (BadName unit) r s same h = same (BadName unit) h
FailsAs-from (BadIndex k n) r s same h = same (BadIndex k n) h
FailsAs-from (BadRange k) r s same h = same (BadRange k) h
FailsAs-from (Overlap k) r s same h = same (Overlap k) h
FailsAs-from (BadType k) r s same h = same (BadType k) h
FailsAs-from (Trailing at) r s same h = same (Trailing at) h
FailsAs-from NoMemory r s same h = tt

pub ends : {A : Type 0} (e : DepError) (step : ℕ → Remaining → Result (A × Remaining) DepError) (earlier : List A)
    (count k : ℕ) (p : Remaining) (total : Result (List A × Remaining) DepError) → k < count → FailsAs e (step k p)
    → preceded_by earlier (many step k (count - k) p) ≡ total → FailsAs e total
unfolding many
ends e step earlier count k p total lt h so_far =
    FailsAs-from e (step k p) total
    (λ d fails.
    let left : count - k ≡ suc (count - (k + 1)) = omega arith in
    let one : preceded_by earlier (many step k (count - k) p) ≡ Err d = rw (left, fails) refl in
    sym so_far ∙ one)
    h
