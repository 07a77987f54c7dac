-- A list of different elements is no longer than one that has them all.
use Rattle.std.proofs.Common.{◌≡◌, ℕ, suc, ◌≤◌, Bool, true, false, not, cond, List, [], ◌∷◌, length, filter, inl, inr, refl, sym, ◌∙◌, ap, subst, arith, bytes_eq, nat_eq}
use Rattle.std.proofs.lemmas.Bool.Decides.{nat_tests}
use Rattle.pw_module.specs.LoadOrder.{each_number_once}
use Rattle.pw_agree.specs.Placing.{each_name_once}
use Rattle.pw_agree.proofs.Members.{IsIn}
use Rattle.pw_simulation.proofs.Slots.{bytes_themselves}

-- no element stands again later
abbrev pub AreDifferent : {X : Type 0} → List X → Type 0
AreDifferent [] = Unit {0}
AreDifferent (x ∷ xs) = (IsIn xs x → ⊥) × AreDifferent xs

-- a list without one of its elements
abbrev without : {X : Type 0} (ys : List X) (x : X) → IsIn ys x → List X
without [] x h = []
without (y ∷ ys) x (inl e) = ys
without (y ∷ ys) x (inr h) = y ∷ without ys x h

without_length : {X : Type 0} (ys : List X) (x : X) (h : IsIn ys x) → suc (length (without ys x h)) ≡ length ys
without_length [] x h = absurd h
without_length (y ∷ ys) x (inl e) = refl
without_length (y ∷ ys) x (inr h) = ap suc (without_length ys x h)

still_in : {X : Type 0} (ys : List X) (x : X) (h : IsIn ys x) (z : X) → IsIn ys z → (x ≡ z → ⊥) → IsIn (without ys x h) z
still_in [] x h z in_it other = absurd h
still_in (y ∷ ys) x (inl e) z (inl f) other = absurd (other (sym e ∙ f))
still_in (y ∷ ys) x (inl e) z (inr g) other = g
still_in (y ∷ ys) x (inr h) z (inl f) other = inl f
still_in (y ∷ ys) x (inr h) z (inr g) other = inr (still_in ys x h z g other)

pub no_longer : {X : Type 0} (xs ys : List X) → AreDifferent xs → ((x : X) → IsIn xs x → IsIn ys x) → length xs ≤ length ys
no_longer [] ys different within = omega arith
no_longer (x ∷ xs) ys different within =
    let h = within x (inl refl) in
    let r = no_longer xs (without ys x h) different.1 (λ z in_it. still_in ys x h z (within z (inr in_it)) (λ e. different.0 (subst (IsIn xs) (sym e) in_it))) in
    omega (arith, without_length ys x h)

-- ---- filters

filter_by : {X : Type 0} (test : X → Bool) (y : X) (ys : List X) (x : X) (t : Bool) → test y ≡ t → IsIn (cond t (y ∷ filter test ys) (filter test ys)) x
    → (IsIn (filter test ys) x → IsIn ys x × (test x ≡ true)) → IsIn (y ∷ ys) x × (test x ≡ true)
filter_by test y ys x true e (inl f) rest = (inl f, ap test (sym f) ∙ e)
filter_by test y ys x true e (inr h) rest = let r = rest h in (inr r.0, r.1)
filter_by test y ys x false e h rest = let r = rest h in (inr r.0, r.1)

pub in_filtered : {X : Type 0} (test : X → Bool) (xs : List X) (x : X) → IsIn (filter test xs) x → IsIn xs x × (test x ≡ true)
in_filtered test [] x h = absurd h
in_filtered test (y ∷ ys) x h = filter_by test y ys x (test y) refl h (in_filtered test ys x)

different_by : {X : Type 0} (test : X → Bool) (y : X) (ys : List X) (t : Bool) → (IsIn ys y → ⊥) → AreDifferent (filter test ys) → AreDifferent (cond t (y ∷ filter test ys) (filter test ys))
different_by test y ys true apart h = ((λ in_it. apart (in_filtered test ys y in_it).0), h)
different_by test y ys false apart h = h

pub different_filtered : {X : Type 0} (test : X → Bool) (xs : List X) → AreDifferent xs → AreDifferent (filter test xs)
different_filtered test [] h = tt
different_filtered test (y ∷ ys) h = different_by test y ys (test y) h.0 (different_filtered test ys h.1)

-- ---- the first occurrences

not_itself : (b : Bool) → b ≡ true → not b ≡ true → ⊥
not_itself true e h = cc
not_itself false e h = cc

pub names_differ : (names : List (List ℕ)) → AreDifferent (each_name_once names)
unfolding each_name_once
names_differ [] = tt
names_differ (n ∷ ns) = (
  (λ h. not_itself (bytes_eq n n) (bytes_themselves n) (in_filtered (λ other. not (bytes_eq n other)) (each_name_once ns) n h).1),
  different_filtered (λ other. not (bytes_eq n other)) (each_name_once ns) (names_differ ns),
)

pub in_names : (names : List (List ℕ)) (name : List ℕ) → IsIn (each_name_once names) name → IsIn names name
unfolding each_name_once
in_names [] name h = absurd h
in_names (n ∷ ns) name (inl e) = inl e
in_names (n ∷ ns) name (inr h) = inr (in_names ns name (in_filtered (λ other. not (bytes_eq n other)) (each_name_once ns) name h).0)

number_itself : (n : ℕ) → nat_eq n n ≡ true
number_itself n = grind (arith, nat_tests)

pub numbers_differ : (numbers : List ℕ) → AreDifferent (each_number_once numbers)
unfolding each_number_once
numbers_differ [] = tt
numbers_differ (n ∷ ns) = (
  (λ h. not_itself (nat_eq n n) (number_itself n) (in_filtered (λ other. not (nat_eq n other)) (each_number_once ns) n h).1),
  different_filtered (λ other. not (nat_eq n other)) (each_number_once ns) (numbers_differ ns),
)
