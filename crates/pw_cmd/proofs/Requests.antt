-- What the words ask for: one request at most, with a number of steps that may be given.
use Rattle.std.proofs.Common.{◌≡◌, ◌≢◌, ℕ, ◌≤◌, List, [], ◌∷◌, Some, get_or, lit≤, ap, sym, ◌∙◌, inl, inr}
use Rattle.std.specs.Prelude.{◌⊎◌, codes, slice_get}
use Rattle.pw_base.specs.Limits.{given_steps}
use Rattle.pw_cmd.specs.declared.words.Request.{Request}
use Rattle.pw_cmd.specs.Words.{WritesSteps, decimal_value, SaysFile, SaysStepsLast, SaysStepsFirst, AsksForOne}

-- a number of steps that is asked for may be given
pub allowed : (words : List (List ℕ)) (request : Request) → AsksForOne words request → request.steps ≤ given_steps
allowed words request asks = by_spelling asks.spelled where
  by_spelling : SaysFile words request ⊎ (SaysStepsLast words request ⊎ SaysStepsFirst words request) → request.steps ≤ given_steps
  by_spelling (inl alone) = rw alone.2 (lit≤ tt)
  by_spelling (inr (inl last)) = last.3.allowed
  by_spelling (inr (inr first)) = first.3.allowed

-- the words of a request that says no steps are two, and those of one that does are four
pub two_not_four : {a b c d e f : List ℕ} → a ∷ b ∷ [] ≡ c ∷ d ∷ e ∷ f ∷ [] → ⊥
two_not_four e = cc

module _ (words : List (List ℕ)) (a b : Request) (aa : AsksForOne words a) (bb : AsksForOne words b) where
  -- the file that stands where the option stands would begin with a dash
  no_file : (r : Request) → slice_get r.file 0 ≢ Some 45 → r.file ≡ codes "--steps" → ⊥
  no_file r known is = known (ap (λ word. slice_get word 0) is)

  same_steps : (word other : List ℕ) → WritesSteps word a.steps → WritesSteps other b.steps → word ≡ other → a.steps ≡ b.steps
  same_steps word other x y same = x.value ∙ ap decimal_value same ∙ sym y.value

  same_request : a.file ≡ b.file → a.word ≡ b.word → a.steps ≡ b.steps → a ≡ b
  same_request file word steps =
      ap (λ f. record a { file = f }) file ∙ ap (λ w. record a { file = b.file; word = w }) word
      ∙ ap (λ n. record a { file = b.file; word = b.word; steps = n }) steps

  by_spellings : SaysFile words a ⊎ (SaysStepsLast words a ⊎ SaysStepsFirst words a) →
      SaysFile words b ⊎ (SaysStepsLast words b ⊎ SaysStepsFirst words b) → a ≡ b
  by_spellings (inl x) (inl y) =
      same_request (ap (λ ws. get_or ws 1 []) (sym x.0 ∙ y.0)) (x.1 ∙ sym y.1) (x.2 ∙ sym y.2)
  by_spellings (inl x) (inr (inl y)) = absurd (two_not_four (sym x.0 ∙ y.1))
  by_spellings (inl x) (inr (inr y)) = absurd (two_not_four (sym x.0 ∙ y.1))
  by_spellings (inr (inl x)) (inl y) = absurd (two_not_four (sym y.0 ∙ x.1))
  by_spellings (inr (inr x)) (inl y) = absurd (two_not_four (sym y.0 ∙ x.1))
  by_spellings (inr (inl x)) (inr (inl y)) =
      let same = sym x.1 ∙ y.1 in
      same_request (ap (λ ws. get_or ws 1 []) same) (x.2 ∙ sym y.2) (same_steps x.0 y.0 x.3 y.3 (ap (λ ws. get_or ws 3 []) same))
  by_spellings (inr (inr x)) (inr (inr y)) =
      let same = sym x.1 ∙ y.1 in
      same_request (ap (λ ws. get_or ws 3 []) same) (x.2 ∙ sym y.2) (same_steps x.0 y.0 x.3 y.3 (ap (λ ws. get_or ws 2 []) same))
  by_spellings (inr (inl x)) (inr (inr y)) = absurd (no_file a aa.no_option (ap (λ ws. get_or ws 1 []) (sym x.1 ∙ y.1)))
  by_spellings (inr (inr x)) (inr (inl y)) = absurd (no_file b bb.no_option (ap (λ ws. get_or ws 1 []) (sym y.1 ∙ x.1)))

  -- the words ask for one thing
  pub one_request : a ≡ b
  one_request = by_spellings aa.spelled bb.spelled
