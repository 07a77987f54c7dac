-- What the words of a command ask for, from what its words for the file and for the steps say.
use Rattle.std.proofs.Common.{◌≡◌, ◌≢◌, ℕ, List, [], ◌∷◌, Ok, Err, get_or, length, refl, ap, sym, subst, ◌∙◌, arith, inl, inr}
use Rattle.std.specs.Prelude.{◌⊎◌, Bool, true, false, not, codes, map, slice_get, Result}
use Rattle.std.specs.Str.{bytes_eq}
use Rattle.std.proofs.lemmas.Slice.Eq.{bytes_eq-Decides}
use Rattle.pw_base.specs.Limits.{default_steps}
use Rattle.pw_base.specs.Name.{IsName}
use Rattle.pw_cmd.specs.declared.words.CommandError.{CommandError}
use Rattle.pw_cmd.specs.declared.words.CommandError.TheVariants.{NoCommand, NoMemory}
use Rattle.pw_cmd.specs.declared.words.Request.{Request}
use Rattle.pw_cmd.specs.Words.{WritesSteps, SaysFile, SaysStepsLast, SaysStepsFirst, AsksForOne, ReadsCommand}
use Rattle.pw_cmd.specs.Steps.{ReadsFileName, ReadsRequest}
use Rattle.pw_cmd.proofs.Requests.{two_not_four}

-- two words are the same where the test says so
pub same_word : (a b : List ℕ) → true ≡ bytes_eq a b → a ≡ b
same_word a b test = (bytes_eq-Decides a b).0 (sym test)

-- two words that are not other are the same
pub no_other_word : (a b : List ℕ) → false ≡ not (bytes_eq a b) → a ≡ b
no_other_word a b test = by (bytes_eq a b) refl test where
  by : (t : Bool) → bytes_eq a b ≡ t → false ≡ not t → a ≡ b
  by true is test = same_word a b (sym is)
  by false is test = absurd (cc)

-- words that are not the same by the test are other
pub other_word : (a b : List ℕ) → false ≡ bytes_eq a b → a ≢ b
other_word a b test same = let is = (bytes_eq-Decides a b).1 same in cc

-- ---- two words

-- no file is named
pub alone_refused : (command file : List ℕ) (error : CommandError) → command ≡ codes "one" → ReadsFileName file (Err error) →
    ReadsCommand (command ∷ file ∷ []) (Err error)
alone_refused command file NoMemory one named = (
  record { file = file; word = 1; steps = default_steps },
  record {
    spelled = inl (ap (λ word. word ∷ file ∷ []) one, refl, refl);
    name = named.name;
    no_option = named.no_option;
  },
)
alone_refused command file NoCommand one known = λ request asks. by_spelling request asks asks.spelled where
  by_spelling : (request : Request) → AsksForOne (command ∷ file ∷ []) request → SaysFile (command ∷ file ∷ []) request
      ⊎ (SaysStepsLast (command ∷ file ∷ []) request ⊎ SaysStepsFirst (command ∷ file ∷ []) request) → ⊥
  by_spelling request asks (inl alone) =
      let same : request.file ≡ file = ap (λ ws. get_or ws 1 []) (sym alone.0) in
      known (record {
        name = subst IsName same asks.name;
        no_option = λ e. asks.no_option (ap (λ f. slice_get f 0) same ∙ e);
      })
  by_spelling request asks (inr (inl last)) = two_not_four last.1
  by_spelling request asks (inr (inr first)) = two_not_four first.1

-- ---- four words

module _ (command first second third : List ℕ) (one : command ≡ codes "one") where
  -- the four words
  abbrev pub words : List (List ℕ)
  words = command ∷ first ∷ second ∷ third ∷ []

  -- the option before the file
  pub option_first : (result : Result Request CommandError) → first ≡ codes "--steps" → ReadsRequest third 3 second result
      → ReadsCommand words result
  option_first (Ok request) option r = record {
    spelled = inr (inr (second, spelled, r.1, r.3));
    name = subst IsName (sym r.0) r.2.name;
    no_option = λ e. r.2.no_option (ap (λ f. slice_get f 0) (sym r.0) ∙ e);
  }
    where
      spelled : words ≡ codes "one" ∷ codes "--steps" ∷ second ∷ request.file ∷ []
      spelled = cc
  option_first (Err NoMemory) option r = (
    record { file = third; word = 3; steps = r.1.0 },
    record {
      spelled = inr (inr (second, spelled, refl, r.1.1));
      name = r.0.name;
      no_option = r.0.no_option;
    },
  )
    where
      spelled : words ≡ codes "one" ∷ codes "--steps" ∷ second ∷ third ∷ []
      spelled = cc
  option_first (Err NoCommand) option r = λ request asks. by_spelling request asks asks.spelled where
    by_spelling : (request : Request) → AsksForOne words request →
        SaysFile words request ⊎ (SaysStepsLast words request ⊎ SaysStepsFirst words request) → ⊥
    by_spelling request asks (inl alone) = two_not_four (sym alone.0)
    by_spelling request asks (inr (inl last)) =
        let same : request.file ≡ first = ap (λ ws. get_or ws 1 []) (sym last.1) in
        asks.no_option (ap (λ f. slice_get f 0) (same ∙ option))
    by_spelling request asks (inr (inr said)) =
        let same : request.file ≡ third = ap (λ ws. get_or ws 3 []) (sym said.1) in
        let number : said.0 ≡ second = ap (λ ws. get_or ws 2 []) (sym said.1) in
        r request.steps (record {
          name = subst IsName same asks.name;
          no_option = λ e. asks.no_option (ap (λ f. slice_get f 0) same ∙ e);
        }) (subst (λ word. WritesSteps word request.steps) number said.3)

  -- the option after the file
  pub option_last : (result : Result Request CommandError) → first ≢ codes "--steps" → second ≡ codes "--steps"
      → ReadsRequest first 1 third result → ReadsCommand words result
  option_last (Ok request) other option r = record {
    spelled = inr (inl (third, spelled, r.1, r.3));
    name = subst IsName (sym r.0) r.2.name;
    no_option = λ e. r.2.no_option (ap (λ f. slice_get f 0) (sym r.0) ∙ e);
  }
    where
      spelled : words ≡ codes "one" ∷ request.file ∷ codes "--steps" ∷ third ∷ []
      spelled = cc
  option_last (Err NoMemory) other option r = (
    record { file = first; word = 1; steps = r.1.0 },
    record {
      spelled = inr (inl (third, spelled, refl, r.1.1));
      name = r.0.name;
      no_option = r.0.no_option;
    },
  )
    where
      spelled : words ≡ codes "one" ∷ first ∷ codes "--steps" ∷ third ∷ []
      spelled = cc
  option_last (Err NoCommand) other option r = λ request asks. by_spelling request asks asks.spelled where
    by_spelling : (request : Request) → AsksForOne words request →
        SaysFile words request ⊎ (SaysStepsLast words request ⊎ SaysStepsFirst words request) → ⊥
    by_spelling request asks (inl alone) = two_not_four (sym alone.0)
    by_spelling request asks (inr (inl said)) =
        let same : request.file ≡ first = ap (λ ws. get_or ws 1 []) (sym said.1) in
        let number : said.0 ≡ third = ap (λ ws. get_or ws 3 []) (sym said.1) in
        r request.steps (record {
          name = subst IsName same asks.name;
          no_option = λ e. asks.no_option (ap (λ f. slice_get f 0) same ∙ e);
        }) (subst (λ word. WritesSteps word request.steps) number said.3)
    by_spelling request asks (inr (inr said)) = other (ap (λ ws. get_or ws 1 []) said.1)

-- ---- the words as a list

-- four words are those at the numbers 0 to 3
pub four_words : {A : Type 0} (f : A → List ℕ) (xs : List A) (a b c d : A) → length xs ≡ 4 → a ≡ get_or xs 0 a → b ≡ get_or xs 1 b →
    c ≡ get_or xs 2 c → d ≡ get_or xs 3 d → map f xs ≡ f a ∷ f b ∷ f c ∷ f d ∷ []
four_words f [] a b c d four e0 e1 e2 e3 = absurd (omega (arith, four))
four_words f (x ∷ []) a b c d four e0 e1 e2 e3 = absurd (omega (arith, four))
four_words f (x ∷ y ∷ []) a b c d four e0 e1 e2 e3 = absurd (omega (arith, four))
four_words f (x ∷ y ∷ z ∷ []) a b c d four e0 e1 e2 e3 = absurd (omega (arith, four))
four_words f (x ∷ y ∷ z ∷ w ∷ []) a b c d four e0 e1 e2 e3 = cc
four_words f (x ∷ y ∷ z ∷ w ∷ v ∷ more) a b c d four e0 e1 e2 e3 = absurd (omega (arith, four))
