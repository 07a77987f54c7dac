-- Functions are blanked one after another.
use Rattle.std.proofs.Common.{◌≡◌, ℕ, if◌then◌else◌, List, [], ◌∷◌, length, map, Option, refl, sym, ap, ◌∙◌}
use Rattle.std.specs.Option.{is_some}
use Rattle.pw_module.specs.declared.dep_table.FunRec.{FunRec}
use Rattle.pw_image.specs.Blanked.{without_function, blanked}

-- Words with zeros in place of the functions that have no level.
abbrev pub blanked_by : List ℕ → List FunRec → List (Option ℕ) → List ℕ
blanked_by words records levels = blanked words records (map (λ level. is_some level) levels)

first_blanked : (words : List ℕ) (r : FunRec) (rs : List FunRec) (level : Option ℕ) (levels : List (Option ℕ)) →
    blanked_by words (r ∷ rs) (level ∷ levels) ≡ blanked_by (if is_some level then words else without_function words r) rs levels
unfolding blanked
first_blanked words r rs level levels = refl

-- What the records and levels that are left make of the words does not change as the first of them is done.
pub one_blanked : (words new : List ℕ) (records rs : List FunRec) (r : FunRec) (levels more : List (Option ℕ)) (level : Option ℕ)
    (whole : List ℕ) →
    records ≡ r ∷ rs → levels ≡ level ∷ more → new ≡ (if is_some level then words else without_function words r) →
    blanked_by words records levels ≡ whole → blanked_by new rs more ≡ whole
one_blanked words new records rs r levels more level whole first first_level is so_far =
    ap (λ (l : List ℕ). blanked_by l rs more) is ∙ sym (first_blanked words r rs level more)
    ∙ (λ p. blanked_by words (sym first p) (sym first_level p)) ∙ so_far

-- When no record is left, or no level, the words are done.
pub no_record_left : (words : List ℕ) (records : List FunRec) (levels : List (Option ℕ)) → length records ≡ 0 →
    blanked_by words records levels ≡ words
unfolding blanked
no_record_left words [] levels none = refl
no_record_left words (r ∷ rs) levels none = cc

pub no_level_left : (words : List ℕ) (records : List FunRec) (levels : List (Option ℕ)) → length levels ≡ 0 →
    blanked_by words records levels ≡ words
unfolding blanked
no_level_left words [] [] none = refl
no_level_left words (r ∷ rs) [] none = refl
no_level_left words records (level ∷ levels) none = cc
