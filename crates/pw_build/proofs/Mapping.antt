-- Regions that can be mapped have no fault.
use Rattle.std.proofs.Common.{◌≡◌, ℕ, ◌<◌, false, true≢false, List, take, get_or, sym, ap, ◌∙◌, arith}
use Rattle.std.specs.List.{All}
use Rattle.std.proofs.lemmas.List.{get_or-take, get_or_default, length-take}
use Rattle.std.proofs.lemmas.List.Folds.{list_any_none}
use Rattle.pw_mem.specs.declared.errors.MapError.TheVariants.{Unaligned, Overlap}
use Rattle.pw_mem.specs.declared.region.Region.{Region}
use Rattle.pw_mem.specs.Map.{is_aligned, meets, CanMap, IsNumber, IsFault}

pub none_unaligned : (regions : List Region) (i : ℕ) → CanMap regions → IsFault regions (Unaligned i) → ⊥
none_unaligned regions i can fault =
    let region = fault.1 in
    let there : IsNumber regions i region = fault.2 in
    true≢false (sym (can.aligned i region there.0) ∙ ap is_aligned there.1 ∙ fault.3)

-- A region meets none of those before it.
meets_none : (regions : List Region) (i : ℕ) (region : Region) → CanMap regions → IsNumber regions i region →
    All (λ earlier. meets region earlier ≡ false) (take i regions)
meets_none regions i region can there k d below =
    let before : k < i = omega (arith, length-take i regions) in
    let same : get_or regions i d ≡ region = get_or_default regions i d region there.0 ∙ there.1 in
    ap (λ r. meets r (get_or (take i regions) k d)) (sym same) ∙ ap (meets (get_or regions i d)) (get_or-take i regions k d before)
    ∙ can.apart k i d before there.0

pub none_overlaps : (regions : List Region) (i : ℕ) → CanMap regions → IsFault regions (Overlap i) → ⊥
none_overlaps regions i can fault =
    let region = fault.1 in
    let there : IsNumber regions i region = fault.2 in
    true≢false (sym fault.4 ∙ list_any_none (meets region) (take i regions) (meets_none regions i region can there))
