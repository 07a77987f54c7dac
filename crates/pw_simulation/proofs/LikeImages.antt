-- Two images of one project differ in text alone, which nothing reads once the text of one is hidden.
use Rattle.std.proofs.Common.{◌≡◌, ℕ, suc, ◌+◌, ◌<◌, ◌≤◌, Bool, true, false, cond, eqb, List, [], ◌∷◌, ◌++◌, length, map, inl, inr, refl, sym, ◌∙◌, subst, arith}
use Rattle.pw_tree.specs.Units.{TypedUnit}
use Rattle.pw_tree.specs.Names.{Project}
use Rattle.pw_mem.specs.Regions.{MappedRegion}
use Rattle.pw_agree.specs.Kept.{Keep}
use Rattle.pw_agree.specs.Image.{text_region, data_region, stack_region, unless_empty, module_regions, image}
use Rattle.pw_simulation.specs.Projects.{CanRun}
use Rattle.pw_simulation.proofs.ImageRegions.{text_region_length}
use Rattle.pw_simulation.proofs.AlikeMemories.{AreLike, IsLike, hide, hidden}

-- ---- regions

like_both : (rs qs more others : List MappedRegion) → AreLike (map hide rs) qs → AreLike (map hide more) others →
    AreLike (map hide (rs ++ more)) (qs ++ others)
like_both [] [] more others first second = second
like_both [] (q ∷ qs) more others first second = absurd first
like_both (r ∷ rs) [] more others first second = absurd first
like_both (r ∷ rs) (q ∷ qs) more others first second = (first.0, like_both rs qs more others first.1 second)

unless_by : (r q : MappedRegion) → IsLike (hide r) q → (t : Bool) → AreLike (map hide (cond t [] (r ∷ []))) (cond t [] (q ∷ []))
unless_by r q like true = tt
unless_by r q like false = (like, tt)

-- regions of one length are left out together
like_unless : (r q : MappedRegion) → IsLike (hide r) q → length q.bytes ≡ length r.bytes →
    AreLike (map hide (unless_empty r)) (unless_empty q)
like_unless r q like same =
    subst (λ n. AreLike (map hide (unless_empty r)) (cond (eqb n 0) [] (q ∷ []))) (sym same)
    (unless_by r q like (eqb (length r.bytes) 0))

-- ---- modules

module _ (project : Project) (keep other : Keep) (can : CanRun project) where
  same_length : (m : ℕ) → m < length project → length (text_region project other m).bytes ≡ length (text_region project keep m).bytes
  same_length m below = text_region_length project other can m below ∙ sym (text_region_length project keep can m below)

  like_texts : (m : ℕ) → m < length project →
      AreLike (map hide (unless_empty (text_region project keep m))) (unless_empty (text_region project other m))
  like_texts m below =
      like_unless (text_region project keep m) (text_region project other m)
      (inr (record { start = refl; size = same_length m below; no_read = refl; no_write = refl })) (same_length m below)

  like_modules : (m : ℕ) (modules : List (List TypedUnit)) → m + length modules ≤ length project →
      AreLike (map hide (module_regions project keep m modules)) (module_regions project other m modules)
  unfolding module_regions
  like_modules m [] there = tt
  like_modules m (units ∷ modules) there =
      let text : List MappedRegion = unless_empty (text_region project keep m) in
      let text_there : List MappedRegion = unless_empty (text_region project other m) in
      let data_both : List MappedRegion = unless_empty (data_region project m) in
      like_both (text ++ data_both) (text_there ++ data_both)
      (module_regions project keep (suc m) modules) (module_regions project other (suc m) modules)
      (like_both text text_there data_both data_both (like_texts m (omega arith))
      (like_unless (data_region project m) (data_region project m) (inl refl) refl))
      (like_modules (suc m) modules (omega arith))

  pub like_images : AreLike (hidden (image project keep)).regions (image project other).regions
  like_images =
      like_both (module_regions project keep 0 project) (module_regions project other 0 project) (stack_region ∷ []) (stack_region ∷ [])
      (like_modules 0 project (omega arith)) (inl refl, tt)
