-- The memory that holds the text and the data of a project's image is that image.
use Rattle.std.proofs.Common.{◌≡◌, ℕ, ◌+◌, ◌-◌, ◌*◌, ◌/◌, ◌<◌, Bool, true, false, cond, eqb, List, [], ◌∷◌, ◌++◌, length, refl, sym, ap, ◌∙◌, arith, codes, inl, bytes_eq}
use Rattle.std.proofs.lemmas.Bool.Decides.{nat_tests}
use Rattle.pw_tree.specs.Units.{TypedUnit}
use Rattle.pw_mem.specs.Regions.{MappedRegion}
use Rattle.pw_mem.specs.Memory.{zeros}
use Rattle.pw_mem.specs.Words.{text_bytes}
use Rattle.pw_mem.proofs.Zeros.{length_of_zeros}
use Rattle.pw_agree.specs.Kept.{Keep}
use Rattle.pw_code.specs.Items.{size}
use Rattle.pw_agree.specs.Placing.{code_before_functions, words_of_module, slots_of, external_names}
use Rattle.pw_agree.specs.Image.{text_image, data_image, doubleword_bytes, text_region, data_region, stack_region, unless_empty, module_regions, image}
use Rattle.pw_simulation.specs.Projects.{CanRun}
use Rattle.pw_simulation.proofs.Joined.{length_both}
use Rattle.pw_simulation.proofs.Elements.{elements_in}
use Rattle.pw_simulation.proofs.Extents.{found_before}
use Rattle.pw_simulation.proofs.Slots.{slot_of_first}
use Rattle.pw_simulation.proofs.Addresses.{has_room}
use Rattle.pw_simulation.proofs.ImageData.{length_of_doublewords}
use Rattle.pw_simulation.proofs.ImageRegions.{text_region_length, length_of_data}
use Rattle.pw_image.specs.OneUnit.{project_of}
use Rattle.pw_build.specs.Steps.Memories.{Fit, rounded, memory_of, text_region_of, data_region_of}

-- ---- sizes

-- the entry refers to `main`, so there is a slot,
main_slot : (unit : TypedUnit) → 0 < length (slots_of (project_of unit) 0)
unfolding external_names
main_slot unit =
    let found = slot_of_first (project_of unit) 0 (codes "main") (inl refl) in
    let below = found_before (λ other. bytes_eq other (codes "main")) (slots_of (project_of unit) 0) found in
    omega arith

-- and the entry has words
entry_has_words : 0 < size (code_before_functions 0)
unfolding size
entry_has_words = omega arith

-- the text and the data of the image of a project that can be run fit their places
pub parts_fit : (unit : TypedUnit) (keep : Keep) (text content : List ℕ) → CanRun (project_of unit) →
    text ≡ text_bytes (text_image (project_of unit) keep 0) → content ≡ doubleword_bytes (data_image (project_of unit) 0) →
    Fit (length text) (length content)
parts_fit unit keep text content can text_is data_is =
    let project = project_of unit in
    let n : ℕ = length (text_bytes (text_image project keep 0)) in
    let words : ℕ = words_of_module project 0 in
    let room = has_room project can 0 (omega arith) in
    let text_room = room.text in
    let data_room = room.data_end in
    let some_words : 0 < words = omega (arith, entry_has_words) in
    let text_length : length text ≡ n = ap length text_is in
    let region : n + (rounded n - n) ≡ (4 * words + 7) / 8 * 8 =
    sym (length_both (text_bytes (text_image project keep 0)) (zeros (rounded n - n)) ∙ ap (λ k. n + k) (length_of_zeros (rounded n - n)))
    ∙ text_region_length project keep can 0 (omega arith) in
    let values : List ℕ = data_image project 0 in
    let data_length : length content ≡ 8 * length values = ap length data_is ∙ length_of_doublewords values in
    let doublewords : length values ≡ length (slots_of project 0) + elements_in project 0 = length_of_data project can 0 in
    record {
      some_text = omega arith;
      text_fits = omega arith;
      some_data = omega (arith, main_slot unit);
      data_fits = omega arith;
      data_whole = omega arith;
    }

-- ---- the whole

by_bytes : (r : MappedRegion) (empty : Bool) → eqb (length r.bytes) 0 ≡ empty → 0 < length r.bytes → cond empty [] (r ∷ []) ≡ r ∷ []
by_bytes r true e some = absurd (grind (arith, nat_tests))
by_bytes r false e some = refl

some_region : (r : MappedRegion) → 0 < length r.bytes → unless_empty r ≡ r ∷ []
some_region r some = by_bytes r (eqb (length r.bytes) 0) refl some

-- a text and data that are those of the image make it
pub memory_is_image : (unit : TypedUnit) (keep : Keep) (text content : List ℕ) → 0 < length text → 0 < length content →
    text ≡ text_bytes (text_image (project_of unit) keep 0) → content ≡ doubleword_bytes (data_image (project_of unit) 0) →
    memory_of text content ≡ image (project_of unit) keep
unfolding module_regions
memory_is_image unit keep text content some_text some_data text_is data_is =
    let project = project_of unit in
    let t : text_region_of text ≡ text_region project keep 0 = ap text_region_of text_is in
    let d : data_region_of content ≡ data_region project 0 = ap data_region_of data_is in
    let here : 0 < length (text_region_of text).bytes = omega (arith, length_both text (zeros (rounded (length text) - length text))) in
    let text_there : unless_empty (text_region project keep 0) ≡ text_region_of text ∷ [] =
    ap unless_empty (sym t) ∙ some_region (text_region_of text) here in
    let data_there : unless_empty (data_region project 0) ≡ data_region_of content ∷ [] =
    ap unless_empty (sym d) ∙ some_region (data_region_of content) some_data in
    λ p. record { regions = ((sym text_there p ++ sym data_there p) ++ []) ++ stack_region ∷ []; sealed = true }
