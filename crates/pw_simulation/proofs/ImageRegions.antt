-- Which region of a project's image holds an address: its module's text or data, or the stack.
use Rattle.std.proofs.Common.{◌≡◌, ℕ, zero, suc, ◌+◌, ◌-◌, ◌*◌, ◌/◌, ◌%◌, ◌^◌, ◌<◌, ◌≤◌, Bool, true, false, cond, eqb, List, [], ◌∷◌, ◌++◌, length, Some, Ok, append_assoc, refl, sym, ◌∙◌, ap, subst, arith, ◌⊎◌, inl, inr, slice_index}
use Rattle.std.specs.Prelude.{slice_get}
use Rattle.std.proofs.lemmas.Bool.Decides.{nat_tests}
use Rattle.pw_base.specs.Bytes.{le_bytes}
use Rattle.pw_base.specs.Limits.{stack_start, stack_bytes}
use Rattle.pw_base.proofs.Bytes.{length-le_bytes, le-le_bytes}
use Rattle.pw_tree.specs.Units.{TypedUnit}
use Rattle.pw_tree.specs.Names.{Project}
use Rattle.pw_mem.specs.Regions.{MappedRegion, holds, region_at}
use Rattle.pw_mem.specs.Memory.{zeros, fetch}
use Rattle.pw_mem.specs.Words.{text_bytes, doubleword}
use Rattle.pw_mem.proofs.Zeros.{length_of_zeros}
use Rattle.pw_mem.proofs.Text.{fetch_word}
use Rattle.pw_code.specs.Objects.{is_uninitialised}
use Rattle.pw_agree.specs.Kept.{Keep}
use Rattle.pw_agree.specs.Image.{text_image, data_image, slots_image, variables_image, text_region, data_region, stack_region, unless_empty, module_regions, image}
use Rattle.pw_agree.specs.Placing.{units_of, base_of, text_of, data_of, words_of_module, slots_of, elements_of, variables_of_units}
use Rattle.pw_simulation.specs.Projects.{CanRun}
use Rattle.pw_simulation.specs.ImageWorld.{text_instructions}
use Rattle.pw_simulation.proofs.Joined.{length_both, length_of_map}
use Rattle.pw_simulation.proofs.Extents.{elements_of_units}
use Rattle.pw_simulation.proofs.Elements.{elements_in, sum_is}
use Rattle.pw_simulation.proofs.Addresses.{has_room}
use Rattle.pw_simulation.proofs.ImageCode.{length_of_text}
use Rattle.pw_simulation.proofs.ImageText.{spelled_length, text_spelled}
use Rattle.pw_simulation.proofs.ImageData.{bytes_of_doubleword, length_of_doublewords, length_of_variables}

-- ---- the first region that holds some bytes

-- the end of a region
abbrev pub end_of : MappedRegion → ℕ
end_of r = r.start + length r.bytes

passes_by : (r : MappedRegion) (rest : List MappedRegion) (at n : ℕ) → 0 < n → (end_of r ≤ at) ⊎ (at < r.start) → (t : Bool) → eqb (length r.bytes) 0 ≡ t
    → region_at (cond t [] (r ∷ []) ++ rest) at n ≡ region_at rest at n
passes_by r rest at n some beside true e = refl
passes_by r rest at n some (inl after) false e = let no : holds at n r ≡ false = grind (arith, nat_tests) in rw no refl
passes_by r rest at n some (inr before) false e = let no : holds at n r ≡ false = grind (arith, nat_tests) in rw no refl

-- a region beside an address is passed by
pub passes : (r : MappedRegion) (rest : List MappedRegion) (at n : ℕ) → 0 < n → (end_of r ≤ at) ⊎ (at < r.start) → region_at (unless_empty r ++ rest) at n ≡ region_at rest at n
passes r rest at n some beside = passes_by r rest at n some beside (eqb (length r.bytes) 0) refl

stops_by : (r : MappedRegion) (rest : List MappedRegion) (at n : ℕ) → 0 < n → r.start ≤ at → at + n ≤ end_of r → (t : Bool) → eqb (length r.bytes) 0 ≡ t
    → region_at (cond t [] (r ∷ []) ++ rest) at n ≡ Some r
stops_by r rest at n some from to true e = absurd (grind (arith, nat_tests))
stops_by r rest at n some from to false e = let yes : holds at n r ≡ true = grind (arith, nat_tests) in rw yes refl

-- and one that holds it is the one that is seen
pub stops : (r : MappedRegion) (rest : List MappedRegion) (at n : ℕ) → 0 < n → r.start ≤ at → at + n ≤ end_of r → region_at (unless_empty r ++ rest) at n ≡ Some r
stops r rest at n some from to = stops_by r rest at n some from to (eqb (length r.bytes) 0) refl

-- ---- the regions of modules

-- the regions of a module are these, and end before the next one
pub record EndsBefore (project : Project) (keep : Keep) (m : ℕ) : Type 0 where
  pub text : end_of (text_region project keep m) ≤ data_of m
  pub data_end : end_of (data_region project m) ≤ base_of (suc m)

abbrev group : Project → Keep → ℕ → List MappedRegion → List MappedRegion
group project keep m rest = unless_empty (text_region project keep m) ++ (unless_empty (data_region project m) ++ rest)

group_first : (project : Project) (keep : Keep) (m : ℕ) (units : List TypedUnit) (modules : List (List TypedUnit)) (rest : List MappedRegion)
    → module_regions project keep m (units ∷ modules) ++ rest ≡ group project keep m (module_regions project keep (suc m) modules ++ rest)
unfolding module_regions
group_first project keep m units modules rest =
    let t = unless_empty (text_region project keep m) in
    let d = unless_empty (data_region project m) in
    let more = module_regions project keep (suc m) modules in
    append_assoc (t ++ d) more rest ∙ append_assoc t d (more ++ rest)

pub seen_in : (project : Project) (keep : Keep) (m : ℕ) (modules : List (List TypedUnit)) (rest : List MappedRegion) (k at n : ℕ) (r : MappedRegion) → k < length modules
    → ((j : ℕ) → j < length modules → EndsBefore project keep (m + j)) → 0 < n → base_of (m + k) ≤ at
    → ((more : List MappedRegion) → region_at (group project keep (m + k) more) at n ≡ Some r) → region_at (module_regions project keep m modules ++ rest) at n ≡ Some r
seen_in project keep m [] rest k at n r below ends some from here = absurd (omega arith)
seen_in project keep m (units ∷ modules) rest zero at n r below ends some from here =
    let start : m + 0 ≡ m = omega arith in
    ap (λ rs. region_at rs at n) (group_first project keep m units modules rest)
    ∙ subst (λ j. region_at (group project keep j (module_regions project keep (suc m) modules ++ rest)) at n ≡ Some r) start (here (module_regions project keep (suc m) modules ++ rest))
seen_in project keep m (units ∷ modules) rest (suc k) at n r below ends some from here =
    let start : m + 0 ≡ m = omega arith in
    let next : m + suc k ≡ suc m + k = omega arith in
    let first : EndsBefore project keep m = subst (λ j. EndsBefore project keep j) start (ends 0 (omega arith)) in
    let text = first.text in
    let ends_low = first.data_end in
    ap (λ rs. region_at rs at n) (group_first project keep m units modules rest)
    ∙ passes (text_region project keep m) _ at n some (inl (omega arith))
    ∙ passes (data_region project m) (module_regions project keep (suc m) modules ++ rest) at n some (inl (omega arith))
    ∙ seen_in project keep (suc m) modules rest k at n r (omega arith) (λ j h. let e : m + suc j ≡ suc m + j = omega arith in subst (λ i. EndsBefore project keep i) e (ends (suc j) (omega arith))) some (omega arith)
    (λ more. subst (λ i. region_at (group project keep i more) at n ≡ Some r) next (here more))

-- after all modules
pub seen_after : (project : Project) (keep : Keep) (m : ℕ) (modules : List (List TypedUnit)) (rest : List MappedRegion) (at n : ℕ)
    → ((j : ℕ) → j < length modules → EndsBefore project keep (m + j)) → 0 < n → base_of (m + length modules) ≤ at → region_at (module_regions project keep m modules ++ rest) at n ≡ region_at rest at n
unfolding module_regions
seen_after project keep m [] rest at n ends some from = refl
seen_after project keep m (units ∷ modules) rest at n ends some from =
    let start : m + 0 ≡ m = omega arith in
    let first : EndsBefore project keep m = subst (λ j. EndsBefore project keep j) start (ends 0 (omega arith)) in
    let text = first.text in
    let ends_low = first.data_end in
    ap (λ rs. region_at rs at n) (group_first project keep m units modules rest)
    ∙ passes (text_region project keep m) _ at n some (inl (omega arith))
    ∙ passes (data_region project m) (module_regions project keep (suc m) modules ++ rest) at n some (inl (omega arith))
    ∙ seen_after project keep (suc m) modules rest at n (λ j h. let e : m + suc j ≡ suc m + j = omega arith in subst (λ i. EndsBefore project keep i) e (ends (suc j) (omega arith))) some (omega arith)

-- ---- how long they are

length_of_text_bytes : (ws : List ℕ) → length (text_bytes ws) ≡ 4 * length ws
length_of_text_bytes [] = refl
length_of_text_bytes (w ∷ ws) = length_both (le_bytes 4 w) (text_bytes ws) ∙ omega (arith, length-le_bytes 4 w, length_of_text_bytes ws)

pub length_of_image : (project : Project) (keep : Keep) → CanRun project → (m : ℕ) → m < length project → length (text_image project keep m) ≡ words_of_module project m
length_of_image project keep run m there = sym (spelled_length (text_instructions project keep m) (text_image project keep m) (text_spelled project keep run m there)) ∙ length_of_text project keep m

pub text_region_length : (project : Project) (keep : Keep) → CanRun project → (m : ℕ) → m < length project
    → length (text_region project keep m).bytes ≡ (4 * words_of_module project m + 7) / 8 * 8
text_region_length project keep run m there =
    let bytes : List ℕ = text_bytes (text_image project keep m) in
    length_both bytes (zeros ((length bytes + 7) / 8 * 8 - length bytes))
    ∙ omega (arith, length_of_zeros ((length bytes + 7) / 8 * 8 - length bytes), length_of_text_bytes (text_image project keep m), length_of_image project keep run m there)

pub length_of_data : (project : Project) → CanRun project → (m : ℕ) → length (data_image project m) ≡ length (slots_of project m) + elements_in project m
length_of_data project run m =
    let slots : List ℕ = slots_image project m in
    let variables : List ℕ = variables_image project m 0 (units_of project m) in
    let others : ℕ = elements_of (variables_of_units is_uninitialised (units_of project m)) in
    length_both (slots ++ variables) (zeros others)
    ∙ omega (
      arith,
      length_both slots variables,
      length_of_map (λ name. Rattle.pw_agree.specs.Placing.entity_address project (Rattle.pw_tree.specs.Names.definition_of project name)) (slots_of project m),
      length_of_variables project run m,
      length_of_zeros others,
      elements_of_units is_uninitialised (units_of project m),
      sum_is project m,
    )

pub ends_before : (project : Project) (keep : Keep) → CanRun project → (m : ℕ) → m < length project → EndsBefore project keep m
ends_before project keep run m there =
    let room = has_room project run m there in
    let text = room.text in
    let ends_low = room.data_end in
    record {
      text = omega (arith, text_region_length project keep run m there);
      data_end = omega (arith, length_of_doublewords (data_image project m), length_of_data project run m);
    }

ends_from : (project : Project) (keep : Keep) → CanRun project → (j : ℕ) → j < length project → EndsBefore project keep (0 + j)
ends_from project keep run j there = let e : 0 + j ≡ j = omega arith in subst (λ i. EndsBefore project keep i) (sym e) (ends_before project keep run j there)

-- ---- what stands where

-- an address of a module's text
pub text_seen : (project : Project) (keep : Keep) → CanRun project → (m k : ℕ) → m < length project → k < words_of_module project m
    → region_at (image project keep).regions (text_of m + 4 * k) 4 ≡ Some (text_region project keep m)
text_seen project keep run m k there below =
    let e : 0 + m ≡ m = omega arith in
    seen_in project keep 0 project (stack_region ∷ []) m (text_of m + 4 * k) 4 (text_region project keep m) there (ends_from project keep run) (omega arith) (omega arith)
    (λ more. subst (λ i. region_at (group project keep i more) (text_of m + 4 * k) 4 ≡ Some (text_region project keep m)) (sym e)
    (stops (text_region project keep m) _ (text_of m + 4 * k) 4 (omega arith) (omega arith) (omega (arith, text_region_length project keep run m there))))

-- word k of a module's text is fetched from its place
pub text_fetched : (project : Project) (keep : Keep) → CanRun project → (m k : ℕ) → m < length project → k < words_of_module project m → slice_index (text_image project keep m) k < 2 ^ 32
    → fetch (image project keep) (text_of m + 4 * k) ≡ Ok (slice_index (text_image project keep m) k)
text_fetched project keep run m k there below small =
    fetch_word (image project keep) (text_region project keep m) (text_image project keep m) _ k (text_seen project keep run m k there below) refl (omega arith) refl (omega (arith, length_of_image project keep run m there)) small

-- an address of a module's data
pub data_seen : (project : Project) (keep : Keep) → CanRun project → (m k : ℕ) → m < length project → k < length (data_image project m)
    → region_at (image project keep).regions (data_of m + 8 * k) 8 ≡ Some (data_region project m)
data_seen project keep run m k there below =
    let e : 0 + m ≡ m = omega arith in
    let ends = ends_before project keep run m there in
    let text = ends.text in
    seen_in project keep 0 project (stack_region ∷ []) m (data_of m + 8 * k) 8 (data_region project m) there (ends_from project keep run) (omega arith) (omega arith)
    (λ more. subst (λ i. region_at (group project keep i more) (data_of m + 8 * k) 8 ≡ Some (data_region project m)) (sym e)
    (passes (text_region project keep m) _ (data_of m + 8 * k) 8 (omega arith) (inl (omega arith))
    ∙ stops (data_region project m) more (data_of m + 8 * k) 8 (omega arith) (omega arith) (omega (arith, length_of_doublewords (data_image project m)))))

-- doubleword k of a module's data stands at its place
pub data_there : (project : Project) (keep : Keep) → CanRun project → (m k v : ℕ) → m < length project → slice_get (data_image project m) k ≡ Some v → v < 2 ^ 64
    → doubleword (image project keep) (data_of m + 8 * k) ≡ Some v
data_there project keep run m k v there got small =
    let below = Rattle.pw_simulation.proofs.Joined.got_below (data_image project m) k v got in
    let even : eqb ((data_of m + 8 * k) % 8) 0 ≡ true = grind (arith, nat_tests) in
    let place : data_of m + 8 * k - data_of m ≡ 8 * k = omega arith in
    rw (even, data_seen project keep run m k there below, place, bytes_of_doubleword (data_image project m) k v got, le-le_bytes 8 v small) refl

-- a doubleword of the stack
pub stack_seen : (project : Project) (keep : Keep) → CanRun project → (at : ℕ) → stack_start ≤ at → at + 8 ≤ stack_start + stack_bytes
    → region_at (image project keep).regions at 8 ≡ Some stack_region
stack_seen project keep run at from to =
    let few = run.few in
    let yes : holds at 8 stack_region ≡ true = grind (arith, nat_tests, length_of_zeros stack_bytes) in
    seen_after project keep 0 project (stack_region ∷ []) at 8 (ends_from project keep run) (omega arith) (omega arith) ∙ rw yes refl
