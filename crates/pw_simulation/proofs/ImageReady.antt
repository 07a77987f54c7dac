-- The image of a project is ready for a run in the project's world, and has the initial value of each variable.
use Rattle.std.proofs.Common.{◌≡◌, ℕ, suc, ◌%◌, ◌^◌, ◌<◌, Bool, true, false, not, eqb, ◌||◌, List, [], ◌∷◌, ◌++◌, length, Option, Some, None, Ok, refl, sym, ◌∙◌, ap, arith, bytes_eq, lit<}
use Rattle.std.specs.Prelude.{slice_get, option_map}
use Rattle.std.specs.List.{prefix_len, list_any}
use Rattle.std.proofs.lemmas.Bool.Decides.{nat_tests}
use Rattle.pw_base.specs.Bytes.{le}
use Rattle.pw_isa.specs.declared.instruction.Inst.{Inst}
use Rattle.pw_isa.specs.Encoding.{word_of}
use Rattle.pw_isa.proofs.RoundTrip.{decoded-word_of, word_of_fits}
use Rattle.pw_tree.specs.Units.{Function}
use Rattle.pw_tree.specs.Names.{Project, Definition, Entity, function, object, definition_of, function_at}
use Rattle.pw_mem.specs.Memory.{zeros}
use Rattle.pw_mem.specs.Regions.{bytes_at}
use Rattle.pw_mem.specs.Words.{doubleword}
use Rattle.pw_code.specs.Objects.{is_initialised, fill, filled}
use Rattle.pw_agree.specs.Kept.{Keep}
use Rattle.pw_agree.specs.Image.{text_image, data_image, slots_image, variables_image, stack_region, image}
use Rattle.pw_agree.specs.Placing.{units_of, function_address, slots_of, slot_address, entity_address, elements_of, variables_of_units}
use Rattle.pw_simulation.specs.World.{InStack, entity_place}
use Rattle.pw_simulation.specs.Memories.{Fetches, HasSome, IsReady}
use Rattle.pw_simulation.specs.Projects.{CanRun, HoldsKept}
use Rattle.pw_simulation.specs.ImageWorld.{text_instructions, module_of, code_of, world_of}
use Rattle.pw_simulation.proofs.Joined.{get_left, length_both, got_below, got_of_map, length_of_map}
use Rattle.pw_simulation.proofs.Extents.{function_ends, found_before}
use Rattle.pw_simulation.proofs.Elements.{variable_ends}
use Rattle.pw_simulation.proofs.Addresses.{has_room, function_module, variable_module}
use Rattle.pw_simulation.proofs.ImageCode.{length_of_text, code_is}
use Rattle.pw_simulation.proofs.MoreKept.{stays_in_text}
use Rattle.pw_simulation.proofs.Slots.{same_bytes}
use Rattle.pw_simulation.proofs.ImageSees.{code_module, slot_module}
use Rattle.pw_simulation.proofs.Definitions.{IsReal, definition_is_real}
use Rattle.pw_simulation.proofs.ImageText.{spelled_at, text_spelled}
use Rattle.pw_simulation.proofs.ImageRegions.{text_fetched, data_there, stack_seen}

-- ---- text

fetches_code : (project : Project) (keep in_memory : Keep) → CanRun project → HoldsKept keep in_memory → (at : ℕ) (i : Inst) → code_of project keep at ≡ Some i
    → Fetches (image project in_memory) at i
fetches_code project keep in_memory run holds at i h =
    let c = code_is project keep at i h in
    let m = module_of at in
    let there = code_module project keep run m c.number i c.there in
    let got = stays_in_text project keep in_memory holds m c.number i c.there in
    let s = spelled_at (text_instructions project in_memory m) (text_image project in_memory m) (text_spelled project in_memory run m there) c.number i got in
    let below = got_below (text_instructions project keep m) c.number (Some i) c.there in
    let fits = word_of_fits i s.1 in
    let word = s.0 in
    record {
      value = word_of i;
      fetched = ap (Rattle.pw_mem.specs.Memory.fetch (image project in_memory)) c.place ∙ text_fetched project in_memory run m c.number there (omega (arith, length_of_text project keep m)) (omega arith) ∙ ap (λ n. Ok n) word;
      reads = decoded-word_of i s.1;
    }

-- ---- slots

-- what stands where a test first holds
first_there : (test : List ℕ → Bool) (names : List (List ℕ)) → list_any test names ≡ true → (name : List ℕ) × (slice_get names (prefix_len (λ other. not (test other)) names) ≡ Some name) × (test name ≡ true)
first_there test [] h = cc
first_there test (name ∷ names) h = by_test (test name) refl h (first_there test names)
  where
    by_test : (t : Bool) → test name ≡ t → t || list_any test names ≡ true
        → (list_any test names ≡ true → (found : List ℕ) × (slice_get names (prefix_len (λ other. not (test other)) names) ≡ Some found) × (test found ≡ true))
        → (found : List ℕ) × (slice_get (name ∷ names) (prefix_len (λ other. not (test other)) (name ∷ names)) ≡ Some found) × (test found ≡ true)
    by_test true e h rest = (name, rw e refl, e)
    by_test false e h rest =
        let r = rest h in
        let place : prefix_len (λ other. not (test other)) (name ∷ names) ≡ suc (prefix_len (λ other. not (test other)) names) = rw e (omega arith) in
        (r.0, ap (slice_get (name ∷ names)) place ∙ r.1, r.2)

place_is : (project : Project) (keep : Keep) (e : Option Entity) → entity_place (world_of project keep) e ≡ entity_address project e
place_is project keep (Some (function d)) = refl
place_is project keep (Some (object d)) = refl
place_is project keep None = refl

pub function_is_low : (project : Project) → CanRun project → (d : Definition) (f : Function) → function_at project d ≡ Some f → function_address project d < 2 ^ 64
function_is_low project run d f h =
    let room = has_room project run d.in_module (function_module project d f h) in
    let text = room.text in
    let low = room.low in
    let ends = function_ends project d f h in omega arith

entity_is_low : (project : Project) → CanRun project → (e : Entity) → IsReal project e → entity_address project (Some e) < 2 ^ 64
entity_is_low project run (function d) real = function_is_low project run d real.0 real.1
entity_is_low project run (object d) real =
    let room = has_room project run d.in_module (variable_module project d real.0 real.1) in
    let ends_low = room.data_end in
    let low = room.low in
    let ends = variable_ends project d real.0 real.1 in omega arith

meant_is_low : (project : Project) → CanRun project → (name : List ℕ) (o : Option Entity) → definition_of project name ≡ o → entity_address project o < 2 ^ 64
meant_is_low project run name None e = lit< tt
meant_is_low project run name (Some e) found = entity_is_low project run e (definition_is_real project name e found)

abbrev slot_of : Project → List ℕ → ℕ
slot_of project name = entity_address project (definition_of project name)

pub length_of_slots : (project : Project) (m : ℕ) → length (slots_image project m) ≡ length (slots_of project m)
length_of_slots project m = length_of_map (slot_of project) (slots_of project m)

-- the parts of the data
abbrev pub others : Project → ℕ → ℕ
others project m = elements_of (variables_of_units Rattle.pw_code.specs.Objects.is_uninitialised (units_of project m))

slot_there : (project : Project) (keep in_memory : Keep) → CanRun project → (m : ℕ) (name : List ℕ) → list_any (λ other. bytes_eq other name) (slots_of project m) ≡ true
    → doubleword (image project in_memory) (slot_address project m name) ≡ Some (entity_place (world_of project keep) (definition_of project name))
slot_there project keep in_memory run m name has =
    let k : ℕ = prefix_len (λ other. not (bytes_eq other name)) (slots_of project m) in
    let found = first_there (λ other. bytes_eq other name) (slots_of project m) has in
    let same : found.0 ≡ name = same_bytes found.0 name found.2 in
    let before = found_before (λ other. bytes_eq other name) (slots_of project m) has in
    let slots : List ℕ = slots_image project m in
    let variables : List ℕ = variables_image project m 0 (units_of project m) in
    let short : k < length slots = omega (arith, length_of_slots project m) in
    let longer : k < length (slots ++ variables) = omega (arith, length_both slots variables) in
    let got : slice_get (data_image project m) k ≡ Some (slot_of project name) =
    get_left (slots ++ variables) (zeros (others project m)) k longer ∙ get_left slots variables k short ∙ got_of_map (slot_of project) (slots_of project m) k
    ∙ ap (option_map (slot_of project)) found.1 ∙ ap (λ n. Some (slot_of project n)) same in
    data_there project in_memory run m k (slot_of project name) (slot_module project run m name has) got (meant_is_low project run name (definition_of project name) refl)
    ∙ ap (λ n. Some n) (sym (place_is project keep (definition_of project name)))

-- ---- the stack

stack_there : (project : Project) (keep in_memory : Keep) → CanRun project → (at : ℕ) → InStack (world_of project keep) at → HasSome (image project in_memory) at
stack_there project keep in_memory run at in_it =
    let aligned = in_it.even in
    let even : eqb (at % 8) 0 ≡ true = grind (arith, nat_tests) in
    record { value = le (bytes_at stack_region at 8); is = rw (even, stack_seen project in_memory run at in_it.from in_it.to) refl }

pub image_is_ready : (project : Project) (keep in_memory : Keep) → CanRun project → HoldsKept keep in_memory → IsReady (world_of project keep) (image project in_memory)
image_is_ready project keep in_memory run holds = record {
  sealed = refl;
  text = λ at i h. fetches_code project keep in_memory run holds at i h;
  slots = λ m name has. slot_there project keep in_memory run m name has;
  stack = λ at in_it. stack_there project keep in_memory run at in_it;
}
