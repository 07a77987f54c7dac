-- The code of a project's world: what stands at an address of a text, and that each kept function's code stands at its place.
use Rattle.std.proofs.Common.{◌≡◌, ℕ, suc, ◌+◌, ◌-◌, ◌*◌, ◌/◌, ◌%◌, ◌<◌, Bool, true, false, cond, eqb, leb, ◌&&◌, List, [], ◌∷◌, length, map, take, Option, Some, None, refl, ◌∙◌, ap, arith}
use Rattle.std.specs.Prelude.{slice_get, sum_by, replicate, option_map, option_and_then}
use Rattle.std.proofs.lemmas.Bool.Decides.{nat_tests}
use Rattle.pw_isa.specs.declared.instruction.Inst.{Inst}
use Rattle.pw_tree.specs.Units.{Function, TypedUnit}
use Rattle.pw_tree.specs.Names.{Project, Definition, function_at}
use Rattle.pw_code.specs.FunctionCode.{function_code, function_words}
use Rattle.pw_code.proofs.Exports.{size-function}
use Rattle.pw_agree.specs.Kept.{Keep}
use Rattle.pw_agree.specs.Placing.{units_of, text_of, code_before_functions, words_of_unit, words_of_module, function_address, target_address}
use Rattle.pw_simulation.specs.Projects.{CanRun}
use Rattle.pw_simulation.specs.Tables.{instructions_at, in_table}
use Rattle.pw_simulation.specs.ImageWorld.{joined, function_instructions, text_instructions, instruction_in, module_of, code_of}
use Rattle.pw_simulation.proofs.Tables.{length_of_instructions}
use Rattle.pw_simulation.proofs.Joined.{get_left, get_right, length_both, got_below, got_of_map, length_of_copies, length_of_map, sum_before, length_of_joined, joined_at}
use Rattle.pw_simulation.proofs.Extents.{unit_is, function_is, first_words, words_before_function}
use Rattle.pw_simulation.proofs.Elements.{definition_at}
use Rattle.pw_simulation.proofs.Addresses.{has_room}

-- ---- a table as a list

-- where an instruction of a table stands
pub record IsAmongTable (start : ℕ) (is : List Inst) (at : ℕ) (i : Inst) : Type 0 where
  pub number : ℕ
  pub place : at ≡ start + 4 * number
  pub there : slice_get is number ≡ Some i

among_by : (start : ℕ) (j : Inst) (is : List Inst) (at : ℕ) (i : Inst) (t : Bool) → eqb at start ≡ t → cond t (Some j) (in_table (start + 4) is at) ≡ Some i
    → (in_table (start + 4) is at ≡ Some i → IsAmongTable (start + 4) is at i) → IsAmongTable start (j ∷ is) at i
among_by start j is at i true test h rest = record { number = 0; place = grind (arith, nat_tests); there = h }
among_by start j is at i false test h rest = let r = rest h in record { number = suc r.number; place = let p = r.place in omega arith; there = r.there }

pub among_table : (start : ℕ) (is : List Inst) (at : ℕ) (i : Inst) → in_table start is at ≡ Some i → IsAmongTable start is at i
among_table start [] at i h = cc
among_table start (j ∷ is) at i h = among_by start j is at i (eqb at start) refl h (among_table (start + 4) is at i)

-- ---- a text

length_by : (project : Project) (keep : Keep) (d : Definition) (f : Function) (t : Bool)
    → length (cond t (map (λ i. Some i) (instructions_at (target_address project d.in_module d.in_unit) (function_address project d) (function_code f))) (replicate (function_words f) None)) ≡ function_words f
length_by project keep d f true =
    length_of_map (λ i. Some i) (instructions_at (target_address project d.in_module d.in_unit) (function_address project d) (function_code f))
    ∙ length_of_instructions (target_address project d.in_module d.in_unit) (function_address project d) (function_code f) ∙ size-function f
length_by project keep d f false = length_of_copies (function_words f) None

pub length_of_function : (project : Project) (keep : Keep) (d : Definition) (f : Function) → length (function_instructions project keep d f) ≡ function_words f
length_of_function project keep d f = length_by project keep d f (keep d)

-- what a function and a unit give to the text
abbrev pub function_part : Project → Keep → (m u : ℕ) → ℕ → Function → List (Option Inst)
function_part project keep m u i f = function_instructions project keep (definition_at m u i) f

abbrev pub unit_part : Project → Keep → (m : ℕ) → ℕ → TypedUnit → List (Option Inst)
unit_part project keep m u unit = joined (function_part project keep m u) 0 unit.functions

abbrev pub first_part : Project → ℕ → List (Option Inst)
first_part project m = map (λ i. Some i) (instructions_at (target_address project m 0) (text_of m) (code_before_functions m))

pub length_of_unit : (project : Project) (keep : Keep) (m u : ℕ) (unit : TypedUnit) → length (unit_part project keep m u unit) ≡ words_of_unit unit
length_of_unit project keep m u unit = length_of_joined (function_part project keep m u) function_words (λ i f. length_of_function project keep (definition_at m u i) f) 0 unit.functions

pub length_of_first : (project : Project) (m : ℕ) → length (first_part project m) ≡ first_words m
length_of_first project m =
    length_of_map (λ i. Some i) (instructions_at (target_address project m 0) (text_of m) (code_before_functions m))
    ∙ length_of_instructions (target_address project m 0) (text_of m) (code_before_functions m)

pub length_of_text : (project : Project) (keep : Keep) (m : ℕ) → length (text_instructions project keep m) ≡ words_of_module project m
length_of_text project keep m =
    length_both (first_part project m) (joined (unit_part project keep m) 0 (units_of project m))
    ∙ omega (arith, length_of_first project m, length_of_joined (unit_part project keep m) words_of_unit (length_of_unit project keep m) 0 (units_of project m))

-- an instruction of the code before the functions
pub first_there : (project : Project) (keep : Keep) (m k : ℕ) (i : Inst) → slice_get (instructions_at (target_address project m 0) (text_of m) (code_before_functions m)) k ≡ Some i
    → slice_get (text_instructions project keep m) k ≡ Some (Some i)
first_there project keep m k i h =
    let below = got_below (instructions_at (target_address project m 0) (text_of m) (code_before_functions m)) k i h in
    let short : k < length (first_part project m) = omega (arith, length_of_first project m, length_of_instructions (target_address project m 0) (text_of m) (code_before_functions m)) in
    get_left (first_part project m) (joined (unit_part project keep m) 0 (units_of project m)) k short
    ∙ got_of_map (λ i. Some i) (instructions_at (target_address project m 0) (text_of m) (code_before_functions m)) k ∙ ap (option_map (λ i. Some i)) h

-- a word of a function
pub function_there : (project : Project) (keep : Keep) (d : Definition) (f : Function) → function_at project d ≡ Some f → (k : ℕ) → k < function_words f
    → slice_get (text_instructions project keep d.in_module) (first_words d.in_module + words_before_function project d + k) ≡ slice_get (function_instructions project keep d f) k
function_there project keep d f h k below =
    let m = d.in_module in
    let u = d.in_unit in
    let i = d.number in
    let it = function_is project d f h in
    let at = unit_is project d it.unit it.unit_there in
    let before : ℕ = sum_by function_words (take i it.unit.functions) in
    let within = sum_before function_words it.unit.functions i f it.there in
    let functions : words_before_function project d ≡ sum_by words_of_unit (take u (units_of project m)) + before = ap (λ o. sum_by words_of_unit (take u (units_of project m)) + sum_by function_words (take i (Rattle.std.specs.Option.option_map_or (λ (unit : TypedUnit). unit.functions) o []))) at.there in
    let place : first_words m + words_before_function project d + k ≡ length (first_part project m) + (sum_by words_of_unit (take u (units_of project m)) + (before + k)) = omega (arith, length_of_first project m) in
    let unit_number : 0 + u ≡ u = omega arith in
    let number : 0 + i ≡ i = omega arith in
    ap (slice_get (text_instructions project keep m)) place
    ∙ get_right (first_part project m) (joined (unit_part project keep m) 0 (units_of project m)) (sum_by words_of_unit (take u (units_of project m)) + (before + k))
    ∙ joined_at (unit_part project keep m) words_of_unit (length_of_unit project keep m) 0 (units_of project m) u it.unit at.there (before + k) (omega arith)
    ∙ ap (λ v. slice_get (unit_part project keep m v it.unit) (before + k)) unit_number
    ∙ joined_at (function_part project keep m u) function_words (λ j g. length_of_function project keep (definition_at m u j) g) 0 it.unit.functions i f it.there k below
    ∙ ap (λ j. slice_get (function_instructions project keep (definition_at m u j) f) k) number

-- an instruction of a kept function
pub kept_there : (project : Project) (keep : Keep) (d : Definition) (f : Function) → function_at project d ≡ Some f → keep d ≡ true → (k : ℕ) (i : Inst)
    → slice_get (instructions_at (target_address project d.in_module d.in_unit) (function_address project d) (function_code f)) k ≡ Some i
    → slice_get (text_instructions project keep d.in_module) (first_words d.in_module + words_before_function project d + k) ≡ Some (Some i)
kept_there project keep d f h kept k i got =
    let is : List Inst = instructions_at (target_address project d.in_module d.in_unit) (function_address project d) (function_code f) in
    let below = got_below is k i got in
    let short : k < function_words f = omega (arith, length_of_instructions (target_address project d.in_module d.in_unit) (function_address project d) (function_code f), size-function f) in
    function_there project keep d f h k short
    ∙ ap (λ t. slice_get (cond t (map (λ i. Some i) is) (replicate (function_words f) None)) k) kept
    ∙ got_of_map (λ i. Some i) is k ∙ ap (option_map (λ i. Some i)) got

-- ---- the code

pub module_is : (m k : ℕ) → 4 * k < 16777216 → module_of (text_of m + 4 * k) ≡ m
module_is m k small = omega arith

pub code_at : (project : Project) (keep : Keep) → CanRun project → (m k : ℕ) (i : Inst) → m < length project → slice_get (text_instructions project keep m) k ≡ Some (Some i)
    → code_of project keep (text_of m + 4 * k) ≡ Some i
code_at project keep run m k i there got =
    let room = has_room project run m there in
    let text = room.text in
    let below = got_below (text_instructions project keep m) k (Some i) got in
    let short : k < words_of_module project m = omega (arith, length_of_text project keep m) in
    let m_is : module_of (text_of m + 4 * k) ≡ m = module_is m k (omega arith) in
    let from : leb (text_of m) (text_of m + 4 * k) ≡ true = grind (arith, nat_tests) in
    let even : eqb ((text_of m + 4 * k - text_of m) % 4) 0 ≡ true = grind (arith, nat_tests) in
    let number : (text_of m + 4 * k - text_of m) / 4 ≡ k = omega arith in
    ap (λ n. instruction_in (text_instructions project keep n) (text_of n) (text_of m + 4 * k)) m_is
    ∙ rw (from, even, number, got) refl

-- what an instruction of the code is
pub record IsCodeAt (project : Project) (keep : Keep) (at : ℕ) (i : Inst) : Type 0 where
  pub number : ℕ
  pub place : at ≡ text_of (module_of at) + 4 * number
  pub there : slice_get (text_instructions project keep (module_of at)) number ≡ Some (Some i)

joined_option : (o : Option (Option Inst)) (i : Inst) → option_and_then (λ (j : Option Inst). j) o ≡ Some i → o ≡ Some (Some i)
joined_option None i h = cc
joined_option (Some None) i h = cc
joined_option (Some (Some j)) i h = cc

code_by : (project : Project) (keep : Keep) (at : ℕ) (i : Inst) (s t : Bool) → leb (text_of (module_of at)) at ≡ s → eqb ((at - text_of (module_of at)) % 4) 0 ≡ t
    → cond (s && t) (option_and_then (λ (j : Option Inst). j) (slice_get (text_instructions project keep (module_of at)) ((at - text_of (module_of at)) / 4))) None ≡ Some i → IsCodeAt project keep at i
code_by project keep at i true true from even h = record {
  number = (at - text_of (module_of at)) / 4;
  place = grind (arith, nat_tests);
  there = joined_option (slice_get (text_instructions project keep (module_of at)) ((at - text_of (module_of at)) / 4)) i h;
}
code_by project keep at i true false from even h = cc
code_by project keep at i false t from even h = cc

pub code_is : (project : Project) (keep : Keep) (at : ℕ) (i : Inst) → code_of project keep at ≡ Some i → IsCodeAt project keep at i
code_is project keep at i h = code_by project keep at i (leb (text_of (module_of at)) at) (eqb ((at - text_of (module_of at)) % 4) 0) refl refl h
