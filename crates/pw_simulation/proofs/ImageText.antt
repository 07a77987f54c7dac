-- The words of a project's text are those of its code's instructions.
use Rattle.std.proofs.Common.{◌≡◌, ℕ, zero, suc, ◌+◌, ◌-◌, ◌*◌, ◌/◌, ◌^◌, ◌<◌, ◌≤◌, Bool, true, false, cond, List, [], ◌∷◌, ◌++◌, length, map, Option, Some, None, get_or, refl, sym, ◌∙◌, ap, subst, arith, nat_lt, nat_le, lit<}
use Rattle.std.specs.Prelude.{ℤ, pos, negsuc, ◌-ℤ◌, slice_get, slice_index, replicate}
use Rattle.std.proofs.lemmas.Int.{ints}
use Rattle.std.proofs.lemmas.Bool.Decides.{nat_tests}
use Rattle.pw_isa.specs.declared.instruction.Inst.{Inst}
use Rattle.pw_isa.specs.Formats.{FitsField}
use Rattle.pw_isa.specs.Encoding.{word_of, IsEncodable}
use Rattle.pw_tree.specs.declared.ty.Ref.{Ref}
use Rattle.pw_tree.specs.declared.ty.Ref.TheVariants.{Global, LocalFun, LocalVar}
use Rattle.pw_tree.specs.Units.{Function, TypedUnit}
use Rattle.pw_tree.specs.Names.{Project, Definition, function_at}
use Rattle.pw_mem.specs.Memory.{zeros}
use Rattle.pw_code.specs.Items.{CodePart, instruction, address, size}
use Rattle.pw_code.specs.LoadImmediate.{upper, lower}
use Rattle.pw_code.specs.FunctionCode.{function_code, function_words, entry_code}
use Rattle.pw_code.proofs.Immediates.{lower_fits_field}
use Rattle.pw_code.proofs.Exports.{size-function}
use Rattle.pw_agree.specs.Kept.{Keep}
use Rattle.pw_agree.specs.Image.{distance, with_lower, words_at, function_image, functions_image, units_image, text_image}
use Rattle.pw_agree.specs.Placing.{units_of, base_of, text_of, code_before_functions, function_address, target_address}
use Rattle.pw_simulation.specs.Tables.{instructions_at}
use Rattle.pw_simulation.specs.Encodable.{CodeHasWords}
use Rattle.pw_simulation.specs.Projects.{CanRun}
use Rattle.pw_simulation.specs.ImageWorld.{joined, function_instructions, text_instructions}
use Rattle.pw_simulation.proofs.Numbers.{upper_of_small, upper_of_negsuc}
use Rattle.pw_simulation.proofs.Extents.{unit_found, function_is, function_ends, address_is}
use Rattle.pw_simulation.proofs.Elements.{definition_at}
use Rattle.pw_simulation.proofs.Addresses.{has_room, function_module}
use Rattle.pw_simulation.proofs.ImageCode.{function_part, unit_part, first_part}
use Rattle.pw_simulation.proofs.ImageSees.{is_near}
use Rattle.pw_simulation.proofs.Links.{typed_function}
use Rattle.pw_simulation.proofs.EncodableStatements.{function_has_words}

-- ---- words that are those of instructions

-- a word is an instruction's; where there is no instruction it may be any
abbrev pub IsSpelled : Option Inst → ℕ → Type 0
IsSpelled None w = Unit {0}
IsSpelled (Some i) w = (w ≡ word_of i) × IsEncodable i

abbrev pub AreSpelled : List (Option Inst) → List ℕ → Type 0
AreSpelled [] [] = Unit {0}
AreSpelled (i ∷ is) (w ∷ ws) = IsSpelled i w × AreSpelled is ws
AreSpelled [] (w ∷ ws) = ⊥
AreSpelled (i ∷ is) [] = ⊥

pub spelled_both : (is : List (Option Inst)) (ws : List ℕ) (js : List (Option Inst)) (vs : List ℕ) → AreSpelled is ws → AreSpelled js vs → AreSpelled (is ++ js) (ws ++ vs)
spelled_both [] [] js vs a b = b
spelled_both [] (w ∷ ws) js vs a b = absurd a
spelled_both (i ∷ is) [] js vs a b = absurd a
spelled_both (i ∷ is) (w ∷ ws) js vs a b = (a.0, spelled_both is ws js vs a.1 b)

pub spelled_length : (is : List (Option Inst)) (ws : List ℕ) → AreSpelled is ws → length is ≡ length ws
spelled_length [] [] a = refl
spelled_length [] (w ∷ ws) a = absurd a
spelled_length (i ∷ is) [] a = absurd a
spelled_length (i ∷ is) (w ∷ ws) a = ap suc (spelled_length is ws a.1)

-- an instruction is spelled where it stands
pub spelled_at : (is : List (Option Inst)) (ws : List ℕ) → AreSpelled is ws → (k : ℕ) (i : Inst) → slice_get is k ≡ Some (Some i) → (slice_index ws k ≡ word_of i) × IsEncodable i
spelled_at [] ws a k i h = cc
spelled_at (j ∷ is) [] a k i h = absurd a
spelled_at (None ∷ is) (w ∷ ws) a zero i h = cc
spelled_at (Some j ∷ is) (w ∷ ws) a zero i h = let same : j ≡ i = cc in subst (λ x. (w ≡ word_of x) × IsEncodable x) same a.0
spelled_at (j ∷ is) (w ∷ ws) a (suc k) i h = spelled_at is ws a.1 k i h

none_spelled : (n : ℕ) → AreSpelled (replicate n None) (zeros n)
unfolding zeros
none_spelled zero = tt
none_spelled (suc n) = (tt, none_spelled n)

-- ---- addresses

upper_of_pos_fits : (n : ℕ) → n ≤ 2 ^ 26 → FitsField (2 ^ 19) (upper (pos n))
upper_of_pos_fits n few = omega arith

upper_of_negsuc_by : (n : ℕ) → n ≤ 2 ^ 26 → (t : Bool) → nat_lt n 2048 ≡ t → FitsField (2 ^ 19) (upper (negsuc n))
upper_of_negsuc_by n few true e = let small : n < 2048 = grind (arith, nat_tests) in subst (FitsField (2 ^ 19)) (sym (upper_of_small n small)) (lit< tt)
upper_of_negsuc_by n few false e = let great : 2048 ≤ n = grind (arith, nat_tests) in subst (FitsField (2 ^ 19)) (sym (upper_of_negsuc n great)) (omega arith)

upper_by : (place to : ℕ) → place ≤ to + 2 ^ 26 → to ≤ place + 2 ^ 26 → (t : Bool) → nat_le place to ≡ t → FitsField (2 ^ 19) (upper (distance place to))
upper_by place to near_to near_place true e =
    let from : place ≤ to = grind (arith, nat_tests) in
    let d : pos to -ℤ pos place ≡ pos (to - place) = omega (arith, ints) in
    subst (λ v. FitsField (2 ^ 19) (upper v)) (sym d) (upper_of_pos_fits (to - place) (omega arith))
upper_by place to near_to near_place false e =
    let before : to < place = grind (arith, nat_tests) in
    let d : pos to -ℤ pos place ≡ negsuc (place - to - 1) = omega (arith, ints) in
    subst (λ v. FitsField (2 ^ 19) (upper v)) (sym d) (upper_of_negsuc_by (place - to - 1) (omega arith) (nat_lt (place - to - 1) 2048) refl)

-- ---- code

lower_has_word : (rd : ℕ) (to : Ref) (v : ℤ) → rd < 32 → IsEncodable (with_lower rd to (lower v))
lower_has_word rd (Global name) v low = (low, low, lower_fits_field v)
lower_has_word rd (LocalFun i) v low = (low, low, lower_fits_field v)
lower_has_word rd (LocalVar i) v low = (low, low, lower_fits_field v)

-- code in the span of a module, whose targets are in it too
code_spelled : (target : Ref → ℕ) (base place : ℕ) (code : List CodePart) → ((to : Ref) → (base ≤ target to) × (target to ≤ base + 2 ^ 26)) → base ≤ place → place + 4 * size code ≤ base + 2 ^ 26
    → CodeHasWords code → AreSpelled (map (λ i. Some i) (instructions_at target place code)) (words_at target place code)
unfolding words_at size
code_spelled target base place [] near from to has = tt
code_spelled target base place (instruction i ∷ code) near from to has = ((refl, has.0), code_spelled target base (place + 4) code near (omega arith) (omega arith) has.1)
code_spelled target base place (address rd name ∷ code) near from to has =
    let n = near name in
    let low = n.0 in
    let high = n.1 in (
      (refl, (has.0, upper_by place (target name) (omega arith) (omega arith) (nat_le place (target name)) refl)),
      ((refl, lower_has_word rd name (distance place (target name)) has.0), code_spelled target base (place + 8) code near (omega arith) (omega arith) has.1),
    )

-- ---- functions, units and texts

targets_near : (project : Project) → CanRun project → (m u : ℕ) → m < length project → (to : Ref) → (base_of m ≤ target_address project m u to) × (target_address project m u to ≤ base_of m + 2 ^ 26)
targets_near project run m u there to = let near = is_near project run m u there to in let a = near.from in let b = near.before in (a, omega arith)

function_by : (f : Function) (is : List (Option Inst)) (ws : List ℕ) (t : Bool) → AreSpelled is ws → AreSpelled (cond t is (replicate (function_words f) None)) (cond t ws (zeros (function_words f)))
function_by f is ws true h = h
function_by f is ws false h = none_spelled (function_words f)

function_spelled : (project : Project) (keep : Keep) → CanRun project → (d : Definition) (f : Function) → function_at project d ≡ Some f
    → AreSpelled (function_instructions project keep d f) (function_image project keep d f)
function_spelled project keep run d f h =
    let there = function_module project d f h in
    let room = has_room project run d.in_module there in
    let text = room.text in
    let ends = function_ends project d f h in
    let it = function_is project d f h in
    let start = address_is project d in
    function_by f (map (λ i. Some i) (instructions_at (target_address project d.in_module d.in_unit) (function_address project d) (function_code f)))
    (words_at (target_address project d.in_module d.in_unit) (function_address project d) (function_code f)) (keep d)
    (code_spelled (target_address project d.in_module d.in_unit) (base_of d.in_module) (function_address project d) (function_code f) (targets_near project run d.in_module d.in_unit there) (omega arith)
    (omega (arith, size-function f)) (function_has_words it.unit f (typed_function project run d f it)))

functions_spelled : (project : Project) (keep : Keep) → CanRun project → (m u i : ℕ) (fs : List Function)
    → ((j : ℕ) (f : Function) → slice_get fs j ≡ Some f → function_at project (definition_at m u (i + j)) ≡ Some f) → AreSpelled (joined (function_part project keep m u) i fs) (functions_image project keep m u i fs)
unfolding functions_image
functions_spelled project keep run m u i [] are = tt
functions_spelled project keep run m u i (f ∷ fs) are =
    let here : i + 0 ≡ i = omega arith in
    spelled_both (function_part project keep m u i f) (function_image project keep (definition_at m u i) f) (joined (function_part project keep m u) (suc i) fs) (functions_image project keep m u (suc i) fs)
    (function_spelled project keep run (definition_at m u i) f (subst (λ k. function_at project (definition_at m u k) ≡ Some f) here (are 0 f refl)))
    (functions_spelled project keep run m u (suc i) fs (λ j g got. let next : i + suc j ≡ suc i + j = omega arith in subst (λ k. function_at project (definition_at m u k) ≡ Some g) next (are (suc j) g got)))

units_spelled : (project : Project) (keep : Keep) → CanRun project → (m u : ℕ) (units : List TypedUnit)
    → ((v : ℕ) (unit : TypedUnit) → slice_get units v ≡ Some unit → slice_get (units_of project m) (u + v) ≡ Some unit) → AreSpelled (joined (unit_part project keep m) u units) (units_image project keep m u units)
unfolding units_image
units_spelled project keep run m u [] are = tt
units_spelled project keep run m u (unit ∷ units) are =
    let here : u + 0 ≡ u = omega arith in
    let there : slice_get (units_of project m) u ≡ Some unit = subst (λ k. slice_get (units_of project m) k ≡ Some unit) here (are 0 unit refl) in
    spelled_both (unit_part project keep m u unit) (functions_image project keep m u 0 unit.functions) (joined (unit_part project keep m) (suc u) units) (units_image project keep m (suc u) units)
    (functions_spelled project keep run m u 0 unit.functions (λ j f got.
    let start : 0 + j ≡ j = omega arith in
    subst (λ k. function_at project (definition_at m u k) ≡ Some f) (sym start)
    (ap (Rattle.std.specs.Prelude.option_and_then (λ (v : TypedUnit). slice_get v.functions j)) (unit_found project (definition_at m u j) unit there) ∙ got)))
    (units_spelled project keep run m (suc u) units (λ v other got. let next : u + suc v ≡ suc u + v = omega arith in subst (λ k. slice_get (units_of project m) k ≡ Some other) next (are (suc v) other got)))

entry_has_words : CodeHasWords entry_code
entry_has_words = ((lit< tt, lit< tt, lit< tt), (lit< tt, ((lit< tt, lit< tt, lit< tt), ((lit< tt, lit< tt, lit< tt), (tt, tt)))))

first_spelled : (project : Project) → CanRun project → (m : ℕ) → m < length project
    → AreSpelled (first_part project m) (words_at (target_address project m 0) (text_of m) (code_before_functions m))
unfolding size
first_spelled project run zero there = code_spelled (target_address project 0 0) (base_of 0) (text_of 0) entry_code (targets_near project run 0 0 there) (Rattle.std.proofs.Common.lit≤ tt) (Rattle.std.proofs.Common.lit≤ tt) entry_has_words
first_spelled project run (suc m) there = code_spelled (target_address project (suc m) 0) (base_of (suc m)) (text_of (suc m)) [] (targets_near project run (suc m) 0 there) (omega arith) (omega arith) tt

-- the words of a module's text are those of its instructions
pub text_spelled : (project : Project) (keep : Keep) → CanRun project → (m : ℕ) → m < length project → AreSpelled (text_instructions project keep m) (text_image project keep m)
text_spelled project keep run m there =
    spelled_both (first_part project m) (words_at (target_address project m 0) (text_of m) (code_before_functions m)) (joined (unit_part project keep m) 0 (units_of project m)) (units_image project keep m 0 (units_of project m))
    (first_spelled project run m there)
    (units_spelled project keep run m 0 (units_of project m) (λ v unit got. let start : 0 + v ≡ v = omega arith in subst (λ k. slice_get (units_of project m) k ≡ Some unit) (sym start) got))
