-- The world of a project that can be run shows the project.
use Rattle.std.proofs.Common.{◌≡◌, ◌≢◌, ℕ, zero, suc, ◌+◌, ◌*◌, ◌^◌, ◌<◌, ◌≤◌, Bool, true, false, leb, List, [], ◌∷◌, length, Option, Some, None, refl, sym, ◌∙◌, ap, subst, arith, lit<, bytes_eq, inl, inr}
use Rattle.std.specs.Prelude.{slice_get, sum_by}
use Rattle.std.specs.List.{AllByRecursion, list_any}
use Rattle.std.specs.Option.{is_some, option_map_or}
use Rattle.std.proofs.lemmas.Bool.Decides.{nat_tests}
use Rattle.pw_base.specs.Limits.{stack_start}
use Rattle.pw_isa.specs.declared.instruction.Inst.{Inst}
use Rattle.pw_isa.specs.declared.instruction.Inst.TheVariants.{Auipc}
use Rattle.pw_tree.specs.declared.ty.Ref.{Ref}
use Rattle.pw_tree.specs.declared.ty.Ref.TheVariants.{Global, LocalFun, LocalVar}
use Rattle.pw_tree.specs.declared.tunit.TVar.{TVar}
use Rattle.pw_tree.specs.Units.{Function, TypedUnit}
use Rattle.pw_tree.specs.Names.{Project, Definition, function_at}
use Rattle.pw_code.specs.Items.{CodePart, instruction, address, size}
use Rattle.pw_code.specs.LoadImmediate.{upper, lower}
use Rattle.pw_code.specs.FunctionCode.{function_code, function_words, entry_code}
use Rattle.pw_code.proofs.Exports.{size-function}
use Rattle.pw_agree.specs.Kept.{Keep}
use Rattle.pw_agree.specs.Image.{distance, with_lower}
use Rattle.pw_agree.specs.Placing.{units_of, base_of, text_of, data_of, words_of_unit, function_address, slots_of, slot_address, variable_address, target_address, external_names}
use Rattle.pw_agree.proofs.Members.{IsIn}
use Rattle.pw_simulation.specs.World.{IsApart, target_place}
use Rattle.pw_simulation.specs.CodeAt.{HasAt}
use Rattle.pw_simulation.specs.Values.{IsElement}
use Rattle.pw_simulation.specs.Sees.{Sees, IsClosed, IsFunctionPlace, IsElementPlace}
use Rattle.pw_simulation.specs.Tables.{instructions_at, in_table}
use Rattle.pw_simulation.specs.Projects.{CanRun, KeepsEnough}
use Rattle.pw_simulation.specs.ImageWorld.{text_instructions, module_of, code_of, words_of_project, world_of}
use Rattle.pw_simulation.proofs.Tables.{IsTarget, references, table_has}
use Rattle.pw_simulation.proofs.Joined.{got_below, sum_before}
use Rattle.pw_simulation.proofs.Extents.{unit_is, function_is, first_words, words_before_function, address_is, function_ends, function_within}
use Rattle.pw_simulation.proofs.Elements.{definition_at, variable_within}
use Rattle.pw_simulation.proofs.Addresses.{has_room, function_module, variable_module, some_words, functions_differ, slot_before, slot_within, element_at, one_element}
use Rattle.pw_simulation.proofs.ImageCode.{among_table, length_of_text, first_there, kept_there, code_at, code_is}
use Rattle.pw_simulation.proofs.Slots.{slot_of_first, slot_of_function, no_units, no_slots}

-- ---- modules that are there

-- a project that can be run has a module
pub some_module : (project : Project) → CanRun project → 0 < length project
some_module project run =
    let main = run.main in
    let below = function_module project main.place main.body main.there in omega arith

got_units : (project : List (List TypedUnit)) (m : ℕ) → m < length project → slice_get project m ≡ Some (option_map_or (λ (units : List TypedUnit). units) (slice_get project m) [])
got_units [] m h = absurd (omega arith)
got_units (units ∷ project) zero h = refl
got_units (units ∷ project) (suc m) h = got_units project m (omega arith)

pub units_there : (project : Project) (m : ℕ) → m < length project → slice_get project m ≡ Some (units_of project m)
units_there project m h = got_units project m h

code_module_by : (project : Project) (keep : Keep) → CanRun project → (m k : ℕ) (i : Inst) → slice_get (text_instructions project keep m) k ≡ Some (Some i) → (t : Bool) → leb (length project) m ≡ t → m < length project
code_module_by project keep run m k i got false e = grind (arith, nat_tests)
code_module_by project keep run zero k i got true e = some_module project run
code_module_by project keep run (suc m) k i got true e =
    let beyond : length project ≤ suc m = grind (arith, nat_tests) in
    let none : slice_get (text_instructions project keep (suc m)) k ≡ None = rw (no_units project (suc m) beyond) refl in cc

-- code is of a module that is there
pub code_module : (project : Project) (keep : Keep) → CanRun project → (m k : ℕ) (i : Inst) → slice_get (text_instructions project keep m) k ≡ Some (Some i) → m < length project
code_module project keep run m k i got = code_module_by project keep run m k i got (leb (length project) m) refl

slot_module_by : (project : Project) → CanRun project → (m : ℕ) (name : List ℕ) → list_any (λ other. bytes_eq other name) (slots_of project m) ≡ true → (t : Bool) → leb (length project) m ≡ t → m < length project
slot_module_by project run m name has false e = grind (arith, nat_tests)
slot_module_by project run zero name has true e = some_module project run
slot_module_by project run (suc m) name has true e =
    let beyond : length project ≤ suc m = grind (arith, nat_tests) in
    let none : list_any (λ other. bytes_eq other name) (slots_of project (suc m)) ≡ false = rw (no_slots project m beyond) refl in cc

-- and so is a slot
pub slot_module : (project : Project) → CanRun project → (m : ℕ) (name : List ℕ) → list_any (λ other. bytes_eq other name) (slots_of project m) ≡ true → m < length project
slot_module project run m name has = slot_module_by project run m name has (leb (length project) m) refl

-- ---- targets

pub target_same : (project : Project) (keep : Keep) (m u : ℕ) (to : Ref) → target_place (world_of project keep) m u to ≡ target_address project m u to
target_same project keep m u (Global name) = refl
target_same project keep m u (LocalFun i) = refl
target_same project keep m u (LocalVar i) = refl

-- a target stands in the span of its module
pub record IsNear (project : Project) (m u : ℕ) (to : Ref) : Type 0 where
  pub from : base_of m ≤ target_address project m u to
  pub before : target_address project m u to ≤ base_of (suc m)

pub is_near : (project : Project) → CanRun project → (m u : ℕ) → m < length project → (to : Ref) → IsNear project m u to
is_near project run m u there (Global name) =
    let room = has_room project run m there in
    let ends_low = room.data_end in
    let w = slot_within project m name in record { from = omega arith; before = omega arith }
is_near project run m u there (LocalFun i) =
    let room = has_room project run m there in
    let text = room.text in
    let w = function_within project (definition_at m u i) in
    let a = address_is project (definition_at m u i) in record { from = omega arith; before = omega arith }
is_near project run m u there (LocalVar i) =
    let room = has_room project run m there in
    let ends_low = room.data_end in
    let w = variable_within project (definition_at m u i) in record { from = omega arith; before = omega arith }

low_target : (project : Project) (keep : Keep) → CanRun project → (m u : ℕ) → m < length project → (to : Ref) → target_place (world_of project keep) m u to < 2 ^ 63
low_target project keep run m u there to =
    let near = is_near project run m u there to in
    let to_end = near.before in
    let few = run.few in omega (arith, target_same project keep m u to)

all_targets : (project : Project) (keep : Keep) → CanRun project → (m u : ℕ) → m < length project → (code : List CodePart)
    → ((name : List ℕ) → IsIn (external_names code) name → list_any (λ other. bytes_eq other name) (slots_of project m) ≡ true) → AllByRecursion (IsTarget (world_of project keep) m u) (references code)
unfolding external_names
all_targets project keep run m u there [] has = tt
all_targets project keep run m u there (instruction i ∷ code) has = all_targets project keep run m u there code has
all_targets project keep run m u there (address rd (Global name) ∷ code) has =
    (record { low = low_target project keep run m u there (Global name); slot = has name (inl refl) }, all_targets project keep run m u there code (λ other h. has other (inr h)))
all_targets project keep run m u there (address rd (LocalFun i) ∷ code) has =
    (record { low = low_target project keep run m u there (LocalFun i); slot = tt }, all_targets project keep run m u there code has)
all_targets project keep run m u there (address rd (LocalVar i) ∷ code) has =
    (record { low = low_target project keep run m u there (LocalVar i); slot = tt }, all_targets project keep run m u there code has)

-- instructions depend on targets alone
instructions_same : (f g : Ref → ℕ) → ((to : Ref) → f to ≡ g to) → (place : ℕ) (code : List CodePart) → instructions_at f place code ≡ instructions_at g place code
instructions_same f g e place [] = refl
instructions_same f g e place (instruction i ∷ code) = ap (λ is. i ∷ is) (instructions_same f g e (place + 4) code)
instructions_same f g e place (address rd to ∷ code) =
    ap (λ t. Auipc rd (upper (distance place t)) ∷ with_lower rd to (lower (distance place t)) ∷ instructions_at f (place + 8) code) (e to)
    ∙ ap (λ is. Auipc rd (upper (distance place (g to))) ∷ with_lower rd to (lower (distance place (g to))) ∷ is) (instructions_same f g e (place + 8) code)

-- ---- code at its place

small_entry : text_of 0 + 4 * size entry_code < 2 ^ 63
unfolding size
small_entry = lit< tt

-- the entry ends before the second module
pub small_entry_words : size entry_code ≤ 1000
unfolding size
small_entry_words = Rattle.std.proofs.Common.lit≤ tt

entry_there : (project : Project) (keep : Keep) → CanRun project → HasAt (world_of project keep) 0 0 (text_of 0) entry_code
entry_there project keep run =
    let w = world_of project keep in
    table_has w 0 0 entry_code (text_of 0) small_entry (all_targets project keep run 0 0 (some_module project run) entry_code (λ name h. slot_of_first project 0 name h)) stands
  where
    stands : (at : ℕ) (i : Inst) → in_table (text_of 0) (instructions_at (target_place (world_of project keep) 0 0) (text_of 0) entry_code) at ≡ Some i → code_of project keep at ≡ Some i
    stands at i h =
        let same = instructions_same (target_place (world_of project keep) 0 0) (target_address project 0 0) (target_same project keep 0 0) (text_of 0) entry_code in
        let t = among_table (text_of 0) (instructions_at (target_address project 0 0) (text_of 0) entry_code) at i (subst (λ is. in_table (text_of 0) is at ≡ Some i) same h) in
        ap (code_of project keep) t.place ∙ code_at project keep run 0 t.number i (some_module project run) (first_there project keep 0 t.number i t.there)

function_stands : (project : Project) (keep : Keep) → CanRun project → (d : Definition) (f : Function) → function_at project d ≡ Some f → keep d ≡ true → (at : ℕ) (i : Inst)
    → in_table (function_address project d) (instructions_at (target_place (world_of project keep) d.in_module d.in_unit) (function_address project d) (function_code f)) at ≡ Some i
    → code_of project keep at ≡ Some i
function_stands project keep run d f h kept at i found =
    let same = instructions_same (target_place (world_of project keep) d.in_module d.in_unit) (target_address project d.in_module d.in_unit) (target_same project keep d.in_module d.in_unit) (function_address project d) (function_code f) in
    let t = among_table (function_address project d) (instructions_at (target_address project d.in_module d.in_unit) (function_address project d) (function_code f)) at i
    (subst (λ is. in_table (function_address project d) is at ≡ Some i) same found) in
    let place : at ≡ text_of d.in_module + 4 * (first_words d.in_module + words_before_function project d + t.number) = let p = t.place in omega (arith, address_is project d) in
    ap (code_of project keep) place ∙ code_at project keep run d.in_module (first_words d.in_module + words_before_function project d + t.number) i (function_module project d f h) (kept_there project keep d f h kept t.number i t.there)

function_there : (project : Project) (keep : Keep) → CanRun project → (d : Definition) (f : Function) → function_at project d ≡ Some f → keep d ≡ true
    → HasAt (world_of project keep) d.in_module d.in_unit (function_address project d) (function_code f)
function_there project keep run d f h kept =
    let there = function_module project d f h in
    let room = has_room project run d.in_module there in
    let text = room.text in
    let few = run.few in
    let ends = function_ends project d f h in
    table_has (world_of project keep) d.in_module d.in_unit (function_code f) (function_address project d) (omega (arith, size-function f))
    (all_targets project keep run d.in_module d.in_unit there (function_code f) (λ name has. slot_of_function project d f name h has)) (function_stands project keep run d f h kept)

-- ---- all

apart : (project : Project) (keep : Keep) → CanRun project → IsApart (world_of project keep)
apart project keep run = record {
  code_low = λ at i h. code_is_low at i h;
  code_even = λ at i h. let c = code_is project keep at i h in let p = c.place in omega arith;
  slots_below = λ m name h. slot_is_below m name h;
  stack_is_low = lit< tt;
  stack_is_even = refl;
}
  where
    code_is_low : (at : ℕ) (i : Inst) → code_of project keep at ≡ Some i → at < 2 ^ 32
    code_is_low at i h =
        let c = code_is project keep at i h in
        let p = c.place in
        let there = code_module project keep run (module_of at) c.number i c.there in
        let below = got_below (text_instructions project keep (module_of at)) c.number (Some i) c.there in
        let room = has_room project run (module_of at) there in
        let text = room.text in
        let few = run.few in omega (arith, length_of_text project keep (module_of at))

    slot_is_below : (m : ℕ) (name : List ℕ) → list_any (λ other. bytes_eq other name) (slots_of project m) ≡ true → slot_address project m name + 8 ≤ stack_start
    slot_is_below m name h =
        let there = slot_module project run m name h in
        let room = has_room project run m there in
        let ends_low = room.data_end in
        let low = room.low in
        let before = slot_before project m name h in omega arith

closed : (project : Project) (keep : Keep) → KeepsEnough project keep → IsClosed (world_of project keep)
closed project keep enough = record { main = enough.main; pointed = enough.pointed; named = enough.named }

few_words : (project : Project) (d : Definition) (f : Function) → function_at project d ≡ Some f → function_words f ≤ words_of_project project
few_words project d f h =
    let it = function_is project d f h in
    let at = unit_is project d it.unit it.unit_there in
    let in_unit = sum_before function_words it.unit.functions d.number f it.there in
    let in_module = sum_before words_of_unit (units_of project d.in_module) d.in_unit it.unit at.there in
    let in_project = sum_before (λ (units : List TypedUnit). sum_by words_of_unit units) project d.in_module (units_of project d.in_module) (units_there project d.in_module at.below) in omega arith

-- a definition that is kept is a function
got_some : {A : Type 0} (o : Option A) → is_some o ≡ true → (x : A) × (o ≡ Some x)
got_some None h = cc
got_some (Some x) h = (x, refl)

pub kept_function : (project : Project) (keep : Keep) → KeepsEnough project keep → (d : Definition) → keep d ≡ true → (f : Function) × (function_at project d ≡ Some f)
kept_function project keep enough d kept = got_some (function_at project d) (enough.functions d kept)

function_place : (project : Project) (keep : Keep) → CanRun project → KeepsEnough project keep → (d : Definition) → keep d ≡ true → IsFunctionPlace (function_address project d)
function_place project keep run enough d kept =
    let found = kept_function project keep enough d kept in
    let there = function_module project d found.0 found.1 in
    let room = has_room project run d.in_module there in
    let text = room.text in
    let low = room.low in
    let few = run.few in
    let ends = function_ends project d found.0 found.1 in
    let some = some_words found.0 in
    let is = address_is project d in record { some = omega arith; low = omega arith; even = omega arith }

element_place : (project : Project) (keep : Keep) → CanRun project → (d : Definition) (i : ℕ) (x : TVar) → IsElement (world_of project keep) d i x → IsElementPlace (world_of project keep) (variable_address project d + 8 * i)
element_place project keep run d i x is =
    let at = element_at project d i x is.there is.below in
    let place = at.address in
    let within = at.within in
    let room = has_room project run d.in_module (variable_module project d x is.there) in
    let ends_low = room.data_end in
    let low = room.low in record { below = omega arith; even = omega arith }

slot_differs : (project : Project) (keep : Keep) → CanRun project → (d : Definition) (i : ℕ) (x : TVar) (k : ℕ) (name : List ℕ) → IsElement (world_of project keep) d i x
    → list_any (λ other. bytes_eq other name) (slots_of project k) ≡ true → slot_address project k name ≢ variable_address project d + 8 * i
slot_differs project keep run d i x k name is has h =
    let at = element_at project d i x is.there is.below in
    let place = at.address in
    let within = at.within in
    let room_d = has_room project run d.in_module (variable_module project d x is.there) in
    let data_d = room_d.data_end in
    let room_k = has_room project run k (slot_module project run k name has) in
    let data_k = room_k.data_end in
    let before = slot_before project k name has in
    let same : d.in_module ≡ k = omega arith in
    let ends : data_of k + 8 * length (slots_of project k) ≡ data_of d.in_module + 8 * length (slots_of project d.in_module) = ap (λ m. data_of m + 8 * length (slots_of project m)) (sym same) in
    omega arith

pub image_sees : (project : Project) (keep : Keep) → CanRun project → KeepsEnough project keep → Sees (world_of project keep)
image_sees project keep run enough = record {
  apart = apart project keep run;
  closed = closed project keep enough;
  has_entry = entry_there project keep run;
  functions = λ d f is. function_there project keep run d f is.there is.kept;
  few_words = λ d f is. few_words project d f is.there;
  function_places = λ d kept. function_place project keep run enough d kept;
  functions_differ = λ d e kept_d kept_e h.
      let f = kept_function project keep enough d kept_d in
      let g = kept_function project keep enough e kept_e in functions_differ project run d e f.0 g.0 f.1 g.1 h;
  element_places = λ d i x is. element_place project keep run d i x is;
  elements_differ = λ d e i j x y is_d is_e h. let r = one_element project run d e i j x y is_d.there is_e.there is_d.below is_e.below h in (r.definitions, r.elements);
  slots_differ = λ d i x k name is has. slot_differs project keep run d i x k name is has;
}
