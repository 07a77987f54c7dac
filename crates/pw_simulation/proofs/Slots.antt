-- The slots of a module: each external name that its code refers to has one.
use Rattle.std.proofs.Common.{◌≡◌, ℕ, zero, suc, ◌≤◌, Bool, true, false, not, List, [], ◌∷◌, length, filter, flat_map, Some, inl, inr, refl, ◌∙◌, ap, arith, bytes_eq}
use Rattle.std.specs.Prelude.{slice_get}
use Rattle.std.specs.List.{list_any}
use Rattle.std.specs.Option.{option_map_or}
use Rattle.std.proofs.lemmas.Slice.Eq.{bytes_eq-Decides}
use Rattle.pw_tree.specs.Units.{Function, TypedUnit}
use Rattle.pw_tree.specs.Names.{Project, Definition, function_at}
use Rattle.pw_code.specs.FunctionCode.{function_code}
use Rattle.pw_agree.specs.Placing.{units_of, code_before_functions, external_names, each_name_once, slots_of}
use Rattle.pw_agree.proofs.Members.{IsIn, in_left, in_right, in_flat_map, any_in}
use Rattle.pw_simulation.proofs.Extents.{unit_is, function_is}

-- ---- names

pub same_bytes : (a b : List ℕ) → bytes_eq a b ≡ true → a ≡ b
same_bytes a b h = (bytes_eq-Decides a b).0 h

pub bytes_themselves : (a : List ℕ) → bytes_eq a a ≡ true
bytes_themselves a = (bytes_eq-Decides a a).1 refl

pub got_in : {X : Type 0} (xs : List X) (i : ℕ) (x : X) → slice_get xs i ≡ Some x → IsIn xs x
got_in [] i x h = cc
got_in (y ∷ ys) zero x h = let e : y ≡ x = cc in inl e
got_in (y ∷ ys) (suc i) x h = inr (got_in ys i x h)

-- ---- each name once

in_filter_by : {X : Type 0} (test : X → Bool) (y : X) (ys : List X) (x : X) (t : Bool) → test y ≡ t → IsIn (filter test ys) x → IsIn (filter test (y ∷ ys)) x
in_filter_by test y ys x true e h = rw e (inr h)
in_filter_by test y ys x false e h = rw e h

pub in_filter : {X : Type 0} (test : X → Bool) (xs : List X) (x : X) → test x ≡ true → IsIn xs x → IsIn (filter test xs) x
in_filter test [] x passes h = absurd h
in_filter test (y ∷ ys) x passes (inl e) = let here : test y ≡ true = ap test e ∙ passes in rw here (inl e)
in_filter test (y ∷ ys) x passes (inr h) = in_filter_by test y ys x (test y) refl (in_filter test ys x passes h)

once_by : (n : List ℕ) (ns : List (List ℕ)) (name : List ℕ) (t : Bool) → bytes_eq n name ≡ t → IsIn (each_name_once ns) name
    → IsIn (n ∷ filter (λ other. not (bytes_eq n other)) (each_name_once ns)) name
once_by n ns name true e h = inl (same_bytes n name e)
once_by n ns name false e h = inr (in_filter (λ other. not (bytes_eq n other)) (each_name_once ns) name (rw e refl) h)

pub in_once : (names : List (List ℕ)) (name : List ℕ) → IsIn names name → IsIn (each_name_once names) name
unfolding each_name_once
in_once [] name h = absurd h
in_once (n ∷ ns) name (inl e) = inl e
in_once (n ∷ ns) name (inr h) = once_by n ns name (bytes_eq n name) refl (in_once ns name h)

-- a name among others is found by a test
pub found_in : (names : List (List ℕ)) (name : List ℕ) → IsIn names name → list_any (λ other. bytes_eq other name) names ≡ true
found_in names name h = any_in (λ other. bytes_eq other name) names name h (bytes_themselves name)

-- ---- slots

-- a name that the code before the functions refers to has a slot
pub slot_of_first : (project : Project) (m : ℕ) (name : List ℕ) → IsIn (external_names (code_before_functions m)) name
    → list_any (λ other. bytes_eq other name) (slots_of project m) ≡ true
slot_of_first project m name h =
    found_in (slots_of project m) name (in_once _ name (in_left (external_names (code_before_functions m)) (flat_map (λ (unit : TypedUnit). flat_map (λ f. external_names (function_code f)) unit.functions) (units_of project m)) name h))

-- and so has one that a function's code refers to
pub slot_of_function : (project : Project) (d : Definition) (f : Function) (name : List ℕ) → function_at project d ≡ Some f → IsIn (external_names (function_code f)) name
    → list_any (λ other. bytes_eq other name) (slots_of project d.in_module) ≡ true
slot_of_function project d f name there h =
    let it = function_is project d f there in
    let at = unit_is project d it.unit it.unit_there in
    let in_unit : IsIn (flat_map (λ g. external_names (function_code g)) it.unit.functions) name = in_flat_map (λ (g : Function). external_names (function_code g)) it.unit.functions f name (got_in it.unit.functions d.number f it.there) h in
    let in_units : IsIn (flat_map (λ (unit : TypedUnit). flat_map (λ g. external_names (function_code g)) unit.functions) (units_of project d.in_module)) name =
    in_flat_map (λ (unit : TypedUnit). flat_map (λ (g : Function). external_names (function_code g)) unit.functions) (units_of project d.in_module) it.unit name (got_in (units_of project d.in_module) d.in_unit it.unit at.there) in_unit in
    found_in (slots_of project d.in_module) name (in_once _ name (in_right (external_names (code_before_functions d.in_module)) _ name in_units))

-- where there is no module there are no units
no_module : {X : Type 0} (xs : List (List X)) (m : ℕ) → length xs ≤ m → option_map_or (λ ys. ys) (slice_get xs m) [] ≡ []
no_module [] m h = refl
no_module (x ∷ xs) zero h = absurd (omega arith)
no_module (x ∷ xs) (suc m) h = no_module xs m (omega arith)

pub no_units : (project : Project) (m : ℕ) → length project ≤ m → units_of project m ≡ []
no_units project m h = no_module project m h

-- and no slots
pub no_slots : (project : Project) (m : ℕ) → length project ≤ suc m → slots_of project (suc m) ≡ []
unfolding external_names each_name_once
no_slots project m h = rw (no_units project (suc m) h) refl
