-- What a name with external linkage designates is a definition of the project.
use Rattle.std.proofs.Common.{◌≡◌, ℕ, suc, ◌+◌, Bool, true, false, List, [], ◌∷◌, Option, Some, None, refl, sym, ◌∙◌, ap, subst, arith, bytes_eq}
use Rattle.std.specs.Prelude.{slice_get, option_and_then}
use Rattle.std.specs.Option.{option_or}
use Rattle.pw_tree.specs.declared.tunit.TVar.{TVar}
use Rattle.pw_tree.specs.Units.{Function, TypedUnit}
use Rattle.pw_tree.specs.Names.{Project, Entity, function, object, first_found, found, defined_in_unit, definition_of, unit_at, function_at, variable_at}
use Rattle.pw_simulation.proofs.Elements.{definition_at}

-- ---- the first that is found

-- an item in which something was found
pub record IsFoundIn {A B : Type 0} (seek : ℕ → A → Option B) (n : ℕ) (items : List A) (b : B) : Type 0 where
  pub number : ℕ
  pub item : A
  pub there : slice_get items number ≡ Some item
  pub gives : seek (n + number) item ≡ Some b

found_by : {A B : Type 0} (seek : ℕ → A → Option B) (n : ℕ) (item : A) (items : List A) (b : B) (o : Option B) → seek n item ≡ o
    → option_or o (first_found seek (n + 1) items) ≡ Some b → (first_found seek (n + 1) items ≡ Some b → IsFoundIn seek (n + 1) items b) → IsFoundIn seek n (item ∷ items) b
found_by seek n item items b None e h rest =
    let r = rest h in
    let next : n + 1 + r.number ≡ n + suc r.number = omega arith in
    record { number = suc r.number; item = r.item; there = r.there; gives = ap (λ k. seek k r.item) (sym next) ∙ r.gives }
found_by seek n item items b (Some c) e h rest =
    let here : n + 0 ≡ n = omega arith in
    record { number = 0; item = item; there = refl; gives = ap (λ k. seek k item) here ∙ e ∙ h }

pub found_in : {A B : Type 0} (seek : ℕ → A → Option B) (n : ℕ) (items : List A) (b : B) → first_found seek n items ≡ Some b → IsFoundIn seek n items b
found_in seek n [] b h = cc
found_in seek n (item ∷ items) b h = found_by seek n item items b (seek n item) refl h (found_in seek (n + 1) items b)

-- ---- definitions

-- an entity is a function or a variable of the project
abbrev pub IsReal : Project → Entity → Type 0
IsReal project (function d) = (f : Function) × (function_at project d ≡ Some f)
IsReal project (object d) = (x : TVar) × (variable_at project d ≡ Some x)

is_found : (s t : Bool) (e x : Entity) → found s t e ≡ Some x → e ≡ x
is_found true true e x h = cc
is_found true false e x h = cc
is_found false t e x h = cc

at_unit : (project : Project) (m u i : ℕ) (units : List TypedUnit) (unit : TypedUnit) → slice_get project m ≡ Some units → slice_get units u ≡ Some unit → unit_at project (definition_at m u i) ≡ Some unit
at_unit project m u i units unit a b = rw a b

real_function : (project : Project) (m u i : ℕ) (unit : TypedUnit) (f : Function) → unit_at project (definition_at m u i) ≡ Some unit → slice_get unit.functions i ≡ Some f → function_at project (definition_at m u i) ≡ Some f
real_function project m u i unit f a b = ap (option_and_then (λ (v : TypedUnit). slice_get v.functions i)) a ∙ b

real_variable : (project : Project) (m u i : ℕ) (unit : TypedUnit) (x : TVar) → unit_at project (definition_at m u i) ≡ Some unit → slice_get unit.variables i ≡ Some x → variable_at project (definition_at m u i) ≡ Some x
real_variable project m u i unit x a b = ap (option_and_then (λ (v : TypedUnit). slice_get v.variables i)) a ∙ b

abbrev as_function : List ℕ → (m u : ℕ) → ℕ → Function → Option Entity
as_function name m u i f = found f.global (bytes_eq f.name name) (function (definition_at m u i))

abbrev as_variable : List ℕ → (m u : ℕ) → ℕ → TVar → Option Entity
as_variable name m u i x = found x.global (bytes_eq x.name name) (object (definition_at m u i))

unit_by : (project : Project) (name : List ℕ) (m u : ℕ) (units : List TypedUnit) (unit : TypedUnit) (e : Entity) → slice_get project m ≡ Some units → slice_get units u ≡ Some unit
    → (o : Option Entity) → first_found (as_function name m u) 0 unit.functions ≡ o → option_or o (first_found (as_variable name m u) 0 unit.variables) ≡ Some e → IsReal project e
unit_by project name m u units unit e a b (Some c) is h =
    let it = found_in (as_function name m u) 0 unit.functions c is in
    let here : 0 + it.number ≡ it.number = omega arith in
    let same = is_found it.item.global (bytes_eq it.item.name name) (function (definition_at m u it.number)) c (ap (λ k. as_function name m u k it.item) (sym here) ∙ it.gives) in
    let final : c ≡ e = cc in
    subst (IsReal project) (same ∙ final) (it.item, real_function project m u it.number unit it.item (at_unit project m u it.number units unit a b) it.there)
unit_by project name m u units unit e a b None is h =
    let it = found_in (as_variable name m u) 0 unit.variables e h in
    let here : 0 + it.number ≡ it.number = omega arith in
    let same = is_found it.item.global (bytes_eq it.item.name name) (object (definition_at m u it.number)) e (ap (λ k. as_variable name m u k it.item) (sym here) ∙ it.gives) in
    subst (IsReal project) same (it.item, real_variable project m u it.number unit it.item (at_unit project m u it.number units unit a b) it.there)

-- what a name designates is there
pub definition_is_real : (project : Project) (name : List ℕ) (e : Entity) → definition_of project name ≡ Some e → IsReal project e
definition_is_real project name e h =
    let in_module = found_in (λ m units. first_found (defined_in_unit name m) 0 units) 0 project e h in
    let m = in_module.number in
    let m_is : 0 + m ≡ m = omega arith in
    let units = in_module.item in
    let in_unit = found_in (defined_in_unit name m) 0 units e (ap (λ k. first_found (defined_in_unit name k) 0 units) (sym m_is) ∙ in_module.gives) in
    let u = in_unit.number in
    let u_is : 0 + u ≡ u = omega arith in
    unit_by project name m u units in_unit.item e in_module.there in_unit.there (first_found (as_function name m u) 0 in_unit.item.functions) refl
    (ap (λ k. defined_in_unit name m k in_unit.item) (sym u_is) ∙ in_unit.gives)
