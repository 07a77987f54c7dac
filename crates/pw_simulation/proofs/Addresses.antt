-- Addresses of a project that can be run: its functions, slots and elements stand in the spans of their modules, below the stack.
use Rattle.std.proofs.Common.{◌≡◌, ℕ, suc, ◌+◌, ◌-◌, ◌*◌, ◌/◌, ◌<◌, ◌≤◌, true, List, length, Some, refl, sym, ◌∙◌, ap, subst, arith, not, bytes_eq}
use Rattle.std.specs.List.{list_any}
use Rattle.pw_base.specs.Limits.{stack_start}
use Rattle.pw_tree.specs.declared.tunit.TVar.{TVar}
use Rattle.pw_tree.specs.Units.{Function, TypedUnit}
use Rattle.pw_tree.specs.Names.{Project, Definition, function_at, variable_at}
use Rattle.pw_tree.specs.WellTypedUnits.{room}
use Rattle.pw_code.specs.FunctionCode.{function_words}
use Rattle.pw_agree.specs.Placing.{units_of, base_of, text_of, data_of, words_of_module, function_address, slots_of, slot_address, elements_before, variable_address}
use Rattle.pw_simulation.specs.Projects.{CanRun}
use Rattle.pw_simulation.proofs.TwoLevels.{items_differ}
use Rattle.pw_simulation.proofs.Extents.{unit_is, function_is, variable_is, function_item, first_words, words_before_function, address_is, function_ends, first_at_most, found_before}
use Rattle.pw_simulation.proofs.Elements.{definition_at, elements_in, variable_ends, one_definition, IsOneElement, elements_differ}

-- ---- modules

-- what a module has room for: its text ends before its data, and its data before the next module, which is below the stack
pub record HasRoom (project : Project) (m : ℕ) : Type 0 where
  pub text : text_of m + 4 * words_of_module project m ≤ data_of m
  pub data_end : data_of m + 8 * (length (slots_of project m) + elements_in project m) ≤ base_of (suc m)
  pub low : base_of (suc m) ≤ stack_start

pub has_room : (project : Project) → CanRun project → (m : ℕ) → m < length project → HasRoom project m
has_room project run m below =
    let few = run.few in
    let w = run.within m below in
    let a = w.text in
    let b = w.slots in
    let c = w.elements in
    record { text = omega arith; data_end = omega arith; low = omega arith }

-- two addresses in the spans of modules are of one module
pub one_module : (m n a : ℕ) → base_of m ≤ a → a < base_of (suc m) → base_of n ≤ a → a < base_of (suc n) → m ≡ n
one_module m n a from_m to_m from_n to_n = omega arith

-- ---- functions

pub function_module : (project : Project) (d : Definition) (f : Function) → function_at project d ≡ Some f → d.in_module < length project
function_module project d f h = let i = function_is project d f h in (unit_is project d i.unit i.unit_there).below

-- a function has a word
pub some_words : (f : Function) → 5 ≤ function_words f
some_words f = omega arith

-- an address inside a function
abbrev pub LiesIn : Project → Definition → Function → ℕ → Type 0
LiesIn project d f at = (function_address project d ≤ at) × (at < function_address project d + 4 * function_words f)

one_in : (project : Project) (m u i v j at : ℕ) (f g : Function) → function_at project (definition_at m u i) ≡ Some f → function_at project (definition_at m v j) ≡ Some g
    → LiesIn project (definition_at m u i) f at → LiesIn project (definition_at m v j) g at → definition_at m u i ≡ definition_at m v j
one_in project m u i v j at f g hf hg in_f in_g =
    let from_f = in_f.0 in
    let to_f = in_f.1 in
    let from_g = in_g.0 in
    let to_g = in_g.1 in
    let start_f = address_is project (definition_at m u i) in
    let start_g = address_is project (definition_at m v j) in
    let number : ℕ = (at - text_of m) / 4 - first_words m in
    let r = items_differ (λ (unit : TypedUnit). unit.functions) function_words (units_of project m) u i v j
    (number - words_before_function project (definition_at m u i)) (number - words_before_function project (definition_at m v j)) f g (function_item project (definition_at m u i) f (function_is project (definition_at m u i) f hf))
    (function_item project (definition_at m v j) g (function_is project (definition_at m v j) g hg)) (omega arith) (omega arith) (omega arith) in
    one_definition m u i m v j refl r.lists r.items

one_by : (project : Project) (m u i n v j at : ℕ) (f g : Function) → m ≡ n → function_at project (definition_at m u i) ≡ Some f → function_at project (definition_at n v j) ≡ Some g
    → LiesIn project (definition_at m u i) f at → LiesIn project (definition_at n v j) g at → definition_at m u i ≡ definition_at n v j
one_by project m u i n v j at f g e hf hg in_f in_g =
    one_in project m u i v j at f g hf (subst (λ k. function_at project (definition_at k v j) ≡ Some g) (sym e) hg) in_f (subst (λ k. LiesIn project (definition_at k v j) g at) (sym e) in_g)
    ∙ ap (λ k. definition_at k v j) e

-- an address lies inside one function alone
pub one_function : (project : Project) → CanRun project → (d e : Definition) (f g : Function) (at : ℕ) → function_at project d ≡ Some f → function_at project e ≡ Some g
    → LiesIn project d f at → LiesIn project e g at → d ≡ e
one_function project run d e f g at hd he in_d in_e =
    let room_d = has_room project run d.in_module (function_module project d f hd) in
    let room_e = has_room project run e.in_module (function_module project e g he) in
    let text_d = room_d.text in
    let text_e = room_e.text in
    let end_d = function_ends project d f hd in
    let end_e = function_ends project e g he in
    let start_d = address_is project d in
    let start_e = address_is project e in
    let from_d = in_d.0 in
    let to_d = in_d.1 in
    let from_e = in_e.0 in
    let to_e = in_e.1 in
    let same : d.in_module ≡ e.in_module = one_module d.in_module e.in_module at (omega arith) (omega arith) (omega arith) (omega arith) in
    one_by project d.in_module d.in_unit d.number e.in_module e.in_unit e.number at f g same hd he in_d in_e

-- functions that have one address are one
pub functions_differ : (project : Project) → CanRun project → (d e : Definition) (f g : Function) → function_at project d ≡ Some f → function_at project e ≡ Some g
    → function_address project d ≡ function_address project e → d ≡ e
functions_differ project run d e f g hd he h =
    let some_f = some_words f in
    let some_g = some_words g in
    one_function project run d e f g (function_address project d) hd he (omega arith, omega arith) (omega arith, omega arith)

-- ---- slots

-- a module that has a slot is there, but for the first one's `main`; and a slot stands before the variables
pub slot_before : (project : Project) (m : ℕ) (name : List ℕ) → list_any (λ other. bytes_eq other name) (slots_of project m) ≡ true
    → slot_address project m name + 8 ≤ data_of m + 8 * length (slots_of project m)
slot_before project m name h = let b = found_before (λ other. bytes_eq other name) (slots_of project m) h in omega arith

pub slot_within : (project : Project) (m : ℕ) (name : List ℕ) → slot_address project m name ≤ data_of m + 8 * length (slots_of project m)
slot_within project m name = let b = first_at_most (λ other. not (bytes_eq other name)) (slots_of project m) in omega arith

-- ---- elements

pub variable_module : (project : Project) (d : Definition) (x : TVar) → variable_at project d ≡ Some x → d.in_module < length project
variable_module project d x h = let i = variable_is project d x h in (unit_is project d i.unit i.unit_there).below

-- an element of a variable, with what is known of its address
pub record IsElementAt (project : Project) (d : Definition) (i : ℕ) : Type 0 where
  pub place : ℕ
  pub address : variable_address project d + 8 * i ≡ data_of d.in_module + 8 * (length (slots_of project d.in_module) + place)
  pub within : place < elements_in project d.in_module
  pub is : place ≡ elements_before project d + i

pub element_at : (project : Project) (d : Definition) (i : ℕ) (x : TVar) → variable_at project d ≡ Some x → i < room x.count → IsElementAt project d i
element_at project d i x h below =
    let ends = variable_ends project d x h in
    record { place = elements_before project d + i; address = omega arith; within = omega arith; is = refl }

elements_in_module : (project : Project) (m u i n v j : ℕ) (x y : TVar) (p q : ℕ) → m ≡ n → variable_at project (definition_at m u i) ≡ Some x → variable_at project (definition_at n v j) ≡ Some y
    → p < room x.count → q < room y.count → variable_address project (definition_at m u i) + 8 * p ≡ variable_address project (definition_at n v j) + 8 * q
    → IsOneElement (definition_at m u i) (definition_at n v j) p q
elements_in_module project m u i n v j x y p q e hx hy hp hq h =
    let hy2 : variable_at project (definition_at m v j) ≡ Some y = subst (λ k. variable_at project (definition_at k v j) ≡ Some y) (sym e) hy in
    let h2 : variable_address project (definition_at m u i) + 8 * p ≡ variable_address project (definition_at m v j) + 8 * q = h ∙ ap (λ k. variable_address project (definition_at k v j) + 8 * q) (sym e) in
    let r = elements_differ project m u i v j x y p q hx hy2 hp hq (omega arith) in
    record { definitions = r.definitions ∙ ap (λ k. definition_at k v j) e; elements = r.elements }

-- elements that have one address are one
pub one_element : (project : Project) → CanRun project → (d e : Definition) (p q : ℕ) (x y : TVar) → variable_at project d ≡ Some x → variable_at project e ≡ Some y
    → p < room x.count → q < room y.count → variable_address project d + 8 * p ≡ variable_address project e + 8 * q → IsOneElement d e p q
one_element project run d e p q x y hd he hp hq h =
    let room_d = has_room project run d.in_module (variable_module project d x hd) in
    let room_e = has_room project run e.in_module (variable_module project e y he) in
    let data_d = room_d.data_end in
    let data_e = room_e.data_end in
    let at_d = element_at project d p x hd hp in
    let at_e = element_at project e q y he hq in
    let within_d = at_d.within in
    let within_e = at_e.within in
    let place_d = at_d.address in
    let place_e = at_e.address in
    let same : d.in_module ≡ e.in_module = one_module d.in_module e.in_module (variable_address project d + 8 * p) (omega arith) (omega arith) (omega arith) (omega arith) in
    elements_in_module project d.in_module d.in_unit d.number e.in_module e.in_unit e.number x y p q same hd he hp hq h
