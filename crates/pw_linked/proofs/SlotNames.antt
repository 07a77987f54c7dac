-- The slots of a module are for external names of its own.
use Rattle.std.proofs.Common.{◌≡◌, ℕ, ◌≤◌, List, [], ◌∷◌, ◌++◌, length, map, flat_map, Some, ◌⊎◌, inl, inr, refl, ap, subst}
use Rattle.std.specs.List.{AllByRecursion}
use Rattle.pw_tree.specs.declared.ty.Ref.TheVariants.{Global, LocalFun, LocalVar}
use Rattle.pw_tree.specs.declared.tunit.TVar.{TVar}
use Rattle.pw_tree.specs.declared.tunit.Ext.{Ext}
use Rattle.pw_tree.specs.Units.{Function, TypedUnit}
use Rattle.pw_tree.specs.Names.{Project}
use Rattle.pw_tree.specs.WellTypedExpressions.{text_named}
use Rattle.pw_tree.specs.WellTypedUnits.{IsWellTyped}
use Rattle.pw_code.specs.declared.object.Object.{Object}
use Rattle.pw_code.specs.Items.{CodePart, instruction, address, items}
use Rattle.pw_code.specs.FunctionCode.{function_code}
use Rattle.pw_code.specs.Objects.{item_in_order, function_object, object_of}
use Rattle.pw_code.specs.Soundness.{IsSoundItem, IsSoundFunction}
use Rattle.pw_gen.proofs.SoundObject.{sound_object}
use Rattle.pw_agree.specs.Placing.{units_of, code_before_functions, external_names, slots_of}
use Rattle.pw_agree.proofs.Members.{IsIn, each_in, in_left, in_right, in_flat_map}
use Rattle.pw_simulation.proofs.Slots.{in_once}
use Rattle.pw_simulation.proofs.Links.{entry_is_in}
use Rattle.pw_linked.specs.Linking.{names_of_module}
use Rattle.pw_linked.proofs.Pigeons.{no_longer, names_differ, in_names}

-- ---- elements of lists

in_either : {X : Type 0} (xs ys : List X) (x : X) → IsIn (xs ++ ys) x → IsIn xs x ⊎ IsIn ys x
in_either [] ys x h = inr h
in_either (z ∷ xs) ys x (inl e) = inl (inl e)
in_either (z ∷ xs) ys x (inr h) = next (in_either xs ys x h)
  where
    next : IsIn xs x ⊎ IsIn ys x → IsIn (z ∷ xs) x ⊎ IsIn ys x
    next (inl a) = inl (inr a)
    next (inr b) = inr b

in_some_list : {X Y : Type 0} (f : X → List Y) (xs : List X) (y : Y) → IsIn (flat_map f xs) y → (x : X) × IsIn xs x × IsIn (f x) y
in_some_list f [] y h = absurd h
in_some_list f (x ∷ xs) y h = by_part (in_either (f x) (flat_map f xs) y h) (in_some_list f xs y)
  where
    by_part : IsIn (f x) y ⊎ IsIn (flat_map f xs) y → (IsIn (flat_map f xs) y → (z : _) × IsIn xs z × IsIn (f z) y) → (z : _) × IsIn (x ∷ xs) z × IsIn (f z) y
    by_part (inl a) rest = (x, inl refl, a)
    by_part (inr b) rest = let r = rest b in (r.0, inr r.1, r.2)

in_mapped : {X Y : Type 0} (f : X → Y) (xs : List X) (x : X) → IsIn xs x → IsIn (map f xs) (f x)
in_mapped f [] x h = absurd h
in_mapped f (y ∷ ys) x (inl e) = inl (ap f e)
in_mapped f (y ∷ ys) x (inr h) = inr (in_mapped f ys x h)

-- ---- names in code

-- an external name in sound code has a text
named_in_code : (object : Object) (xs : List TVar) (code : List CodePart) (name : List ℕ) → AllByRecursion (IsSoundItem object) (map (item_in_order xs) (items code))
    → IsIn (external_names code) name → (text : List ℕ) × (text_named name object.names ≡ Some text)
unfolding external_names
named_in_code object xs [] name sound h = absurd h
named_in_code object xs (instruction i ∷ code) name sound h = named_in_code object xs code name sound.1 h
named_in_code object xs (address rd (Global n) ∷ code) name sound (inl e) = subst (λ m. (text : List ℕ) × (text_named m object.names ≡ Some text)) e sound.0.1
named_in_code object xs (address rd (Global n) ∷ code) name sound (inr h) = named_in_code object xs code name sound.1 h
named_in_code object xs (address rd (LocalFun i) ∷ code) name sound h = named_in_code object xs code name sound.1 h
named_in_code object xs (address rd (LocalVar i) ∷ code) name sound h = named_in_code object xs code name sound.1 h

-- so one that a function of a well-typed unit refers to is the unit's
name_of_unit : (unit : TypedUnit) (f : Function) (name : List ℕ) → IsWellTyped unit → IsIn unit.functions f → IsIn (external_names (function_code f)) name
    → IsIn (map (λ (n : Ext). n.name) unit.names) name
name_of_unit unit f name typed there h =
    let sound = sound_object [] unit typed in
    let of_function = each_in (IsSoundFunction (object_of [] unit)) (map (function_object unit.variables) unit.functions) (function_object unit.variables f) sound.functions
    (in_mapped (function_object unit.variables) unit.functions f there) in
    let text = named_in_code (object_of [] unit) unit.variables (function_code f) name of_function.items h in
    in_mapped (λ (n : Ext). n.name) unit.names (record { name = name; text = text.0 }) (entry_is_in unit.names name text.0 text.1)

-- ---- slots

slot_by : (first : List CodePart) (units : List TypedUnit) (name : List ℕ) → ((unit : TypedUnit) → IsIn units unit → IsWellTyped unit)
    → IsIn (external_names first) name ⊎ IsIn (flat_map (λ (unit : TypedUnit). flat_map (λ (f : Function). external_names (function_code f)) unit.functions) units) name
    → IsIn (names_of_module first units) name
slot_by first units name typed (inl h) = in_once _ name (in_left (external_names first) (flat_map (λ (unit : TypedUnit). map (λ (n : Ext). n.name) unit.names) units) name h)
slot_by first units name typed (inr h) =
    let in_unit = in_some_list (λ (unit : TypedUnit). flat_map (λ (f : Function). external_names (function_code f)) unit.functions) units name h in
    let in_function = in_some_list (λ (f : Function). external_names (function_code f)) in_unit.0.functions name in_unit.2 in
    let own = name_of_unit in_unit.0 in_function.0 name (typed in_unit.0 in_unit.1) in_function.1 in_function.2 in
    in_once _ name (in_right (external_names first) (flat_map (λ (unit : TypedUnit). map (λ (n : Ext). n.name) unit.names) units) name
    (in_flat_map (λ (unit : TypedUnit). map (λ (n : Ext). n.name) unit.names) units in_unit.0 name in_unit.1 own))

-- a module has no more slots than external names
pub slots_are_few : (project : Project) (m : ℕ) → ((unit : TypedUnit) → IsIn (units_of project m) unit → IsWellTyped unit)
    → length (slots_of project m) ≤ length (names_of_module (code_before_functions m) (units_of project m))
slots_are_few project m typed =
    let first : List CodePart = code_before_functions m in
    let units : List TypedUnit = units_of project m in
    let names : List (List ℕ) = external_names first ++ flat_map (λ (unit : TypedUnit). flat_map (λ (f : Function). external_names (function_code f)) unit.functions) units in
    no_longer (slots_of project m) (names_of_module first units) (names_differ names)
    (λ name h. slot_by first units name typed (in_either (external_names first) (flat_map (λ (unit : TypedUnit). flat_map (λ (f : Function). external_names (function_code f)) unit.functions) units) name (in_names names name h)))
