-- Linked modules are a project that can be run.
use Rattle.std.proofs.Common.{◌≡◌, ℕ, ◌<◌, List, [], length, Option, Some, None, refl, arith, codes}
use Rattle.std.specs.Prelude.{option_map}
use Rattle.pw_tree.specs.declared.ty.Ty.TheVariants.{Long}
use Rattle.pw_tree.specs.declared.ty.Sig.{Sig}
use Rattle.pw_tree.specs.Types.{AreValueTypes}
use Rattle.pw_tree.specs.TypeTexts.{text_of_function}
use Rattle.pw_tree.specs.Units.{Function, TypedUnit}
use Rattle.pw_tree.specs.Names.{function_at}
use Rattle.pw_tree.specs.WellTypedUnits.{IsWellTypedFunction, IsWellTyped}
use Rattle.pw_tree.specs.WellTypedExpressions.{IsSignature}
use Rattle.pw_agree.specs.LoadOrder.{ProjectModule, loaded_project}
use Rattle.pw_agree.specs.Placing.{units_of}
use Rattle.pw_agree.proofs.Members.{each_in}
use Rattle.pw_simulation.specs.Projects.{IsWithinLimits, DefinesMain, CanRun}
use Rattle.pw_simulation.proofs.Extents.{function_is}
use Rattle.pw_simulation.proofs.Slots.{got_in}
use Rattle.pw_simulation.proofs.ImageSees.{units_there}
use Rattle.pw_simulation.proofs.TypeTexts.{function_text_says}
use Rattle.pw_linked.specs.Linking.{AreLinked}
use Rattle.pw_linked.proofs.LoadedModules.{loaded_are_few, loaded_unit_is_typed, loaded_module_is_typed}
use Rattle.pw_linked.proofs.SlotNames.{slots_are_few}

-- ---- `main`

abbrev main_sig : Sig
main_sig = record { result = Long; params = [] }

no_params : AreValueTypes []
unfolding AreValueTypes
no_params = tt

abbrev text_of : Function → List ℕ
text_of f = text_of_function f.sig

main_there : (o : Option Function) (text : List ℕ) → option_map text_of o ≡ Some text → (f : Function) × (o ≡ Some f) × (text_of f ≡ text)
main_there None text h = cc
main_there (Some f) text h = (f, refl, cc)

main_is : (modules : List ProjectModule) → AreLinked modules → DefinesMain (loaded_project modules)
main_is modules linked =
    let main = linked.main in
    let f = main_there (function_at (loaded_project modules) main.place) (codes "l()") main.text in
    let it = function_is (loaded_project modules) main.place f.0 f.1 in
    let unit = loaded_unit_is_typed modules linked.units main.place it.unit it.unit_there in
    let typed = each_in (IsWellTypedFunction it.unit) it.unit.functions f.0 unit.functions (got_in it.unit.functions main.place.number f.0 it.there) in
    let signature : IsSignature main_sig = record { result = tt; params = no_params; few = omega arith } in
    record { place = main.place; found = main.found; body = f.0; there = f.1; type = function_text_says f.0.sig main_sig typed.signature signature f.2 }

-- ---- limits

within : (modules : List ProjectModule) → AreLinked modules → (m : ℕ) → m < length (loaded_project modules) → IsWithinLimits (loaded_project modules) m
within modules linked m below =
    let units : List TypedUnit = units_of (loaded_project modules) m in
    let sizes = linked.within m units (units_there (loaded_project modules) m below) in
    let names = sizes.names in
    let few = slots_are_few (loaded_project modules) m (λ unit h. each_in IsWellTyped units unit (loaded_module_is_typed modules linked.units m below) h) in
    record { text = sizes.text; slots = omega arith; elements = sizes.elements }

-- ---- all

pub linked_can_run : (modules : List ProjectModule) → AreLinked modules → CanRun (loaded_project modules)
linked_can_run modules linked =
    let most = linked.few in
    let few = loaded_are_few modules in
    record {
      few = omega arith;
      within = λ m below. within modules linked m below;
      units = λ d unit there. loaded_unit_is_typed modules linked.units d unit there;
      bound = λ d unit name there unbound. linked.bound unit name (d, there) unbound;
      same = λ d unit name declares defines there differs. linked.same unit name declares defines (d, there) differs;
      main = main_is modules linked;
    }
