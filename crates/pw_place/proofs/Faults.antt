-- The faults of a link in parts, and together.
use Rattle.std.proofs.Common.{rules, ◌≡◌, ℕ, Bool, true, false, if◌then◌else◌, List, find, bytes_eq, nat_eq, nat_lt, Option, Some, None, option_map, Err, refl, ap, ◌∙◌, arith}
use Rattle.std.specs.List.{list_any}
use Rattle.std.specs.Option.{option_or}
use Rattle.std.proofs.lemmas.Bool.Decides.{nat_tests}
use Rattle.pw_base.specs.declared.kinds.Kind.{Kind}
use Rattle.pw_base.specs.declared.kinds.Kind.TheVariants.{Program, Library}
use Rattle.pw_tree.specs.declared.tunit.Ext.{Ext}
use Rattle.pw_code.specs.declared.object.Object.{Object}
use Rattle.pw_place.specs.Names.{external_names, definitions_of}
use Rattle.pw_place.specs.Refusals.{first_some, duplicate, type_differs, no_main, main_type, main_name, link_fault}
use Rattle.pw_place.specs.Steps.DefinedNames.{AreDefinedNames}
use Rattle.pw_place.specs.Merging.{Merges}
use Rattle.pw_place.specs.Steps.Passing.{Passes, count_fault, definitions_fault, names_fault, duplicate_among, main_lacks, main_differs}
use Rattle.pw_place.specs.declared.defined_names.DefinedNames.{DefinedNames}
use Rattle.pw_place.specs.declared.link_error.LinkError.{LinkError}
use Rattle.pw_place.specs.declared.link_error.LinkError.TheVariants.{TooMany, Duplicate, TypeDiffers, NoMain, MainType, NoMemory}

or_none : {A : Type 0} (a : Option A) → option_or a None ≡ a
or_none None = refl
or_none (Some x) = refl

or_or : {A : Type 0} (a b c : Option A) → option_or (option_or a b) c ≡ option_or a (option_or b c)
or_or None b c = refl
or_or (Some x) b c = refl

-- The first fault is one of counts, or else one of definitions.
pub faults_are : (kind : Kind) (objects : List Object) → option_or (count_fault kind objects) (definitions_fault kind objects) ≡ link_fault kind objects
unfolding first_some
faults_are kind objects = search (rules, or_none, or_or)

not_lacking : (c : ℕ) (t : Bool) → t ≡ nat_lt 0 c → (if t then None else Some NoMain) ≡ (if nat_eq c 0 then Some NoMain else None)
not_lacking c true e = grind (arith, nat_tests)
not_lacking c false e = grind (arith, nat_tests)

lacks_main : (kind : Kind) (objects : List Object) (names : DefinedNames) → AreDefinedNames objects names → main_lacks kind names.all ≡ no_main kind objects
lacks_main Program objects names are = not_lacking (definitions_of objects main_name) (list_any (bytes_eq main_name) names.all) (are.once main_name)
lacks_main Library objects names are = refl

differs_main : (kind : Kind) (objects : List Object) → main_differs kind (external_names objects) ≡ main_type kind objects
differs_main Program objects = refl
differs_main Library objects = refl

-- The faults of these names are those of the objects that define them.
pub names_fault_is : (kind : Kind) (objects : List Object) (entries : List Ext) (names : DefinedNames) → entries ≡ external_names objects
    → AreDefinedNames objects names → names_fault kind objects entries names ≡ definitions_fault kind objects
names_fault_is kind objects entries names e are =
    let twice : duplicate_among names.twice entries ≡ duplicate objects =
    ap (duplicate_among names.twice) e ∙ (λ i. option_map (λ n. Duplicate n.name) (find (λ n. are.more n.name i) (external_names objects))) in
    let lacks = lacks_main kind objects names are in
    let differs = ap (main_differs kind) e ∙ differs_main kind objects in
    (λ i. option_or (twice i) (option_or (type_differs objects) (option_or (lacks i) (differs i))))

-- A fault of the link is what a merge answers.
pub merges_not : (Y : Type 0) (kind : Kind) (objects : List Object) (e : LinkError) → Passes {Y = Y} (link_fault kind objects) (Err e) → Merges kind objects (Err e)
merges_not Y kind objects (TooMany what count) fault = fault
merges_not Y kind objects (Duplicate name) fault = fault
merges_not Y kind objects (TypeDiffers name first other) fault = fault
merges_not Y kind objects NoMain fault = fault
merges_not Y kind objects (MainType text) fault = fault
merges_not Y kind objects NoMemory fault = tt
