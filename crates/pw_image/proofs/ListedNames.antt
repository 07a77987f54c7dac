-- The names that a well-typed unit uses, or defines with external linkage, stand in its list with a text.
use Rattle.std.proofs.Common.{◌≡◌, ℕ, ◌+◌, Bool, true, false, cond, List, [], ◌∷◌, map, flat_map, Option, Some, None, inl, inr, refl, sym, ap, ◌∙◌, arith, bytes_eq}
use Rattle.std.specs.Prelude.{option_map, slice_get}
use Rattle.std.specs.Option.{option_or, option_map_or}
use Rattle.std.specs.List.{AllByRecursion, IsDistinct, find}
use Rattle.pw_tree.specs.declared.ty.Ty.{Ty}
use Rattle.pw_tree.specs.declared.ty.Ref.{Ref}
use Rattle.pw_tree.specs.declared.ty.Ref.TheVariants.{Global}
use Rattle.pw_tree.specs.declared.tunit.TVar.{TVar}
use Rattle.pw_tree.specs.declared.tunit.Ext.{Ext}
use Rattle.pw_tree.specs.declared.tunit.Init.{Init}
use Rattle.pw_tree.specs.declared.tunit.Init.TheVariants.{Num, Fun}
use Rattle.pw_tree.specs.TypeTexts.{text_of_function, text_of_variable}
use Rattle.pw_tree.specs.Units.{Function, TypedUnit}
use Rattle.pw_tree.specs.Names.{Entity, function, object, first_found, found, definition_of, text_at}
use Rattle.pw_tree.specs.Depends.{names_of_all}
use Rattle.pw_tree.specs.Binding.{names_in_items, names_used}
use Rattle.pw_tree.specs.WellTypedExpressions.{text_named}
use Rattle.pw_tree.specs.WellTypedUnits.{Initialises, InitialiserFits, FunctionIsNamed, VariableIsNamed, IsWellTypedFunction, IsWellTypedVariable, IsWellTyped}
use Rattle.pw_gen.proofs.Elements.{each_append, each_weaker}
use Rattle.pw_gen.proofs.References.{IsKnownIn, function_in, known_function, known_variable}
use Rattle.pw_agree.proofs.Members.{IsIn, each_in}
use Rattle.pw_simulation.proofs.NamesInBodies.{IsNamed, names_of_body}
use Rattle.pw_simulation.proofs.Definitions.{IsFoundIn, found_in}
use Rattle.pw_image.specs.OneUnit.{project_of, own_definition}
use Rattle.pw_image.proofs.Names.{bytes_eq_is, bytes_eq_itself}
use Rattle.pw_image.proofs.SymbolAddresses.{seek_function, seek_variable, meant_is}
use Rattle.pw_image.proofs.Dependencies.{at_place}

-- ---- lists

-- what holds of each element of lists one after another
pub each_of_lists : {X Y : Type 0} (P : X → Type 0) (Q : Y → Type 0) (f : X → List Y) → ((x : X) → P x → AllByRecursion Q (f x)) →
    (xs : List X) → AllByRecursion P xs → AllByRecursion Q (flat_map f xs)
each_of_lists P Q f each [] h = tt
each_of_lists P Q f each (x ∷ xs) h = each_append Q (f x) (flat_map f xs) (each x h.0) (each_of_lists P Q f each xs h.1)

pub in_mapped : {X Y : Type 0} (f : X → Y) (xs : List X) (x : X) → IsIn xs x → IsIn (map f xs) (f x)
in_mapped f [] x h = absurd h
in_mapped f (y ∷ ys) x (inl e) = inl (ap f e)
in_mapped f (y ∷ ys) x (inr h) = inr (in_mapped f ys x h)

-- ---- names that are used

module _ (unit : TypedUnit) where
  named_is_known : (r : Ref) → IsNamed unit r → IsKnownIn unit r
  named_is_known r (inl h) = known_function unit r (function_in unit r h.0 h.1)
  named_is_known r (inr h) = known_variable unit r h.0 h.1 h.2

  body_is_known : (f : Function) → IsWellTypedFunction unit f → AllByRecursion (IsKnownIn unit) (names_of_all f.body)
  body_is_known f h = each_weaker (IsNamed unit) (IsKnownIn unit) named_is_known (names_of_all f.body) (names_of_body unit f h)

  items_are_known : (ty : Ty) (items : List Init) → AllByRecursion (Initialises unit ty) items →
      AllByRecursion (IsKnownIn unit) (names_in_items items)
  items_are_known ty [] h = tt
  items_are_known ty (Num n ∷ items) h = items_are_known ty items h.1
  items_are_known ty (Fun f ∷ items) h = (known_function unit f (function_in unit f h.0.sig h.0.function), items_are_known ty items h.1)

  initialiser_is_known : (x : TVar) (o : Option (List Init)) → InitialiserFits unit x o →
      AllByRecursion (IsKnownIn unit) (option_map_or names_in_items o [])
  initialiser_is_known x None h = tt
  initialiser_is_known x (Some items) h = items_are_known x.ty items h.1

  -- Each name that a well-typed unit uses is known in it.
  used_is_known : IsWellTyped unit → AllByRecursion (IsKnownIn unit) (names_used unit)
  used_is_known well =
      each_append (IsKnownIn unit) (flat_map (λ (f : Function). names_of_all f.body) unit.functions)
      (flat_map (λ (x : TVar). option_map_or names_in_items x.init []) unit.variables)
      (each_of_lists (IsWellTypedFunction unit) (IsKnownIn unit) (λ f. names_of_all f.body) body_is_known unit.functions well.functions)
      (each_of_lists (IsWellTypedVariable unit) (IsKnownIn unit) (λ x. option_map_or names_in_items x.init [])
      (λ x h. initialiser_is_known x x.init h.initialiser) unit.variables well.variables)

  pub used_is_listed : IsWellTyped unit → (name : List ℕ) → IsIn (names_used unit) (Global name) → IsKnownIn unit (Global name)
  used_is_listed well name h = each_in (IsKnownIn unit) (names_used unit) (Global name) (used_is_known well) h

-- ---- entries

-- the text of an entry where a test holds, or else the one that others have for a name
abbrev text_by : Ext → List Ext → (name : List ℕ) → Bool → Option (List ℕ)
text_by m ms name t = option_map (λ (k : Ext). k.text) (cond t (Some m) (find (λ (k : Ext). bytes_eq k.name name) ms))

-- Where names differ, the text of an entry is the one that the list has for its name.
pub entry_is_named : (ns : List Ext) (n : Ext) → IsDistinct bytes_eq (map (λ (k : Ext). k.name) ns) → IsIn ns n →
    text_named n.name ns ≡ Some n.text
unfolding IsDistinct
entry_is_named [] n d h = absurd h
entry_is_named (m ∷ ms) n d (inl e) =
    ap (text_by m ms n.name) (ap (λ (k : Ext). bytes_eq k.name n.name) e ∙ bytes_eq_itself n.name) ∙ ap (λ (k : Ext). Some k.text) e
entry_is_named (m ∷ ms) n d (inr h) =
    let there = in_mapped (λ (k : Ext). k.name) ms n h in
    let other = each_in (λ a. bytes_eq m.name a ≡ false) (map (λ (k : Ext). k.name) ms) n.name d.0 there in
    ap (text_by m ms n.name) other ∙ entry_is_named ms n d.1 h

-- ---- names that are defined

-- What a name designates has the text that the list has for the name.
pub record HasListedText (unit : TypedUnit) (name : List ℕ) (e : Entity) : Type 0 where
  pub text : List ℕ
  pub is : text_at (project_of unit) e ≡ Some text
  pub listed : text_named name unit.names ≡ Some text

-- a definition under a name
record Counts (global named : Bool) (from to : Entity) : Type 0 where
  external : global ≡ true
  has_name : named ≡ true
  same : from ≡ to

counts : (g b : Bool) (e x : Entity) → found g b e ≡ Some x → Counts g b e x
counts true true e x h = let same : e ≡ x = cc in record { external = refl; has_name = refl; same = same }
counts true false e x h = cc
counts false b e x h = cc

module _ (unit : TypedUnit) (well : IsWellTyped unit) (name : List ℕ) where
  by_function : (e : Entity) → IsFoundIn (seek_function [] unit name) 0 unit.functions e → HasListedText unit name e
  by_function e it =
      let f = it.item in
      let here : 0 + it.number ≡ it.number = omega arith in
      let c = counts f.global (bytes_eq f.name name) (function (own_definition (0 + it.number))) e it.gives in
      record {
        text = text_of_function f.sig;
        is = ap (text_at (project_of unit)) (sym c.same)
            ∙ ap (λ k. option_map (λ (g : Function). text_of_function g.sig) (slice_get unit.functions k)) here
            ∙ ap (option_map (λ (g : Function). text_of_function g.sig)) it.there;
        listed = ap (λ w. text_named w unit.names) (sym (bytes_eq_is f.name name c.has_name))
            ∙ at_place (FunctionIsNamed unit.names) unit.functions it.number f well.functions_named it.there c.external;
      }

  by_variable : (e : Entity) → IsFoundIn (seek_variable [] unit name) 0 unit.variables e → HasListedText unit name e
  by_variable e it =
      let x = it.item in
      let here : 0 + it.number ≡ it.number = omega arith in
      let c = counts x.global (bytes_eq x.name name) (object (own_definition (0 + it.number))) e it.gives in
      record {
        text = text_of_variable x.ty x.count;
        is = ap (text_at (project_of unit)) (sym c.same)
            ∙ ap (λ k. option_map (λ (y : TVar). text_of_variable y.ty y.count) (slice_get unit.variables k)) here
            ∙ ap (option_map (λ (y : TVar). text_of_variable y.ty y.count)) it.there;
        listed = ap (λ w. text_named w unit.names) (sym (bytes_eq_is x.name name c.has_name))
            ∙ at_place (VariableIsNamed unit.names) unit.variables it.number x well.variables_named it.there c.external;
      }

  by_kind : (e : Entity) (o : Option Entity) → first_found (seek_function [] unit name) 0 unit.functions ≡ o →
      option_or o (first_found (seek_variable [] unit name) 0 unit.variables) ≡ Some e → HasListedText unit name e
  by_kind e (Some c) is h = by_function e (found_in (seek_function [] unit name) 0 unit.functions e (is ∙ h))
  by_kind e None is h = by_variable e (found_in (seek_variable [] unit name) 0 unit.variables e h)

  pub defined_is_listed : (e : Entity) → definition_of (project_of unit) name ≡ Some e → HasListedText unit name e
  defined_is_listed e h = by_kind e (first_found (seek_function [] unit name) 0 unit.functions) refl (sym (meant_is [] unit name) ∙ h)
