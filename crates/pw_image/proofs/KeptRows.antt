-- The rows of a well-typed unit's program find what is kept of its project: its own functions, where their rows say why.
use Rattle.std.proofs.Common.{◌≡◌, ℕ, zero, suc, ◌<◌, Bool, true, false, ◌⊎◌, inl, inr, List, length, get_or, ◌≤◌, Option, Some, None, refl, sym, ap, ◌∙◌, subst, arith, nat_eq, codes}
use Rattle.std.specs.Prelude.{slice_get, option_map, option_and_then, ◌&&◌}
use Rattle.std.specs.Option.{is_some, option_map_or, unwrap_or}
use Rattle.std.proofs.lemmas.Bool.Decides.{nat_tests}
use Rattle.std.proofs.lemmas.Option.{slice_get_within, slice_get_cases}
use Rattle.pw_tree.specs.declared.ty.Sig.{Sig}
use Rattle.pw_tree.specs.declared.ty.Ref.{Ref}
use Rattle.pw_tree.specs.declared.ty.Ref.TheVariants.{Global, LocalFun, LocalVar}
use Rattle.pw_tree.specs.declared.tunit.Init.TheVariants.{Fun}
use Rattle.pw_tree.specs.TypeTexts.{text_of_function}
use Rattle.pw_tree.specs.Units.{Function, TypedUnit}
use Rattle.pw_tree.specs.Names.{Project, Definition, function, definition_of, resolved, text_at}
use Rattle.pw_tree.specs.Depends.{Node, entry, defined, names_of_all}
use Rattle.pw_tree.specs.Meaning.{no_function, called_function}
use Rattle.pw_tree.specs.WellTypedExpressions.{static_sig}
use Rattle.pw_tree.specs.WellTypedUnits.{Initialises, IsWellTypedFunction, IsWellTypedVariable, IsWellTyped}
use Rattle.pw_module.specs.declared.kept_row.KeptRow.{KeptRow}
use Rattle.pw_module.specs.declared.kept_row.KeptBy.{KeptBy}
use Rattle.pw_agree.specs.Kept.{IsPointedTo, Leads, IsKept, root, named, HasWay}
use Rattle.pw_agree.proofs.Members.{IsIn, contained_is_in, each_in}
use Rattle.pw_simulation.proofs.NamesInBodies.{IsNamed, names_of_body}
use Rattle.pw_simulation.proofs.Enough.{items_fit}
use Rattle.pw_image.specs.OneUnit.{project_of, own_definition}
use Rattle.pw_image.specs.Nodes.{node_of}
use Rattle.pw_image.specs.Rows.{IsKeptFor, AreRows, keep_of, RowsFindKept}
use Rattle.pw_image.proofs.Edges.{own_only}
use Rattle.pw_image.proofs.Dependencies.{at_place}
use Rattle.pw_image.proofs.ListedNames.{defined_is_listed}
use Rattle.pw_image.proofs.Roots.{place_in_unit}

-- A way leads to what is kept.
way_kept : (project : Project) (k : ℕ) (n : Node) → HasWay project k n → IsKept project n
way_kept project zero n h = root h
way_kept project (suc k) n h = named (way_kept project k h.0 h.1) h.2

-- A definition is one of the unit's functions.
record IsOwn (unit : TypedUnit) (d : Definition) : Type 0 where
  own : d ≡ own_definition d.number
  within : d.number < length unit.functions

module _ (unit : TypedUnit) (well : IsWellTyped unit) where
  -- ---- what a name of the unit designates

  within_by : {Y : Type 0} (i : ℕ) (f : Function → Y) (y : Y) (o : Option Function) → slice_get unit.functions i ≡ o →
      option_map f o ≡ Some y → i < length unit.functions
  within_by i f y None there h = cc
  within_by i f y (Some g) there h = slice_get_within unit.functions i g there

  static_within : (i : ℕ) (sig : Sig) (o : Option Function) → slice_get unit.functions i ≡ o →
      option_and_then static_sig o ≡ Some sig → i < length unit.functions
  static_within i sig None there h = cc
  static_within i sig (Some g) there h = slice_get_within unit.functions i g there

  -- a name with external linkage
  external_is_own : (wanted : List ℕ) (d : Definition) → definition_of (project_of unit) wanted ≡ Some (function d) → IsOwn unit d
  external_is_own wanted d means =
      let own = own_only unit (Global wanted) d means in
      let listed = defined_is_listed unit well wanted (function d) means in
      let there = subst (λ e. text_at (project_of unit) (function e) ≡ Some listed.text) own listed.is in
      record {
        own = own;
        within = within_by d.number (λ (f : Function). text_of_function f.sig) listed.text (slice_get unit.functions d.number) refl there;
      }

  is_own : (r : Ref) (d : Definition) → IsNamed unit r → resolved (project_of unit) 0 0 r ≡ Some (function d) → IsOwn unit d
  is_own (Global wanted) d is means = external_is_own wanted d means
  is_own (LocalFun i) d (inl is) means =
      let same : own_definition i ≡ d = cc in
      let number : i ≡ d.number = ap (λ (e : Definition). e.number) same in
      record {
        own = own_only unit (LocalFun i) d means;
        within = subst (λ k. k < length unit.functions) number (static_within i is.0 (slice_get unit.functions i) refl is.1.names);
      }
  is_own (LocalFun i) d (inr is) means = absurd is.2.variable.names
  is_own (LocalVar i) d is means = cc

  -- ---- what is kept

  pointed_is_own : (d : Definition) → IsPointedTo (project_of unit) d → IsOwn unit d
  pointed_is_own d h =
      let place = place_in_unit unit h.variable h.at.in_module h.at.in_unit h.at.number h.there in
      let typed = at_place (IsWellTypedVariable unit) unit.variables h.at.number h.variable well.variables place.2 in
      let fit = items_fit unit h.variable h.variable.init h.values h.initialised typed.initialiser in
      let points = each_in (Initialises unit h.variable.ty) h.values (Fun h.name) fit (contained_is_in h.values (Fun h.name) h.named) in
      is_own h.name d (inl (points.sig, points.function))
      (subst (λ m. resolved (project_of unit) m 0 h.name ≡ Some (function d)) place.0
      (subst (λ u. resolved (project_of unit) h.at.in_module u h.name ≡ Some (function d)) place.1 h.means))

  body_names : (i : ℕ) (r : Ref) (o : Option Function) → slice_get unit.functions i ≡ o →
      IsIn (names_of_all (unwrap_or o no_function).body) r → IsNamed unit r
  body_names i r None there h = absurd h
  body_names i r (Some f) there h =
      let typed = at_place (IsWellTypedFunction unit) unit.functions i f well.functions there in
      each_in (IsNamed unit) (names_of_all f.body) r (names_of_body unit f typed) h

  named_is_own : (i : ℕ) (d : Definition) → Leads (project_of unit) (node_of (suc i)) (defined d) → IsOwn unit d
  named_is_own i d h =
      let in_body = contained_is_in (names_of_all (called_function (project_of unit) (own_definition i)).body) h.0 h.1 in
      is_own h.0 d (body_names i h.0 (slice_get unit.functions i) refl in_body) h.2

  abbrev IsOwnNode : Node → Type 0
  IsOwnNode entry = Unit {0}
  IsOwnNode (defined d) = IsOwn unit d

  led_to_own : (m : Node) (d : Definition) → IsOwnNode m → Leads (project_of unit) m (defined d) → IsOwn unit d
  led_to_own entry d own h = external_is_own (codes "main") d h
  led_to_own (defined f) d own h = named_is_own f.number d (subst (λ e. Leads (project_of unit) (defined e) (defined d)) own.own h)

  -- What is kept is the unit's own.
  kept_is_own : (n : Node) → IsKept (project_of unit) n → IsOwnNode n
  kept_is_own entry h = tt
  kept_is_own (defined d) (root h) = pointed_is_own d h
  kept_is_own (defined d) (named {m = m} h leads) = led_to_own m d (kept_is_own m h) leads

-- ---- the test

all_three : (a b c : Bool) → a && b && c ≡ true → (a ≡ true) × (b ≡ true) × (c ≡ true)
all_three true true true h = (refl, refl, refl)
all_three true true false h = cc
all_three true false c h = cc
all_three false b c h = cc

is_zero : (n : ℕ) → nat_eq n 0 ≡ true → n ≡ 0
is_zero n h = grind (arith, nat_tests)

in_unit : (d : Definition) → d.in_module ≡ 0 → d.in_unit ≡ 0 → d ≡ own_definition d.number
in_unit d of_module of_unit = λ i. record { in_module = of_module i; in_unit = of_unit i; number = d.number }

module _ (file : List ℕ) (unit : TypedUnit) (rows : List KeptRow) (well : IsWellTyped unit) (are : AreRows file unit rows) where
  abbrev is_kept : Option KeptRow → Bool
  is_kept o = option_map_or (λ (row : KeptRow). is_some row.kept) o false

  -- A row that says why a function is kept,
  row_there : (i : ℕ) (o : Option KeptRow) → slice_get rows (suc i) ≡ o → is_kept o ≡ true → IsKept (project_of unit) (node_of (suc i))
  row_there i None there h = cc
  row_there i (Some row) there h = by row.kept (are.each (suc i) row there).kept h
    where
      by : (why : Option KeptBy) → IsKeptFor (project_of unit) (suc i) why → is_some why ≡ true → IsKept (project_of unit) (node_of (suc i))
      by None kept t = cc
      by (Some why) kept t = way_kept (project_of unit) why.level (node_of (suc i)) kept.0.way

  -- and the row of a function that is kept.
  row_back : (i : ℕ) → i < length unit.functions → IsKept (project_of unit) (node_of (suc i)) → is_kept (slice_get rows (suc i)) ≡ true
  row_back i within kept = by (slice_get_cases rows (suc i)).1
    where
      says : (why : Option KeptBy) → IsKeptFor (project_of unit) (suc i) why → is_some why ≡ true
      says None not = absurd (not kept)
      says (Some why) k = refl

      by : ((row : KeptRow) × (suc i < length rows) × (slice_get rows (suc i) ≡ Some row) × (get_or rows (suc i) row ≡ row))
          ⊎ ((length rows ≤ suc i) × (slice_get rows (suc i) ≡ None)) → is_kept (slice_get rows (suc i)) ≡ true
      by (inl h) = ap is_kept h.2 ∙ says h.0.kept (are.each (suc i) h.0 h.2).kept
      by (inr h) = let past = h.0 in absurd (omega (arith, are.all))

  there : (d : Definition) → keep_of rows d ≡ true → IsKept (project_of unit) (defined d)
  there d h =
      let three = all_three (nat_eq d.in_module 0) (nat_eq d.in_unit 0) (is_kept (slice_get rows (suc d.number))) h in
      subst (λ e. IsKept (project_of unit) (defined e)) (sym (in_unit d (is_zero d.in_module three.0) (is_zero d.in_unit three.1)))
      (row_there d.number (slice_get rows (suc d.number)) refl three.2)

  back : (d : Definition) → IsKept (project_of unit) (defined d) → keep_of rows d ≡ true
  back d h =
      let is = kept_is_own unit well (defined d) h in
      let own = subst (λ e. IsKept (project_of unit) (defined e)) is.own h in
      subst (λ e. keep_of rows e ≡ true) (sym is.own) (row_back d.number is.within own)

pub rows_find_kept : RowsFindKept
rows_find_kept file unit rows well are d = (there file unit rows well are d, back file unit rows well are d)
