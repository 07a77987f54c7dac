-- What is enough to keep: what the roots lead to, and everything. The bodies of kept functions are linked.
use Rattle.std.proofs.Common.{◌≡◌, ℕ, true, List, [], ◌∷◌, map, Option, Some, None, inl, inr, refl, sym, ◌∙◌, ap, subst, codes}
use Rattle.std.specs.Prelude.{unwrap_or, Contains}
use Rattle.std.specs.List.{AllByRecursion}
use Rattle.std.specs.Option.{is_some, option_map_or}
use Rattle.pw_tree.specs.declared.ty.Sig.{Sig}
use Rattle.pw_tree.specs.declared.ty.Ref.{Ref}
use Rattle.pw_tree.specs.declared.tunit.TVar.{TVar}
use Rattle.pw_tree.specs.declared.tunit.Init.{Init}
use Rattle.pw_tree.specs.declared.tunit.Init.TheVariants.{Num, Fun}
use Rattle.pw_tree.specs.Types.{pointer_to}
use Rattle.pw_tree.specs.Units.{Function, TypedUnit}
use Rattle.pw_tree.specs.Names.{Project, Definition, Entity, function, object, definition_of, resolved, unit_at, function_at}
use Rattle.pw_tree.specs.Depends.{Node, entry, defined, Depends, names_of_all}
use Rattle.pw_tree.specs.Binding.{names_used, names_in_items}
use Rattle.pw_tree.specs.Meaning.{no_function, called_function}
use Rattle.pw_tree.specs.WellTypedExpressions.{Class, class_of, IsFunction, HasClass}
use Rattle.pw_tree.specs.WellTypedUnits.{room, Initialises, InitialiserFits}
use Rattle.pw_agree.specs.Kept.{Keep, IsPointedTo, Leads, IsKept, root, named, FindsKept}
use Rattle.pw_agree.proofs.Members.{IsIn, contained_is_in, each_in}
use Rattle.pw_simulation.specs.Bodies.{Body, MeansVariable, MeansFunction, IsLinked}
use Rattle.pw_simulation.specs.Projects.{CanRun, KeepsEnough, keeps_all}
use Rattle.pw_simulation.specs.ImageWorld.{world_of}
use Rattle.pw_simulation.proofs.Extents.{IsVariableAt, function_is, variable_is}
use Rattle.pw_simulation.proofs.Links.{typed_function, typed_variable, contains, used_in_body, used_in_variable, means_function, means_variable}
use Rattle.pw_simulation.proofs.NamesInBodies.{IsNamed, names_of_body}

-- ---- names in initialisers

-- a function that an initialiser names is among its names
pub name_in_items : (items : List Init) (f : Ref) → IsIn items (Fun f) → IsIn (names_in_items items) f
name_in_items [] f h = absurd h
name_in_items (Num n ∷ items) f (inl e) = cc
name_in_items (Num n ∷ items) f (inr h) = name_in_items items f h
name_in_items (Fun g ∷ items) f (inl e) = let same : g ≡ f = cc in inl same
name_in_items (Fun g ∷ items) f (inr h) = inr (name_in_items items f h)

pub items_fit : (unit : TypedUnit) (x : TVar) (o : Option (List Init)) (values : List Init) → o ≡ Some values → InitialiserFits unit x o → AllByRecursion (Initialises unit x.ty) values
items_fit unit x None values e h = cc
items_fit unit x (Some items) values e h = let same : items ≡ values = cc in subst (λ vs. AllByRecursion (Initialises unit x.ty) vs) same h.1

-- it is a function of a type that the variable may point to
pub item_points : (project : Project) → CanRun project → (d : Definition) (x : TVar) (it : IsVariableAt project d x) (values : List Init) (f : Ref) → x.init ≡ Some values
    → IsIn values (Fun f) → Initialises it.unit x.ty (Fun f)
item_points project run d x it values f e h =
    let typed = typed_variable project run d x it in
    each_in (Initialises it.unit x.ty) values (Fun f) (items_fit it.unit x x.init values e typed.initialiser) h

pub item_used : (project : Project) (d : Definition) (x : TVar) (it : IsVariableAt project d x) (values : List Init) (f : Ref) → x.init ≡ Some values → IsIn values (Fun f) → IsIn (names_used it.unit) f
item_used project d x it values f e h =
    used_in_variable it.unit d.number x f it.there (subst (λ o. IsIn (option_map_or names_in_items o []) f) (sym e) (name_in_items values f h))

-- ---- what names mean are functions

one_entity : (o : Option Entity) (d e : Definition) → o ≡ Some (function d) → o ≡ Some (function e) → d ≡ e
one_entity o d e a b = cc

not_both : (o : Option Entity) (d e : Definition) → o ≡ Some (object d) → o ≡ Some (function e) → ⊥
not_both o d e a b = cc

some_is : {A : Type 0} (o : Option A) (x : A) → o ≡ Some x → is_some o ≡ true
some_is o x e = rw e refl

-- a function that a name means is there
pub meant_is_there : (project : Project) → CanRun project → (d : Definition) (unit : TypedUnit) (name : Ref) (g : Definition) → unit_at project d ≡ Some unit → IsIn (names_used unit) name
    → IsNamed unit name → resolved project d.in_module d.in_unit name ≡ Some (function g) → is_some (function_at project g) ≡ true
meant_is_there project run d unit name g there used (inl is) means =
    let m = means_function project run d unit name is.0 there used is.1 in
    let same = one_entity (resolved project d.in_module d.in_unit name) m.d g m.found means in
    some_is (function_at project g) m.callee (subst (λ e. function_at project e ≡ Some m.callee) same m.there)
meant_is_there project run d unit name g there used (inr is) means =
    let c : HasClass unit name is.0 is.1 = is.2 in
    let m = means_variable project run d unit name (record { ty = c.ty; size = is.0 }) there used c.variable in
    absurd (not_both (resolved project d.in_module d.in_unit name) m.d g m.found means)

pub pointed_is_there : (project : Project) → CanRun project → (g : Definition) → IsPointedTo project g → is_some (function_at project g) ≡ true
pointed_is_there project run g p =
    let it = variable_is project p.at p.variable p.there in
    let named = contained_is_in p.values (Fun p.name) p.named in
    let points = item_points project run p.at p.variable it p.values p.name p.initialised named in
    meant_is_there project run p.at it.unit p.name g it.unit_there (item_used project p.at p.variable it p.values p.name p.initialised named) (inl (points.sig, points.function)) p.means

-- the body of what is called
in_called : (project : Project) (f : Definition) (name : Ref) (o : Option Function) → function_at project f ≡ o → IsIn (names_of_all (unwrap_or o no_function).body) name
    → (fn : Function) × (function_at project f ≡ Some fn) × IsIn (names_of_all fn.body) name
in_called project f name None e h = absurd h
in_called project f name (Some fn) e h = (fn, e, h)

pub named_is_there : (project : Project) → CanRun project → (f g : Definition) → Depends project (defined f) g → is_some (function_at project g) ≡ true
named_is_there project run f g h =
    let c = in_called project f h.0 (function_at project f) refl (contained_is_in (names_of_all (called_function project f).body) h.0 h.1) in
    let it = function_is project f c.0 c.1 in
    meant_is_there project run f it.unit h.0 g it.unit_there (used_in_body it.unit f.number c.0 h.0 it.there c.2)
    (each_in (IsNamed it.unit) (names_of_all c.0.body) h.0 (names_of_body it.unit c.0 (typed_function project run f c.0 it)) c.2) h.2

pub main_is_there : (project : Project) → CanRun project → (g : Definition) → Depends project entry g → is_some (function_at project g) ≡ true
main_is_there project run g h =
    let main = run.main in
    let same = one_entity (definition_of project (codes "main")) main.place g main.found h in
    some_is (function_at project g) main.body (subst (λ e. function_at project e ≡ Some main.body) same main.there)

-- ---- what is enough

kept_is_there : (project : Project) → CanRun project → (d : Definition) → IsKept project (defined d) → is_some (function_at project d) ≡ true
kept_is_there project run d (root h) = pointed_is_there project run d h
kept_is_there project run d (named {m} h leads) = by_first m leads
  where
    by_first : (m : Node) → Leads project m (defined d) → is_some (function_at project d) ≡ true
    by_first entry leads = main_is_there project run d leads
    by_first (defined f) leads = named_is_there project run f d leads

pub kept_is_enough : (project : Project) (keep : Keep) → CanRun project → FindsKept project keep → KeepsEnough project keep
kept_is_enough project keep run finds = record {
  functions = λ d kept. kept_is_there project run d ((finds d).0 kept);
  main = λ g h. (finds g).1 (named (root {n = entry} tt) h);
  pointed = λ g h. (finds g).1 (root h);
  named = λ f g kept h. (finds g).1 (named ((finds f).0 kept) h);
}

pub all_is_enough : (project : Project) → CanRun project → KeepsEnough project (keeps_all project)
all_is_enough project run = record {
  functions = λ d kept. kept;
  main = λ g h. main_is_there project run g h;
  pointed = λ g h. pointed_is_there project run g h;
  named = λ f g kept h. named_is_there project run f g h;
}

-- ---- bodies

called_is : (project : Project) (d : Definition) (f : Function) → function_at project d ≡ Some f → called_function project d ≡ f
called_is project d f h = ap (λ o. unwrap_or o no_function) h

linked_variable : (project : Project) (keep : Keep) → CanRun project → (b : Body) (name : Ref) → unit_at project b.self ≡ Some b.unit → IsIn (names_used b.unit) name
    → (size : Option ℕ) (c : Class) → HasClass b.unit name size c → MeansVariable (world_of project keep) b name size c
linked_variable project keep run b name there used size c is =
    let m = means_variable project run b.self b.unit name (record { ty = is.ty; size = size }) there used is.variable in
    record { d = m.d; found = m.found; variable = m.variable; there = m.there; class_is = ap class_of m.type ∙ sym is.class_is; room_is = ap room m.size }

linked_function : (project : Project) (keep : Keep) → CanRun project → KeepsEnough project keep → (b : Body) (f : Function) (name : Ref) → unit_at project b.self ≡ Some b.unit
    → function_at project b.self ≡ Some f → keep b.self ≡ true → IsIn (names_of_all f.body) name → IsIn (names_used b.unit) name
    → (sig : Sig) → IsFunction b.unit name sig → MeansFunction (world_of project keep) b name sig
linked_function project keep run enough b f name there here kept in_body used sig is =
    let m = means_function project run b.self b.unit name sig there used is in
    let named_here : Contains (names_of_all (called_function project b.self).body) name = subst (λ (g : Function). Contains (names_of_all g.body) name) (sym (called_is project b.self f here)) (contains (names_of_all f.body) name in_body) in
    record {
      d = m.d;
      found = m.found;
      callee = m.callee;
      there = m.there;
      kept = enough.named b.self m.d kept (name, named_here, m.found);
      pointer_is = ap pointer_to m.type;
      result_is = ap (λ (s : Sig). class_of s.result) m.type;
      parameters_are = ap (λ (s : Sig). map class_of s.params) m.type;
    }

linked_all : (project : Project) (keep : Keep) → CanRun project → KeepsEnough project keep → (b : Body) (f : Function) → unit_at project b.self ≡ Some b.unit
    → function_at project b.self ≡ Some f → keep b.self ≡ true → (names : List Ref) → ((name : Ref) → IsIn names name → IsIn (names_of_all f.body) name)
    → ((name : Ref) → IsIn names name → IsIn (names_used b.unit) name) → AllByRecursion (IsLinked (world_of project keep) b) names
linked_all project keep run enough b f there here kept [] in_body used = tt
linked_all project keep run enough b f there here kept (name ∷ names) in_body used = (
  record {
    variable = λ size c is. linked_variable project keep run b name there (used name (inl refl)) size c is;
    function = λ sig is. linked_function project keep run enough b f name there here kept (in_body name (inl refl)) (used name (inl refl)) sig is;
  },
  linked_all project keep run enough b f there here kept names (λ other h. in_body other (inr h)) (λ other h. used other (inr h)),
)

one_unit : (o : Option TypedUnit) (a b : TypedUnit) → o ≡ Some a → o ≡ Some b → a ≡ b
one_unit o a b x y = cc

-- each name in the body of a kept function means what its unit says
pub body_is_linked : (project : Project) (keep : Keep) → CanRun project → KeepsEnough project keep → (b : Body) (f : Function) → unit_at project b.self ≡ Some b.unit
    → function_at project b.self ≡ Some f → keep b.self ≡ true → AllByRecursion (IsLinked (world_of project keep) b) (names_of_all f.body)
body_is_linked project keep run enough b f there here kept =
    let it = function_is project b.self f here in
    let same = one_unit (unit_at project b.self) it.unit b.unit it.unit_there there in
    linked_all project keep run enough b f there here kept (names_of_all f.body) (λ name h. h)
    (λ name h. subst (λ (unit : TypedUnit). IsIn (names_used unit) name) same (used_in_body it.unit b.self.number f name it.there h))
