-- In a project that can be run, a name that a unit uses designates what the unit says: a function of that signature, or a variable
-- of that type and size.
use Rattle.std.proofs.Common.{◌≡◌, ℕ, suc, Bool, true, false, cond, List, [], ◌∷◌, flat_map, Option, Some, None, inl, inr, refl, sym, ◌∙◌, ap, arith, bytes_eq, find}
use Rattle.std.specs.Prelude.{slice_get, option_map, option_and_then, Contains}
use Rattle.std.specs.Option.{option_map_or}
use Rattle.pw_tree.specs.declared.ty.Sig.{Sig}
use Rattle.pw_tree.specs.declared.ty.Ref.{Ref}
use Rattle.pw_tree.specs.declared.ty.Ref.TheVariants.{Global, LocalFun, LocalVar}
use Rattle.pw_tree.specs.declared.tunit.TVar.{TVar}
use Rattle.pw_tree.specs.declared.tunit.Ext.{Ext}
use Rattle.pw_tree.specs.TypeTexts.{text_of_function, text_of_variable}
use Rattle.pw_tree.specs.Units.{Function, TypedUnit}
use Rattle.pw_tree.specs.Names.{Project, Definition, Entity, function, object, definition_of, resolved, unit_at, function_at, variable_at, text_at}
use Rattle.pw_tree.specs.Depends.{names_of_all}
use Rattle.pw_tree.specs.Binding.{names_used, names_in_items}
use Rattle.pw_tree.specs.WellTypedExpressions.{text_named, IsSignature, static_sig, IsFunction, Shape, static_shape, IsVariable}
use Rattle.pw_tree.specs.WellTypedUnits.{IsWellTypedFunction, IsWellTypedVariable}
use Rattle.pw_agree.proofs.Members.{IsIn, each_in, in_left, in_right, in_flat_map}
use Rattle.pw_simulation.specs.Projects.{CanRun}
use Rattle.pw_simulation.proofs.Extents.{IsFunctionAt, IsVariableAt, function_is, variable_is}
use Rattle.pw_simulation.proofs.Elements.{definition_at}
use Rattle.pw_simulation.proofs.Slots.{same_bytes, bytes_themselves, got_in}
use Rattle.pw_simulation.proofs.Definitions.{IsReal, definition_is_real}
use Rattle.pw_simulation.proofs.TypeTexts.{function_text_says, variable_text_says, texts_differ}

-- ---- definitions are well typed

pub typed_function : (project : Project) → CanRun project → (d : Definition) (f : Function) (it : IsFunctionAt project d f) → IsWellTypedFunction it.unit f
typed_function project run d f it =
    each_in (IsWellTypedFunction it.unit) it.unit.functions f (run.units d it.unit it.unit_there).functions (got_in it.unit.functions d.number f it.there)

pub typed_variable : (project : Project) → CanRun project → (d : Definition) (x : TVar) (it : IsVariableAt project d x) → IsWellTypedVariable it.unit x
typed_variable project run d x it =
    each_in (IsWellTypedVariable it.unit) it.unit.variables x (run.units d it.unit it.unit_there).variables (got_in it.unit.variables d.number x it.there)

-- ---- names that are used

-- an element of a list by its place
pub contains : {X : Type 0} (xs : List X) (x : X) → IsIn xs x → Contains xs x
contains [] x h = absurd h
contains (y ∷ ys) x (inl e) = (0, omega arith, e)
contains (y ∷ ys) x (inr h) = let r = contains ys x h in (suc r.0, let less = r.1 in omega arith, r.2)

-- a name in a function's body is used, and so is one in an initialiser
pub used_in_body : (unit : TypedUnit) (i : ℕ) (f : Function) (name : Ref) → slice_get unit.functions i ≡ Some f → IsIn (names_of_all f.body) name → IsIn (names_used unit) name
used_in_body unit i f name there h =
    in_left (flat_map (λ (g : Function). names_of_all g.body) unit.functions) (flat_map (λ (x : TVar). option_map_or names_in_items x.init []) unit.variables) name
    (in_flat_map (λ (g : Function). names_of_all g.body) unit.functions f name (got_in unit.functions i f there) h)

pub used_in_variable : (unit : TypedUnit) (i : ℕ) (x : TVar) (name : Ref) → slice_get unit.variables i ≡ Some x → IsIn (option_map_or names_in_items x.init []) name → IsIn (names_used unit) name
used_in_variable unit i x name there h =
    in_right (flat_map (λ (g : Function). names_of_all g.body) unit.functions) (flat_map (λ (y : TVar). option_map_or names_in_items y.init []) unit.variables) name
    (in_flat_map (λ (y : TVar). option_map_or names_in_items y.init []) unit.variables x name (got_in unit.variables i x there) h)

-- ---- what an external name is bound to

-- an entry of a list of names
abbrev entry_of : List ℕ → List ℕ → Ext
entry_of name text = record { name = name; text = text }

one_entry : (a b c d : List ℕ) → a ≡ c → b ≡ d → entry_of a b ≡ entry_of c d
one_entry a b c d e f = cc

named_by : (n : Ext) (ns : List Ext) (name text : List ℕ) (t : Bool) → bytes_eq n.name name ≡ t
    → option_map (λ (e : Ext). e.text) (cond t (Some n) (find (λ e. bytes_eq e.name name) ns)) ≡ Some text
    → (text_named name ns ≡ Some text → IsIn ns (entry_of name text)) → IsIn (n ∷ ns) (entry_of name text)
named_by n ns name text true e h rest = let same : n.text ≡ text = cc in inl (one_entry n.name n.text name text (same_bytes n.name name e) same)
named_by n ns name text false e h rest = inr (rest h)

pub entry_is_in : (names : List Ext) (name text : List ℕ) → text_named name names ≡ Some text → IsIn names (entry_of name text)
entry_is_in [] name text h = cc
entry_is_in (n ∷ ns) name text h = named_by n ns name text (bytes_eq n.name name) refl h (entry_is_in ns name text)

-- a name is bound to an entity of the project that has this text
pub record IsBoundTo (project : Project) (name text : List ℕ) : Type 0 where
  pub entity : Entity
  pub found : definition_of project name ≡ Some entity
  pub text_is : text_at project entity ≡ Some text

text_there : (project : Project) (e : Entity) → IsReal project e → (text : List ℕ) × (text_at project e ≡ Some text)
text_there project (function d) real = (text_of_function real.0.sig, ap (option_map (λ (f : Function). text_of_function f.sig)) real.1)
text_there project (object d) real = (text_of_variable real.0.ty real.0.count, ap (option_map (λ (x : TVar). text_of_variable x.ty x.count)) real.1)

bound_by_text : (project : Project) → CanRun project → (d : Definition) (unit : TypedUnit) (name text defines : List ℕ) (e : Entity) → unit_at project d ≡ Some unit
    → IsIn (names_used unit) (Global name) → text_named name unit.names ≡ Some text → definition_of project name ≡ Some e → text_at project e ≡ Some defines
    → (t : Bool) → bytes_eq text defines ≡ t → IsBoundTo project name text
bound_by_text project run d unit name text defines e there used named found is true same =
    record { entity = e; found = found; text_is = is ∙ ap Some (sym (same_bytes text defines same)) }
bound_by_text project run d unit name text defines e there used named found is false differs =
    absurd (run.same d unit name text defines there (record {
      used = contains (names_used unit) (Global name) used;
      declares = contains unit.names (entry_of name text) (entry_is_in unit.names name text named);
      entity = e;
      found = found;
      text = is;
      other = λ eq. not_other eq;
    }))
  where
    not_other : text ≡ defines → ⊥
    not_other eq = let one : bytes_eq text defines ≡ true = ap (bytes_eq text) (sym eq) ∙ bytes_themselves text in cc

bound_by : (project : Project) → CanRun project → (d : Definition) (unit : TypedUnit) (name text : List ℕ) → unit_at project d ≡ Some unit
    → IsIn (names_used unit) (Global name) → text_named name unit.names ≡ Some text → (o : Option Entity) → definition_of project name ≡ o → IsBoundTo project name text
bound_by project run d unit name text there used named None none =
    absurd (run.bound d unit name there (record { used = contains (names_used unit) (Global name) used; undefined = none }))
bound_by project run d unit name text there used named (Some e) found =
    let t = text_there project e (definition_is_real project name e found) in
    bound_by_text project run d unit name text t.0 e there used named found t.1 (bytes_eq text t.0) refl

pub bound_to : (project : Project) → CanRun project → (d : Definition) (unit : TypedUnit) (name text : List ℕ) → unit_at project d ≡ Some unit
    → IsIn (names_used unit) (Global name) → text_named name unit.names ≡ Some text → IsBoundTo project name text
bound_to project run d unit name text there used named = bound_by project run d unit name text there used named (definition_of project name) refl

-- ---- functions

-- a name means a function of this signature
pub record MeansFunctionOf (project : Project) (m u : ℕ) (name : Ref) (sig : Sig) : Type 0 where
  pub d : Definition
  pub found : resolved project m u name ≡ Some (function d)
  pub callee : Function
  pub there : function_at project d ≡ Some callee
  pub type : callee.sig ≡ sig

function_of_text : (project : Project) → CanRun project → (m u : ℕ) (name : List ℕ) (sig : Sig) (e : Entity) → IsSignature sig → definition_of project name ≡ Some e → IsReal project e
    → text_at project e ≡ Some (text_of_function sig) → MeansFunctionOf project m u (Global name) sig
function_of_text project run m u name sig (function d) is found real h =
    let text : text_of_function real.0.sig ≡ text_of_function sig = let e = ap (option_map (λ (f : Function). text_of_function f.sig)) real.1 in cc in
    let typed = typed_function project run d real.0 (function_is project d real.0 real.1) in
    record { d = d; found = found; callee = real.0; there = real.1; type = function_text_says real.0.sig sig typed.signature is text }
function_of_text project run m u name sig (object d) is found real h =
    let text : text_of_function sig ≡ text_of_variable real.0.ty real.0.count = let e = ap (option_map (λ (x : TVar). text_of_variable x.ty x.count)) real.1 in cc in
    absurd (texts_differ sig real.0.ty real.0.count text)

sig_by : (f : Function) (sig : Sig) (t : Bool) → cond t None (Some f.sig) ≡ Some sig → f.sig ≡ sig
sig_by f sig true h = cc
sig_by f sig false h = cc

static_by : (project : Project) (d : Definition) (unit : TypedUnit) (i : ℕ) (sig : Sig) → unit_at project d ≡ Some unit → (o : Option Function) → slice_get unit.functions i ≡ o
    → option_and_then static_sig o ≡ Some sig → MeansFunctionOf project d.in_module d.in_unit (LocalFun i) sig
static_by project d unit i sig there None e h = cc
static_by project d unit i sig there (Some f) e h =
    record { d = definition_at d.in_module d.in_unit i; found = refl; callee = f; there = ap (option_and_then (λ (v : TypedUnit). slice_get v.functions i)) there ∙ e; type = sig_by f sig f.global h }

pub means_function : (project : Project) → CanRun project → (d : Definition) (unit : TypedUnit) (name : Ref) (sig : Sig) → unit_at project d ≡ Some unit
    → IsIn (names_used unit) name → IsFunction unit name sig → MeansFunctionOf project d.in_module d.in_unit name sig
means_function project run d unit (Global name) sig there used is =
    let b = bound_to project run d unit name (text_of_function sig) there used is.names in
    function_of_text project run d.in_module d.in_unit name sig b.entity is.types b.found (definition_is_real project name b.entity b.found) b.text_is
means_function project run d unit (LocalFun i) sig there used is = static_by project d unit i sig there (slice_get unit.functions i) refl is.names
means_function project run d unit (LocalVar i) sig there used is = absurd is.names

-- ---- variables

-- a name means a variable of this shape
pub record MeansVariableOf (project : Project) (m u : ℕ) (name : Ref) (shape : Shape) : Type 0 where
  pub d : Definition
  pub found : resolved project m u name ≡ Some (object d)
  pub variable : TVar
  pub there : variable_at project d ≡ Some variable
  pub type : variable.ty ≡ shape.ty
  pub size : variable.count ≡ shape.size

variable_of_text : (project : Project) → CanRun project → (m u : ℕ) (name : List ℕ) (unit : TypedUnit) (shape : Shape) (e : Entity) → IsVariable unit (Global name) shape
    → definition_of project name ≡ Some e → IsReal project e → text_at project e ≡ Some (text_of_variable shape.ty shape.size) → MeansVariableOf project m u (Global name) shape
variable_of_text project run m u name unit shape (function d) is found real h =
    let text : text_of_function real.0.sig ≡ text_of_variable shape.ty shape.size = let e = ap (option_map (λ (f : Function). text_of_function f.sig)) real.1 in cc in
    absurd (texts_differ real.0.sig shape.ty shape.size text)
variable_of_text project run m u name unit shape (object d) is found real h =
    let text : text_of_variable real.0.ty real.0.count ≡ text_of_variable shape.ty shape.size = let e = ap (option_map (λ (x : TVar). text_of_variable x.ty x.count)) real.1 in cc in
    let typed = typed_variable project run d real.0 (variable_is project d real.0 real.1) in
    let same = variable_text_says real.0.ty shape.ty real.0.count shape.size typed.type is.type typed.size is.size text in
    record { d = d; found = found; variable = real.0; there = real.1; type = same.types; size = same.sizes }

abbrev shape_of : TVar → Shape
shape_of x = record { ty = x.ty; size = x.count }

shape_by : (x : TVar) (shape : Shape) (t : Bool) → cond t None (Some (shape_of x)) ≡ Some shape → shape_of x ≡ shape
shape_by x shape true h = cc
shape_by x shape false h = cc

static_variable_by : (project : Project) (d : Definition) (unit : TypedUnit) (i : ℕ) (shape : Shape) → unit_at project d ≡ Some unit → (o : Option TVar) → slice_get unit.variables i ≡ o
    → option_and_then static_shape o ≡ Some shape → MeansVariableOf project d.in_module d.in_unit (LocalVar i) shape
static_variable_by project d unit i shape there None e h = cc
static_variable_by project d unit i shape there (Some x) e h =
    let same = shape_by x shape x.global h in
    record {
      d = definition_at d.in_module d.in_unit i;
      found = refl;
      variable = x;
      there = ap (option_and_then (λ (v : TypedUnit). slice_get v.variables i)) there ∙ e;
      type = ap (λ (s : Shape). s.ty) same;
      size = ap (λ (s : Shape). s.size) same;
    }

pub means_variable : (project : Project) → CanRun project → (d : Definition) (unit : TypedUnit) (name : Ref) (shape : Shape) → unit_at project d ≡ Some unit
    → IsIn (names_used unit) name → IsVariable unit name shape → MeansVariableOf project d.in_module d.in_unit name shape
means_variable project run d unit (Global name) shape there used is =
    let b = bound_to project run d unit name (text_of_variable shape.ty shape.size) there used is.names in
    variable_of_text project run d.in_module d.in_unit name unit shape b.entity is b.found (definition_is_real project name b.entity b.found) b.text_is
means_variable project run d unit (LocalFun i) shape there used is = absurd is.names
means_variable project run d unit (LocalVar i) shape there used is = static_variable_by project d unit i shape there (slice_get unit.variables i) refl is.names
