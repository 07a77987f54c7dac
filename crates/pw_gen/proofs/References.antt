-- What the references of a well-typed unit name, in the unit and in its object.
use Rattle.std.proofs.Common.{◌≡◌, ℕ, zero, suc, ◌+◌, ◌<◌, Bool, true, false, if◌then◌else◌, List, [], ◌∷◌, map, Option, Some, None, refl, ap, ◌∙◌}
use Rattle.std.specs.Prelude.{slice_get, option_map, option_and_then}
use Rattle.std.proofs.lemmas.Option.{slice_get-map}
use Rattle.pw_base.specs.TypeText.{IsFunctionText}
use Rattle.pw_tree.specs.declared.ty.Sig.{Sig}
use Rattle.pw_tree.specs.declared.ty.Ref.{Ref}
use Rattle.pw_tree.specs.declared.ty.Ref.TheVariants.{Global, LocalFun, LocalVar}
use Rattle.pw_tree.specs.declared.tunit.TVar.{TVar}
use Rattle.pw_tree.specs.TypeTexts.{text_of_function, text_of_variable}
use Rattle.pw_tree.specs.Units.{Function, TypedUnit}
use Rattle.pw_tree.specs.WellTypedExpressions.{Class, text_named, static_sig, NamesFunction, IsFunction, Shape, static_shape, NamesVariable, HasClass}
use Rattle.pw_code.specs.declared.object.FunCode.{FunCode}
use Rattle.pw_code.specs.declared.object.Object.{Object}
use Rattle.pw_code.specs.Objects.{ref_in_order, function_object, object_of}
use Rattle.pw_code.specs.Soundness.{HasFunctionText, IsKnownRef, IsFunctionRef}
use Rattle.pw_gen.proofs.FunctionTexts.{function_text}
use Rattle.pw_gen.proofs.VariableOrder.{linkage_in_order}

-- A reference names a static definition of the unit, or an external name that stands in its list.
abbrev pub IsKnownIn : TypedUnit → Ref → Type 0
IsKnownIn unit (Global name) = (text : List ℕ) × (text_named name unit.names ≡ Some text)
IsKnownIn unit (LocalFun i) = option_map (λ (f : Function). f.global) (slice_get unit.functions i) ≡ Some false
IsKnownIn unit (LocalVar i) = option_map (λ (x : TVar). x.global) (slice_get unit.variables i) ≡ Some false

-- A reference names a function of the unit, or an external name with a function's text.
abbrev pub IsFunctionIn : TypedUnit → Ref → Type 0
IsFunctionIn unit (Global name) = HasFunctionText unit.names name
IsFunctionIn unit (LocalFun i) = option_map (λ (f : Function). f.global) (slice_get unit.functions i) ≡ Some false
IsFunctionIn unit (LocalVar i) = ⊥

-- ---- in the unit

static_flag : {A : Type 0} (b : Bool) (s t : A) → (if b then None else Some s) ≡ Some t → Some b ≡ Some false
static_flag true s t h = cc
static_flag false s t h = refl

static_function : (o : Option Function) (sig : Sig) → option_and_then static_sig o ≡ Some sig → option_map (λ (f : Function). f.global) o ≡ Some false
static_function None sig h = cc
static_function (Some f) sig h = static_flag f.global f.sig sig h

static_variable : (o : Option TVar) (shape : Shape) → option_and_then static_shape o ≡ Some shape → option_map (λ (x : TVar). x.global) o ≡ Some false
static_variable None shape h = cc
static_variable (Some x) shape h = static_flag x.global (record { ty = x.ty; size = x.count }) shape h

named_function : (unit : TypedUnit) (f : Ref) (sig : Sig) → IsFunctionText (text_of_function sig) → NamesFunction unit f sig → IsFunctionIn unit f
named_function unit (Global name) sig t h = record { text = text_of_function sig; named = h; of_function = t }
named_function unit (LocalFun i) sig t h = static_function (slice_get unit.functions i) sig h
named_function unit (LocalVar i) sig t h = absurd h

pub function_in : (unit : TypedUnit) (f : Ref) (sig : Sig) → IsFunction unit f sig → IsFunctionIn unit f
function_in unit f sig h = named_function unit f sig (function_text sig h.types) h.names

pub known_function : (unit : TypedUnit) (f : Ref) → IsFunctionIn unit f → IsKnownIn unit f
known_function unit (Global name) h = (h.text, h.named)
known_function unit (LocalFun i) h = h
known_function unit (LocalVar i) h = absurd h

named_variable : (unit : TypedUnit) (x : Ref) (shape : Shape) → NamesVariable unit x shape → IsKnownIn unit x
named_variable unit (Global name) shape h = (text_of_variable shape.ty shape.size, h)
named_variable unit (LocalFun i) shape h = absurd h
named_variable unit (LocalVar i) shape h = static_variable (slice_get unit.variables i) shape h

pub known_variable : (unit : TypedUnit) (x : Ref) (size : Option ℕ) (c : Class) → HasClass unit x size c → IsKnownIn unit x
known_variable unit x size c h = named_variable unit x (record { ty = h.ty; size = size }) h.variable.names

-- ---- in the object

same_linkage : (xs : List TVar) (o : Option Function) →
    option_map (λ (f : FunCode). f.global) (option_map (function_object xs) o) ≡ option_map (λ (f : Function). f.global) o
same_linkage xs None = refl
same_linkage xs (Some f) = refl

static_in_object : (unit : TypedUnit) (i : ℕ) → option_map (λ (f : Function). f.global) (slice_get unit.functions i) ≡ Some false →
    option_map (λ (f : FunCode). f.global) (slice_get (map (function_object unit.variables) unit.functions) i) ≡ Some false
static_in_object unit i h =
    ap (option_map (λ (f : FunCode). f.global)) (slice_get-map (function_object unit.variables) unit.functions i)
    ∙ same_linkage unit.variables (slice_get unit.functions i) ∙ h

pub known_in_object : (name : List ℕ) (unit : TypedUnit) (r : Ref) → IsKnownIn unit r → IsKnownRef (object_of name unit) (ref_in_order unit.variables r)
known_in_object name unit (Global other) h = h
known_in_object name unit (LocalFun i) h = static_in_object unit i h
known_in_object name unit (LocalVar i) h = linkage_in_order unit.variables i false h

pub function_in_object : (name : List ℕ) (unit : TypedUnit) (r : Ref) → IsFunctionIn unit r → IsFunctionRef (object_of name unit) r
function_in_object name unit (Global other) h = h
function_in_object name unit (LocalFun i) h = static_in_object unit i h
function_in_object name unit (LocalVar i) h = absurd h
