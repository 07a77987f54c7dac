-- When an object is sound: its names, texts and references fit together.
use Rattle.std.specs.Prelude.{◌≡◌, ℕ, ◌+◌, ◌<◌, ◌≤◌, ◌⊎◌, Bool, true, false, ◌&&◌, if◌then◌else◌, List, [], ◌∷◌, ◌++◌, length, map, filter, Option, Some, None, ⊤, bytes_eq, slice_get, option_map}
use Rattle.std.specs.List.{AllByRecursion, IsDistinct}
use Rattle.pw_base.specs.TypeText.{IsTypeText, IsFunctionText}
use Rattle.pw_tree.specs.declared.ty.Ref.{Ref}
use Rattle.pw_tree.specs.declared.ty.Ref.TheVariants.{Global, LocalFun, LocalVar}
use Rattle.pw_tree.specs.declared.tunit.TVar.{TVar}
use Rattle.pw_tree.specs.declared.tunit.Ext.{Ext}
use Rattle.pw_tree.specs.declared.tunit.Init.{Init}
use Rattle.pw_tree.specs.declared.tunit.Init.TheVariants.{Num, Fun}
use Rattle.pw_tree.specs.Types.{IsValueType, IsArraySize}
use Rattle.pw_tree.specs.TypeTexts.{text_of_variable}
use Rattle.pw_tree.specs.WellTypedExpressions.{text_named}
use Rattle.pw_tree.specs.WellTypedUnits.{room}
use Rattle.pw_code.specs.declared.item.Item.{Item}
use Rattle.pw_code.specs.declared.item.Item.TheVariants.{Word, Addr}
use Rattle.pw_code.specs.declared.object.FunCode.{FunCode}
use Rattle.pw_code.specs.declared.object.Object.{Object}
use Rattle.pw_code.specs.Objects.{is_initialised, is_uninitialised}

-- ---- what references name

-- The function of this number is there, and is static.
abbrev pub IsStaticFunction : Object → ℕ → Type 0
IsStaticFunction object i = option_map (λ f. f.global) (slice_get object.funs i) ≡ Some false

-- The variable of this number is there, and is static.
abbrev pub IsStaticVariable : Object → ℕ → Type 0
IsStaticVariable object i = option_map (λ x. x.global) (slice_get object.vars i) ≡ Some false

-- A name stands in the list, with a function's text.
pub record HasFunctionText (names : List Ext) (name : List ℕ) : Type 0 where
  pub text : List ℕ
  pub named : text_named name names ≡ Some text
  pub of_function : IsFunctionText text

-- A reference names a static definition, or an external name that stands in the list.
abbrev pub IsKnownRef : Object → Ref → Type 0
IsKnownRef object (Global name) = (text : List ℕ) × (text_named name object.names ≡ Some text)
IsKnownRef object (LocalFun i) = IsStaticFunction object i
IsKnownRef object (LocalVar i) = IsStaticVariable object i

-- A reference names a function: a static one, or an external name with a function's text, defined here or not.
abbrev pub IsFunctionRef : Object → Ref → Type 0
IsFunctionRef object (Global name) = HasFunctionText object.names name
IsFunctionRef object (LocalFun i) = IsStaticFunction object i
IsFunctionRef object (LocalVar i) = ⊥

-- ---- functions

-- An address goes into one of 32 registers, and what it is of is known.
abbrev pub IsSoundItem : Object → Item → Type 0
IsSoundItem object (Word w) = ⊤
IsSoundItem object (Addr rd to) = (rd < 32) × IsKnownRef object to

-- Of an external definition, the name has this text in the list.
abbrev pub IsNamedSo : List Ext → Bool → (name text : List ℕ) → Type 0
IsNamedSo names global name text = global ≡ true → text_named name names ≡ Some text

-- A function has items, all of them sound, and the text of a function's type; it depends on functions.
pub record IsSoundFunction (object : Object) (f : FunCode) : Type 0 where
  pub has_items : 1 ≤ length f.items
  pub items : AllByRecursion (IsSoundItem object) f.items
  pub text : IsFunctionText f.text
  pub named : IsNamedSo object.names f.global f.name f.text
  pub dependencies : AllByRecursion (IsFunctionRef object) f.deps

-- ---- variables

-- An element of an initialiser is a number, or names a function.
abbrev pub IsSoundElement : Object → Init → Type 0
IsSoundElement object (Num value) = ⊤
IsSoundElement object (Fun f) = IsFunctionRef object f

-- An initialiser has a value for each element.
abbrev pub IsFullInitialiser : Object → TVar → Option (List Init) → Type 0
IsFullInitialiser object x None = ⊤
IsFullInitialiser object x (Some values) =
    (length values ≡ room x.count) × AllByRecursion (IsSoundElement object) values

-- A variable has a type with values, a size within the limit, and a full initialiser, if any.
pub record IsSoundVariable (object : Object) (x : TVar) : Type 0 where
  pub type : IsValueType x.ty
  pub size : IsArraySize x.count
  pub initialiser : IsFullInitialiser object x x.init
  pub named : IsNamedSo object.names x.global x.name (text_of_variable x.ty x.count)

-- ---- names

-- The external names that an object defines: its functions', then its variables'.
abbrev pub defined_names : Object → List (List ℕ)
defined_names object =
    map (λ f. f.name) (filter (λ f. f.global) object.funs) ++ map (λ x. x.name) (filter (λ x. x.global) object.vars)

-- ---- all

-- An object is sound.
pub record IsSound (object : Object) : Type 0 where
  -- an external name is defined once at most, and stands once in the list, with the text of a type
  pub definitions_differ : IsDistinct bytes_eq (defined_names object)
  pub names_differ : IsDistinct bytes_eq (map (λ n. n.name) object.names)
  pub texts : AllByRecursion (λ n. IsTypeText n.text) object.names
  pub functions : AllByRecursion (IsSoundFunction object) object.funs
  pub variables : AllByRecursion (IsSoundVariable object) object.vars
  -- the variables with an initialiser come first
  pub order : object.vars ≡ filter is_initialised object.vars ++ filter is_uninitialised object.vars
