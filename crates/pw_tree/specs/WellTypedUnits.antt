-- When a typed unit is well typed: its functions, its variables, and the names with external linkage.
use Rattle.std.specs.Prelude.{◌≡◌, ℕ, zero, suc, ◌+◌, ◌^◌, ◌<◌, ◌≤◌, Bool, true, false, if◌then◌else◌, List, [], ◌∷◌, ◌++◌, length, map, take, Option, Some, None, ⊤, bytes_eq, sum_by}
use Rattle.std.specs.List.{AllByRecursion, IsDistinct}
use Rattle.pw_base.specs.Limits as limits
use Rattle.pw_base.specs.TypeText.{IsTypeText}
use Rattle.pw_tree.specs.declared.ty.Ty.{Ty}
use Rattle.pw_tree.specs.declared.tunit.TVar.{TVar}
use Rattle.pw_tree.specs.declared.tunit.Ext.{Ext}
use Rattle.pw_tree.specs.declared.tunit.Init.{Init}
use Rattle.pw_tree.specs.declared.tunit.Init.TheVariants.{Num, Fun}
use Rattle.pw_tree.specs.Types.{IsValueType, IsArraySize}
use Rattle.pw_tree.specs.TypeTexts.{text_of_function, text_of_variable}
use Rattle.pw_tree.specs.Held.{held_by_all}
use Rattle.pw_tree.specs.Units.{Function, TypedUnit}
use Rattle.pw_tree.specs.WellTypedExpressions.{Class, number, class_of, IsValueClass, IsSignature, text_named, Points}
use Rattle.pw_tree.specs.WellTypedStatements.{EverywhereIn, StatementFits, StatementsRead, AllLeaveLoops, HasSimpleParts, StatementHasSmallNumbers, phrases_in_all}

-- ---- functions

-- Each local has a class, the parameters first, with those of their types.
pub record AreClasses (f : Function) (classes : List Class) : Type 0 where
  pub each : length classes ≡ f.locals
  pub values : AllByRecursion IsValueClass classes
  pub parameters : take (length f.sig.params) classes ≡ map class_of f.sig.params

-- the first numbers, from the last on
unfoldable pub below : ℕ → List ℕ
below zero = []
below (suc n) = n ∷ below n

-- A function is well typed.
pub record IsWellTypedFunction (unit : TypedUnit) (f : Function) : Type 0 where
  pub signature : IsSignature f.sig
  pub line : f.line < 2 ^ 32
  -- limits
  pub few_locals : f.locals ≤ limits.locals
  pub few_held : f.held ≤ limits.held_values
  pub few_phrases : phrases_in_all f.body ≤ limits.function_tokens
  -- the values held are those of its body
  pub held : f.held ≡ held_by_all f.body
  -- the parameters are among the locals, and each local has one class
  pub parameters : length f.sig.params ≤ f.locals
  pub classes : List Class
  pub are_classes : AreClasses f classes
  -- types of parts, and what references name
  pub fits : EverywhereIn (StatementFits unit (class_of f.sig.result) classes) f.body
  -- locals are read where they are known; at the start the parameters are
  pub reads : StatementsRead (below (length f.sig.params)) f.body
  pub loops : AllLeaveLoops false f.body
  pub simple_parts : EverywhereIn HasSimpleParts f.body
  pub numbers : EverywhereIn StatementHasSmallNumbers f.body

-- ---- variables

-- how many elements there is room for: one, where it is no array
abbrev pub room : Option ℕ → ℕ
room None = 1
room (Some size) = size

-- an element of an initialiser: a number for a number, and for a pointer a function of its type
abbrev pub Initialises : TypedUnit → Ty → Init → Type 0
Initialises unit ty (Num value) = (class_of ty ≡ number) × (value < 2 ^ 64)
Initialises unit ty (Fun f) = Points unit (record { ty = ty; line = 0 }) f

-- an initialiser is no longer than the variable, and each element of it fits
abbrev pub InitialiserFits : TypedUnit → TVar → Option (List Init) → Type 0
InitialiserFits unit x None = ⊤
InitialiserFits unit x (Some items) = (length items ≤ room x.count) × AllByRecursion (Initialises unit x.ty) items

-- A variable is well typed.
pub record IsWellTypedVariable (unit : TypedUnit) (x : TVar) : Type 0 where
  pub type : IsValueType x.ty
  pub size : IsArraySize x.count
  pub initialiser : InitialiserFits unit x x.init

-- ---- names

-- a definition with external linkage stands in the list, with the text of its type
abbrev pub FunctionIsNamed : List Ext → Function → Type 0
FunctionIsNamed names f = f.global ≡ true → text_named f.name names ≡ Some (text_of_function f.sig)

-- and so does a variable
abbrev pub VariableIsNamed : List Ext → TVar → Type 0
VariableIsNamed names x = x.global ≡ true → text_named x.name names ≡ Some (text_of_variable x.ty x.count)

-- ---- units

-- A typed unit is well typed.
pub record IsWellTyped (unit : TypedUnit) : Type 0 where
  -- no two functions or variables have one name
  pub definitions_differ : IsDistinct bytes_eq (map (λ f. f.name) unit.functions ++ map (λ x. x.name) unit.variables)
  -- no name stands twice in the list, each with the text of a type, which is the definition's where there is one
  pub names_differ : IsDistinct bytes_eq (map (λ n. n.name) unit.names)
  pub texts : AllByRecursion (λ n. IsTypeText n.text) unit.names
  pub functions_named : AllByRecursion (FunctionIsNamed unit.names) unit.functions
  pub variables_named : AllByRecursion (VariableIsNamed unit.names) unit.variables
  pub few_elements : sum_by (λ x. room x.count) unit.variables ≤ limits.module_elements
  pub functions : AllByRecursion (IsWellTypedFunction unit) unit.functions
  pub variables : AllByRecursion (IsWellTypedVariable unit) unit.variables
