-- The object of a unit: its functions' code, its variables in the order of a data segment, and its names.
use Rattle.std.specs.Prelude.{◌≡◌, ℕ, ◌+◌, ◌-◌, Bool, true, false, not, ◌&&◌, if◌then◌else◌, List, [], ◌∷◌, ◌++◌, length, map, filter, take, replicate, Option, Some, None, nat_eq, bytes_eq, slice_get, option_map}
use Rattle.std.specs.Option.{is_some, is_none, option_map_or}
use Rattle.pw_tree.specs.declared.ty.Ref.{Ref}
use Rattle.pw_tree.specs.declared.ty.Ref.TheVariants.{Global, LocalFun, LocalVar}
use Rattle.pw_tree.specs.declared.tunit.TVar.{TVar}
use Rattle.pw_tree.specs.declared.tunit.Init.{Init}
use Rattle.pw_tree.specs.declared.tunit.Init.TheVariants.{Num}
use Rattle.pw_tree.specs.TypedExpressions.{TypedExpression, TypedExpressions, constant, local, variable, designator, element, unary, binary, conditional, call, call_pointer, input, output, nil, cons}
use Rattle.pw_tree.specs.TypedStatements.{TypedStatement, TypedStatements, OptionalTypedStatement, evaluate, set_local, set_variable, set_element, block, if_else, while_loop, do_loop, for_loop, returns, breaks, continues, nil, cons, absent, present}
use Rattle.pw_tree.specs.TypeTexts.{text_of_function}
use Rattle.pw_tree.specs.WellTypedUnits.{room}
use Rattle.pw_tree.specs.Units.{Function, TypedUnit}
use Rattle.pw_code.specs.declared.item.Item.{Item}
use Rattle.pw_code.specs.declared.item.Item.TheVariants.{Word, Addr}
use Rattle.pw_code.specs.declared.object.FunCode.{FunCode}
use Rattle.pw_code.specs.declared.object.Object.{Object}
use Rattle.pw_code.specs.Items.{items}
use Rattle.pw_code.specs.FunctionCode.{function_code}

-- ---- the functions that a body names

unfoldable mutual
  -- The functions that an expression names, called or not, in order of text.
  pub functions_in : TypedExpression → List Ref
  functions_in (constant at value) = []
  functions_in (local at i) = []
  functions_in (variable at x) = []
  functions_in (designator at f) = f ∷ []
  functions_in (element at a array_size i) = functions_in i
  functions_in (unary at op e) = functions_in e
  functions_in (binary at op unsigned l r) = functions_in l ++ functions_in r
  functions_in (conditional at c a b) = functions_in c ++ functions_in a ++ functions_in b
  functions_in (call at f es) = f ∷ functions_in_all es
  functions_in (call_pointer at e es) = functions_in e ++ functions_in_all es
  functions_in (input at) = []
  functions_in (output at e) = functions_in e

  -- Those of several expressions, one after another.
  pub functions_in_all : TypedExpressions → List Ref
  functions_in_all nil = []
  functions_in_all (cons e es) = functions_in e ++ functions_in_all es

-- of an expression that may be absent
abbrev pub functions_in_option : Option TypedExpression → List Ref
functions_in_option None = []
functions_in_option (Some e) = functions_in e

unfoldable mutual
  -- The functions that a statement names, in order of text: a `for`'s last part stands before its body.
  pub functions_of : TypedStatement → List Ref
  functions_of (evaluate e) = functions_in e
  functions_of (set_local i e) = functions_in_option e
  functions_of (set_variable x e) = functions_in e
  functions_of (set_element a array_size line i e) = functions_in i ++ functions_in e
  functions_of (block body) = functions_of_all body
  functions_of (if_else c a b) = functions_in c ++ functions_of a ++ functions_of_optional b
  functions_of (while_loop c body) = functions_in c ++ functions_of body
  functions_of (do_loop body c) = functions_of body ++ functions_in c
  functions_of (for_loop first c last body) =
      functions_of_optional first ++ functions_in_option c ++ functions_of_optional last ++ functions_of body
  functions_of (returns e) = functions_in_option e
  functions_of breaks = []
  functions_of continues = []

  -- Those of several statements, one after another.
  pub functions_of_all : TypedStatements → List Ref
  functions_of_all nil = []
  functions_of_all (cons s ss) = functions_of s ++ functions_of_all ss

  -- Those of a statement that may be absent.
  pub functions_of_optional : OptionalTypedStatement → List Ref
  functions_of_optional absent = []
  functions_of_optional (present s) = functions_of s

-- Two references are the same.
abbrev pub same_ref : Ref → Ref → Bool
same_ref (Global a) (Global b) = bytes_eq a b
same_ref (LocalFun i) (LocalFun j) = nat_eq i j
same_ref (LocalVar i) (LocalVar j) = nat_eq i j
same_ref _ _ = false

-- The first occurrence of each reference of a list.
unfoldable pub each_once : List Ref → List Ref
each_once [] = []
each_once (r ∷ rs) = r ∷ filter (λ other. not (same_ref r other)) (each_once rs)

-- The dependencies of a function.
abbrev pub dependencies : Function → List Ref
dependencies f = each_once (functions_of_all f.body)

-- ---- variables

-- Whether a variable has an initialiser.
abbrev pub is_initialised : TVar → Bool
is_initialised x = is_some x.init

-- Whether it has none.
abbrev pub is_uninitialised : TVar → Bool
is_uninitialised x = is_none x.init

-- The elements that an initialiser leaves out are 0.
abbrev pub fill : TVar → List Init → List Init
fill x values = values ++ replicate (room x.count - length values) (Num 0)

-- A variable whose initialiser, if any, has a value for each element.
abbrev pub filled : TVar → TVar
filled x = record x { init = option_map (fill x) x.init }

-- Those with an initialiser come first, each group in order of definition (gABI, `.data` and `.bss`).
abbrev pub variables_in_order : List TVar → List TVar
variables_in_order xs = map filled (filter is_initialised xs) ++ filter is_uninitialised xs

-- The number there of a unit's variable.
abbrev pub number_in_order : List TVar → ℕ → ℕ
number_in_order xs i =
    if option_map_or is_initialised (slice_get xs i) true
    then length (filter is_initialised (take i xs))
    else length (filter is_initialised xs) + length (filter is_uninitialised (take i xs))

-- A reference by that number.
abbrev pub ref_in_order : List TVar → Ref → Ref
ref_in_order xs (Global name) = Global name
ref_in_order xs (LocalFun i) = LocalFun i
ref_in_order xs (LocalVar i) = LocalVar (number_in_order xs i)

-- An item whose reference goes by that number.
abbrev pub item_in_order : List TVar → Item → Item
item_in_order xs (Word w) = Word w
item_in_order xs (Addr rd to) = Addr rd (ref_in_order xs to)

-- ---- all

-- The compiled function of a unit with these variables.
abbrev pub function_object : List TVar → Function → FunCode
function_object xs f = record {
  name = f.name;
  global = f.global;
  text = text_of_function f.sig;
  items = map (item_in_order xs) (items (function_code f));
  deps = dependencies f;
}

-- The object of a unit that goes by this name.
abbrev pub object_of : List ℕ → TypedUnit → Object
object_of name unit = record {
  unit = name;
  funs = map (function_object unit.variables) unit.functions;
  vars = variables_in_order unit.variables;
  names = unit.names;
}
