-- Short forms of functions, units and modules, and of the instruction words that many functions have.
use Rattle.std.specs.Prelude.{ℕ, Bool, true, false, List, [], ◌∷◌, Some, codes}
use Rattle.pw_tree.specs.declared.ty.Ty.TheVariants.{Long}
use Rattle.pw_tree.specs.declared.tunit.Ext.{Ext}
use Rattle.pw_tree.specs.TypedExpressions.{Mark, TypedExpression}
use Rattle.pw_tree.specs.TypedStatements.{returns, nil, cons}
use Rattle.pw_tree.specs.Units.{Function, TypedUnit}
use Rattle.pw_tree.specs.Names.{Definition}
use Rattle.pw_agree.specs.LoadOrder.{ProjectModule}

-- a long in this line
abbrev pub at : ℕ → Mark
at in_line = record { ty = Long; line = in_line }

-- long identifier(void) { return e; }, in this line
abbrev pub returning : (external : Bool) → (identifier : List ℕ) → (in_line : ℕ) → TypedExpression → Function
returning external identifier in_line e = record {
  name = identifier;
  global = external;
  sig = record { result = Long; params = [] };
  line = in_line;
  locals = 0;
  held = 0;
  body = cons (returns (Some e)) nil;
}

-- such a function with external linkage
abbrev pub external_function : (identifier : List ℕ) → (in_line : ℕ) → TypedExpression → Function
external_function identifier in_line e = returning true identifier in_line e

-- such a function that is static
abbrev pub static_function : (identifier : List ℕ) → (in_line : ℕ) → TypedExpression → Function
static_function identifier in_line e = returning false identifier in_line e

-- such a function's name with its type string
abbrev pub function_named : List ℕ → Ext
function_named identifier = record { name = identifier; text = codes "l()" }

-- a unit of functions alone
abbrev pub unit_of_functions : List Function → List Ext → TypedUnit
unit_of_functions fs exts = record { functions = fs; variables = []; names = exts }

-- a module of one unit
abbrev pub module_of : (soname : List ℕ) → (needed : List (List ℕ)) → TypedUnit → ProjectModule
module_of soname needed unit = record { name = soname; needs = needed; units = unit ∷ [] }

-- a definition by its module, its unit and its own number
abbrev pub definition : (m u i : ℕ) → Definition
definition m u i = record { in_module = m; in_unit = u; number = i }

-- ---- instruction words

-- a program's entry
abbrev pub entry_words : List ℕ
entry_words = 0x3e800493 ∷ 0x01000297 ∷ 0xffc2b283 ∷ 0x000280e7 ∷ 0x05d00893 ∷ 0x00000073 ∷ []

-- how a function begins that has no parameters and holds nothing, given the word that loads its line
abbrev pub opening_words : ℕ → List ℕ
opening_words line_word =
    0x00049a63 ∷ 0x00400513 ∷ line_word ∷ 0x40200893 ∷ 0x00000073 ∷ 0xfff48493 ∷ 0xff010113 ∷ 0x00113023 ∷ []

-- how it ends
abbrev pub closing_words : List ℕ
closing_words = 0x0080006f ∷ 0x00000513 ∷ 0x00013083 ∷ 0x01010113 ∷ 0x00148493 ∷ 0x00008067 ∷ []
