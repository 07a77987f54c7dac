-- Typed units, with plain trees for bodies.
use Rattle.std.specs.Prelude.{ℕ, Bool, List, map}
use Rattle.pw_tree.specs.TypedStatements.{TypedStatements, typed_statements_of}
use Rattle.pw_tree.specs.declared.ty.Sig.{Sig}
use Rattle.pw_tree.specs.declared.tunit.TFun.{TFun}
use Rattle.pw_tree.specs.declared.tunit.TVar.{TVar}
use Rattle.pw_tree.specs.declared.tunit.Ext.{Ext}
use Rattle.pw_tree.specs.declared.tunit.TUnit.{TUnit}

-- A function's definition: its linkage is external where `global` is true; `line` is its name's.
pub record Function : Type 0 where
  pub name : List ℕ
  pub global : Bool
  pub sig : Sig
  pub line : ℕ
  pub locals : ℕ
  pub held : ℕ
  pub body : TypedStatements

-- A unit: its functions and variables in order of definition, and the names with external linkage that it uses.
pub record TypedUnit : Type 0 where
  pub functions : List Function
  pub variables : List TVar
  pub names : List Ext

-- The plain definition of a function.
abbrev pub typed_function_of : TFun → Function
typed_function_of f = record {
  name = f.name;
  global = f.global;
  sig = f.sig;
  line = f.line;
  locals = f.locals;
  held = f.held;
  body = typed_statements_of f.body;
}

-- The plain unit.
abbrev pub unit_of : TUnit → TypedUnit
unit_of unit = record {
  functions = map typed_function_of unit.funs;
  variables = unit.vars;
  names = unit.names;
}
