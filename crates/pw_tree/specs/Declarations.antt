-- Declarations at file level, with plain trees for bodies.
use Rattle.std.specs.Prelude.{ℕ, List, Option, map}
use Rattle.pw_tree.specs.Statements.{Statements, statements_of}
use Rattle.pw_tree.specs.declared.ty.Ty.{Ty}
use Rattle.pw_tree.specs.declared.decl.Param.{Param}
use Rattle.pw_tree.specs.declared.decl.InitItem.{InitItem}
use Rattle.pw_tree.specs.declared.decl.Linkage.{Linkage}
use Rattle.pw_tree.specs.declared.decl.Decl.{Decl}
use Rattle.pw_tree.specs.declared.decl.DeclKind.{DeclKind}
use Rattle.pw_tree.specs.declared.decl.DeclKind.TheVariants.{Proto, Fun, Var}
use Rattle.pw_tree.specs.declared.decl.Unit.{Unit as SourceUnit}

-- What a declaration declares (C17, 6.9).
pub data DeclarationForm : Type 0 where
  -- a function's result and parameters
  prototype : Ty → List Param → DeclarationForm
  -- a function's result, parameters and body
  definition : Ty → List Param → Statements → DeclarationForm
  -- a variable's or an element's type, an array's size, and the initialiser
  variable : Ty → Option ℕ → Option (List InitItem) → DeclarationForm

-- A declaration: its first token, its name's, its declarator's last and its last; the name's line.
pub record Declaration : Type 0 where
  pub first : ℕ
  pub name_at : ℕ
  pub declarator : ℕ
  pub last : ℕ
  pub line : ℕ
  pub linkage : Linkage
  pub name : List ℕ
  pub form : DeclarationForm

-- The plain form of what a declaration declares.
abbrev pub declaration_form_of : DeclKind → DeclarationForm
declaration_form_of (Proto result params) = prototype result params
declaration_form_of (Fun result params body) = definition result params (statements_of body)
declaration_form_of (Var ty count init) = variable ty count init

-- The plain declaration.
abbrev pub declaration_of : Decl → Declaration
declaration_of d = record {
  first = d.first;
  name_at = d.name_at;
  declarator = d.declarator;
  last = d.last;
  line = d.line;
  linkage = d.linkage;
  name = d.name;
  form = declaration_form_of d.kind;
}

-- The plain declarations of a unit, in order.
abbrev pub declarations_of : SourceUnit → List Declaration
declarations_of unit = map declaration_of unit.decls

-- A unit: its declarations in order, and the line of each of its tokens.
pub record UntypedUnit : Type 0 where
  pub declarations : List Declaration
  pub lines : List ℕ

-- The plain unit.
abbrev pub untyped_unit_of : SourceUnit → UntypedUnit
untyped_unit_of unit = record { declarations = declarations_of unit; lines = unit.lines }
