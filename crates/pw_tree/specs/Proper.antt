-- What else holds of the trees of a unit that was read: where declarations stand, what the parts of a `for` are, how long a
-- function is, which variables have initialisers, and how great numbers are.
use Rattle.std.specs.Prelude.{◌≡◌, ℕ, ◌-◌, ◌^◌, ◌<◌, ◌≤◌, List, [], ◌∷◌, Option, Some, None, ⊤}
use Rattle.std.specs.List.{AllByRecursion}
use Rattle.pw_base.specs.Limits.{function_tokens}
use Rattle.pw_tree.specs.declared.decl.InitItem.{InitItem}
use Rattle.pw_tree.specs.declared.decl.InitKind.{InitKind}
use Rattle.pw_tree.specs.declared.decl.InitKind.TheVariants.{Num, Word}
use Rattle.pw_tree.specs.declared.decl.Linkage.{Linkage}
use Rattle.pw_tree.specs.declared.decl.Linkage.TheVariants.{Plain, Extern, Static}
use Rattle.pw_tree.specs.Types.{IsValueType}
use Rattle.pw_tree.specs.Expressions.{Span, Expression, Expressions, constant, word, unary, binary, conditional, call, index, input, output}
use Rattle.pw_tree.specs.Expressions as phrase
use Rattle.pw_tree.specs.Statements.{Statement, Statements, OptionalStatement, empty, block, local, set, evaluate, if_else, while_loop, do_loop, for_loop, returns, breaks, continues, nil, cons, absent, present}
use Rattle.pw_tree.specs.Declarations.{Declaration, DeclarationForm, prototype, definition, variable, UntypedUnit}
use Rattle.pw_tree.specs.Placed.{IsParsed}

-- ---- declarations of locals, and the parts of a `for`

-- a branch or the body of a loop is no declaration
abbrev pub IsNoDeclaration : Statement → Type 0
IsNoDeclaration (local at ty name e) = ⊥
IsNoDeclaration s = ⊤

-- nor is an `else`
abbrev pub IsNoElseDeclaration : OptionalStatement → Type 0
IsNoElseDeclaration absent = ⊤
IsNoElseDeclaration (present s) = IsNoDeclaration s

-- an expression or an assignment
abbrev pub IsSimpleStatement : Statement → Type 0
IsSimpleStatement (set at name i e) = ⊤
IsSimpleStatement (evaluate at e) = ⊤
IsSimpleStatement s = ⊥

-- the same, or the declaration of a local
abbrev pub IsSimpleOrDeclaration : Statement → Type 0
IsSimpleOrDeclaration (local at ty name e) = ⊤
IsSimpleOrDeclaration s = IsSimpleStatement s

-- the first part of a `for` is simple, or declares a local
abbrev pub IsFirstPart : OptionalStatement → Type 0
IsFirstPart absent = ⊤
IsFirstPart (present s) = IsSimpleOrDeclaration s

-- the last part is simple
abbrev pub IsLastPart : OptionalStatement → Type 0
IsLastPart absent = ⊤
IsLastPart (present s) = IsSimpleStatement s

unfoldable mutual
  -- A local is declared only as an item of a block, or as the first part of a `for`, whose parts are simple; and it is not void.
  pub IsProper : Statement → Type 0
  IsProper (empty at) = ⊤
  IsProper (block at ss) = AreProper ss
  IsProper (local at ty name e) = IsValueType ty
  IsProper (set at name i e) = ⊤
  IsProper (evaluate at e) = ⊤
  IsProper (if_else at c a b) = IsNoDeclaration a × IsNoElseDeclaration b × IsProper a × IsMaybeProper b
  IsProper (while_loop at c s) = IsNoDeclaration s × IsProper s
  IsProper (do_loop at s c) = IsNoDeclaration s × IsProper s
  IsProper (for_loop at first c last s) =
      IsFirstPart first × IsLastPart last × IsNoDeclaration s × IsMaybeProper first × IsProper s
  IsProper (returns at e) = ⊤
  IsProper (breaks at) = ⊤
  IsProper (continues at) = ⊤

  -- of several statements
  pub AreProper : Statements → Type 0
  AreProper nil = ⊤
  AreProper (cons s ss) = IsProper s × AreProper ss

  -- of a statement that may be absent
  pub IsMaybeProper : OptionalStatement → Type 0
  IsMaybeProper absent = ⊤
  IsMaybeProper (present s) = IsProper s

-- the statements of a definition are proper
abbrev pub IsFormProper : DeclarationForm → Type 0
IsFormProper (definition result params body) = AreProper body
IsFormProper (prototype result params) = ⊤
IsFormProper (variable ty size init) = ⊤

-- ---- how long a function is

-- the body of a function has at most 8,192 tokens
abbrev pub IsShort : Declaration → DeclarationForm → Type 0
IsShort d (definition result params body) = d.last - d.declarator ≤ function_tokens
IsShort d (prototype result params) = ⊤
IsShort d (variable ty size init) = ⊤

-- ---- initialisers

-- the form of a declaration has no initialiser
abbrev pub HasNoInitialiser : DeclarationForm → Type 0
HasNoInitialiser (variable ty size None) = ⊤
HasNoInitialiser (variable ty size (Some items)) = ⊥
HasNoInitialiser (prototype result params) = ⊤
HasNoInitialiser (definition result params body) = ⊤

-- a variable that is declared `extern` has no initialiser
abbrev pub MayBeInitialised : Linkage → DeclarationForm → Type 0
MayBeInitialised Extern form = HasNoInitialiser form
MayBeInitialised Plain form = ⊤
MayBeInitialised Static form = ⊤

-- ---- numbers

-- a line has 32 bits
abbrev pub HasLine : Span → Type 0
HasLine at = at.line < 2 ^ 32

unfoldable mutual
  -- the lines of an expression have 32 bits, and its constants 64
  pub HasNumbers : Expression → Type 0
  HasNumbers (constant at value unsigned) = HasLine at × (value < 2 ^ 64)
  HasNumbers (word at name) = HasLine at
  HasNumbers (unary at op e) = HasLine at × HasNumbers e
  HasNumbers (binary at op l r) = HasLine at × HasNumbers l × HasNumbers r
  HasNumbers (conditional at c a b) = HasLine at × HasNumbers c × HasNumbers a × HasNumbers b
  HasNumbers (call at f es) = HasLine at × HasNumbers f × HaveNumbers es
  HasNumbers (index at b i) = HasLine at × HasNumbers b × HasNumbers i
  HasNumbers (input at) = HasLine at
  HasNumbers (output at e) = HasLine at × HasNumbers e

  -- of several expressions
  pub HaveNumbers : Expressions → Type 0
  HaveNumbers phrase.nil = ⊤
  HaveNumbers (phrase.cons e es) = HasNumbers e × HaveNumbers es

-- of an expression that may be absent
abbrev pub HasOptionNumbers : Option Expression → Type 0
HasOptionNumbers None = ⊤
HasOptionNumbers (Some e) = HasNumbers e

unfoldable mutual
  -- and so have those of the expressions of a statement
  pub HasStatementNumbers : Statement → Type 0
  HasStatementNumbers (empty at) = ⊤
  HasStatementNumbers (block at ss) = HaveStatementNumbers ss
  HasStatementNumbers (local at ty name e) = HasOptionNumbers e
  HasStatementNumbers (set at name i e) = HasOptionNumbers i × HasNumbers e
  HasStatementNumbers (evaluate at e) = HasNumbers e
  HasStatementNumbers (if_else at c a b) = HasNumbers c × HasStatementNumbers a × HasMaybeNumbers b
  HasStatementNumbers (while_loop at c s) = HasNumbers c × HasStatementNumbers s
  HasStatementNumbers (do_loop at s c) = HasStatementNumbers s × HasNumbers c
  HasStatementNumbers (for_loop at first c last s) =
      HasMaybeNumbers first × HasOptionNumbers c × HasMaybeNumbers last × HasStatementNumbers s
  HasStatementNumbers (returns at e) = HasOptionNumbers e
  HasStatementNumbers (breaks at) = ⊤
  HasStatementNumbers (continues at) = ⊤

  -- of several statements
  pub HaveStatementNumbers : Statements → Type 0
  HaveStatementNumbers nil = ⊤
  HaveStatementNumbers (cons s ss) = HasStatementNumbers s × HaveStatementNumbers ss

  -- of a statement that may be absent
  pub HasMaybeNumbers : OptionalStatement → Type 0
  HasMaybeNumbers absent = ⊤
  HasMaybeNumbers (present s) = HasStatementNumbers s

-- a number in an initialiser has 64 bits
abbrev pub HasElementNumber : InitKind → Type 0
HasElementNumber (Num value) = value < 2 ^ 64
HasElementNumber (Word name) = ⊤

-- each number in an initialiser, where there is one
abbrev pub HaveElementNumbers : Option (List InitItem) → Type 0
HaveElementNumbers None = ⊤
HaveElementNumbers (Some items) = AllByRecursion (λ item. HasElementNumber item.kind) items

-- the numbers of what a declaration declares
abbrev pub HasFormNumbers : DeclarationForm → Type 0
HasFormNumbers (definition result params body) = HaveStatementNumbers body
HasFormNumbers (prototype result params) = ⊤
HasFormNumbers (variable ty size init) = HaveElementNumbers init

-- ---- declarations and units

-- A declaration is proper, short, and its numbers are in their limits.
pub record IsProperDeclaration (d : Declaration) : Type 0 where
  pub proper : IsFormProper d.form
  pub short : IsShort d d.form
  pub initialiser : MayBeInitialised d.linkage d.form
  pub line : d.line < 2 ^ 32
  pub numbers : HasFormNumbers d.form

-- The unit is one that was read, by the rules of the grammar that bear on types, and within the limits.
pub record IsRead (unit : UntypedUnit) : Type 0 where
  pub parsed : IsParsed unit
  pub declarations : AllByRecursion IsProperDeclaration unit.declarations
  pub lines : AllByRecursion (λ line. line < 2 ^ 32) unit.lines
