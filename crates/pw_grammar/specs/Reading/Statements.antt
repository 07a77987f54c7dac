-- Reading a statement from left to right. `expr` reads an expression and `stmt` a statement that stands in another.
use Rattle.std.specs.Prelude.{ℕ, zero, suc, Bool, true, false, ◌||◌, if◌then◌else◌, ◌==◌, List, [], ◌∷◌, ◌++◌, Option, Some, None}
use Rattle.pw_grammar.specs.declared.sort.Sort.{Sort}
use Rattle.pw_grammar.specs.declared.sort.Sort.TheVariants as s
use Rattle.pw_grammar.specs.Terminals.{is_same}
use Rattle.pw_grammar.specs.Statements.{type_of_keyword}
use Rattle.pw_grammar.specs.Reading.Steps.{Parser, ◌>>=◌, pure, refuse, next_sort, sees, here, line_here, skip, expect, name, either, finish_statement}
use Rattle.pw_grammar.specs.Reading.Expressions.{expression}
use Rattle.pw_tree.specs.declared.ty.Ty.{Ty}
use Rattle.pw_tree.specs.declared.ty.Ty.TheVariants.{Ulong}
use Rattle.pw_tree.specs.declared.expr.Expr.{Expr, out-Expr}
use Rattle.pw_tree.specs.declared.expr.ExprKind.{ExprKind, out-ExprKind}
use Rattle.pw_tree.specs.declared.expr.ExprKind.TheOpen.{ExprKind-F}
use Rattle.pw_tree.specs.declared.stmt.Stmt.{Stmt}
use Rattle.pw_tree.specs.declared.stmt.StmtKind.{StmtKind}
use Rattle.pw_tree.specs.declared.stmt.StmtKind.TheVariants as k

-- ---- types

-- this type, if it is one
abbrev pub type_by : Option Ty → Parser Ty
type_by None = refuse
type_by (Some x) = do
  line ← skip
  pure x

-- `unsigned long`
unfoldable pub unsigned_long : Parser Ty
unsigned_long = do
  u ← skip
  l ← expect s.Long
  pure Ulong

-- a type
unfoldable pub type_name : Parser Ty
type_name = λ i. if sees s.Unsigned i then unsigned_long i else type_by (type_of_keyword (next_sort i)) i

-- whether a value is there
abbrev pub is_some : {A : Type 0} → Option A → Bool
is_some None = false
is_some (Some a) = true

-- whether a type begins with this symbol
unfoldable pub begins_type : Sort → Bool
begins_type x = is_same x s.Unsigned || is_some (type_of_keyword x)

-- ---- parts that may be left out

-- `= e`
unfoldable pub value : Parser Expr → Parser (Option Expr)
value expr = do
  o ← skip
  a ← expr
  pure (Some a)

-- `= e`, if it comes next
unfoldable pub maybe_value : Parser Expr → Parser (Option Expr)
maybe_value expr = either s.Assign (value expr) (pure None)

-- what this reader reads, which is there
unfoldable pub some : {A : Type 0} → Parser A → Parser (Option A)
some p = do
  a ← p
  pure (Some a)

-- what comes up to a token of this sort
unfoldable pub maybe_before : {A : Type 0} → Sort → Parser A → Parser (Option A)
maybe_before x p = either x (pure None) (some p)

-- ---- locals and assignments

-- a local's declaration
unfoldable pub local : Parser Expr → Parser Stmt
local expr = do
  first ← here
  line ← line_here
  ty ← type_name
  x ← name
  a ← maybe_value expr
  e ← expect s.Semicolon
  finish_statement first line (k.Local ty x a)

-- the name that an expression is, if its first token has this number: so that no brackets stand round it
abbrev pub unbracketed_word : ℕ → ℕ → ExprKind-F ExprKind Expr → Option (List ℕ)
unbracketed_word first at (ExprKind-F.Word x) = if at == first then Some x else None
unbracketed_word first at _ = None

-- the name that an expression is, if no brackets stand round it
abbrev pub word_of : ℕ → Expr → Option (List ℕ)
word_of first a = unbracketed_word first (out-Expr a).first (out-ExprKind (out-Expr a).kind)

-- a name, if it is one, with an index or without
abbrev pub with_index : Option Expr → Option (List ℕ) → Option (List ℕ × Option Expr)
with_index x None = None
with_index x (Some name) = Some (name, x)

-- a name or an element of an array, if the expression is one without brackets round it
abbrev pub target_of : ℕ → Expr → ExprKind-F ExprKind Expr → Option (List ℕ × Option Expr)
target_of first a (ExprKind-F.Index base x) = if (out-Expr a).first == first then with_index (Some x) (word_of first base) else None
target_of first a _ = with_index None (word_of first a)

-- the name, or the name and the index, that an expression assigns to where it stands at the beginning of a statement
unfoldable pub target : ℕ → Expr → Option (List ℕ × Option Expr)
target first a = target_of first a (out-ExprKind (out-Expr a).kind)

-- `= e` after what is assigned to
abbrev pub assigned : Parser Expr → Option (List ℕ × Option Expr) → Parser StmtKind
assigned expr None = refuse
assigned expr (Some to) = do
  o ← skip
  a ← expr
  pure (k.Set to.0 to.1 a)

-- an assignment or an expression
unfoldable pub simple : Parser Expr → Parser StmtKind
simple expr = do
  first ← here
  a ← expr
  either s.Assign (assigned expr (target first a)) (pure (k.Eval a))

-- an assignment or an expression as a statement
unfoldable pub simple_statement : Parser Expr → Parser Stmt
simple_statement expr = do
  first ← here
  line ← line_here
  a ← simple expr
  finish_statement first line a

-- ---- statements

-- a local's declaration or a statement
unfoldable pub element : Parser Expr → Parser Stmt → Parser Stmt
element expr stmt = λ i. if begins_type (next_sort i) then local expr i else stmt i

-- what stands in a block, up to its `}`
unfoldable pub elements : Parser Expr → Parser Stmt → ℕ → List Stmt → Parser (List Stmt)
elements expr stmt zero found = pure found
elements expr stmt (suc n) found = either s.RightBrace (pure found) (do
  y ← element expr stmt
  elements expr stmt n (found ++ y ∷ []))

-- `{ .. }`
unfoldable pub block : Parser Expr → Parser Stmt → ℕ → Parser StmtKind
block expr stmt n = do
  o ← skip
  ys ← elements expr stmt n []
  c ← expect s.RightBrace
  pure (k.Block ys)

-- `( e )`
unfoldable pub test : Parser Expr → Parser Expr
test expr = do
  o ← expect s.LeftParen
  a ← expr
  c ← expect s.RightParen
  pure a

-- `else` and its statement
unfoldable pub alternative : Parser Stmt → Parser (Option Stmt)
alternative stmt = do
  o ← skip
  y ← stmt
  pure (Some y)

-- `else` and its statement, if it comes next
unfoldable pub maybe_else : Parser Stmt → Parser (Option Stmt)
maybe_else stmt = either s.Else (alternative stmt) (pure None)

-- `if`, with `else` or without
unfoldable pub conditional : Parser Expr → Parser Stmt → Parser StmtKind
conditional expr stmt = do
  o ← skip
  a ← test expr
  y ← stmt
  n ← maybe_else stmt
  pure (k.If a y n)

-- `while ( e )` and its body
unfoldable pub while_loop : Parser Expr → Parser Stmt → Parser StmtKind
while_loop expr stmt = do
  o ← skip
  a ← test expr
  y ← stmt
  pure (k.While a y)

-- `do`, its body, and `while ( e ) ;`
unfoldable pub do_loop : Parser Expr → Parser Stmt → Parser StmtKind
do_loop expr stmt = do
  o ← skip
  y ← stmt
  w ← expect s.While
  a ← test expr
  e ← expect s.Semicolon
  pure (k.Do y a)

-- the first part of a `for` that has none: its `;`
unfoldable pub no_start : Parser (Option Stmt)
no_start = do
  e ← skip
  pure None

-- the first part of a `for`, where it declares nothing
unfoldable pub simple_start : Parser Expr → Parser (Option Stmt)
simple_start expr = do
  a ← simple_statement expr
  e ← expect s.Semicolon
  pure (Some a)

-- the first part of a `for`
unfoldable pub start : Parser Expr → Parser (Option Stmt)
start expr = λ i. if sees s.Semicolon i then no_start i
    else (if begins_type (next_sort i) then some (local expr) i else simple_start expr i)

-- `for`, with its parts and its body
unfoldable pub for_loop : Parser Expr → Parser Stmt → Parser StmtKind
for_loop expr stmt = do
  t ← skip
  o ← expect s.LeftParen
  first ← start expr
  a ← maybe_before s.Semicolon expr
  e ← expect s.Semicolon
  last ← maybe_before s.RightParen (simple_statement expr)
  c ← expect s.RightParen
  y ← stmt
  pure (k.For first a last y)

-- `return`, with a value or without
unfoldable pub leave : Parser Expr → Parser StmtKind
leave expr = do
  o ← skip
  a ← maybe_before s.Semicolon expr
  e ← expect s.Semicolon
  pure (k.Return a)

-- one word, and `;`
unfoldable pub jump : StmtKind → Parser StmtKind
jump kind = do
  o ← skip
  e ← expect s.Semicolon
  pure kind

-- `;`
unfoldable pub empty : Parser StmtKind
empty = do
  e ← skip
  pure k.Empty

-- an assignment or an expression, and `;`
unfoldable pub evaluated : Parser Expr → Parser StmtKind
evaluated expr = do
  a ← simple expr
  e ← expect s.Semicolon
  pure a

-- the form of a statement, by its first symbol
abbrev pub form_by : Parser Expr → Parser Stmt → ℕ → Sort → Parser StmtKind
form_by expr stmt n s.Semicolon = empty
form_by expr stmt n s.LeftBrace = block expr stmt n
form_by expr stmt n s.If = conditional expr stmt
form_by expr stmt n s.While = while_loop expr stmt
form_by expr stmt n s.Do = do_loop expr stmt
form_by expr stmt n s.For = for_loop expr stmt
form_by expr stmt n s.Return = leave expr
form_by expr stmt n s.Break = jump k.Break
form_by expr stmt n s.Continue = jump k.Continue
form_by expr stmt n _ = evaluated expr

-- the form of a statement
unfoldable pub form : Parser Expr → Parser Stmt → ℕ → Parser StmtKind
form expr stmt n = λ i. form_by expr stmt n (next_sort i) i

-- a statement
unfoldable pub whole : Parser Expr → Parser Stmt → ℕ → Parser Stmt
whole expr stmt n = do
  first ← here
  line ← line_here
  kind ← form expr stmt n
  finish_statement first line kind

-- a statement, with statements in it nested fewer than so many deep
unfoldable pub statement : ℕ → Parser Stmt
statement zero = refuse
statement (suc n) = whole (expression (suc n)) (statement n) (suc n)
