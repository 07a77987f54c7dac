-- Reading statements in one another by a loop: each iteration reads a head, or a statement that is not the head of another.
-- `expr` reads an expression and `stmt` a statement that stands in another.
use Rattle.std.specs.Prelude.{ℕ, Option, Some, None}
use Rattle.pw_grammar.specs.declared.sort.Sort.{Sort}
use Rattle.pw_grammar.specs.declared.sort.Sort.TheVariants as s
use Rattle.pw_grammar.specs.Reading.Steps.{Parser, ◌>>=◌, pure, next_sort, here, line_here, skip, expect, either, on_option, finish_statement}
use Rattle.pw_grammar.specs.Reading.Statements.{test, start, maybe_before, some, simple_statement, maybe_else, empty, block, leave, jump, evaluated}
use Rattle.pw_parse.specs.declared.control_head.Head.{Head}
use Rattle.pw_parse.specs.declared.control_head.HeadForm.{HeadForm}
use Rattle.pw_parse.specs.declared.control_head.HeadForm.TheVariants as h
use Rattle.pw_parse.specs.declared.control_head.Front.{Front}
use Rattle.pw_parse.specs.declared.control_head.Front.TheVariants as f
use Rattle.pw_tree.specs.declared.expr.Expr.{Expr}
use Rattle.pw_tree.specs.declared.stmt.Stmt.{Stmt}
use Rattle.pw_tree.specs.declared.stmt.StmtKind.{StmtKind}
use Rattle.pw_tree.specs.declared.stmt.StmtKind.TheVariants as k

-- ---- heads: what stands of a statement before the statement that it holds

-- `if ( e )`
unfoldable pub if_head : Parser Expr → Parser HeadForm
if_head expr = do
  o ← skip
  a ← test expr
  pure (h.If a)

-- `while ( e )`
unfoldable pub while_head : Parser Expr → Parser HeadForm
while_head expr = do
  o ← skip
  a ← test expr
  pure (h.While a)

-- `do`
unfoldable pub do_head : Parser HeadForm
do_head = do
  o ← skip
  pure h.Do

-- `for ( start e ; step )`
unfoldable pub for_head : Parser Expr → Parser HeadForm
for_head expr = do
  t ← skip
  o ← expect s.LeftParen
  first ← start expr
  a ← maybe_before s.Semicolon expr
  e ← expect s.Semicolon
  last ← maybe_before s.RightParen (simple_statement expr)
  c ← expect s.RightParen
  pure (h.For first a last)

-- ---- the front of a statement: the whole, or its head

-- the front that is a head of this form
abbrev pub headed : ℕ → ℕ → HeadForm → Parser Front
headed first line form = pure (f.Head (record { first = first; line = line; form = form }))

-- the front that is a whole statement of this form
abbrev pub whole : ℕ → ℕ → StmtKind → Parser Front
whole first line kind = do
  y ← finish_statement first line kind
  pure (f.Whole y)

-- the front that is a whole statement, whose form `p` reads
abbrev pub ended : ℕ → ℕ → Parser StmtKind → Parser Front
ended first line p = do
  kind ← p
  whole first line kind

-- a head, if the first token begins one
abbrev pub head_by : Parser Expr → Sort → Parser (Option HeadForm)
head_by expr s.If = some (if_head expr)
head_by expr s.While = some (while_head expr)
head_by expr s.Do = some do_head
head_by expr s.For = some (for_head expr)
head_by expr _ = pure None

-- what a statement without a head is, by its first token
abbrev pub headless_by : Parser Expr → Parser Stmt → ℕ → Sort → Parser StmtKind
headless_by expr stmt n s.Semicolon = empty
headless_by expr stmt n s.LeftBrace = block expr stmt n
headless_by expr stmt n s.Return = leave expr
headless_by expr stmt n s.Break = jump k.Break
headless_by expr stmt n s.Continue = jump k.Continue
headless_by expr stmt n _ = evaluated expr

-- the front, once it is known whether a head came
abbrev pub fronted : Parser Expr → Parser Stmt → ℕ → ℕ → ℕ → Sort → Option HeadForm → Parser Front
fronted expr stmt n first line x form = on_option form (ended first line (headless_by expr stmt n x)) (headed first line)

-- the front of a statement whose first token has this sort
abbrev pub front_by : Parser Expr → Parser Stmt → ℕ → ℕ → ℕ → Sort → Parser Front
front_by expr stmt n first line x = do
  form ← head_by expr x
  fronted expr stmt n first line x form

-- the front of a statement
unfoldable pub front : Parser Expr → Parser Stmt → ℕ → Parser Front
front expr stmt n = do
  first ← here
  line ← line_here
  λ i. front_by expr stmt n first line (next_sort i) i

-- ---- what follows the statement inside

-- the rest of the statement whose head has this form, once the statement inside is read
abbrev pub close_by : Parser Expr → Parser Stmt → ℕ → ℕ → HeadForm → Stmt → Parser Stmt
close_by expr stmt first line (h.If a) y = do
  n ← maybe_else stmt
  finish_statement first line (k.If a y n)
close_by expr stmt first line (h.Else a b) y = finish_statement first line (k.If a b (Some y))
close_by expr stmt first line (h.While a) y = finish_statement first line (k.While a y)
close_by expr stmt first line h.Do y = do
  w ← expect s.While
  a ← test expr
  e ← expect s.Semicolon
  finish_statement first line (k.Do y a)
close_by expr stmt first line (h.For x a z) y = finish_statement first line (k.For x a z y)

-- the statement of a head, from after the statement inside on
unfoldable pub close : Parser Expr → Parser Stmt → Head → Stmt → Parser Stmt
close expr stmt head = close_by expr stmt head.first head.line head.form

-- ---- the same by a loop: up to the end of the statement, or up to an `else`

-- `else`, after `if ( e ) s`: one more head
unfoldable pub else_head : ℕ → ℕ → Expr → Stmt → Parser Front
else_head first line a y = do
  o ← skip
  pure (f.Head (record { first = first; line = line; form = h.Else a y }))

-- `while ( e ) ;` after `do s`
unfoldable pub do_end : Parser Expr → Stmt → Parser StmtKind
do_end expr y = do
  w ← expect s.While
  a ← test expr
  e ← expect s.Semicolon
  pure (k.Do y a)

-- what comes after `if ( e ) s`
abbrev pub if_end : ℕ → ℕ → Expr → Stmt → Parser Front
if_end first line a y = either s.Else (else_head first line a y) (whole first line (k.If a y None))

-- what comes after the head of this form and its statement
abbrev pub closed_by : Parser Expr → ℕ → ℕ → HeadForm → Stmt → Parser Front
closed_by expr first line (h.If a) y = if_end first line a y
closed_by expr first line (h.Else a b) y = whole first line (k.If a b (Some y))
closed_by expr first line (h.While a) y = whole first line (k.While a y)
closed_by expr first line h.Do y = do
  kind ← do_end expr y
  whole first line kind
closed_by expr first line (h.For x a z) y = whole first line (k.For x a z y)

-- what comes after a head and its statement: the end of the whole, or one more head
unfoldable pub closed : Parser Expr → Head → Stmt → Parser Front
closed expr head = closed_by expr head.first head.line head.form
