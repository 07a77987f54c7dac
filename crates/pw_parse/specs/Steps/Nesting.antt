-- Statements in one another: the outcome of the outermost statement, from that of the innermost.
use Rattle.std.specs.Prelude.{◌≡◌, ◌≢◌, ℕ, ◌-◌, List, [], ◌∷◌, length, Option, Some, None, Result, Ok, Err}
use Rattle.pw_grammar.specs.declared.error.SyntaxError.{SyntaxError}
use Rattle.pw_grammar.specs.declared.error.SyntaxError.TheVariants.{NoMemory}
use Rattle.pw_grammar.specs.Reading.Steps.{Parser, Position, ReadResult, read_then}
use Rattle.pw_grammar.specs.Reading.Expressions.{expression}
use Rattle.pw_grammar.specs.Reading.Statements.{statement}
use Rattle.pw_parse.specs.Steps.Heads.{close}
use Rattle.pw_parse.specs.declared.control_head.Head.{Head}
use Rattle.pw_tree.specs.declared.stmt.Stmt.{Stmt}

-- the statement of a head that was read at a depth, from after the statement inside on
abbrev pub close_at : ℕ → Head → Stmt → Parser Stmt
close_at n = close (expression n) (statement (n - 1))

-- the outcome of the outermost statement, from that of the innermost; the outermost head comes first, at depth n
unfoldable pub resume : ℕ → List Head → ReadResult Stmt → ReadResult Stmt
resume n [] o = o
resume n (h ∷ hs) o = read_then (resume (n - 1) hs o) (close_at n h)

-- where the innermost statement is still to be read
abbrev pub unread : ℕ → List Head → Position → ReadResult Stmt
unread n hs i = resume n hs (statement (n - length hs) i)

-- what was read: the outermost statement, or up to an `else`
abbrev pub Resumes : ℕ → ReadResult Stmt → Result (Option Stmt) SyntaxError → List Head → Position → Type 0
Resumes n outcome (Ok (Some y)) hs new = outcome ≡ Ok (y, new)
Resumes n outcome (Ok None) hs new = outcome ≡ unread n hs new
Resumes n outcome (Err e) hs new = e ≢ NoMemory → outcome ≡ Err e
