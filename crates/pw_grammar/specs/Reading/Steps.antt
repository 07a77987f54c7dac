-- Reading from left to right: where a reader stands, and the steps that every rule is made of.
use Rattle.std.specs.Prelude.{◌≡◌, ◌≢◌, ℕ, suc, ◌-◌, Bool, if◌then◌else◌, List, [], ◌∷◌, Option, Some, None, Result, Ok, Err}
use Rattle.pw_grammar.specs.declared.sort.Sort.{Sort}
use Rattle.pw_grammar.specs.declared.sort.Sort.TheVariants.{Name}
use Rattle.pw_grammar.specs.declared.error.SyntaxError.{SyntaxError}
use Rattle.pw_grammar.specs.declared.error.SyntaxError.TheVariants.{At, NoMemory}
use Rattle.pw_grammar.specs.Terminals.{first_sort, is_same}
use Rattle.pw_grammar.specs.Expressions.{name_in}
use Rattle.pw_grammar.specs.Statements.{first_line}
use Rattle.pw_lex.specs.declared.token.Token.{Token}
use Rattle.pw_tree.specs.declared.expr.Expr.{Expr, roll-Expr}
use Rattle.pw_tree.specs.declared.expr.ExprKind.{ExprKind}
use Rattle.pw_tree.specs.declared.stmt.Stmt.{Stmt, roll-Stmt}
use Rattle.pw_tree.specs.declared.stmt.StmtKind.{StmtKind}

-- the number of the next token, and the tokens from it on
pub record Position : Type 0 where
  pub at : ℕ
  pub rest : List Token

-- what a reader answers: what it read, with the place after it, or a fault
abbrev pub ReadResult : Type 0 → Type 0
ReadResult A = Result (A × Position) SyntaxError

-- a reader, which is given where it stands
abbrev pub Parser : Type 0 → Type 0
Parser A = Position → ReadResult A

-- what follows a reader, where it read something
abbrev pub read_then : {A B : Type 0} → ReadResult A → (A → Parser B) → ReadResult B
read_then (Ok p) f = f p.0 p.1
read_then (Err e) f = Err e

-- one reader after another
infixl 10 ◌>>=◌
abbrev pub ◌>>=◌ : {A B : Type 0} → Parser A → (A → Parser B) → Parser B
p >>= f = λ i. read_then (p i) f

-- reads nothing, and answers this
abbrev pub pure : {A : Type 0} → A → Parser A
pure a = λ i. Ok (a, i)

-- no phrase goes on with the next token
abbrev pub refuse : {A : Type 0} → Parser A
refuse = λ i. Err (At i.at)

-- ---- the next token

-- the next token's symbol
abbrev pub next_sort : Position → Sort
next_sort i = first_sort i.rest

-- whether the next token is of this sort
unfoldable pub sees : Sort → Position → Bool
sees x i = is_same (next_sort i) x

-- the next token's number
abbrev pub here : Parser ℕ
here = λ i. Ok (i.at, i)

-- the next token's line, or 0
abbrev pub line_here : Parser ℕ
line_here = λ i. Ok (first_line i.rest, i)

-- the next of these tokens, the first of which has this number
unfoldable pub take_from : ℕ → List Token → ReadResult Token
take_from at [] = Err (At at)
take_from at (t ∷ ts) = Ok (t, record { at = suc at; rest = ts })

-- takes the next token
unfoldable pub take : Parser Token
take = λ i. take_from i.at i.rest

-- takes the next token, and answers its line
unfoldable pub skip : Parser ℕ
skip = do
  t ← take
  pure t.line

-- takes a token of this sort, and answers its line
unfoldable pub expect : Sort → Parser ℕ
expect x = λ i. if sees x i then skip i else refuse i

-- takes a name
unfoldable pub name : Parser (List ℕ)
name = λ i. if sees Name i then (take >>= (λ t. pure (name_in t.kind))) i else refuse i

-- one parser where the next token is of this sort, and else another
abbrev pub either : {A : Type 0} → Sort → Parser A → Parser A → Parser A
either x p q = λ i. if sees x i then p i else q i

-- what a value gives that may be absent
abbrev pub on_option : {A B : Type 0} → Option A → B → (A → B) → B
on_option None b f = b
on_option (Some a) b f = f a

-- ---- nodes, whose last token is the last that was taken

-- an expression that ends with the last token that was taken
abbrev pub finish : ℕ → ℕ → ExprKind → Parser Expr
finish first line kind = λ i. Ok (roll-Expr (record { first = first; last = i.at - 1; line = line; kind = kind }), i)

-- the same of a statement
abbrev pub finish_statement : ℕ → ℕ → StmtKind → Parser Stmt
finish_statement first line kind = λ i. Ok (roll-Stmt (record { first = first; last = i.at - 1; line = line; kind = kind }), i)

-- ---- what a function that reads ensures: the parser's outcome, unless memory runs out

-- the function's result is what the reader answers, unless memory runs out
abbrev pub Reads : {A : Type 0} → ReadResult A → Result A SyntaxError → Position → Type 0
Reads outcome (Ok a) new = outcome ≡ Ok (a, new)
Reads outcome (Err e) new = e ≢ NoMemory → outcome ≡ Err e
