-- Reading an expression from left to right. A number bounds how deep expressions nest and how often a loop turns; a
-- number above that of the tokens is enough.
use Rattle.std.specs.Prelude.{ℕ, zero, suc, ◌+◌, ◌-◌, if◌then◌else◌, ◌==◌, List, [], ◌∷◌, ◌++◌, Option, Some, None, Ok}
use Rattle.pw_grammar.specs.declared.sort.Sort.{Sort}
use Rattle.pw_grammar.specs.declared.sort.Sort.TheVariants as s
use Rattle.pw_grammar.specs.Terminals.{prefix_of, binary_of, level_of}
use Rattle.pw_grammar.specs.Expressions.{name_in, value_in, is_unsigned_constant}
use Rattle.pw_grammar.specs.Reading.Steps.{Parser, either, on_option, ◌>>=◌, pure, refuse, next_sort, sees, here, take, skip, expect, finish}
use Rattle.pw_tree.specs.declared.operator.Un.{Un}
use Rattle.pw_tree.specs.declared.operator.Bin.{Bin}
use Rattle.pw_tree.specs.declared.expr.Expr.{Expr, roll-Expr}
use Rattle.pw_tree.specs.declared.expr.ExprKind.TheVariants as e

-- ---- primary expressions

-- a name
unfoldable pub identifier : Parser Expr
identifier = do
  at ← here
  t ← take
  finish at t.line (e.Word (name_in t.kind))

-- a number or a character
unfoldable pub constant : Parser Expr
constant = do
  at ← here
  t ← take
  finish at t.line (e.Num (value_in t.kind) (is_unsigned_constant t.kind))

-- `( e )`, which is e
unfoldable pub bracketed : Parser Expr → Parser Expr
bracketed expr = do
  o ← skip
  a ← expr
  c ← expect s.RightParen
  pure a

-- `__in ( )`
unfoldable pub input : Parser Expr
input = do
  at ← here
  line ← skip
  o ← expect s.LeftParen
  c ← expect s.RightParen
  finish at line e.Input

-- `__out ( e )`
unfoldable pub output : Parser Expr → Parser Expr
output expr = do
  at ← here
  line ← skip
  o ← expect s.LeftParen
  a ← expr
  c ← expect s.RightParen
  finish at line (e.Output a)

-- a primary expression, by its first symbol
abbrev pub primary_by : Parser Expr → Sort → Parser Expr
primary_by expr s.Name = identifier
primary_by expr s.Number = constant
primary_by expr s.Character = constant
primary_by expr s.LeftParen = bracketed expr
primary_by expr s.Input = input
primary_by expr s.Output = output expr
primary_by expr _ = refuse

-- a primary expression
unfoldable pub primary : Parser Expr → Parser Expr
primary expr = λ i. primary_by expr (next_sort i) i

-- ---- calls and indices

-- further arguments, each after a comma
unfoldable pub more_arguments : Parser Expr → ℕ → List Expr → Parser (List Expr)
more_arguments expr zero found = pure found
more_arguments expr (suc n) found = λ i. if sees s.Comma i then (do
  o ← skip
  a ← expr
  more_arguments expr n (found ++ a ∷ [])) i else pure found i

-- one argument or more
unfoldable pub some_arguments : Parser Expr → ℕ → Parser (List Expr)
some_arguments expr n = do
  a ← expr
  more_arguments expr n (a ∷ [])

-- arguments, up to a `)`
unfoldable pub arguments : Parser Expr → ℕ → Parser (List Expr)
arguments expr n = λ i. if sees s.RightParen i then pure [] i else some_arguments expr n i

-- after an expression whose first token has the number `first`
unfoldable pub call : Parser Expr → ℕ → ℕ → Expr → Parser Expr
call expr n first left = do
  line ← skip
  xs ← arguments expr n
  c ← expect s.RightParen
  finish first line (e.Call left xs)

-- `[ e ]` after an expression
unfoldable pub index : Parser Expr → ℕ → Expr → Parser Expr
index expr first left = do
  line ← skip
  x ← expr
  c ← expect s.RightBracket
  finish first line (e.Index left x)

-- any calls and indices after an expression
unfoldable pub suffixes : Parser Expr → ℕ → ℕ → ℕ → Expr → Parser Expr
suffixes expr n zero first left = pure left
suffixes expr n (suc turns) first left = λ i.
    if sees s.LeftParen i then (call expr n first left >>= suffixes expr n turns first) i
    else (if sees s.LeftBracket i then (index expr first left >>= suffixes expr n turns first) i
    else pure left i)

-- a primary expression with its calls and indices
unfoldable pub postfix : Parser Expr → ℕ → Parser Expr
postfix expr n = do
  first ← here
  a ← primary expr
  suffixes expr n n first a

-- ---- prefix operators

-- this operator, if it is one
abbrev pub prefix_by : Option Un → Parser (Option (Un × ℕ))
prefix_by None = pure None
prefix_by (Some op) = do
  line ← skip
  pure (Some (op, line))

-- an operator before an operand, with its line, if one comes next
unfoldable pub prefix_operator : Parser (Option (Un × ℕ))
prefix_operator = λ i. prefix_by (prefix_of (next_sort i)) i

-- as many prefix operators as come next
unfoldable pub operators : ℕ → List (Un × ℕ) → Parser (List (Un × ℕ))
operators zero found = pure found
operators (suc n) found = prefix_operator >>= (λ x. on_option x (pure found) (λ op. operators n (found ++ op ∷ [])))

-- the operand after these operators, the first of which has the number `at`; `last` is the operand's last token
unfoldable pub under_operators : ℕ → ℕ → List (Un × ℕ) → Expr → Expr
under_operators at last [] a = a
under_operators at last (op ∷ ops) a =
    roll-Expr (record { first = at; last = last; line = op.1; kind = e.Unary op.0 (under_operators (suc at) last ops a) })

-- the operand that was read last, under these operators
unfoldable pub wrap : ℕ → List (Un × ℕ) → Expr → Parser Expr
wrap at ops a = λ i. Ok (under_operators at (i.at - 1) ops a, i)

-- an operand with its prefix operators
unfoldable pub prefix : Parser Expr → ℕ → Parser Expr
prefix expr n = do
  at ← here
  ops ← operators n []
  a ← postfix expr n
  wrap at ops a

-- ---- binary operators

-- an operator, if it is of this level
abbrev pub at_level : ℕ → Option Bin → Option Bin
at_level level None = None
at_level level (Some op) = if level_of op == level then Some op else None

-- this operator, if it is one
abbrev pub binary_by : Option Bin → Parser (Option (Bin × ℕ))
binary_by None = pure None
binary_by (Some op) = do
  line ← skip
  pure (Some (op, line))

-- an operator of the level, with its line, if one comes next
unfoldable pub binary_operator : ℕ → Parser (Option (Bin × ℕ))
binary_operator level = λ i. binary_by (at_level level (binary_of (next_sort i))) i

-- further operands of a level after the left one, each read by `operand`
unfoldable pub chain : ℕ → Parser Expr → ℕ → ℕ → Expr → Parser Expr
chain level operand zero first left = pure left
chain level operand (suc turns) first left = binary_operator level >>= (λ x. on_option x (pure left) (λ op. do
  right ← operand
  whole ← finish first op.1 (e.Binary op.0 left right)
  chain level operand turns first whole))

-- an expression of the level k + 2
unfoldable pub level : Parser Expr → ℕ → ℕ → Parser Expr
level expr n zero = prefix expr n
level expr n (suc k) = do
  first ← here
  left ← level expr n k
  chain (suc k + 2) (level expr n k) n first left

-- ---- choices

-- `? a : b` after a test
unfoldable pub branches : Parser Expr → ℕ → Expr → Parser Expr
branches expr first test = do
  line ← skip
  a ← expr
  o ← expect s.Colon
  b ← expr
  finish first line (e.Cond test a b)

-- a choice, or an expression that is none
unfoldable pub choice : Parser Expr → ℕ → Parser Expr
choice expr n = do
  first ← here
  test ← level expr n 10
  either s.Question (branches expr first test) (pure test)

-- an expression, with expressions in it nested fewer than so many deep
unfoldable pub expression : ℕ → Parser Expr
expression zero = refuse
expression (suc n) = choice (expression n) (suc n)
