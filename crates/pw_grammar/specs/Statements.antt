-- The derivations of statements, and their trees (C17, 6.8).
use Rattle.std.specs.Prelude.{◌≡◌, ℕ, suc, ◌+◌, ◌-◌, Bool, true, false, List, [], ◌∷◌, ◌++◌, length, ◌⊎◌, Option, Some, None, ⊤}
use Rattle.pw_grammar.specs.declared.sort.Sort.{Sort}
use Rattle.pw_grammar.specs.declared.sort.Sort.TheVariants as s
use Rattle.pw_grammar.specs.Terminals.{sort}
use Rattle.pw_grammar.specs.Expressions.{ExpressionDerivation, spelled, IsAt, expression_tree, name_in}
use Rattle.pw_lex.specs.declared.token.Token.{Token}
use Rattle.pw_tree.specs.declared.ty.Ty.{Ty}
use Rattle.pw_tree.specs.declared.ty.Ty.TheVariants as ty
use Rattle.pw_tree.specs.declared.expr.Expr.{Expr}
use Rattle.pw_tree.specs.declared.stmt.Stmt.{Stmt, roll-Stmt}
use Rattle.pw_tree.specs.declared.stmt.StmtKind.{StmtKind}
use Rattle.pw_tree.specs.declared.stmt.StmtKind.TheVariants as k

-- ---- types

-- a type of one word, or `unsigned long`
pub data TypeDerivation : Type 0 where
  word : Token → TypeDerivation
  unsigned : Token → Token → TypeDerivation

-- the type of one word that a symbol is
abbrev pub type_of_keyword : Sort → Option Ty
type_of_keyword s.Long = Some ty.Long
type_of_keyword s.Fn0 = Some (ty.Fn 0)
type_of_keyword s.Fn1 = Some (ty.Fn 1)
type_of_keyword s.Fn2 = Some (ty.Fn 2)
type_of_keyword s.Fn3 = Some (ty.Fn 3)
type_of_keyword s.Fn4 = Some (ty.Fn 4)
type_of_keyword s.Fn5 = Some (ty.Fn 5)
type_of_keyword s.Fn6 = Some (ty.Fn 6)
type_of_keyword _ = None

-- the tokens of a type
abbrev pub spelled_type : TypeDerivation → List Token
spelled_type (word t) = t ∷ []
spelled_type (unsigned u l) = u ∷ l ∷ []

-- the derivation is one of a type
abbrev pub IsType : TypeDerivation → Type 0
IsType (word t) = (x : Ty) × (type_of_keyword (sort t) ≡ Some x)
IsType (unsigned u l) = (sort u ≡ s.Unsigned) × (sort l ≡ s.Long)

-- the type, or void where there is none
abbrev pub type_or : Option Ty → Ty
type_or (Some x) = x
type_or None = ty.Void

-- the type that is derived
abbrev pub type_in : TypeDerivation → Ty
type_in (word t) = type_or (type_of_keyword (sort t))
type_in (unsigned u l) = ty.Ulong

-- ---- locals, assignments, and the first part of a `for`

-- type name ;   type name = e ;
pub data LocalDerivation : Type 0 where
  plain : TypeDerivation → Token → Token → LocalDerivation
  set : TypeDerivation → Token → Token → ExpressionDerivation → Token → LocalDerivation

-- the tokens of a local declaration
abbrev pub spelled_local : LocalDerivation → List Token
spelled_local (plain ty x e) = spelled_type ty ++ x ∷ e ∷ []
spelled_local (set ty x q a e) = spelled_type ty ++ x ∷ q ∷ (spelled a ++ e ∷ [])

-- the derivation is one of a local declaration
abbrev pub IsLocal : LocalDerivation → Type 0
IsLocal (plain ty x e) = IsType ty × (sort x ≡ s.Name) × (sort e ≡ s.Semicolon)
IsLocal (set ty x q a e) = IsType ty × (sort x ≡ s.Name) × (sort q ≡ s.Assign) × IsAt 13 a × (sort e ≡ s.Semicolon)

-- the tree of a local declaration whose first token has the number `at`
abbrev pub kind_of_local : ℕ → LocalDerivation → StmtKind
kind_of_local at (plain ty x e) = k.Local (type_in ty) (name_in x.kind) None
kind_of_local at (set ty x q a e) =
    k.Local (type_in ty) (name_in x.kind) (Some (expression_tree (suc (suc (at + length (spelled_type ty)))) a))

-- x = e   x [ i ] = e   e
pub data SimpleDerivation : Type 0 where
  assign : Token → Token → ExpressionDerivation → SimpleDerivation
  assign_element : Token → Token → ExpressionDerivation → Token → Token → ExpressionDerivation → SimpleDerivation
  evaluate : ExpressionDerivation → SimpleDerivation

-- the tokens of an assignment or an expression
abbrev pub spelled_simple : SimpleDerivation → List Token
spelled_simple (assign x q a) = x ∷ q ∷ spelled a
spelled_simple (assign_element x o i c q a) = x ∷ o ∷ (spelled i ++ c ∷ q ∷ spelled a)
spelled_simple (evaluate a) = spelled a

-- the derivation is one of an assignment or an expression
abbrev pub IsSimple : SimpleDerivation → Type 0
IsSimple (assign x q a) = (sort x ≡ s.Name) × (sort q ≡ s.Assign) × IsAt 13 a
IsSimple (assign_element x o i c q a) =
    (sort x ≡ s.Name) × (sort o ≡ s.LeftBracket) × IsAt 13 i × (sort c ≡ s.RightBracket) × (sort q ≡ s.Assign) × IsAt 13 a
IsSimple (evaluate a) = IsAt 13 a

-- the tree of one whose first token has the number `at`
abbrev pub kind_of_simple : ℕ → SimpleDerivation → StmtKind
kind_of_simple at (assign x q a) = k.Set (name_in x.kind) None (expression_tree (suc (suc at)) a)
kind_of_simple at (assign_element x o i c q a) =
    k.Set (name_in x.kind) (Some (expression_tree (suc (suc at)) i)) (expression_tree (suc (suc (suc (suc at) + length (spelled i)))) a)
kind_of_simple at (evaluate a) = k.Eval (expression_tree at a)

-- ;   local   simple ;
pub data ForStartDerivation : Type 0 where
  no_start : Token → ForStartDerivation
  local_start : LocalDerivation → ForStartDerivation
  simple_start : SimpleDerivation → Token → ForStartDerivation

-- the tokens of the first part of a `for`
abbrev pub spelled_start : ForStartDerivation → List Token
spelled_start (no_start e) = e ∷ []
spelled_start (local_start l) = spelled_local l
spelled_start (simple_start a e) = spelled_simple a ++ e ∷ []

-- the derivation is one of the first part of a `for`
abbrev pub IsStart : ForStartDerivation → Type 0
IsStart (no_start e) = sort e ≡ s.Semicolon
IsStart (local_start l) = IsLocal l
IsStart (simple_start a e) = IsSimple a × (sort e ≡ s.Semicolon)

-- what may be left out

-- the tokens of an expression that may be left out
abbrev pub spelled_maybe : Option ExpressionDerivation → List Token
spelled_maybe None = []
spelled_maybe (Some a) = spelled a

-- there is none, or it is an expression
abbrev pub IsMaybe : Option ExpressionDerivation → Type 0
IsMaybe None = ⊤
IsMaybe (Some a) = IsAt 13 a

-- its tree, whose first token has the number `at`
abbrev pub tree_of_maybe : ℕ → Option ExpressionDerivation → Option Expr
tree_of_maybe at None = None
tree_of_maybe at (Some a) = Some (expression_tree at a)

-- the tokens of the last part of a `for`
abbrev pub spelled_step : Option SimpleDerivation → List Token
spelled_step None = []
spelled_step (Some a) = spelled_simple a

-- there is none, or it is an assignment or an expression
abbrev pub IsStep : Option SimpleDerivation → Type 0
IsStep None = ⊤
IsStep (Some a) = IsSimple a

-- ---- statements

mutual
  -- a statement, by the rule that it is made by
  pub data StatementDerivation : Type 0 where
    -- ;
    empty : Token → StatementDerivation
    -- { statements }
    block : Token → StatementDerivations → Token → StatementDerivation
    -- a local's declaration, which stands in a block alone
    declare : LocalDerivation → StatementDerivation
    -- simple ;
    simple : SimpleDerivation → Token → StatementDerivation
    -- if ( e ) s
    if_only : Token → Token → ExpressionDerivation → Token → StatementDerivation → StatementDerivation
    -- if ( e ) s else s
    if_else : Token → Token → ExpressionDerivation → Token → StatementDerivation → Token → StatementDerivation →
        StatementDerivation
    -- while ( e ) s
    while_do : Token → Token → ExpressionDerivation → Token → StatementDerivation → StatementDerivation
    -- do s while ( e ) ;
    do_while : Token → StatementDerivation → Token → Token → ExpressionDerivation → Token → Token → StatementDerivation
    -- for ( start e ; step ) s
    for_do : Token → Token → ForStartDerivation → Option ExpressionDerivation → Token → Option SimpleDerivation → Token →
        StatementDerivation → StatementDerivation
    -- return e ;
    leave : Token → Option ExpressionDerivation → Token → StatementDerivation
    -- break ;   continue ;
    jump : Token → Token → StatementDerivation

  -- statements one after another
  pub data StatementDerivations : Type 0 where
    nil : StatementDerivations
    cons : StatementDerivation → StatementDerivations → StatementDerivations

unfoldable mutual
  -- the tokens of a statement, in order
  pub spelled_statement : StatementDerivation → List Token
  spelled_statement (empty e) = e ∷ []
  spelled_statement (block o body c) = o ∷ (spelled_statements body ++ c ∷ [])
  spelled_statement (declare l) = spelled_local l
  spelled_statement (simple a e) = spelled_simple a ++ e ∷ []
  spelled_statement (if_only t o a c y) = t ∷ o ∷ (spelled a ++ c ∷ spelled_statement y)
  spelled_statement (if_else t o a c y e n) = t ∷ o ∷ (spelled a ++ c ∷ (spelled_statement y ++ e ∷ spelled_statement n))
  spelled_statement (while_do t o a c y) = t ∷ o ∷ (spelled a ++ c ∷ spelled_statement y)
  spelled_statement (do_while t y w o a c e) = t ∷ (spelled_statement y ++ w ∷ o ∷ (spelled a ++ c ∷ e ∷ []))
  spelled_statement (for_do t o start a e step c y) =
      t ∷ o ∷ (spelled_start start ++ (spelled_maybe a ++ e ∷ (spelled_step step ++ c ∷ spelled_statement y)))
  spelled_statement (leave t a e) = t ∷ (spelled_maybe a ++ e ∷ [])
  spelled_statement (jump t e) = t ∷ e ∷ []

  -- the tokens of statements
  pub spelled_statements : StatementDerivations → List Token
  spelled_statements nil = []
  spelled_statements (cons y ys) = spelled_statement y ++ spelled_statements ys

-- the statement ends in an `if` without `else`, to which an `else` after it would belong
unfoldable pub open_ended : StatementDerivation → Bool
open_ended (empty e) = false
open_ended (block o body c) = false
open_ended (declare l) = false
open_ended (simple a e) = false
open_ended (if_only t o a c y) = true
open_ended (if_else t o a c y e n) = open_ended n
open_ended (while_do t o a c y) = open_ended y
open_ended (do_while t y w o a c e) = false
open_ended (for_do t o start a e step c y) = open_ended y
open_ended (leave t a e) = false
open_ended (jump t e) = false

unfoldable mutual
  -- a statement, or where `declares` a local's declaration too
  pub IsStatement : Bool → StatementDerivation → Type 0
  IsStatement declares (empty e) = sort e ≡ s.Semicolon
  IsStatement declares (block o body c) = (sort o ≡ s.LeftBrace) × AreStatements body × (sort c ≡ s.RightBrace)
  IsStatement declares (declare l) = (declares ≡ true) × IsLocal l
  IsStatement declares (simple a e) = IsSimple a × (sort e ≡ s.Semicolon)
  IsStatement declares (if_only t o a c y) =
      (sort t ≡ s.If) × (sort o ≡ s.LeftParen) × IsAt 13 a × (sort c ≡ s.RightParen) × IsStatement false y
  IsStatement declares (if_else t o a c y e n) =
      (sort t ≡ s.If) × (sort o ≡ s.LeftParen) × IsAt 13 a × (sort c ≡ s.RightParen) × IsStatement false y
      × (open_ended y ≡ false) × (sort e ≡ s.Else) × IsStatement false n
  IsStatement declares (while_do t o a c y) =
      (sort t ≡ s.While) × (sort o ≡ s.LeftParen) × IsAt 13 a × (sort c ≡ s.RightParen) × IsStatement false y
  IsStatement declares (do_while t y w o a c e) =
      (sort t ≡ s.Do) × IsStatement false y × (sort w ≡ s.While) × (sort o ≡ s.LeftParen) × IsAt 13 a
      × (sort c ≡ s.RightParen) × (sort e ≡ s.Semicolon)
  IsStatement declares (for_do t o start a e step c y) =
      (sort t ≡ s.For) × (sort o ≡ s.LeftParen) × IsStart start × IsMaybe a × (sort e ≡ s.Semicolon)
      × IsStep step × (sort c ≡ s.RightParen) × IsStatement false y
  IsStatement declares (leave t a e) = (sort t ≡ s.Return) × IsMaybe a × (sort e ≡ s.Semicolon)
  IsStatement declares (jump t e) = ((sort t ≡ s.Break) ⊎ (sort t ≡ s.Continue)) × (sort e ≡ s.Semicolon)

  -- what stands in a block
  pub AreStatements : StatementDerivations → Type 0
  AreStatements nil = ⊤
  AreStatements (cons y ys) = IsStatement true y × AreStatements ys

-- ---- the trees

-- the line of the first token
abbrev pub first_line : List Token → ℕ
first_line [] = 0
first_line (t ∷ ts) = t.line

-- the node of a statement that has these tokens, from `first` on
abbrev pub statement_node : ℕ → List Token → StmtKind → Stmt
statement_node first tokens kind =
    roll-Stmt (record { first = first; last = first + length tokens - 1; line = first_line tokens; kind = kind })

-- the tree of the first part of a `for`, whose first token has the number `at`
abbrev pub tree_of_start : ℕ → ForStartDerivation → Option Stmt
tree_of_start at (no_start e) = None
tree_of_start at (local_start l) = Some (statement_node at (spelled_local l) (kind_of_local at l))
tree_of_start at (simple_start a e) = Some (statement_node at (spelled_simple a) (kind_of_simple at a))

-- the tree of the last part of a `for`, whose first token has the number `at`
abbrev pub tree_of_step : ℕ → Option SimpleDerivation → Option Stmt
tree_of_step at None = None
tree_of_step at (Some a) = Some (statement_node at (spelled_simple a) (kind_of_simple at a))

-- `break` or `continue`
abbrev pub jump_of : Sort → StmtKind
jump_of s.Break = k.Break
jump_of _ = k.Continue

-- the number of the token after `( e )`
abbrev pub after_test : ℕ → ExpressionDerivation → ℕ
after_test at a = suc (suc (suc at) + length (spelled a))

-- the number of the token after the head of a `for`
abbrev pub after_head : ℕ → ForStartDerivation → Option ExpressionDerivation → Option SimpleDerivation → ℕ
after_head at start a step =
    suc (suc (suc (suc at) + length (spelled_start start) + length (spelled_maybe a)) + length (spelled_step step))

-- the number of the token after a statement and the word after it
abbrev pub after_part : ℕ → StatementDerivation → ℕ
after_part at y = suc (at + length (spelled_statement y))

-- a `for` whose first part begins at `at`
abbrev pub for_kind : ℕ → ForStartDerivation → Option ExpressionDerivation → Option SimpleDerivation → Stmt → StmtKind
for_kind at start a step body =
    k.For (tree_of_start at start) (tree_of_maybe (at + length (spelled_start start)) a)
    (tree_of_step (suc (at + length (spelled_start start) + length (spelled_maybe a))) step) body

unfoldable mutual
  -- the form of a statement whose first token has the number `at`
  pub kind_of : ℕ → StatementDerivation → StmtKind
  kind_of at (empty e) = k.Empty
  kind_of at (block o body c) = k.Block (trees_of_statements (suc at) body)
  kind_of at (declare l) = kind_of_local at l
  kind_of at (simple a e) = kind_of_simple at a
  kind_of at (if_only t o a c y) =
      k.If (expression_tree (suc (suc at)) a) (statement_node (after_test at a) (spelled_statement y) (kind_of (after_test at a) y)) None
  kind_of at (if_else t o a c y e n) =
      k.If (expression_tree (suc (suc at)) a) (statement_node (after_test at a) (spelled_statement y) (kind_of (after_test at a) y))
      (Some (statement_node (after_part (after_test at a) y) (spelled_statement n) (kind_of (after_part (after_test at a) y) n)))
  kind_of at (while_do t o a c y) =
      k.While (expression_tree (suc (suc at)) a) (statement_node (after_test at a) (spelled_statement y) (kind_of (after_test at a) y))
  kind_of at (do_while t y w o a c e) =
      k.Do (statement_node (suc at) (spelled_statement y) (kind_of (suc at) y)) (expression_tree (suc (after_part (suc at) y)) a)
  kind_of at (for_do t o start a e step c y) =
      for_kind (suc (suc at)) start a step
      (statement_node (after_head at start a step) (spelled_statement y) (kind_of (after_head at start a step) y))
  kind_of at (leave t a e) = k.Return (tree_of_maybe (suc at) a)
  kind_of at (jump t e) = jump_of (sort t)

  -- the trees of statements, whose first token has the number `at`
  pub trees_of_statements : ℕ → StatementDerivations → List Stmt
  trees_of_statements at nil = []
  trees_of_statements at (cons y ys) =
      statement_node at (spelled_statement y) (kind_of at y) ∷ trees_of_statements (at + length (spelled_statement y)) ys

-- the tree of a statement whose first token has the number `at`
abbrev pub tree_of_statement : ℕ → StatementDerivation → Stmt
tree_of_statement at y = statement_node at (spelled_statement y) (kind_of at y)
