-- The derivations of expressions, and their trees (C17, 6.5).
use Rattle.std.specs.Prelude.{◌≡◌, ℕ, suc, ◌+◌, ◌-◌, ◌≤◌, Bool, false, List, [], ◌∷◌, ◌++◌, length, ◌⊎◌, Option, Some, None, ⊤}
use Rattle.pw_grammar.specs.declared.sort.Sort.{Sort}
use Rattle.pw_grammar.specs.declared.sort.Sort.TheVariants as s
use Rattle.pw_grammar.specs.Terminals.{sort, prefix_of, binary_of, level_of}
use Rattle.pw_lex.specs.declared.token.Token.{Token}
use Rattle.pw_lex.specs.declared.token.TokenKind.{TokenKind}
use Rattle.pw_lex.specs.declared.token.TokenKind.TheVariants as t
use Rattle.pw_tree.specs.declared.operator.Un.{Un}
use Rattle.pw_tree.specs.declared.operator.Un.TheVariants.{Neg}
use Rattle.pw_tree.specs.declared.operator.Bin.{Bin}
use Rattle.pw_tree.specs.declared.operator.Bin.TheVariants.{Mul}
use Rattle.pw_tree.specs.declared.expr.Expr.{Expr, roll-Expr}
use Rattle.pw_tree.specs.declared.expr.ExprKind.{ExprKind}
use Rattle.pw_tree.specs.declared.expr.ExprKind.TheVariants as e

-- ---- data: an expression with all of its tokens

mutual
  -- an expression, by the rule that it is made by
  pub data ExpressionDerivation : Type 0 where
    identifier : Token → ExpressionDerivation
    constant : Token → ExpressionDerivation
    -- ( e )
    bracketed : Token → ExpressionDerivation → Token → ExpressionDerivation
    -- __in ( )
    input : Token → Token → Token → ExpressionDerivation
    -- __out ( e )
    output : Token → Token → ExpressionDerivation → Token → ExpressionDerivation
    -- f ( arguments )
    call : ExpressionDerivation → Token → Arguments → Token → ExpressionDerivation
    -- a [ i ]
    index : ExpressionDerivation → Token → ExpressionDerivation → Token → ExpressionDerivation
    prefixed : Token → ExpressionDerivation → ExpressionDerivation
    binary : ExpressionDerivation → Token → ExpressionDerivation → ExpressionDerivation
    -- c ? a : b
    choice : ExpressionDerivation → Token → ExpressionDerivation → Token → ExpressionDerivation → ExpressionDerivation

  -- the arguments of a call
  pub data Arguments : Type 0 where
    nothing : Arguments
    arguments : ExpressionDerivation → More → Arguments

  -- further arguments, each after its comma
  pub data More : Type 0 where
    end : More
    more : Token → ExpressionDerivation → More → More

-- ---- the tokens of a derivation, in order

unfoldable mutual
  -- of an expression
  pub spelled : ExpressionDerivation → List Token
  spelled (identifier t) = t ∷ []
  spelled (constant t) = t ∷ []
  spelled (bracketed o a c) = o ∷ (spelled a ++ c ∷ [])
  spelled (input k o c) = k ∷ o ∷ c ∷ []
  spelled (output k o a c) = k ∷ o ∷ (spelled a ++ c ∷ [])
  spelled (call f o xs c) = spelled f ++ o ∷ (spelled_arguments xs ++ c ∷ [])
  spelled (index a o i c) = spelled a ++ o ∷ (spelled i ++ c ∷ [])
  spelled (prefixed t a) = t ∷ spelled a
  spelled (binary a t b) = spelled a ++ t ∷ spelled b
  spelled (choice c q a n b) = spelled c ++ q ∷ (spelled a ++ n ∷ spelled b)

  -- of arguments
  pub spelled_arguments : Arguments → List Token
  spelled_arguments nothing = []
  spelled_arguments (arguments a xs) = spelled a ++ spelled_more xs

  -- of further arguments
  pub spelled_more : More → List Token
  spelled_more end = []
  spelled_more (more t a xs) = t ∷ (spelled a ++ spelled_more xs)

-- ---- the rules

-- the levels of expressions, from the tightest: 0 a primary expression, 1 a call or an index, 2 a prefix operator,
-- 3 to 12 the binary operators, 13 a choice. What may stand at a level may stand at each looser one.

-- the symbol is a binary operator of the level
abbrev pub IsOperator : ℕ → Sort → Type 0
IsOperator level x = (op : Bin) × (binary_of x ≡ Some op) × (level_of op ≡ level)

-- the symbol is a prefix operator
abbrev pub IsPrefixOperator : Sort → Type 0
IsPrefixOperator x = (op : Un) × (prefix_of x ≡ Some op)

-- the symbol is a constant
abbrev pub IsConstantSymbol : Sort → Type 0
IsConstantSymbol x = (x ≡ s.Number) ⊎ (x ≡ s.Character)

unfoldable mutual
  -- the derivation is one of an expression at this level
  pub IsAt : ℕ → ExpressionDerivation → Type 0
  IsAt n (identifier t) = sort t ≡ s.Name
  IsAt n (constant t) = IsConstantSymbol (sort t)
  IsAt n (bracketed o a c) = (sort o ≡ s.LeftParen) × IsAt 13 a × (sort c ≡ s.RightParen)
  IsAt n (input k o c) = (sort k ≡ s.Input) × (sort o ≡ s.LeftParen) × (sort c ≡ s.RightParen)
  IsAt n (output k o a c) = (sort k ≡ s.Output) × (sort o ≡ s.LeftParen) × IsAt 13 a × (sort c ≡ s.RightParen)
  IsAt n (call f o xs c) = (1 ≤ n) × IsAt 1 f × (sort o ≡ s.LeftParen) × AreArguments xs × (sort c ≡ s.RightParen)
  IsAt n (index a o i c) = (1 ≤ n) × IsAt 1 a × (sort o ≡ s.LeftBracket) × IsAt 13 i × (sort c ≡ s.RightBracket)
  IsAt n (prefixed t a) = (2 ≤ n) × IsPrefixOperator (sort t) × IsAt 2 a
  IsAt n (binary a t b) = (tighter : ℕ) × (suc tighter ≤ n) × IsAt (suc tighter) a × IsOperator (suc tighter) (sort t) × IsAt tighter b
  IsAt n (choice c q a m b) = (13 ≤ n) × IsAt 12 c × (sort q ≡ s.Question) × IsAt 13 a × (sort m ≡ s.Colon) × IsAt 13 b

  -- each argument is an expression
  pub AreArguments : Arguments → Type 0
  AreArguments nothing = ⊤
  AreArguments (arguments a xs) = IsAt 13 a × AreMore xs

  -- and so is each further one, after a comma
  pub AreMore : More → Type 0
  AreMore end = ⊤
  AreMore (more t a xs) = (sort t ≡ s.Comma) × IsAt 13 a × AreMore xs

-- ---- the trees

-- the name that a token carries, and the value and the type of a constant
abbrev pub name_in : TokenKind → List ℕ
name_in (t.Word name) = name
name_in (t.Number value unsigned) = []
name_in (t.Char value) = []
name_in (t.Keyword number) = []
name_in (t.Punct number) = []

-- the value of a constant; 0 for another token
abbrev pub value_in : TokenKind → ℕ
value_in (t.Word name) = 0
value_in (t.Number value unsigned) = value
value_in (t.Char value) = value
value_in (t.Keyword number) = 0
value_in (t.Punct number) = 0

-- whether the type of a constant is unsigned long
abbrev pub is_unsigned_constant : TokenKind → Bool
is_unsigned_constant (t.Word name) = false
is_unsigned_constant (t.Number value unsigned) = unsigned
is_unsigned_constant (t.Char value) = false
is_unsigned_constant (t.Keyword number) = false
is_unsigned_constant (t.Punct number) = false

-- the operator, or any where there is none
abbrev pub prefix_or : Option Un → Un
prefix_or (Some op) = op
prefix_or None = Neg

-- the prefix operator that a token is
abbrev pub prefix_operator_in : Token → Un
prefix_operator_in token = prefix_or (prefix_of (sort token))

-- the operator, or any where there is none
abbrev pub binary_or : Option Bin → Bin
binary_or (Some op) = op
binary_or None = Mul

-- the binary operator that a token is
abbrev pub binary_in : Token → Bin
binary_in token = binary_or (binary_of (sort token))

-- the node whose tokens are `count` from `first` on, at the token's line
abbrev pub node : ℕ → ℕ → Token → ExprKind → Expr
node first count token kind = roll-Expr (record { first = first; last = first + count - 1; line = token.line; kind = kind })

-- The tree of an expression whose first token has the number `at`. Brackets leave no node: what stands in them has its
-- own tokens, and the phrase round it counts them among its own.
unfoldable mutual
  -- of an expression
  pub expression_tree : ℕ → ExpressionDerivation → Expr
  expression_tree at (identifier t) = node at 1 t (e.Word (name_in t.kind))
  expression_tree at (constant t) = node at 1 t (e.Num (value_in t.kind) (is_unsigned_constant t.kind))
  expression_tree at (bracketed o a c) = expression_tree (suc at) a
  expression_tree at (input k o c) = node at 3 k e.Input
  expression_tree at (output k o a c) = node at (length (spelled (output k o a c))) k (e.Output (expression_tree (suc (suc at)) a))
  expression_tree at (call f o xs c) =
      node at (length (spelled (call f o xs c))) o (e.Call (expression_tree at f) (argument_trees (suc (at + length (spelled f))) xs))
  expression_tree at (index a o i c) =
      node at (length (spelled (index a o i c))) o (e.Index (expression_tree at a) (expression_tree (suc (at + length (spelled a))) i))
  expression_tree at (prefixed t a) = node at (length (spelled (prefixed t a))) t (e.Unary (prefix_operator_in t) (expression_tree (suc at) a))
  expression_tree at (binary a t b) =
      node at (length (spelled (binary a t b))) t
      (e.Binary (binary_in t) (expression_tree at a) (expression_tree (suc (at + length (spelled a))) b))
  expression_tree at (choice c q a m b) =
      node at (length (spelled (choice c q a m b))) q
      (e.Cond (expression_tree at c) (expression_tree (suc (at + length (spelled c))) a)
      (expression_tree (suc (suc (at + length (spelled c)) + length (spelled a))) b))

  -- of arguments
  pub argument_trees : ℕ → Arguments → List Expr
  argument_trees at nothing = []
  argument_trees at (arguments a xs) = expression_tree at a ∷ more_argument_trees (at + length (spelled a)) xs

  -- of further arguments
  pub more_argument_trees : ℕ → More → List Expr
  more_argument_trees at end = []
  more_argument_trees at (more t a xs) = expression_tree (suc at) a ∷ more_argument_trees (suc at + length (spelled a)) xs
