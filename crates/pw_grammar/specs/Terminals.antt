-- The terminal symbols of the grammar, and what the operators among them mean.
use Rattle.std.specs.Prelude.{ℕ, Bool, List, [], ◌∷◌, map, codes, slice_index_or, Option, Some, None}
use denote.Enum.Bare.{sameb}
use Rattle.pw_grammar.specs.contracts.sort.Sort.{the_type}
use Rattle.pw_grammar.specs.declared.sort.Sort.{Sort}
use Rattle.pw_grammar.specs.declared.sort.Sort.TheVariants as s
use Rattle.pw_lex.specs.Bytes.{Text}
use Rattle.pw_lex.specs.declared.token.Token.{Token}
use Rattle.pw_lex.specs.declared.token.TokenKind.{TokenKind}
use Rattle.pw_lex.specs.declared.token.TokenKind.TheVariants as t
use Rattle.pw_tree.specs.declared.operator.Un.{Un}
use Rattle.pw_tree.specs.declared.operator.Un.TheVariants as un
use Rattle.pw_tree.specs.declared.operator.Bin.{Bin}
use Rattle.pw_tree.specs.declared.operator.Bin.TheVariants as bin

-- the texts of terminal symbols, each with its symbol
abbrev pub Words : Type 0
Words = List (Text × Sort)

-- the keywords, in the order of pw_lex's list (C17, 6.4.1)
abbrev pub keyword_words : Words
keyword_words =
    (codes "long", s.Long) ∷
    (codes "unsigned", s.Unsigned) ∷
    (codes "void", s.Void) ∷
    (codes "fn0", s.Fn0) ∷
    (codes "fn1", s.Fn1) ∷
    (codes "fn2", s.Fn2) ∷
    (codes "fn3", s.Fn3) ∷
    (codes "fn4", s.Fn4) ∷
    (codes "fn5", s.Fn5) ∷
    (codes "fn6", s.Fn6) ∷
    (codes "extern", s.Extern) ∷
    (codes "static", s.Static) ∷
    (codes "if", s.If) ∷
    (codes "else", s.Else) ∷
    (codes "while", s.While) ∷
    (codes "do", s.Do) ∷
    (codes "for", s.For) ∷
    (codes "return", s.Return) ∷
    (codes "break", s.Break) ∷
    (codes "continue", s.Continue) ∷
    (codes "__in", s.Input) ∷
    (codes "__out", s.Output) ∷
    []

-- the punctuators that the grammar has a place for, in the order of pw_lex's list (C17, 6.4.6)
abbrev pub punctuator_words : Words
punctuator_words =
    (codes "(", s.LeftParen) ∷
    (codes ")", s.RightParen) ∷
    (codes "{", s.LeftBrace) ∷
    (codes "}", s.RightBrace) ∷
    (codes "[", s.LeftBracket) ∷
    (codes "]", s.RightBracket) ∷
    (codes ";", s.Semicolon) ∷
    (codes ",", s.Comma) ∷
    (codes "=", s.Assign) ∷
    (codes "+", s.Plus) ∷
    (codes "-", s.Minus) ∷
    (codes "*", s.Star) ∷
    (codes "/", s.Slash) ∷
    (codes "%", s.Percent) ∷
    (codes "<", s.Less) ∷
    (codes ">", s.Greater) ∷
    (codes "<=", s.LessEqual) ∷
    (codes ">=", s.GreaterEqual) ∷
    (codes "==", s.Equal) ∷
    (codes "!=", s.NotEqual) ∷
    (codes "<<", s.ShiftLeft) ∷
    (codes ">>", s.ShiftRight) ∷
    (codes "&", s.And) ∷
    (codes "|", s.Or) ∷
    (codes "^", s.Xor) ∷
    (codes "~", s.Tilde) ∷
    (codes "!", s.Bang) ∷
    (codes "&&", s.AndAnd) ∷
    (codes "||", s.OrOr) ∷
    (codes "?", s.Question) ∷
    (codes ":", s.Colon) ∷
    []

-- the texts of a list
abbrev pub word_texts : Words → List Text
word_texts words = map (λ word. word.0) words

-- the symbols of a list
abbrev pub symbols : Words → List Sort
symbols words = map (λ word. word.1) words

-- the symbols of the keywords, by number
abbrev pub keyword_symbols : List Sort
keyword_symbols = symbols keyword_words

-- the symbols of the punctuators, by number
abbrev pub punctuator_symbols : List Sort
punctuator_symbols = symbols punctuator_words

-- the symbol of this number, or `Other` where the list has none
abbrev pub numbered : List Sort → ℕ → Sort
numbered table number = slice_index_or table number s.Other

-- the symbol of a token
unfoldable pub sort_of : TokenKind → Sort
sort_of (t.Word name) = s.Name
sort_of (t.Number value unsigned) = s.Number
sort_of (t.Char value) = s.Character
sort_of (t.Keyword number) = numbered keyword_symbols number
sort_of (t.Punct number) = numbered punctuator_symbols number

-- the symbol of a token
abbrev pub sort : Token → Sort
sort token = sort_of token.kind

-- the symbol of the first of these tokens, or `End`
abbrev pub first_sort : List Token → Sort
first_sort [] = s.End
first_sort (token ∷ tokens) = sort token

-- whether they are one symbol
unfoldable pub is_same : Sort → Sort → Bool
is_same = sameb the_type

-- the operator that a symbol is before its operand (C17, 6.5.3.3)
abbrev pub prefix_of : Sort → Option Un
prefix_of s.Minus = Some un.Neg
prefix_of s.Plus = Some un.Plus
prefix_of s.Tilde = Some un.Not
prefix_of s.Bang = Some un.Bang
prefix_of _ = None

-- the operator that a symbol is between its operands (C17, 6.5.5 to 6.5.14)
abbrev pub binary_of : Sort → Option Bin
binary_of s.Star = Some bin.Mul
binary_of s.Slash = Some bin.Div
binary_of s.Percent = Some bin.Rem
binary_of s.Plus = Some bin.Add
binary_of s.Minus = Some bin.Sub
binary_of s.ShiftLeft = Some bin.Shl
binary_of s.ShiftRight = Some bin.Shr
binary_of s.Less = Some bin.Lt
binary_of s.Greater = Some bin.Gt
binary_of s.LessEqual = Some bin.Le
binary_of s.GreaterEqual = Some bin.Ge
binary_of s.Equal = Some bin.Eq
binary_of s.NotEqual = Some bin.Ne
binary_of s.And = Some bin.And
binary_of s.Xor = Some bin.Xor
binary_of s.Or = Some bin.Or
binary_of s.AndAnd = Some bin.AndAnd
binary_of s.OrOr = Some bin.OrOr
binary_of _ = None

-- the level of an operator: the tightest have level 3, the loosest 12 (C17, 6.5.5 to 6.5.14)
abbrev pub level_of : Bin → ℕ
level_of bin.Mul = 3
level_of bin.Div = 3
level_of bin.Rem = 3
level_of bin.Add = 4
level_of bin.Sub = 4
level_of bin.Shl = 5
level_of bin.Shr = 5
level_of bin.Lt = 6
level_of bin.Gt = 6
level_of bin.Le = 6
level_of bin.Ge = 6
level_of bin.Eq = 7
level_of bin.Ne = 7
level_of bin.And = 8
level_of bin.Xor = 9
level_of bin.Or = 10
level_of bin.AndAnd = 11
level_of bin.OrOr = 12
