-- Laws of the grammar: each list of tokens has one tree or one first fault, and what holds of each tree.
use Rattle.std.specs.Prelude.{◌≡◌, ◌^◌, ◌<◌, ◌⊎◌, List, length, take}
use Rattle.std.specs.List.{AllByRecursion}
use Rattle.pw_grammar.specs.declared.error.SyntaxError.{SyntaxError}
use Rattle.pw_grammar.specs.Declarations.{Derives}
use Rattle.pw_grammar.specs.Expressions.{value_in}
use Rattle.pw_grammar.specs.Faults.{IsFaultless, IsFirstFault}
use Rattle.pw_grammar.specs.Terminals.{word_texts, keyword_words, punctuator_words}
use Rattle.pw_lex.specs.Spellings as spellings
use Rattle.pw_lex.specs.Bytes.{Text}
use Rattle.pw_lex.specs.Text.{HasTokens}
use Rattle.pw_lex.specs.declared.token.Token.{Token}
use Rattle.pw_tree.specs.declared.decl.Unit.{Unit}
use Rattle.pw_tree.specs.Declarations.{untyped_unit_of}
use Rattle.pw_tree.specs.Placed.{IsParsed}
use Rattle.pw_tree.specs.Proper.{IsRead}

-- each keyword's symbol stands beside the text that has its number
abbrev pub KeywordsByText : Type 0
KeywordsByText = word_texts keyword_words ≡ spellings.keywords

-- and each punctuator's for which the grammar has a place
abbrev pub PunctuatorsByText : Type 0
PunctuatorsByText = word_texts punctuator_words ≡ take (length punctuator_words) spellings.punctuators

-- the grammar derives this unit from the tokens, and they have no fault
pub record HasTree (tokens : List Token) (unit : Unit) : Type 0 where
  pub derives : Derives tokens unit
  pub no_fault : IsFaultless tokens

-- a list of tokens, however long, has a tree or a first fault
abbrev pub HasReading : Type 0
HasReading = (tokens : List Token) → ((unit : Unit) × HasTree tokens unit) ⊎ ((fault : SyntaxError) × IsFirstFault tokens fault)

-- and not both
abbrev pub NotBoth : Type 0
NotBoth = (tokens : List Token) (unit : Unit) (fault : SyntaxError) → HasTree tokens unit → ¬ (IsFirstFault tokens fault)

-- no list of tokens has two trees, whether or not it has a fault
abbrev pub OneTree : Type 0
OneTree = (tokens : List Token) (a b : Unit) → Derives tokens a → Derives tokens b → a ≡ b

-- no list of tokens has two first faults
abbrev pub OneFault : Type 0
OneFault = (tokens : List Token) (fault other : SyntaxError) → IsFirstFault tokens fault → IsFirstFault tokens other → fault ≡ other

-- the trees of a unit stand in its tokens, of which there are fewer than 2 to the 32nd
abbrev pub TreesAreWritten : Type 0
TreesAreWritten = (tokens : List Token) (unit : Unit) → Derives tokens unit → length tokens < 2 ^ 32 → IsParsed (untyped_unit_of unit)

-- a token has a line of 32 bits, and a value of 64 where it is a constant
pub record IsSmallToken (token : Token) : Type 0 where
  pub line : token.line < 2 ^ 32
  pub value : value_in token.kind < 2 ^ 64

-- and so has each token of a text of fewer than 2 to the 32nd bytes
abbrev pub TokensAreSmall : Type 0
TokensAreSmall = (text : Text) (tokens : List Token) → HasTokens text tokens → length text < 2 ^ 32 → AllByRecursion IsSmallToken tokens

-- the tree of a list without fault is that of a unit that was read: its trees stand in its tokens, each with a token of its own;
-- locals are declared in blocks and by a `for` alone, functions are short, and numbers are small
abbrev pub TreesAreRead : Type 0
TreesAreRead = (tokens : List Token) (unit : Unit) → HasTree tokens unit → length tokens < 2 ^ 32 → AllByRecursion IsSmallToken tokens →
    IsRead (untyped_unit_of unit)
