-- Laws of the whole: each text reads in one way, and its tokens stand in it.
use Rattle.std.specs.Prelude.{◌≡◌, ◌<◌, ◌≤◌, ◌⊎◌, List, length, slice_range}
use Rattle.std.specs.List.{All}
use Rattle.pw_lex.specs.declared.token.Token.{Token}
use Rattle.pw_lex.specs.declared.error.LexError.{LexError}
use Rattle.pw_lex.specs.Bytes.{Text}
use Rattle.pw_lex.specs.Token.{IsToken}
use Rattle.pw_lex.specs.Text.{HasTokens, HasFault, line_of}

-- a text has tokens or a fault
abbrev pub HasReading : Type 0
HasReading = (text : Text) → ((tokens : List Token) × HasTokens text tokens) ⊎ ((fault : LexError) × HasFault text fault)

-- and not both
abbrev pub NotBoth : Type 0
NotBoth = (text : Text) (tokens : List Token) (fault : LexError) → HasTokens text tokens → ¬ (HasFault text fault)

-- one list of tokens at most
abbrev pub OneList : Type 0
OneList = (text : Text) (tokens others : List Token) → HasTokens text tokens → HasTokens text others → tokens ≡ others

-- one fault at most
abbrev pub OneFault : Type 0
OneFault = (text : Text) (fault other : LexError) → HasFault text fault → HasFault text other → fault ≡ other

-- the token's bytes are those of the text from `first` up to but not including `end`, and its line is theirs
pub record StandsIn (text : Text) (token : Token) : Type 0 where
  pub some : token.first < token.end
  pub within : token.end ≤ length text
  pub is : IsToken (slice_range text token.first token.end) token.kind
  pub line_is : token.line ≡ line_of text token.first

-- the tokens of a text stand in it
abbrev pub TokensStand : Type 0
TokensStand = (text : Text) (tokens : List Token) → HasTokens text tokens → All (StandsIn text) tokens
