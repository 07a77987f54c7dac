-- The unit and the typed unit of a whole text, or its first fault with the line.
use Rattle.std.specs.Prelude.{◌≡◌, ◌≢◌, ℕ, ◌+◌, List, Option, ⊤, IfSome}
use Rattle.std.specs.List.{count_by}
use Rattle.pw_base.specs.declared.pos.Pos.{Pos}
use Rattle.pw_lex.specs.declared.token.Token.{Token}
use Rattle.pw_lex.specs.declared.error.LexError.{LexError}
use Rattle.pw_lex.specs.declared.error.LexError.TheVariants as lex
use Rattle.pw_lex.specs.Bytes.{Text}
use Rattle.pw_lex.specs.Text.{HasTokens, HasFault, is_newline, line_of, place_of}
use Rattle.pw_grammar.specs.declared.error.SyntaxError.{SyntaxError}
use Rattle.pw_grammar.specs.declared.error.SyntaxError.TheVariants as syntax
use Rattle.pw_grammar.specs.Declarations.{Derives}
use Rattle.pw_grammar.specs.Faults.{IsFaultless, IsFirstFault, token_of}
use Rattle.pw_parse.specs.Whole.{fault_line_of as line_of_token}
use Rattle.pw_tree.specs.declared.decl.Unit.{Unit}
use Rattle.pw_tree.specs.declared.tunit.TUnit.{TUnit}
use Rattle.pw_tree.specs.Declarations.{untyped_unit_of}
use Rattle.pw_tree.specs.Units.{unit_of}
use Rattle.pw_types.specs.declared.rule.Rule.{Rule}
use Rattle.pw_types.specs.declared.error.TypeError.{TypeError}
use Rattle.pw_types.specs.declared.error.TypeError.TheVariants as types
use Rattle.pw_types.specs.Checks.{IsFirst, IsTyped}
use Rattle.pw_front.specs.declared.error.FrontError.{FrontError}
use Rattle.pw_front.specs.declared.error.FrontError.TheVariants.{Lex, Syntax, Typing, NoMemory}

-- the text has tokens without a fault, and the grammar derives the unit from them
pub record IsUnitOf (text : Text) (unit : Unit) : Type 0 where
  pub tokens : List Token
  pub has_tokens : HasTokens text tokens
  pub derives : Derives tokens unit
  pub no_fault : IsFaultless tokens

-- the text has a unit, which is well typed, and this is its typed unit
pub record IsTypedUnitOf (text : Text) (typed : TUnit) : Type 0 where
  pub unit : Unit
  pub is_unit : IsUnitOf text unit
  pub is_typed : IsTyped (untyped_unit_of unit) (unit_of typed)

-- the first fault of the text as a list of tokens, on this line
pub record HasLexFault (text : Text) (fault : LexError) (line : ℕ) : Type 0 where
  pub known : fault ≢ lex.NoMemory
  pub is : HasFault text fault
  pub line_is : IfSome (place_of fault) (λ place. line ≡ line_of text place)

-- the line of the text's end: one more than the number of bytes 10
abbrev pub end_line_of : Text → ℕ
end_line_of text = 1 + count_by is_newline text

-- the first fault of the text's tokens as a unit, on this line: its token's, or that of the text's end
pub record HasSyntaxFault (text : Text) (fault : SyntaxError) (line : ℕ) : Type 0 where
  pub tokens : List Token
  pub has_tokens : HasTokens text tokens
  pub known : fault ≢ syntax.NoMemory
  pub is : IsFirstFault tokens fault
  pub line_is : line ≡ line_of_token tokens (end_line_of text) (token_of fault)

-- the first fault of the types of the text's unit: its rule, its phrase's last token with the line, and the name
pub record HasTypeFault (text : Text) (rule : Rule) (at : Pos) (name : Option (List ℕ)) : Type 0 where
  pub unit : Unit
  pub is_unit : IsUnitOf text unit
  pub is : IsFirst (untyped_unit_of unit) rule at name

-- what a type fault says of the text; out of memory is judged otherwise
abbrev pub TypeFaultOf : Text → TypeError → Type 0
TypeFaultOf text (types.Broken rule at name) = HasTypeFault text rule at name
TypeFaultOf text types.NoMemory = ⊥

-- what an error says of the text; out of memory says nothing
abbrev pub FaultOf : Text → FrontError → Type 0
FaultOf text (Lex fault line) = HasLexFault text fault line
FaultOf text (Syntax fault line) = HasSyntaxFault text fault line
FaultOf text (Typing fault) = TypeFaultOf text fault
FaultOf text NoMemory = ⊤
