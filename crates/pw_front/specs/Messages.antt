-- What messages say of each fault: what is wrong, and where.
use Rattle.std.specs.Prelude.{ℕ, List, ◌++◌, codes, decimal, Option, Some, None}
use Rattle.pw_lex.specs.declared.error.LexError.{LexError}
use Rattle.pw_lex.specs.declared.error.LexError.TheVariants as lex
use Rattle.pw_lex.specs.Text.{place_of}
use Rattle.pw_grammar.specs.declared.error.SyntaxError.{SyntaxError}
use Rattle.pw_grammar.specs.declared.error.SyntaxError.TheVariants as syntax
use Rattle.pw_grammar.specs.Faults.{token_of}
use Rattle.pw_types.specs.Messages.{at_token, type_message}
use Rattle.pw_front.specs.declared.error.FrontError.{FrontError}
use Rattle.pw_front.specs.declared.error.FrontError.TheVariants.{Lex, Syntax, Typing, NoMemory}

-- what is wrong with a text as a list of tokens
abbrev pub lex_phrase : LexError → List ℕ
lex_phrase (lex.BadByte _) = codes "bad byte"
lex_phrase (lex.OpenComment _) = codes "open comment"
lex_phrase (lex.BadNumber _) = codes "bad number"
lex_phrase (lex.TooWide _) = codes "number too wide"
lex_phrase (lex.LongName _) = codes "name too long"
lex_phrase lex.NoMemory = codes "out of memory"

-- what is wrong with a list of tokens as a unit
abbrev pub syntax_phrase : SyntaxError → List ℕ
syntax_phrase (syntax.At _) = codes "syntax"
syntax_phrase (syntax.TooNested _) = codes "brackets too deep"
syntax_phrase (syntax.TooLong _) = codes "function too long"
syntax_phrase syntax.NoMemory = codes "out of memory"

-- where it is: the line, and the number of the byte
abbrev pub at_byte : (line byte : ℕ) → List ℕ
at_byte line byte = codes " at line " ++ (decimal line ++ (codes " byte " ++ decimal byte))

-- where a fault of the bytes is; out of memory is nowhere
abbrev pub at_place : ℕ → Option ℕ → List ℕ
at_place line (Some byte) = at_byte line byte
at_place line None = codes ""

-- the fault of a text as a list of tokens, on this line
abbrev pub lex_message : LexError → ℕ → List ℕ
lex_message fault line = lex_phrase fault ++ at_place line (place_of fault)

-- the fault of a list of tokens as a unit, on this line
abbrev pub syntax_message : SyntaxError → ℕ → List ℕ
syntax_message fault line = syntax_phrase fault ++ at_token line (token_of fault)

-- why a text gave no typed unit
abbrev pub message_of : FrontError → List ℕ
message_of (Lex fault line) = lex_message fault line
message_of (Syntax fault line) = syntax_message fault line
message_of (Typing fault) = type_message fault
message_of NoMemory = codes "out of memory"
