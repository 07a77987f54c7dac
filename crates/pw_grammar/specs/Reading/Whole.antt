-- The answer for a whole list of tokens: its declarations, or its first fault.
use Rattle.std.specs.Prelude.{ℕ, suc, ◌<◌, if◌then◌else◌, nat_le, List, length, take, Option, Some, None, Result, Ok, Err}
use Rattle.pw_grammar.specs.declared.error.SyntaxError.{SyntaxError}
use Rattle.pw_grammar.specs.declared.error.SyntaxError.TheVariants.{TooNested, TooLong}
use Rattle.pw_grammar.specs.Declarations.{lines_of}
use Rattle.pw_grammar.specs.Faults.{IsFirstFault, token_of}
use Rattle.pw_grammar.specs.Laws.{HasTree}
use Rattle.pw_grammar.specs.Reading.Limits.{first_nested, first_late, anew}
use Rattle.pw_grammar.specs.Reading.Steps.{ReadResult}
use Rattle.pw_grammar.specs.Reading.Declarations.{unit}
use Rattle.pw_lex.specs.declared.token.Token.{Token}
use Rattle.pw_tree.specs.declared.decl.Decl.{Decl}

-- the earlier of the two limits; at one token, nesting
abbrev pub earlier : Option ℕ → Option ℕ → Option SyntaxError
earlier None None = None
earlier (Some nested) None = Some (TooNested nested)
earlier None (Some late) = Some (TooLong late)
earlier (Some nested) (Some late) = Some (if nat_le nested late then TooNested nested else TooLong late)

-- the first token that passes a limit
unfoldable pub first_limit : List Token → Option SyntaxError
first_limit tokens = earlier (first_nested 0 0 tokens) (first_late (anew 0) tokens)

-- the tokens up to the limit and with its token
abbrev pub up_to : Option SyntaxError → List Token → List Token
up_to None tokens = tokens
up_to (Some limit) tokens = take (suc (token_of limit)) tokens

-- the limit is the answer, unless no unit goes on at its token or before
abbrev pub judged_by : SyntaxError → ReadResult (List Decl) → Result (List Decl) SyntaxError
judged_by limit (Ok p) = Err limit
judged_by limit (Err fault) = Err (if nat_le (token_of fault) (token_of limit) then fault else limit)

-- the declarations that were read, or the fault
abbrev pub value_of : ReadResult (List Decl) → Result (List Decl) SyntaxError
value_of (Ok p) = Ok p.0
value_of (Err fault) = Err fault

-- the answer, by the first token that passes a limit, if any
abbrev pub judged : Option SyntaxError → ReadResult (List Decl) → Result (List Decl) SyntaxError
judged None outcome = value_of outcome
judged (Some limit) outcome = judged_by limit outcome

-- the declarations of a list of fewer than n tokens, or its first fault
unfoldable pub parsed : ℕ → List Token → Result (List Decl) SyntaxError
parsed n tokens = judged (first_limit tokens) (unit n (record { at = 0; rest = up_to (first_limit tokens) tokens }))

-- what an answer says of the tokens: their declarations with their lines are their tree, or this is their first fault
abbrev pub Tells : List Token → Result (List Decl) SyntaxError → Type 0
Tells tokens (Ok decls) = HasTree tokens (record { decls = decls; lines = lines_of tokens })
Tells tokens (Err fault) = IsFirstFault tokens fault

-- reading from left to right gives the tree, or exactly the first fault
abbrev pub ReadingTells : Type 0
ReadingTells = (n : ℕ) (tokens : List Token) → length tokens < n → Tells tokens (parsed n tokens)
