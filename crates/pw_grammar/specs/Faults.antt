-- The faults of a token list, and which is the first.
use Rattle.std.specs.Prelude.{◌≡◌, ℕ, suc, ◌+◌, ◌<◌, ◌≤◌, Bool, true, false, if◌then◌else◌, ◌-◌, List, [], ◌∷◌, ◌++◌, length, take, drop, ◌⊎◌, Option, Some, None}
use Rattle.pw_grammar.specs.declared.sort.Sort.{Sort}
use Rattle.pw_grammar.specs.declared.sort.Sort.TheVariants as s
use Rattle.pw_grammar.specs.declared.error.SyntaxError.{SyntaxError}
use Rattle.pw_grammar.specs.declared.error.SyntaxError.TheVariants.{At, TooNested, TooLong, NoMemory}
use Rattle.pw_grammar.specs.Terminals.{sort, first_sort}
use Rattle.pw_grammar.specs.Declarations.{DeclarationDerivation, function, spelled_declaration, spelled_storage, spelled_result, spelled_parameters, UnitDerivation, spelled_unit, IsUnit}
use Rattle.pw_base.specs.Limits.{open_brackets, function_tokens}
use Rattle.pw_lex.specs.declared.token.Token.{Token}

-- ---- prefixes

-- some unit's tokens begin with these
pub record Begins (tokens : List Token) : Type 0 where
  pub phrase : UnitDerivation
  pub is : IsUnit phrase
  pub rest : List Token
  pub spells : spelled_unit phrase ≡ tokens ++ rest

-- the tokens are a whole unit's
pub record IsWhole (tokens : List Token) : Type 0 where
  pub phrase : UnitDerivation
  pub is : IsUnit phrase
  pub spells : spelled_unit phrase ≡ tokens

-- ---- brackets

-- whether the symbol opens a bracket
abbrev pub opens_by : Sort → Bool
opens_by s.LeftParen = true
opens_by s.LeftBracket = true
opens_by s.LeftBrace = true
opens_by _ = false

-- whether the symbol closes a bracket
abbrev pub closes_by : Sort → Bool
closes_by s.RightParen = true
closes_by s.RightBracket = true
closes_by s.RightBrace = true
closes_by _ = false

-- whether the token opens a bracket
abbrev pub opens_bracket : Token → Bool
opens_bracket t = opens_by (sort t)

-- whether the token closes a bracket
abbrev pub closes_bracket : Token → Bool
closes_bracket t = closes_by (sort t)

-- how many brackets are open after a token, where n are open before it
abbrev pub bracket : ℕ → Token → ℕ
bracket n t = if opens_bracket t then suc n else (if closes_bracket t then n - 1 else n)

-- how many brackets are open after these tokens
unfoldable pub open_after : ℕ → List Token → ℕ
open_after n [] = n
open_after n (t ∷ ts) = open_after (bracket n t) ts

-- ---- long functions

-- how many tokens a function's definition has before the brace that opens its body, and in all; for other declarations
-- there is no such brace
abbrev pub before_body : DeclarationDerivation → Option ℕ
before_body (function g r x o ps c b body e) =
    Some (length (spelled_storage g) + length (spelled_result r) + length (spelled_parameters ps) + 3)
before_body _ = None

-- token t, counted from the declaration's first, stands in the body, its braces included, after as many others as a function may have
abbrev pub IsLate : DeclarationDerivation → ℕ → Option ℕ → Type 0
IsLate c t None = ⊥
IsLate c t (Some brace) = (brace ≤ t) × (function_tokens ≤ t) × (t < length (spelled_declaration c))

-- token t, counted from the unit's first, stands so in one of its functions
unfoldable pub StandsLate : UnitDerivation → ℕ → Type 0
StandsLate [] t = ⊥
StandsLate (c ∷ cs) t =
    IsLate c t (before_body c) ⊎ ((before : ℕ) × (t ≡ length (spelled_declaration c) + before) × StandsLate cs before)

-- some unit goes on from tokens 0 to t, and t stands late in it
pub record GoesOnTooLong (tokens : List Token) (t : ℕ) : Type 0 where
  pub phrase : UnitDerivation
  pub is : IsUnit phrase
  pub rest : List Token
  pub spells : spelled_unit phrase ≡ take (suc t) tokens ++ rest
  pub late : StandsLate phrase t

-- ---- faults

-- no unit has tokens 0 to t as its first; at the end of the list, that the tokens are no unit
abbrev pub IsStuck : List Token → ℕ → Type 0
IsStuck tokens t = ((t < length tokens) × (Begins (take (suc t) tokens) → ⊥)) ⊎ ((t ≡ length tokens) × (IsWhole tokens → ⊥))

-- the list has this fault
abbrev pub IsFault : List Token → SyntaxError → Type 0
IsFault tokens (At t) = IsStuck tokens t
IsFault tokens (TooNested t) = (t < length tokens) × (opens_by (first_sort (drop t tokens)) ≡ true) × (open_brackets ≤ open_after 0 (take t tokens))
IsFault tokens (TooLong t) = (t < length tokens) × GoesOnTooLong tokens t
IsFault tokens NoMemory = ⊥

-- the tokens have no fault
abbrev pub IsFaultless : List Token → Type 0
IsFaultless tokens = (fault : SyntaxError) → IsFault tokens fault → ⊥

-- the number of the faulty token; 0 where memory ran out
abbrev pub token_of : SyntaxError → ℕ
token_of (At t) = t
token_of (TooNested t) = t
token_of (TooLong t) = t
token_of NoMemory = 0

-- faults at one token come in this order
abbrev pub rank : SyntaxError → ℕ
rank (At t) = 0
rank (TooNested t) = 1
rank (TooLong t) = 2
rank NoMemory = 3

-- one fault is at an earlier token than another, or at the same one and not after it in the order
abbrev pub ComesBefore : SyntaxError → SyntaxError → Type 0
ComesBefore a b = (token_of a < token_of b) ⊎ ((token_of a ≡ token_of b) × (rank a ≤ rank b))

-- the fault that is answered
pub record IsFirstFault (tokens : List Token) (fault : SyntaxError) : Type 0 where
  pub is : IsFault tokens fault
  pub first : (other : SyntaxError) → IsFault tokens other → ComesBefore fault other
