-- Reading the limits from left to right: the first bracket that nests too deep, and the first token of a function that
-- is too long. Nothing of the grammar is asked but where a declaration ends: at a `;` outside brackets, or at the brace
-- that closes a function's body, which a brace outside brackets and after a `)` opens.
use Rattle.std.specs.Prelude.{ℕ, suc, ◌+◌, Bool, false, ◌||◌, ◌&&◌, if◌then◌else◌, ◌==◌, nat_le, List, [], ◌∷◌, Option, Some, None}
use Rattle.pw_grammar.specs.declared.sort.Sort.TheVariants as s
use Rattle.pw_grammar.specs.Terminals.{sort, is_same}
use Rattle.pw_grammar.specs.Faults.{opens_bracket, bracket}
use Rattle.pw_base.specs.Limits.{open_brackets, function_tokens}
use Rattle.pw_lex.specs.declared.token.Token.{Token}

-- the first token that opens a bracket where as many are open as may be; the first of the tokens has the number `at`, and n are open
unfoldable pub first_nested : ℕ → ℕ → List Token → Option ℕ
first_nested at n [] = None
first_nested at n (t ∷ ts) = if opens_bracket t && nat_le open_brackets n then Some at else first_nested (suc at) (bracket n t) ts

-- where a reader of declarations stands
pub record Walk : Type 0 where
  -- the next token's number, and how many brackets are open
  pub at : ℕ
  pub depth : ℕ
  -- the declaration's first token, and whether a function's body has begun
  pub start : ℕ
  pub in_body : Bool
  -- the last token was a `)`, and no bracket is open
  pub behind_list : Bool

-- whether the token stands in a function's body, its braces included
abbrev pub is_inside : Walk → Token → Bool
is_inside w t = w.in_body || (is_same (sort t) s.LeftBrace && w.depth == 0 && w.behind_list)

-- whether the token stands in a body after as many others of its function as there may be
abbrev pub is_late : Walk → Token → Bool
is_late w t = is_inside w t && nat_le (w.start + function_tokens) w.at

-- whether the declaration ends with the token
abbrev pub is_last : Walk → Token → Bool
is_last w t = bracket w.depth t == 0 && (is_same (sort t) s.Semicolon || (is_same (sort t) s.RightBrace && w.in_body))

-- a declaration begins with the token of this number
abbrev pub anew : ℕ → Walk
anew at = record { at = at; depth = 0; start = at; in_body = false; behind_list = false }

-- the same declaration goes on after the token
abbrev pub onward : Walk → Token → Walk
onward w t = record {
  at = suc w.at;
  depth = bracket w.depth t;
  start = w.start;
  in_body = is_inside w t;
  behind_list = is_same (sort t) s.RightParen && bracket w.depth t == 0;
}

-- where the next token stands
unfoldable pub step : Walk → Token → Walk
step w t = if is_last w t then anew (suc w.at) else onward w t

-- the first token that stands in a function's body after as many others of the function as it may have
unfoldable pub first_late : Walk → List Token → Option ℕ
first_late w [] = None
first_late w (t ∷ ts) = if is_late w t then Some w.at else first_late (step w t) ts
