-- What the answer for a whole list of tokens says of the list.
use Rattle.std.specs.Prelude.{ℕ, List, map, slice_index_or}
use Rattle.pw_lex.specs.declared.token.Token.{Token}

-- the line of the token with this number, or, where the list has no such token, the line of its end
abbrev pub fault_line_of : List Token → ℕ → ℕ → ℕ
fault_line_of tokens end at = slice_index_or (map (λ t. t.line) tokens) at end
