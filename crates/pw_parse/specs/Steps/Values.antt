-- The value that a constant carries.
use Rattle.std.specs.Prelude.{ℕ, Bool}
use Rattle.pw_grammar.specs.Expressions.{value_in, is_unsigned_constant}
use Rattle.pw_grammar.specs.Reading.Steps.{Parser, take, ◌>>=◌, pure}

-- takes a token, and answers the value of the constant that it is, and whether it is unsigned
abbrev pub take_constant : Parser (ℕ × Bool)
take_constant = do
  t ← take
  pure (value_in t.kind, is_unsigned_constant t.kind)

-- takes a token, and answers the value of the constant that it is
abbrev pub take_number : Parser ℕ
take_number = take >>= (λ t. pure (value_in t.kind))
