-- What a cursor is seen as, and what bounds it.
use Rattle.std.specs.Prelude.{◌+◌, ◌^◌, ◌<◌, length}
use Rattle.pw_parse.specs.declared.cursor.Cursor.TheInside.{Inside}
use Rattle.pw_grammar.specs.Reading.Steps.{Position}

-- a cursor is seen as the position where it stands
abbrev pub position_of : Inside → Position
position_of c = record { at = c.at; rest = c.rest.now }

-- the number of each token, and of the end, has 32 bits
abbrev pub IsNumbered : Inside → Type 0
IsNumbered c = c.at + length c.rest.now < 2 ^ 32
