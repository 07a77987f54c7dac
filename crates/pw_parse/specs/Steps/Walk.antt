-- Where a reader of declarations stands, as the limits see it.
use Rattle.pw_parse.specs.declared.limits.Stand.{Stand}
use Rattle.pw_grammar.specs.Reading.Limits.{Walk}

-- the stand of the code, as the grammar names its parts
abbrev pub walk_of : Stand → Walk
walk_of s = record { at = s.at; depth = s.depth; start = s.start; in_body = s.in_body; behind_list = s.behind_list }
