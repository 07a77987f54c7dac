-- Which functions are kept by the levels of a graph.
use Rattle.std.specs.Prelude.{Bool, List, map}
use Rattle.std.specs.Option.{is_some}
use Rattle.pw_close.specs.declared.graph.Levels.{Levels}

-- Whether each function of a graph has a level.
abbrev pub have_levels : Levels → List Bool
have_levels levels = map (λ level. is_some level) levels.level.items
