-- The commands: each is its order of refusals, one stage after another.
use Rattle.std.specs.Prelude.{ℕ, List}
use Rattle.pw_tree.specs.Units.{unit_of}
use Rattle.pw_cmd.specs.declared.answer.Ending.{Ending}
use Rattle.pw_cmd.specs.declared.words.Request.{Request}
use Rattle.pw_cmd.specs.Stages.{Stage, ◌>>=◌}
use Rattle.pw_cmd.specs.Primitives.{judges, reads, compiles, builds, runs_image}

-- `one FILE`: the file is read, it is compiled, the image of its unit's program is put into the memory, and it runs
abbrev pub one : Request → Stage Ending
one request = do
  text ← reads request.word request.file
  unit ← compiles request.word text.items
  rows ← builds request.file (unit_of unit)
  runs_image (unit_of unit) rows request.steps

-- what the words ask for
abbrev pub performs : List (List ℕ) → Stage Ending
performs words = do
  request ← judges words
  one request
