-- The levels are those of the table's graph.
use Rattle.std.proofs.Common.{Result, Ok, Err, IfOk}
use Rattle.pw_base.specs.declared.no_memory.NoMemory.{NoMemory}
use Rattle.pw_module.specs.declared.dep_table.DepTable.{DepTable}
use Rattle.pw_close.specs.declared.graph.Graph.{Graph}
use Rattle.pw_close.specs.declared.graph.Levels.{Levels}
use Rattle.pw_close.specs.Closure.{AreLevels}
use Rattle.pw_image.specs.Graphs.{IsGraphOf}
use Rattle.pw_build.specs.Steps.Parts.{AreLevelsOf}
use Rattle.pw_build.proofs.parts.levels_of.Goals as goal

of_graph : (table : DepTable) (g : Graph) (found : Result Levels NoMemory) → IsGraphOf table g → IfOk found (AreLevels g) →
    IfOk found (AreLevelsOf table)
of_graph table g (Ok levels) is are = record { graph = g; graph_is = is; are = are }
of_graph table g (Err e) is are = tt

pub returns : goal.returns
returns c = of_graph c.args.table.now c.in_ok-graph.graph c.close.result c.in_ok-graph.ensures.graph c.close.ensures
