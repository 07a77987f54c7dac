-- The graph is that of the table, and so it is whole.
use Rattle.std.proofs.Common.{rules}
use Rattle.pw_image.proofs.WholeGraphs.{whole_graph}
use Rattle.pw_image.proofs.graph.graph_of.Goals as goal

pub returns-clause-whole : goal.returns-clause-whole
returns-clause-whole c = whole_graph c.args.table.now _ c.requires.some (search rules)
