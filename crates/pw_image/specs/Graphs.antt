-- The graph of a dependency table: its functions are the table's records of functions by number.
use Rattle.std.specs.Prelude.{◌≡◌, length, map}
use Rattle.pw_close.specs.declared.graph.Graph.{Graph}
use Rattle.pw_module.specs.declared.dep_table.DepTable.{DepTable}
use Rattle.pw_image.specs.Records.{edges_of, roots_of}

-- The graph has a function for each record, its edges are the records on which a record depends, and its roots are the entry's
-- record and those of functions that variables point to.
pub record IsGraphOf (table : DepTable) (g : Graph) : Type 0 where
  pub funs : g.funs ≡ length table.funs
  pub edges : map (λ row. row.items) g.edges.items ≡ edges_of table.funs
  pub roots : g.roots.items ≡ roots_of table.funs table.roots
