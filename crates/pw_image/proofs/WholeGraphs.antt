-- The graph of a table has a list of edges for each record, and names records alone.
use Rattle.std.specs.Global.{Global}
use Rattle.std.proofs.Common.{ℕ, ◌<◌, List, [], ◌∷◌, map, length, sym, ap, ◌∙◌, subst}
use Rattle.std.specs.Prelude.{Vec}
use Rattle.std.specs.List.{All, AllByRecursion, filter_map}
use Rattle.std.proofs.lemmas.List.{length-map}
use Rattle.std.proofs.lemmas.List.Elements.{All-from_recursion}
use Rattle.pw_close.specs.declared.graph.Graph.{Graph}
use Rattle.pw_close.specs.Graphs.{IsGraph, AreRowsBelow}
use Rattle.pw_gen.proofs.Elements.{each_weaker}
use Rattle.pw_gen.proofs.DistinctNames.{each_of_map}
use Rattle.pw_module.specs.declared.dep_table.DepTable.{DepTable}
use Rattle.pw_module.specs.declared.dep_table.FunRec.{FunRec}
use Rattle.pw_image.specs.Graphs.{IsGraphOf}
use Rattle.pw_image.specs.Records.{record_of}
use Rattle.pw_image.proofs.RecordNumbers.{numbers_below}

module _ (table : DepTable) (g : Graph) (some : 0 < length table.funs) (is : IsGraphOf table g) where
  abbrev items_of : Vec ℕ Global → List ℕ
  items_of row = row.items

  abbrev AllBelow : List ℕ → Type 0
  AllBelow numbers = AllByRecursion (λ n. n < length table.funs) numbers

  rows_below : (rs : List FunRec) → AllByRecursion AllBelow (map (λ r. filter_map (record_of table.funs) r.deps) rs)
  rows_below [] = tt
  rows_below (r ∷ rs) = (numbers_below table.funs r.deps, rows_below rs)

  each_row_below : AllByRecursion (λ row. AllBelow (items_of row)) g.edges.items
  each_row_below =
      each_of_map AllBelow items_of g.edges.items (subst (λ l. AllByRecursion AllBelow l) (sym is.edges) (rows_below table.funs))

  edges_below : AreRowsBelow (length table.funs) g.edges.items
  edges_below =
      All-from_recursion (λ row. All (λ n. n < length table.funs) (items_of row)) g.edges.items
      (each_weaker (λ row. AllBelow (items_of row)) (λ row. All (λ n. n < length table.funs) (items_of row))
      (λ row h. All-from_recursion (λ n. n < length table.funs) (items_of row) h) g.edges.items each_row_below)

  roots_below : All (λ n. n < length table.funs) g.roots.items
  roots_below =
      All-from_recursion (λ n. n < length table.funs) g.roots.items
      (subst AllBelow (sym is.roots) (some, numbers_below table.funs (map (λ r. r.fun) table.roots)))

  pub whole_graph : IsGraph g
  whole_graph = record {
    rows = sym (length-map g.edges.items items_of) ∙ ap length is.edges
        ∙ length-map table.funs (λ (r : FunRec). filter_map (record_of table.funs) r.deps) ∙ sym is.funs;
    edges = subst (λ n. AreRowsBelow n g.edges.items) (sym is.funs) edges_below;
    roots = subst (λ n. All (λ k. k < n) g.roots.items) (sym is.funs) roots_below;
  }
