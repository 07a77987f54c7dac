-- The graph of an object's dependency table shows the unit's project.
use Rattle.std.specs.Global.{Global as TheGlobal}
use Rattle.std.proofs.Common.{◌≡◌, ℕ, zero, suc, ◌<◌, List, [], length, Option, Some, None, refl, sym, ap, ◌∙◌, subst, arith, codes}
use Rattle.std.specs.Prelude.{Contains, slice_get, option_map, Vec}
use Rattle.std.specs.Option.{unwrap_or}
use Rattle.std.specs.List.{filter_map}
use Rattle.std.proofs.lemmas.List.{length-map}
use Rattle.std.proofs.lemmas.Option.{slice_get-map, slice_get_within, slice_get-get_or}
use Rattle.pw_base.specs.declared.kinds.Kind.TheVariants.{Program}
use Rattle.pw_tree.specs.declared.ty.Ref.{Ref}
use Rattle.pw_tree.specs.declared.ty.Ref.TheVariants.{Global}
use Rattle.pw_tree.specs.Units.{Function, TypedUnit}
use Rattle.pw_tree.specs.Names.{Definition, function, resolved}
use Rattle.pw_tree.specs.Depends.{Node, entry, defined, Depends, names_of_all}
use Rattle.pw_tree.specs.Meaning.{no_function}
use Rattle.pw_tree.specs.WellTypedUnits.{IsWellTyped}
use Rattle.pw_module.specs.declared.dep_table.FunRec.{FunRec}
use Rattle.pw_place.specs.Tables.{function_records, table}
use Rattle.pw_close.specs.declared.graph.Graph.{Graph}
use Rattle.pw_close.specs.Graphs.{HasEdge}
use Rattle.pw_close.specs.Graphs as graphs
use Rattle.pw_agree.specs.Kept.{IsPointedTo, IsRoot, Leads}
use Rattle.pw_image.specs.OneUnit.{project_of, objects_of, own_definition}
use Rattle.pw_image.specs.Records.{record_of, edges_of}
use Rattle.pw_image.specs.Graphs.{IsGraphOf}
use Rattle.pw_image.specs.Nodes.{node_of, TablesShowProjects}
use Rattle.pw_image.proofs.Counts.{records_are_all}
use Rattle.pw_image.proofs.Edges.{own_only, edges_are_leads}
use Rattle.pw_image.proofs.Roots.{place_in_unit, roots_are_roots}

-- ---- what a root or a dependency is, is the unit's own

module _ (unit : TypedUnit) where
  own_root : (d : Definition) → IsPointedTo (project_of unit) d → d ≡ own_definition d.number
  own_root d h =
      let place = place_in_unit unit h.variable h.at.in_module h.at.in_unit h.at.number h.there in
      own_only unit h.name d
      (subst (λ m. resolved (project_of unit) m 0 h.name ≡ Some (function d)) place.0
      (subst (λ u. resolved (project_of unit) h.at.in_module u h.name ≡ Some (function d)) place.1 h.means))

  own_dependency : (m : ℕ) (d : Definition) → Depends (project_of unit) (node_of m) d → d ≡ own_definition d.number
  own_dependency zero d h = own_only unit (Global (codes "main")) d h
  own_dependency (suc i) d h = own_only unit h.0 d h.2

  -- nothing that is not the unit's leads anywhere
  leads_from : (i : ℕ) (o : Option Function) → slice_get unit.functions i ≡ o →
      (r : Ref) → Contains (names_of_all (unwrap_or o no_function).body) r → i < length unit.functions
  leads_from i (Some f) there r h = slice_get_within unit.functions i f there
  leads_from i None there r h = let within : h.0 < 0 = h.1 in absurd (omega arith)

  leader_within : (m : ℕ) (d : Definition) → Depends (project_of unit) (node_of m) d → m < suc (length unit.functions)
  leader_within zero d h = omega arith
  leader_within (suc i) d h = let within = leads_from i (slice_get unit.functions i) refl h.0 h.1 in omega arith

module _ (name : List ℕ) (unit : TypedUnit) (g : Graph) (well : IsWellTyped unit)
    (is : IsGraphOf (table Program (objects_of name unit)) g) where
  abbrev records : List FunRec
  records = function_records Program (objects_of name unit)

  abbrev rows : List (List ℕ)
  rows = edges_of records

  abbrev items_of : Vec ℕ TheGlobal → List ℕ
  items_of row = row.items

  row_items : (m : ℕ) (o : Option (Vec ℕ TheGlobal)) → slice_get g.edges.items m ≡ o → slice_get rows m ≡ option_map items_of o
  row_items m o there = ap (λ l. slice_get l m) (sym is.edges) ∙ slice_get-map items_of g.edges.items m ∙ ap (option_map items_of) there

  -- ---- roots

  root_there : (n : ℕ) → graphs.IsRoot g n → IsRoot (project_of unit) (node_of n)
  root_there n h = (roots_are_roots name unit well n).0 (subst (λ l. Contains l n) is.roots h)

  root_back : (n : ℕ) → IsRoot (project_of unit) (node_of n) → graphs.IsRoot g n
  root_back n h = subst (λ l. Contains l n) (sym is.roots) ((roots_are_roots name unit well n).1 h)

  every_root : (t : Node) → IsRoot (project_of unit) t → (n : ℕ) × (node_of n ≡ t) × graphs.IsRoot g n
  every_root entry h = (0, refl, root_back 0 tt)
  every_root (defined d) h =
      let own = own_root unit d h in
      (suc d.number, ap defined (sym own), root_back (suc d.number) (subst (λ e. IsPointedTo (project_of unit) e) own h))

  -- ---- edges

  edge_there : (m n : ℕ) → HasEdge g m n → Leads (project_of unit) (node_of m) (node_of n)
  edge_there m n h =
      (edges_are_leads name unit m h.0.items well (row_items m (Some h.0) h.1) n).0 h.2

  edge_by : (m n : ℕ) (o : Option (Vec ℕ TheGlobal)) → slice_get g.edges.items m ≡ o → m < length rows →
      Leads (project_of unit) (node_of m) (node_of n) → HasEdge g m n
  edge_by m n (Some row) there within h =
      (row, there, (edges_are_leads name unit m row.items well (row_items m (Some row) there) n).1 h)
  edge_by m n None there within h =
      let none : slice_get rows m ≡ None = row_items m None there in
      let some = slice_get-get_or rows m [] within in cc

  every_edge : (m : ℕ) (t : Node) → Leads (project_of unit) (node_of m) t → (n : ℕ) × (node_of n ≡ t) × HasEdge g m n
  every_edge m entry h = absurd h
  every_edge m (defined d) h =
      let own = own_dependency unit m d h in
      let all : length rows ≡ suc (length unit.functions) =
      length-map records (λ (r : FunRec). filter_map (record_of records) r.deps) ∙ records_are_all name unit in
      let within : m < length rows = let few = leader_within unit m d h in omega arith in (
        suc d.number,
        ap defined (sym own),
        edge_by m (suc d.number) (slice_get g.edges.items m) refl within (subst (Depends (project_of unit) (node_of m)) own h),
      )

pub tables_show_projects : TablesShowProjects
tables_show_projects name unit g well is = record {
  roots = root_there name unit g well is;
  all_roots = every_root name unit g well is;
  edges = edge_there name unit g well is;
  all_edges = every_edge name unit g well is;
}
