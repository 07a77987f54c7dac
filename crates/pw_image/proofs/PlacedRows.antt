-- The rows of placed functions are those of the unit's program, and keep the functions that have a level.
use Rattle.std.proofs.Common.{◌≡◌, ℕ, zero, suc, ◌*◌, ◌<◌, ◌≤◌, ◌⊎◌, inl, inr, Bool, true, false, if◌then◌else◌, List, [], length, get_or, Option, Some, None, refl, sym, ap, ◌∙◌, subst, arith}
use Rattle.std.specs.Prelude.{slice_get, option_map, option_and_then}
use Rattle.std.specs.Option.{is_some, option_map_or}
use Rattle.std.specs.List.{enumerate_from}
use Rattle.std.proofs.lemmas.List.{length-map, same_lists, get_or-map}
use Rattle.std.proofs.lemmas.List.FromFn.{length-enumerate_from, length-map-range_with_len, get_or-map-range_with_len}
use Rattle.std.proofs.lemmas.Option.{slice_get_cases}
use Rattle.pw_base.specs.declared.kinds.Kind.TheVariants.{Program}
use Rattle.pw_tree.specs.Units.{TypedUnit}
use Rattle.pw_tree.specs.WellTypedUnits.{IsWellTyped}
use Rattle.pw_tree.specs.Names.{Project}
use Rattle.pw_tree.specs.Depends.{entry}
use Rattle.pw_module.specs.declared.dep_table.FunRec.{FunRec}
use Rattle.pw_module.specs.declared.kept_row.KeptRow.{KeptRow}
use Rattle.pw_module.specs.declared.kept_row.By.TheVariants.{Entry, Pointer}
use Rattle.pw_code.specs.Items.{size}
use Rattle.pw_code.specs.FunctionCode.{function_words}
use Rattle.pw_place.specs.Symbols.{symbols}
use Rattle.pw_place.specs.Tables.{function_records}
use Rattle.pw_place.specs.Merging.{placed_of}
use Rattle.pw_place.specs.declared.placed.Placed.{Placed}
use Rattle.pw_place.proofs.Enumerated.{get_made}
use Rattle.pw_close.specs.declared.graph.Graph.{Graph}
use Rattle.pw_close.specs.declared.graph.Levels.{Levels}
use Rattle.pw_close.specs.Graphs as graphs
use Rattle.pw_close.specs.Closure.{AreLevels, level_of, parent_of}
use Rattle.pw_agree.specs.Kept.{Keep, IsParent}
use Rattle.pw_image.specs.OneUnit.{project_of, objects_of, own_definition}
use Rattle.pw_image.specs.Nodes.{node_of, ShowsProject}
use Rattle.pw_image.specs.Blanked.{kept_records}
use Rattle.pw_image.specs.Keeping.{have_levels}
use Rattle.pw_image.specs.Rows.{program_name, IsLedTo, IsKeptFor, file_of_row, name_of_row, bytes_of_row, IsRow, keep_of}
use Rattle.pw_image.specs.Reported.{symbol_name, led_by, kept_by, row_of, rows_of}
use Rattle.pw_image.specs.Laws.{RowsAreRows, RowsKeepLevels}
use Rattle.pw_image.proofs.Functions.{bytes_of_function}
use Rattle.pw_image.proofs.Records.{differ}
use Rattle.pw_image.proofs.Nodes.{one_number, kept_alike, levels_alike, parents_alike}
use Rattle.pw_image.proofs.Counts.{records_are_all}
use Rattle.pw_image.proofs.RecordSymbols.{symbol_of_function, record_at}

-- ---- why a function is kept

module _ (g : Graph) (project : Project) (levels : Levels) (shows : ShowsProject g project) (are : AreLevels g levels) where
  led_at_root : (n parent : ℕ) → IsLedTo project n 0 (led_by n 0 parent)
  led_at_root zero parent = refl
  led_at_root (suc i) parent =
      subst (λ b. IsLedTo project (suc i) 0 (if b then Entry else Pointer)) (sym (differ (suc i) 0 (λ e. cc))) (i, refl, refl)

  abbrev parent_or_zero : ℕ → ℕ
  parent_or_zero n = option_map_or (λ p. p) (parent_of levels n) 0

  kept_by_level : (n : ℕ) (o : Option ℕ) → level_of levels n ≡ o →
      IsKeptFor project n (option_map (λ level. record { level = level; by = led_by n level (parent_or_zero n) }) o)
  kept_by_level n None e = λ kept. are.rest n e ((kept_alike g project shows n).1 kept)
  kept_by_level n (Some zero) e = ((levels_alike g project shows n 0).0 (are.level n 0 e), led_at_root n (parent_or_zero n))
  kept_by_level n (Some (suc k)) e =
      let own = are.level n (suc k) e in
      let p = are.parent n k e in
      let number : parent_or_zero n ≡ p.0 = ap (λ (o : Option ℕ). option_map_or (λ m. m) o 0) p.1 in
      let parent : IsParent project (node_of n) k (node_of p.0) = (parents_alike g project shows n k p.0 own).0 p.2 in (
        (levels_alike g project shows n (suc k)).0 own,
        (k, refl, subst (λ m. IsParent project (node_of n) k (node_of m)) (sym number) parent),
      )

  -- The level and the parent of a function say why it is kept.
  kept_for : (n : ℕ) → IsKeptFor project n (kept_by levels n)
  kept_for n = kept_by_level n (level_of levels n) refl

-- ---- the rows

module _ (name : List ℕ) (unit : TypedUnit) (levels : Levels) where
  abbrev placed : Placed
  placed = placed_of Program (objects_of name unit)

  abbrev records : List FunRec
  records = function_records Program (objects_of name unit)

  abbrev rows : List KeptRow
  rows = rows_of program_name placed levels

  abbrev own_row : ℕ → FunRec → KeptRow
  own_row n r = row_of program_name placed levels (n, r)

  row_at : (n : ℕ) → slice_get rows n ≡ option_map (own_row n) (slice_get records n)
  row_at n = get_made (row_of program_name placed levels) records n

  as_many : length rows ≡ suc (length unit.functions)
  as_many =
      length-map (enumerate_from 0 records) (row_of program_name placed levels)
      ∙ length-enumerate_from 0 records ∙ records_are_all name unit

  -- what the row of a record says of its function, but for why it is kept
  record Describes (n : ℕ) (r : FunRec) : Type 0 where
    file_is : option_and_then (λ u. slice_get placed.deps.units u) r.unit ≡ file_of_row name n
    named : name_of_row unit n ≡ Some (symbol_name (symbols Program (objects_of name unit)) r.sym)
    bytes : bytes_of_row unit n ≡ Some r.size

  describes : IsWellTyped unit → (n : ℕ) (r : FunRec) → slice_get records n ≡ Some r → Describes n r
  unfolding size
  describes well zero r h =
      let unit_is : Some None ≡ Some r.unit = ap (option_map (λ (x : FunRec). x.unit)) h in
      let symbol_is : Some 1 ≡ Some r.sym = ap (option_map (λ (x : FunRec). x.sym)) h in
      let number : 1 ≡ r.sym = cc in
      let none : r.unit ≡ None = cc in
      record {
        file_is = ap (option_and_then (λ u. slice_get placed.deps.units u)) none;
        named = ap (λ k. Some (symbol_name (symbols Program (objects_of name unit)) k)) number;
        bytes = ap (option_map (λ (x : FunRec). x.size)) h;
      }
  describes well (suc i) r h =
      let at = record_at name unit i r h in
      let s = symbol_of_function name unit well i at.f at.there in
      subst (Describes (suc i)) at.is record {
        file_is = refl;
        named = ap (option_map (λ f. f.name)) at.there ∙ ap Some (sym s.name_is)
            ∙ ap (λ o. Some (option_map_or (λ t. t.name) (option_and_then (λ t. t) o) [])) (sym s.there);
        bytes = ap (option_map (λ f. 4 * function_words f)) at.there ∙ ap Some (sym (bytes_of_function unit.variables at.f));
      }

  row_by : (g : Graph) → IsWellTyped unit → ShowsProject g (project_of unit) → AreLevels g levels →
      (n : ℕ) (row : KeptRow) (o : Option FunRec) → slice_get records n ≡ o → option_map (own_row n) o ≡ Some row → IsRow name unit n row
  row_by g well shows are n row None there h = cc
  row_by g well shows are n row (Some r) there h =
      let same : own_row n r ≡ row = cc in
      let d = describes well n r there in
      subst (IsRow name unit n) same record {
        «module» = refl;
        file_is = d.file_is;
        name = d.named;
        bytes = d.bytes;
        kept = kept_for g (project_of unit) levels shows are n;
      }

pub rows_are_rows : RowsAreRows
rows_are_rows name unit g levels well shows are all = record {
  all = as_many name unit levels;
  each = λ n row h.
      row_by name unit levels g well shows are n row (slice_get (records name unit levels) n) refl (sym (row_at name unit levels n) ∙ h);
}

-- ---- what the rows keep

still_there : {X Y : Type 0} (f : X → Y) (o : Option X) → is_some (option_map f o) ≡ is_some o
still_there f None = refl
still_there f (Some x) = refl

module _ (name : List ℕ) (unit : TypedUnit) (levels : Levels) where
  abbrev all_records : List FunRec
  all_records = records name unit levels

  abbrev keep : Keep
  keep = keep_of (rows name unit levels)

  -- A definition is kept where its function has a level.
  keeps : (i : ℕ) → i < length unit.functions → keep (own_definition i) ≡ is_some (level_of levels (suc i))
  keeps i within = by (slice_get_cases all_records (suc i)).1
    where
      by : ((r : FunRec) × (suc i < length all_records) × (slice_get all_records (suc i) ≡ Some r) × (get_or all_records (suc i) r ≡ r))
          ⊎ ((length all_records ≤ suc i) × (slice_get all_records (suc i) ≡ None))
          → keep (own_definition i) ≡ is_some (level_of levels (suc i))
      by (inl h) =
          ap (λ o. option_map_or (λ (row : KeptRow). is_some row.kept) o false)
          (row_at name unit levels (suc i) ∙ ap (option_map (own_row name unit levels (suc i))) h.2)
          ∙ still_there _ (level_of levels (suc i))
      by (inr h) = let past = h.0 in absurd (omega (arith, records_are_all name unit))

  abbrev how_many : ℕ
  how_many = length unit.functions

  module _ (g : Graph) (shows : ShowsProject g (project_of unit)) (are : AreLevels g levels) (all : g.funs ≡ suc how_many) where
    -- The entry is a root, so it has a level.
    entry_has_level : (o : Option ℕ) → level_of levels 0 ≡ o → is_some o ≡ true
    entry_has_level (Some k) e = refl
    entry_has_level None e =
        let root = shows.all_roots entry tt in
        absurd (are.rest 0 e (graphs.root (subst (graphs.IsRoot g) (one_number root.0 0 root.1) root.2)))

    level_at : (k : ℕ) (d : Bool) → k < length levels.level.items → get_or (have_levels levels) k d ≡ is_some (level_of levels k)
    level_at k d within = get_or-map (λ level. is_some level) levels.level.items k None d within

    kept_at : (k : ℕ) (d : Bool) → k < suc how_many → get_or (kept_records unit keep) k d ≡ is_some (level_of levels k)
    kept_at zero d within = sym (entry_has_level (level_of levels 0) refl)
    kept_at (suc i) d within =
        get_or-map-range_with_len (λ j. keep (own_definition j)) 0 how_many i i d (omega arith) (omega arith) ∙ keeps i (omega arith)

    kept_are_levels : kept_records unit keep ≡ have_levels levels
    kept_are_levels =
        let few : length (kept_records unit keep) ≡ suc how_many =
        ap suc (length-map-range_with_len (λ j. keep (own_definition j)) 0 how_many) in
        let many : length (have_levels levels) ≡ length levels.level.items = length-map levels.level.items (λ level. is_some level) in
        let of_graph = are.levels_all in
        same_lists (kept_records unit keep) (have_levels levels) (omega arith)
        (λ k d within. kept_at k d (omega arith) ∙ sym (level_at k d (omega arith)))

pub rows_keep_levels : RowsKeepLevels
rows_keep_levels name unit g levels well shows are all = kept_are_levels name unit levels g shows are all
