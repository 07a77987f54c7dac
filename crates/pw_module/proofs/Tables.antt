-- A table that is read is allowed and spelled so, an allowed table is read from its bytes, and else there is a first fault.
use Rattle.std.proofs.Common.{◌≡◌, ℕ, ◌^◌, ◌<◌, Bool, true, false, cond, List, [], ◌++◌, length, Result, Ok, Err, refl, sym, ap, subst, ◌∙◌, append_assoc, arith, inl, inr}
use Rattle.std.specs.Prelude.{◌⊎◌}
use Rattle.std.specs.List.{flat_map}
use Rattle.std.proofs.lemmas.Bool.{eqb-true}
use Rattle.std.proofs.lemmas.List.{append-nil, nil_from_length}
use Rattle.pw_base.specs.Name.{IsName}
use Rattle.pw_module.specs.declared.dep_error.DepError.{DepError}
use Rattle.pw_module.specs.declared.dep_table.DepTable.{DepTable}
use Rattle.pw_module.specs.Spelling.{number_bytes, sized_string_bytes, function_bytes, root_bytes, type_bytes, head_bytes, table_bytes}
use Rattle.pw_module.specs.Allowed.{IsRootRecord, IsTypeRecord, type_symbol, IsTableOf}
use Rattle.pw_module.specs.Reading.{number_at, many, remaining, unit_record_at, root_record_at, type_record_at, RecordCounts, counts_at, functions_at, records_at, versioned, started, table_at}
use Rattle.pw_base.specs.Bytes.{AreBytes}
use Rattle.pw_module.specs.Laws.{ReadsTable, HasTableFault}
use Rattle.pw_module.proofs.Steps.{bind_ok, ok_is, want_ok, Takes, Takes-then}
use Rattle.pw_module.proofs.Fields.{number_takes, number_again}
use Rattle.pw_module.proofs.Repeats.{many_take, many_again, stays, last, follow_from_all, all_from_follow}
use Rattle.pw_module.proofs.Functions.{functions_take, functions_again}
use Rattle.pw_module.proofs.Records.{is_unit, unit_takes, unit_again, is_root, root_takes, root_again, type_takes, type_again}

-- ---- the counts

-- the bytes of four counts
abbrev counts_bytes : RecordCounts → List ℕ
counts_bytes c = number_bytes c.units ++ (number_bytes c.funs ++ (number_bytes c.roots ++ number_bytes c.types))

record AreCounts (rest : List ℕ) (x : RecordCounts × List ℕ) : Type 0 where
  takes : Takes rest (counts_bytes x.0) x.1
  units : x.0.units < 2 ^ 32
  funs : x.0.funs < 2 ^ 32
  roots : x.0.roots < 2 ^ 32
  types : x.0.types < 2 ^ 32

counts_take : (total : ℕ) (rest : List ℕ) (x : RecordCounts × List ℕ) → AreBytes rest → counts_at total rest ≡ Ok x → AreCounts rest x
unfolding counts_at
counts_take total rest x fits e =
    let a = bind_ok (number_at total rest) _ x e in
    let ta = number_takes total rest a.0 fits a.1 in
    let b = bind_ok (number_at total a.0.1) _ x a.2 in
    let tb = number_takes total a.0.1 b.0 ta.0.rest_fits b.1 in
    let c = bind_ok (number_at total b.0.1) _ x b.2 in
    let tc = number_takes total b.0.1 c.0 tb.0.rest_fits c.1 in
    let d = bind_ok (number_at total c.0.1) _ x c.2 in
    let td = number_takes total c.0.1 d.0 tc.0.rest_fits d.1 in
    let t3 = Takes-then b.0.1 (number_bytes c.0.0) c.0.1 (number_bytes d.0.0) d.0.1 tc.0 td.0 in
    let t2 = Takes-then a.0.1 (number_bytes b.0.0) b.0.1 _ d.0.1 tb.0 t3 in
    let t1 = Takes-then rest (number_bytes a.0.0) a.0.1 _ d.0.1 ta.0 t2 in
    let made : RecordCounts × List ℕ = (record { units = a.0.0; funs = b.0.0; roots = c.0.0; types = d.0.0 }, d.0.1) in
    subst (λ (y : RecordCounts × List ℕ). AreCounts rest y) (ok_is made x d.2) (record { takes = t1; units = ta.1; funs = tb.1; roots = tc.1; types = td.1 })

counts_again : (total : ℕ) (c : RecordCounts) (rest : List ℕ) → c.units < 2 ^ 32 → c.funs < 2 ^ 32 → c.roots < 2 ^ 32 →
    c.types < 2 ^ 32 → counts_at total (counts_bytes c ++ rest) ≡ Ok (c, rest)
unfolding counts_at
counts_again total c rest u f r t =
    let r3 = number_bytes c.types ++ rest in
    let r2 = number_bytes c.roots ++ r3 in
    let r1 = number_bytes c.funs ++ r2 in
    let regrouped : counts_bytes c ++ rest ≡ number_bytes c.units ++ r1 = simp append_assoc in
    ap (counts_at total) regrouped ∙ rw (number_again total c.units r1 u, number_again total c.funs r2 f, number_again total c.roots r3 r, number_again total c.types rest t) refl

-- ---- the records

-- how many records a table has
abbrev counts_of : DepTable → RecordCounts
counts_of t = record { units = length t.units; funs = length t.funs; roots = length t.roots; types = length t.types }

-- what follows a table's version
abbrev body : DepTable → List ℕ
body t = counts_bytes (counts_of t) ++ (flat_map sized_string_bytes t.units ++ (flat_map function_bytes t.funs ++ (flat_map root_bytes t.roots ++ flat_map type_bytes t.types)))

record IsRead (symbols text_size : ℕ) (rest : List ℕ) (x : DepTable × List ℕ) : Type 0 where
  takes : Takes rest (body x.0) x.1
  allowed : IsTableOf symbols text_size x.0

records_take : (symbols text_size total : ℕ) (rest : List ℕ) (x : DepTable × List ℕ) → AreBytes rest →
    records_at symbols text_size total rest ≡ Ok x → IsRead symbols text_size rest x
unfolding records_at
records_take symbols text_size total rest x fits e =
    let a = bind_ok (counts_at total rest) _ x e in
    let ta = counts_take total rest a.0 fits a.1 in
    let n = a.0.0 in
    let b = bind_ok (many (unit_record_at total) 0 n.units (remaining 0 a.0.1)) _ x a.2 in
    let tb = many_take (unit_record_at total) sized_string_bytes is_unit stays (λ _. Unit {0}) (unit_takes total) n.units 0 (remaining 0 a.0.1) b.0 ta.takes.rest_fits b.1 tt in
    let c = bind_ok (functions_at symbols text_size n.units total n.funs b.0.1.rest) _ x b.2 in
    let tc = functions_take symbols text_size n.units total n.funs b.0.1.rest c.0 tb.0.rest_fits c.1 in
    let d = bind_ok (many (root_record_at symbols total) 0 n.roots (remaining 0 c.0.1)) _ x c.2 in
    let td = many_take (root_record_at symbols total) root_bytes (is_root symbols) stays (λ _. Unit {0}) (root_takes symbols total) n.roots 0 (remaining 0 c.0.1) d.0 tc.0.rest_fits d.1 tt in
    let f = bind_ok (many (type_record_at symbols total) 0 n.types (remaining 0 d.0.1.rest)) _ x d.2 in
    let tf = many_take (type_record_at symbols total) type_bytes (IsTypeRecord symbols) type_symbol (λ _. Unit {0}) (type_takes symbols total) n.types 0 (remaining 0 d.0.1.rest) f.0 td.0.rest_fits f.1 tt in
    let t : DepTable = record { version = 1; units = b.0.0; funs = c.0.0; roots = d.0.0; types = f.0.0 } in
    let same : n ≡ counts_of t = rw (tb.1, tc.1, td.1, tf.1) refl in
    let t4 = Takes-then c.0.1 (flat_map root_bytes d.0.0) d.0.1.rest (flat_map type_bytes f.0.0) f.0.1.rest td.0 tf.0 in
    let t3 = Takes-then b.0.1.rest (flat_map function_bytes c.0.0) c.0.1 _ f.0.1.rest tc.0 t4 in
    let t2 = Takes-then a.0.1 (flat_map sized_string_bytes b.0.0) b.0.1.rest _ f.0.1.rest tb.0 t3 in
    let counted : Takes rest (counts_bytes (counts_of t)) a.0.1 = subst (λ (m : RecordCounts). Takes rest (counts_bytes m) a.0.1) same ta.takes in
    let t1 = Takes-then rest (counts_bytes (counts_of t)) a.0.1 _ f.0.1.rest counted t2 in
    let made : DepTable × List ℕ = (t, f.0.1.rest) in
    let allowed : IsTableOf symbols text_size t =
    record {
      version = refl;
      counts = record { units = rw tb.1 ta.units; funs = rw tc.1 ta.funs; roots = rw td.1 ta.roots; types = rw tf.1 ta.types };
      units = all_from_follow IsName b.0.0 0 tb.2;
      funs = rw tb.1 tc.2;
      roots = all_from_follow (IsRootRecord symbols) d.0.0 0 td.2;
      types = tf.2;
    } in
    subst (λ (y : DepTable × List ℕ). IsRead symbols text_size rest y) (ok_is made x f.2) (record { takes = t1; allowed = allowed })

records_again : (symbols text_size total : ℕ) (t : DepTable) → symbols < 2 ^ 32 → IsTableOf symbols text_size t →
    records_at symbols text_size total (body t) ≡ Ok (t, [])
unfolding records_at
records_again symbols text_size total t few is =
    let counts = is.counts in
    let r4 = flat_map type_bytes t.types in
    let r3 = flat_map root_bytes t.roots ++ r4 in
    let r2 = flat_map function_bytes t.funs ++ r3 in
    let r1 = flat_map sized_string_bytes t.units ++ r2 in
    let counted = counts_again total (counts_of t) r1 counts.units counts.funs counts.roots counts.types in
    let units = many_again (unit_record_at total) sized_string_bytes is_unit stays (λ _. Unit {0}) (unit_again total) t.units 0 0 r2 (follow_from_all IsName t.units 0 is.units) in
    let funs = functions_again symbols text_size (length t.units) total t.funs r3 few counts.units is.funs in
    let roots = many_again (root_record_at symbols total) root_bytes (is_root symbols) stays (λ _. Unit {0}) (root_again symbols total few) t.roots 0 0 r4 (follow_from_all (IsRootRecord symbols) t.roots 0 is.roots) in
    let types : many (type_record_at symbols total) 0 (length t.types) (remaining 0 r4) ≡ Ok (t.types, remaining (last type_symbol 0 t.types) []) =
    ap (λ (bytes : List ℕ). many (type_record_at symbols total) 0 (length t.types) (remaining 0 bytes)) (sym (append-nil r4))
    ∙ many_again (type_record_at symbols total) type_bytes (IsTypeRecord symbols) type_symbol (λ _. Unit {0}) (type_again symbols total few) t.types 0 0 [] is.types in
    rw (counted, units, funs, roots, types) (ap (λ (v : ℕ). Ok (record t { version = v }, [])) (sym is.version))

-- ---- the whole

test_held : {A : Type 0} (b : Bool) (r : Result A DepError) (d : DepError) (x : A) → cond b r (Err d) ≡ Ok x → (b ≡ true) × (r ≡ Ok x)
test_held true r d x e = (refl, e)
test_held false r d x e = absurd cc

table_is : (t : DepTable) → table_bytes t ≡ number_bytes t.version ++ body t
unfolding table_bytes head_bytes
table_is t = append_assoc (number_bytes t.version) (counts_bytes (counts_of t)) _

pub read_table_is_spelled_so : (symbols text_size : ℕ) (bytes : List ℕ) (t : DepTable) → AreBytes bytes →
    table_at symbols text_size bytes ≡ Ok t → ReadsTable symbols text_size bytes t
unfolding table_at started versioned
read_table_is_spelled_so symbols text_size bytes t fits e =
    let a = bind_ok (started symbols text_size (length bytes) bytes) _ t e in
    let g = want_ok _ _ a.0.0 t a.2 in
    let v = bind_ok (number_at (length bytes) bytes) _ a.0 a.1 in
    let tv = number_takes (length bytes) bytes v.0 fits v.1 in
    let w = test_held _ _ _ a.0 v.2 in
    let r = records_take symbols text_size (length bytes) v.0.1 a.0 tv.0.rest_fits w.1 in
    let nothing : a.0.1 ≡ [] = nil_from_length a.0.1 (eqb-true _ _ g.0) in
    let version : v.0.0 ≡ a.0.0.version = eqb-true v.0.0 1 w.0 ∙ sym r.allowed.version in
    let parts : bytes ≡ number_bytes a.0.0.version ++ body a.0.0 =
    tv.0.parts ∙ ap (λ (b : List ℕ). number_bytes v.0.0 ++ b) (r.takes.parts ∙ ap (λ (b : List ℕ). body a.0.0 ++ b) nothing ∙ append-nil (body a.0.0))
    ∙ ap (λ (n : ℕ). number_bytes n ++ body a.0.0) version in
    subst (λ (y : DepTable). ReadsTable symbols text_size bytes y) g.1 (record { allowed = r.allowed; spelled = parts ∙ sym (table_is a.0.0) })

pub spelled_table_is_read : (symbols text_size : ℕ) (bytes : List ℕ) (t : DepTable) → symbols < 2 ^ 32 →
    ReadsTable symbols text_size bytes t → table_at symbols text_size bytes ≡ Ok t
unfolding table_at started versioned
spelled_table_is_read symbols text_size bytes t few reads =
    let spelled : bytes ≡ number_bytes 1 ++ body t = reads.spelled ∙ table_is t ∙ ap (λ (n : ℕ). number_bytes n ++ body t) reads.allowed.version in
    let start : number_at (length bytes) bytes ≡ Ok (1, body t) = ap (number_at (length bytes)) spelled ∙ number_again (length bytes) 1 (body t) (omega arith) in
    rw (start, records_again symbols text_size (length bytes) t few reads.allowed) refl

table_or_fault : (symbols text_size : ℕ) (bytes : List ℕ) (r : Result DepTable DepError) → symbols < 2 ^ 32 →
    AreBytes bytes → table_at symbols text_size bytes ≡ r
    → ((t : DepTable) × ReadsTable symbols text_size bytes t) ⊎ ((fault : DepError) × HasTableFault symbols text_size bytes fault)
table_or_fault symbols text_size bytes (Ok t) few fits e = inl (t, read_table_is_spelled_so symbols text_size bytes t fits e)
table_or_fault symbols text_size bytes (Err fault) few fits e =
    inr (fault, record { first = e; none = λ t reads. absurd (let other = spelled_table_is_read symbols text_size bytes t few reads in let never = sym e ∙ other in cc) })

pub table_or_first_fault : (symbols text_size : ℕ) (bytes : List ℕ) → symbols < 2 ^ 32 → AreBytes bytes
    → ((t : DepTable) × ReadsTable symbols text_size bytes t) ⊎ ((fault : DepError) × HasTableFault symbols text_size bytes fault)
table_or_first_fault symbols text_size bytes few fits = table_or_fault symbols text_size bytes (table_at symbols text_size bytes) few fits refl
