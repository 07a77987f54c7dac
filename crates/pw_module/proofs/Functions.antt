-- A function that is read is one that may stand there, spelled so, and such a one is read again.
use Rattle.std.proofs.Common.{◌≡◌, ℕ, ◌+◌, ◌^◌, ◌<◌, ◌≤◌, List, [], ◌∷◌, ◌++◌, length, Ok, refl, ap, subst, ◌∙◌, append_assoc, arith}
use Rattle.std.specs.List.{flat_map}
use Rattle.pw_module.specs.declared.dep_table.FunRec.{FunRec}
use Rattle.pw_module.specs.Spelling.{number_bytes, unit_number, function_bytes}
use Rattle.pw_module.specs.Allowed.{IsFunctionRecord, end_of_function, Follow, AreFunctionRecords}
use Rattle.pw_module.specs.Reading.{number_at, many, Remaining, remaining, dependency_at, unit_from_number, function_fields, bad_index, range_fault, function_fault, function_record_at, end_fault, functions_at}
use Rattle.pw_base.specs.Bytes.{AreBytes}
use Rattle.pw_module.proofs.Steps.{bind_ok, ok_is, fine_ok, index_passed, Takes, Takes-then}
use Rattle.pw_module.proofs.Fields.{number_takes, number_again}
use Rattle.pw_module.proofs.Repeats.{Taken, TakesEach, ReadsEach, many_take, many_again, stays, last, last_ends, follow_from_all}
use Rattle.pw_module.proofs.Numbers.{unit_number-unit_from_number, unit_from_number-unit_number, unit_number_fits, symbols_fit, index_passed_is, index_passes, range_passed, range_passes, end_passed, end_passes}

-- one of the symbols on which a function depends
abbrev fits_field : ℕ → ℕ → Type 0
fits_field _ n = n < 2 ^ 32

dep_takes : (total : ℕ) → TakesEach (dependency_at total) number_bytes fits_field stays
unfolding dependency_at
dep_takes total k p x fits e =
    let a = bind_ok (number_at total p.rest) _ x e in
    let n = number_takes total p.rest a.0 fits a.1 in
    let same = ok_is (a.0.0, remaining p.former a.0.1) x a.2 in
    subst (λ (y : ℕ × Remaining). Taken number_bytes fits_field stays p y) same (record { takes = n.0; right = n.1; leaves = refl })

dep_again : (total : ℕ) → ReadsEach (dependency_at total) number_bytes fits_field stays
unfolding dependency_at
dep_again total k former n rest small = rw (number_again total n rest small) refl

-- the fields of a function that are read
record HasFields (rest : List ℕ) (x : FunRec × List ℕ) : Type 0 where
  takes : Takes rest (function_bytes x.0) x.1
  few : length x.0.deps < 2 ^ 32
  start_fits : x.0.start < 2 ^ 32
  size_fits : x.0.size < 2 ^ 32

fields_take : (total : ℕ) (rest : List ℕ) (x : FunRec × List ℕ) → AreBytes rest → function_fields total rest ≡ Ok x → HasFields rest x
unfolding function_fields function_bytes
fields_take total rest x fits e =
    let a = bind_ok (number_at total rest) _ x e in
    let ta = number_takes total rest a.0 fits a.1 in
    let b = bind_ok (number_at total a.0.1) _ x a.2 in
    let tb = number_takes total a.0.1 b.0 ta.0.rest_fits b.1 in
    let c = bind_ok (number_at total b.0.1) _ x b.2 in
    let tc = number_takes total b.0.1 c.0 tb.0.rest_fits c.1 in
    let d = bind_ok (number_at total c.0.1) _ x c.2 in
    let td = number_takes total c.0.1 d.0 tc.0.rest_fits d.1 in
    let n = bind_ok (number_at total d.0.1) _ x d.2 in
    let tn = number_takes total d.0.1 n.0 td.0.rest_fits n.1 in
    let m = bind_ok (many (dependency_at total) 0 n.0.0 (remaining 0 n.0.1)) _ x n.2 in
    let tm = many_take (dependency_at total) number_bytes fits_field stays (λ _. Unit {0}) (dep_takes total) n.0.0 0 (remaining 0 n.0.1) m.0 tn.0.rest_fits m.1 tt in
    let made : FunRec × List ℕ = (record { sym = a.0.0; unit = unit_from_number b.0.0; start = c.0.0; size = d.0.0; deps = m.0.0 }, m.0.1.rest) in
    let counted : Takes d.0.1 (number_bytes (length m.0.0)) n.0.1 = rw tm.1 tn.0 in
    let with_unit : Takes a.0.1 (number_bytes (unit_number (unit_from_number b.0.0))) b.0.1 = rw (unit_number-unit_from_number b.0.0) tb.0 in
    let t5 = Takes-then d.0.1 (number_bytes (length m.0.0)) n.0.1 (flat_map number_bytes m.0.0) m.0.1.rest counted tm.0 in
    let t4 = Takes-then c.0.1 (number_bytes d.0.0) d.0.1 _ m.0.1.rest td.0 t5 in
    let t3 = Takes-then b.0.1 (number_bytes c.0.0) c.0.1 _ m.0.1.rest tc.0 t4 in
    let t2 = Takes-then a.0.1 (number_bytes (unit_number (unit_from_number b.0.0))) b.0.1 _ m.0.1.rest with_unit t3 in
    let t1 = Takes-then rest (number_bytes a.0.0) a.0.1 _ m.0.1.rest ta.0 t2 in
    subst (λ (y : FunRec × List ℕ). HasFields rest y) (ok_is made x m.2) (record { takes = t1; few = rw tm.1 tn.1; start_fits = tc.1; size_fits = td.1 })

fields_again : (total symbols units former : ℕ) (f : FunRec) (rest : List ℕ) → symbols < 2 ^ 32 → units < 2 ^ 32 →
    IsFunctionRecord symbols units former f → function_fields total (function_bytes f ++ rest) ≡ Ok (f, rest)
unfolding function_fields function_bytes
fields_again total symbols units former f rest few_symbols few_units is =
    let symbol_fits : f.sym < 2 ^ 32 = let below = is.symbol.1 in omega arith in
    let unit_fits = unit_number_fits units f.unit few_units is.of in
    let deps_follow = follow_from_all (λ (n : ℕ). n < 2 ^ 32) f.deps 0 (symbols_fit symbols f.deps few_symbols is.depends) in
    let deps_again = many_again (dependency_at total) number_bytes fits_field stays (λ _. Unit {0}) (dep_again total) f.deps 0 0 rest deps_follow in
    let r4 = number_bytes (length f.deps) ++ (flat_map number_bytes f.deps ++ rest) in
    let r3 = number_bytes f.size ++ r4 in
    let r2 = number_bytes f.start ++ r3 in
    let r1 = number_bytes (unit_number f.unit) ++ r2 in
    let regrouped : function_bytes f ++ rest ≡ number_bytes f.sym ++ r1 = simp append_assoc in
    ap (function_fields total) regrouped
    ∙ rw (
      number_again total f.sym r1 symbol_fits,
      number_again total (unit_number f.unit) r2 unit_fits,
      number_again total f.start r3 is.start_fits,
      number_again total f.size r4 is.size_fits,
      number_again total (length f.deps) (flat_map number_bytes f.deps ++ rest) is.few,
      deps_again,
      unit_from_number-unit_number units f.unit few_units is.of,
    ) refl

-- a function, and where it ends
record IsFunctionWithin (symbols text units former : ℕ) (f : FunRec) : Type 0 where
  is : IsFunctionRecord symbols units former f
  ends : f.start + f.size ≤ text

function_takes : (symbols text units total : ℕ) →
    TakesEach (function_record_at symbols text units total) function_bytes (IsFunctionWithin symbols text units) end_of_function
unfolding function_record_at function_fault
function_takes symbols text units total k p x fits e =
    let a = bind_ok (function_fields total p.rest) _ x e in
    let f = a.0.0 in
    let made : FunRec × Remaining = (f, remaining (f.start + f.size) a.0.1) in
    let g = fine_ok (function_fault symbols text units p.former k f) made x a.2 in
    let parts = index_passed k (bad_index symbols units f) (range_fault text p.former k f) g.0 in
    let index = index_passed_is symbols units f parts.0 in
    let range = range_passed text p.former k f parts.1 in
    let has = fields_take total p.rest a.0 fits a.1 in
    let is : IsFunctionRecord symbols units p.former f =
    record {
      symbol = index.0;
      of = index.1;
      depends = index.2;
      few = has.few;
      starts = range.starts;
      some = range.some;
      whole = range.whole;
      start_fits = has.start_fits;
      size_fits = has.size_fits;
    } in
    subst (λ (y : FunRec × Remaining). Taken function_bytes (IsFunctionWithin symbols text units) end_of_function p y) g.1 (record { takes = has.takes; right = record { is = is; ends = range.ends }; leaves = refl })

function_again : (symbols text units total : ℕ) → symbols < 2 ^ 32 → units < 2 ^ 32 →
    ReadsEach (function_record_at symbols text units total) function_bytes (IsFunctionWithin symbols text units) end_of_function
unfolding function_record_at function_fault
function_again symbols text units total few_symbols few_units k former f rest is =
    let index = index_passes symbols units f is.is.symbol is.is.of is.is.depends in
    let range = range_passes text former k f (record { starts = is.is.starts; some = is.is.some; whole = is.is.whole; ends = is.ends }) in
    rw (fields_again total symbols units former f rest few_symbols few_units is.is, index, range) refl

-- functions that fill the text each end within it
last_at_least : (symbols units text former : ℕ) (fs : List FunRec) →
    Follow (IsFunctionRecord symbols units) end_of_function (λ last. last ≡ text) former fs → former ≤ text
last_at_least symbols units text former [] follow = omega arith
last_at_least symbols units text former (f ∷ fs) follow =
    let later = last_at_least symbols units text (f.start + f.size) fs follow.1 in
    let starts = follow.0.starts in omega arith

within : (symbols text units former : ℕ) (fs : List FunRec) →
    Follow (IsFunctionRecord symbols units) end_of_function (λ last. last ≡ text) former fs →
    Follow (IsFunctionWithin symbols text units) end_of_function (λ last. last ≡ text) former fs
within symbols text units former [] follow = follow
within symbols text units former (f ∷ fs) follow = (record { is = follow.0; ends = last_at_least symbols units text (f.start + f.size) fs follow.1 }, within symbols text units (f.start + f.size) fs follow.1)

without : (symbols text units former : ℕ) (End : ℕ → Type 0) (fs : List FunRec) →
    Follow (IsFunctionWithin symbols text units) end_of_function End former fs →
    Follow (IsFunctionRecord symbols units) end_of_function End former fs
without symbols text units former End [] follow = follow
without symbols text units former End (f ∷ fs) follow = (follow.0.is, without symbols text units (f.start + f.size) End fs follow.1)

-- the end of each function, and so of the last, is within the text
end_within : (symbols text units former : ℕ) (fs : List FunRec) → former ≤ text →
    Follow (IsFunctionWithin symbols text units) end_of_function (λ _. Unit {0}) former fs →
    last end_of_function former fs ≤ text
end_within symbols text units former [] low follow = low
end_within symbols text units former (f ∷ fs) low follow = end_within symbols text units (f.start + f.size) fs follow.0.ends follow.1

pub functions_take : (symbols text units total count : ℕ) (rest : List ℕ) (x : List FunRec × List ℕ) → AreBytes rest →
    functions_at symbols text units total count rest ≡ Ok x
    → Takes rest (flat_map function_bytes x.0) x.1 × (length x.0 ≡ count) × AreFunctionRecords symbols units text x.0
unfolding functions_at
functions_take symbols text units total count rest x fits e =
    let a = bind_ok (many (function_record_at symbols text units total) 0 count (remaining 0 rest)) _ x e in
    let made : List FunRec × List ℕ = (a.0.0, a.0.1.rest) in
    let g = fine_ok (end_fault text count a.0.1.former) made x a.2 in
    let loose = many_take (function_record_at symbols text units total) function_bytes (IsFunctionWithin symbols text units) end_of_function (λ e. e ≡ a.0.1.former) (function_takes symbols text units total) count 0 (remaining 0 rest) a.0 fits a.1 refl in
    let last_is : last end_of_function 0 a.0.0 ≡ a.0.1.former = last_ends (IsFunctionWithin symbols text units) end_of_function (λ e. e ≡ a.0.1.former) 0 a.0.0 loose.2 in
    let full = many_take (function_record_at symbols text units total) function_bytes (IsFunctionWithin symbols text units) end_of_function (λ _. Unit {0}) (function_takes symbols text units total) count 0 (remaining 0 rest) a.0 fits a.1 tt in
    let below = end_within symbols text units 0 a.0.0 (omega arith) full.2 in
    let above = end_passed text count a.0.1.former g.0 in
    let ends : a.0.1.former ≡ text = omega arith in
    let filled = many_take (function_record_at symbols text units total) function_bytes (IsFunctionWithin symbols text units) end_of_function (λ e. e ≡ text) (function_takes symbols text units total) count 0 (remaining 0 rest) a.0 fits a.1 ends in
    subst (λ (y : List FunRec × List ℕ). Takes rest (flat_map function_bytes y.0) y.1 × (length y.0 ≡ count) × AreFunctionRecords symbols units text y.0) g.1
    (filled.0, filled.1, without symbols text units 0 (λ e. e ≡ text) a.0.0 filled.2)

pub functions_again : (symbols text units total : ℕ) (fs : List FunRec) (rest : List ℕ) → symbols < 2 ^ 32 →
    units < 2 ^ 32 → AreFunctionRecords symbols units text fs
    → functions_at symbols text units total (length fs) (flat_map function_bytes fs ++ rest) ≡ Ok (fs, rest)
unfolding functions_at
functions_again symbols text units total fs rest few_symbols few_units are =
    let follow = within symbols text units 0 fs are in
    let again = many_again (function_record_at symbols text units total) function_bytes (IsFunctionWithin symbols text units) end_of_function (λ e. e ≡ text) (function_again symbols text units total few_symbols few_units) fs 0 0 rest follow in
    let ends = last_ends (IsFunctionWithin symbols text units) end_of_function (λ e. e ≡ text) 0 fs follow in
    let no_fault = end_passes text (length fs) (last end_of_function 0 fs) ends in rw (again, no_fault) refl
