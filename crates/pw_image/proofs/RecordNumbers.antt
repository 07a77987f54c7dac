-- The numbers of records: that of a record more, and that all are below how many records there are.
use Rattle.std.proofs.Common.{◌≡◌, ℕ, suc, ◌+◌, ◌<◌, Bool, true, false, if◌then◌else◌, List, [], ◌∷◌, ◌++◌, length, take, get_or, Option, Some, None, refl, sym, ap, ◌∙◌, arith, nat_eq}
use Rattle.std.specs.Option.{option_or}
use Rattle.std.specs.List.{AllByRecursion, filter_map, cons_option}
use Rattle.std.proofs.lemmas.List.{take_more, length-take-le}
use Rattle.pw_module.specs.declared.dep_table.FunRec.{FunRec}
use Rattle.pw_image.specs.Records.{record_from, record_of}

-- ---- a record more

-- What is known of a symbol, or else the number of the record, where it is the symbol's.
abbrev or_number : ℕ → FunRec → (symbol : ℕ) → Option ℕ → Option ℕ
or_number n r symbol known = option_or known (if nat_eq r.sym symbol then Some n else None)

record_from-push : (n : ℕ) (rs : List FunRec) (r : FunRec) (symbol : ℕ) →
    record_from n (rs ++ r ∷ []) symbol ≡ or_number (n + length rs) r symbol (record_from n rs symbol)
record_from-push n [] r symbol = ap (λ k. if nat_eq r.sym symbol then Some k else None) (let e : n ≡ n + 0 = omega arith in e)
record_from-push n (s ∷ rs) r symbol =
    by (nat_eq s.sym symbol) (record_from-push (n + 1) rs r symbol
    ∙ ap (λ k. or_number k r symbol (record_from (n + 1) rs symbol)) (let e : n + 1 + length rs ≡ n + suc (length rs) = omega arith in e))
  where
    by : (b : Bool) → record_from (n + 1) (rs ++ r ∷ []) symbol ≡ or_number (n + suc (length rs)) r symbol (record_from (n + 1) rs symbol)
        → (if b then Some n else record_from (n + 1) (rs ++ r ∷ []) symbol)
        ≡ or_number (n + suc (length rs)) r symbol (if b then Some n else record_from (n + 1) rs symbol)
    by true later = refl
    by false later = later

pub record_of-more : (rs : List FunRec) (i : ℕ) (r : FunRec) (symbol : ℕ) → i < length rs → r ≡ get_or rs i r →
    record_of (take (i + 1) rs) symbol ≡ option_or (record_of (take i rs) symbol) (if nat_eq r.sym symbol then Some i else None)
record_of-more rs i r symbol within is =
    ap (λ l. record_of l symbol) (take_more rs i r within ∙ ap (λ s. take i rs ++ s ∷ []) (sym is))
    ∙ record_from-push 0 (take i rs) r symbol ∙ ap (λ k. or_number k r symbol (record_of (take i rs) symbol))
    (let few = length-take-le i rs (omega arith) in omega (arith, few))

-- ---- below how many there are

record_from-below : (n : ℕ) (rs : List FunRec) (symbol k : ℕ) → record_from n rs symbol ≡ Some k → k < n + length rs
record_from-below n [] symbol k h = cc
record_from-below n (r ∷ rs) symbol k h = by (nat_eq r.sym symbol) h (record_from-below (n + 1) rs symbol k)
  where
    by : (b : Bool) → (if b then Some n else record_from (n + 1) rs symbol) ≡ Some k →
        (record_from (n + 1) rs symbol ≡ Some k → k < n + 1 + length rs) → k < n + suc (length rs)
    by true h later = let e : n ≡ k = cc in omega arith
    by false h later = let below = later h in omega arith

pub numbers_below : (rs : List FunRec) (symbols : List ℕ) → AllByRecursion (λ k. k < length rs) (filter_map (record_of rs) symbols)
numbers_below rs [] = tt
numbers_below rs (symbol ∷ symbols) = by (record_of rs symbol) refl (numbers_below rs symbols)
  where
    by : (o : Option ℕ) → record_of rs symbol ≡ o → AllByRecursion (λ k. k < length rs) (filter_map (record_of rs) symbols) →
        AllByRecursion (λ k. k < length rs) (cons_option o (filter_map (record_of rs) symbols))
    by None h rest = rest
    by (Some k) h rest = (let below = record_from-below 0 rs symbol k h in omega arith, rest)
