-- Fetches of a memory, one after another, as fetches at all of their addresses.
use Rattle.std.proofs.Common.{◌≡◌, ℕ, ◌+◌, List, [], ◌++◌, length, Option, Some, None, sym, ap, ◌∙◌, subst, append_assoc, append-nil, length-append, arith}
use Rattle.pw_mem.specs.States.{MemoryState, counted, Reported, AddsFetches, KeepsFetches}

-- no fetch changes nothing
counted-none : (f : ℕ) → f ≡ counted f 0
counted-none f = omega arith

reported_none : (first : Option (List ℕ)) → Reported first [] first
reported_none None = tt
reported_none (Some list) = ap Some (append-nil list)

pub fetches_none : (state : MemoryState) → AddsFetches [] state state
fetches_none state = record { counts = counted-none state.fetches; reports = reported_none state.fetched }

-- fetches and then others
counted-counted : (f m n : ℕ) → counted (counted f m) n ≡ counted f (m + n)
counted-counted f m n = omega arith

reported_more : (first mid last : Option (List ℕ)) (before behind : List ℕ) → Reported first before mid →
    Reported mid behind last → Reported first (before ++ behind) last
reported_more first mid None before behind h g = tt
reported_more None None (Some list) before behind h g = absurd (cc g)
reported_more (Some xs) None (Some list) before behind h g = absurd (cc g)
reported_more None (Some ys) (Some list) before behind h g = absurd (cc h)
reported_more (Some xs) (Some ys) (Some list) before behind h g =
    let e : xs ++ before ≡ ys = cc h in let d : ys ++ behind ≡ list = cc g in
    ap Some (sym (append_assoc xs before behind) ∙ ap (λ l. l ++ behind) e ∙ d)

pub fetches_more : (before behind : List ℕ) (old mid new : MemoryState) → AddsFetches before old mid →
    AddsFetches behind mid new → AddsFetches (before ++ behind) old new
fetches_more before behind old mid new first later = record {
  counts = later.counts ∙ ap (λ n. counted n (length behind)) first.counts ∙ counted-counted old.fetches (length before) (length behind) ∙ ap (counted old.fetches) (sym (length-append before behind));
  reports = reported_more old.fetched mid.fetched new.fetched before behind first.reports later.reports;
}

-- fetches and then none
pub fetches_kept : (addresses : List ℕ) (old mid new : MemoryState) → AddsFetches addresses old mid → KeepsFetches mid new →
    AddsFetches addresses old new
fetches_kept addresses old mid new fetches kept = record {
  counts = kept.counts ∙ fetches.counts;
  reports = subst (λ list. Reported old.fetched addresses list) (sym kept.reports) fetches.reports;
}
