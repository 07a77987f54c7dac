-- Writes to a sink, one after another, as one write of all their bytes.
use Rattle.std.proofs.Common.{◌≡◌, ℕ, List, [], ◌++◌, Option, Some, None, refl, ap, append_assoc, append-nil}
use Rattle.std.specs.Prelude.{option_map}
use Rattle.pw_io.specs.Sink.{Holds, SinkState, with_bytes, all_flushed, wrote, flushed_all}

-- to write nothing changes nothing
pub wrote_nothing : (s : SinkState) → wrote [] s ≡ s
wrote_nothing s = ap (λ holds. record { holds = holds; faults = s.faults }) (nothing s.holds)
  where
    nothing : (holds : Option Holds) → option_map (with_bytes []) holds ≡ holds
    nothing None = refl
    nothing (Some h) = ap (λ bytes. Some (record { written = bytes; flushed = h.flushed })) (append-nil h.written)

-- to write two texts in turn is to write them as one
pub wrote_wrote : (first second : List ℕ) (s : SinkState) → wrote second (wrote first s) ≡ wrote (first ++ second) s
wrote_wrote first second s = ap (λ holds. record { holds = holds; faults = s.faults }) (twice s.holds)
  where
    twice : (holds : Option Holds)
        → option_map (with_bytes second) (option_map (with_bytes first) holds) ≡ option_map (with_bytes (first ++ second)) holds
    twice None = refl
    twice (Some h) = ap (λ bytes. Some (record { written = bytes; flushed = h.flushed })) (append_assoc h.written first second)

-- to flush twice is to flush once
pub flushed_all_twice : (s : SinkState) → flushed_all (flushed_all s) ≡ flushed_all s
flushed_all_twice s = ap (λ holds. record { holds = holds; faults = s.faults }) (twice s.holds)
  where
    twice : (holds : Option Holds) → option_map all_flushed (option_map all_flushed holds) ≡ option_map all_flushed holds
    twice None = refl
    twice (Some h) = refl
