-- Calls on a store, one after another, as one list of calls.
use Rattle.std.proofs.Common.{◌≡◌, List, [], ◌∷◌, ◌++◌, Option, Some, None, refl, ap, append_assoc, append-nil}
use Rattle.std.specs.Prelude.{option_map}
use Rattle.pw_io.specs.declared.ports.Asked.{Asked}
use Rattle.pw_io.specs.Store.{StoreState, called, called_all}

-- no call changes nothing
pub called_all_none : (s : StoreState) → called_all [] s ≡ s
called_all_none s = ap (λ calls. record { files = s.files; calls = calls; faults = s.faults }) (none s.calls)
  where
    none : (calls : Option (List Asked)) → option_map (λ made. made ++ []) calls ≡ calls
    none None = refl
    none (Some made) = ap Some (append-nil made)

-- two lists of calls in turn are one list
pub called_all-called_all : (first second : List Asked) (s : StoreState)
    → called_all second (called_all first s) ≡ called_all (first ++ second) s
called_all-called_all first second s = ap (λ calls. record { files = s.files; calls = calls; faults = s.faults }) (twice s.calls)
  where
    twice : (calls : Option (List Asked))
        → option_map (λ made. made ++ second) (option_map (λ made. made ++ first) calls) ≡ option_map (λ made. made ++ (first ++ second)) calls
    twice None = refl
    twice (Some made) = ap Some (append_assoc made first second)

-- one more call at the end of a list of calls
pub called-called_all : (asked : Asked) (made : List Asked) (s : StoreState)
    → called asked (called_all made s) ≡ called_all (made ++ asked ∷ []) s
called-called_all asked made s = called_all-called_all made (asked ∷ []) s
