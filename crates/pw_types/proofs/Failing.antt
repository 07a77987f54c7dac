-- Where a part refusals at its first fault, so does the whole.
use Rattle.std.proofs.Common.{◌≡◌, List, [], ◌∷◌, ◌++◌, Some, Err, sym, ap, subst}
use Rattle.pw_types.specs.declared.fault.Fault.{Fault}
use Rattle.pw_types.specs.declared.fault.Refusal.{Refusal}
use Rattle.pw_types.specs.declared.fault.Refusal.TheVariants as refusals
use Rattle.pw_types.specs.Faults.{first_of}
use Rattle.pw_types.specs.Steps.Refusals.{Judges, Fails}

first_on_left : (xs ys : List Fault) (f : Fault) → first_of xs ≡ Some f → first_of (xs ++ ys) ≡ Some f
first_on_left [] ys f is = cc
first_on_left (x ∷ xs) ys f is = is

pub fails_on_left : (xs ys : List Fault) (stop : Refusal) → Fails xs stop → Fails (xs ++ ys) stop
fails_on_left xs ys (refusals.Fault f) is = first_on_left xs ys f is
fails_on_left xs ys refusals.NoMemory is = is

pub fails_as : (xs ys : List Fault) (stop : Refusal) → xs ≡ ys → Fails xs stop → Fails ys stop
fails_as xs ys stop same is = subst (λ (zs : List Fault). Fails zs stop) same is

pub fails_after : (xs ys : List Fault) (stop : Refusal) → xs ≡ [] → Fails ys stop → Fails (xs ++ ys) stop
fails_after xs ys stop none is = fails_as ys (xs ++ ys) stop (sym (ap (λ (zs : List Fault). zs ++ ys) none)) is

pub fails_of : {A : Type 0} (xs : List Fault) (P : A → Type 0) (stop : Refusal) → Judges xs P (Err stop) → Fails xs stop
fails_of xs P (refusals.Fault f) is = is
fails_of xs P refusals.NoMemory is = is
