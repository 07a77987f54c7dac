-- What judging a phrase answers: a value where it has no fault, else exactly its first fault.
use Rattle.std.specs.Prelude.{◌≡◌, List, [], Some, Result, Ok, Err, ⊤}
use Rattle.pw_types.specs.declared.fault.Fault.{Fault}
use Rattle.pw_types.specs.declared.fault.Refusal.{Refusal}
use Rattle.pw_types.specs.declared.fault.Refusal.TheVariants as refusals
use Rattle.pw_types.specs.Faults.{first_of}

-- exactly the first fault; out of memory says nothing
abbrev pub Fails : List Fault → Refusal → Type 0
Fails faults (refusals.Fault f) = first_of faults ≡ Some f
Fails faults refusals.NoMemory = ⊤

-- a value that means what it should, where there is no fault; or exactly the first fault; out of memory says nothing
abbrev pub Judges : {A : Type 0} → List Fault → (A → Type 0) → Result A Refusal → Type 0
Judges faults Means (Ok a) = (faults ≡ []) × Means a
Judges faults Means (Err (refusals.Fault f)) = first_of faults ≡ Some f
Judges faults Means (Err refusals.NoMemory) = ⊤
