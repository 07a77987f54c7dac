-- What a call that reads answered, against the definition of what is read: equal, unless memory ran out.
use Rattle.std.specs.Prelude.{◌≡◌, Result, Ok, Err}
use Rattle.pw_module.specs.declared.dep_error.DepError.{DepError}
use Rattle.pw_module.specs.declared.dep_error.DepError.TheVariants.{Short, Version, BadName, BadIndex, BadRange, Overlap, BadType, Trailing, NoMemory}

-- the error is the one that a definition reads; out of memory says nothing
abbrev pub FailsAs : {Y : Type 0} → DepError → Result Y DepError → Type 0
FailsAs (Short at) read = read ≡ Err (Short at)
FailsAs (Version n) read = read ≡ Err (Version n)
FailsAs (BadName unit) read = read ≡ Err (BadName unit)
FailsAs (BadIndex record_ n) read = read ≡ Err (BadIndex record_ n)
FailsAs (BadRange record_) read = read ≡ Err (BadRange record_)
FailsAs (Overlap record_) read = read ≡ Err (Overlap record_)
FailsAs (BadType record_) read = read ≡ Err (BadType record_)
FailsAs (Trailing at) read = read ≡ Err (Trailing at)
FailsAs NoMemory read = Unit {0}

-- what a call answered, seen by a view, is what a definition reads
abbrev pub ReadsAs : {X Y : Type 0} → (X → Y) → Result X DepError → Result Y DepError → Type 0
ReadsAs view (Ok x) read = read ≡ Ok (view x)
ReadsAs view (Err e) read = FailsAs e read
