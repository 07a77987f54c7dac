-- The laws that each stage obeys which commands are made of.
use Rattle.std.proofs.Common.{◌≡◌, ℕ, List, [], ◌∷◌, Option, Some, None, Ok, Err, refl, ap, inl}
use Rattle.pw_io.specs.declared.ports.Asked.TheVariants.{Read}
use Rattle.pw_io.specs.declared.errors.ReadError.TheVariants as stores
use Rattle.pw_tree.specs.Units.{TypedUnit}
use Rattle.pw_cmd.specs.declared.fault.FrontFault.{FrontFault}
use Rattle.pw_cmd.specs.Faults.{fault_of}
use Rattle.pw_hart.specs.Outside.{Outside}
use Rattle.pw_build.specs.declared.image_error.ImageError.TheVariants as images
use Rattle.pw_cmd.specs.declared.words.CommandError.TheVariants as words
use Rattle.pw_cmd.specs.Primitives.{JudgesWords, stop_of_words, judges, ReadsFile, stop_of_read, reads, Compiles, stop_of_fault, stop_of_front, compiles, BuildsImage, stop_of_image, builds}
use Rattle.pw_cmd.specs.Laws.{Obeys, NoneFailed, FailuresStop, LeavesAll, OnlyLooks, RefusesCleanly, IsRefusal, MakesFirst, MakesCalls}
use Rattle.pw_cmd.proofs.Composition.{Stays, obeys_calls, stays_failures, stays_looks, stays_calls, no_calls, makes_none}

-- ---- stages that leave the outside as it is

judges_stays : (asked : List (List ℕ)) → Stays (JudgesWords asked) stop_of_words
judges_stays asked = record {
  given = λ old new value s. s.1;
  fails = λ old new error s. s.1;
  refuses = refuses;
}
  where
    refuses : (error : _) → IsRefusal (stop_of_words error)
    refuses words.NoCommand = tt
    refuses words.NoMemory = tt

compiles_stays : (number : ℕ) (text : List ℕ) → Stays (Compiles text) (stop_of_front number)
compiles_stays number text = record {
  given = λ old new unit s. s.1;
  fails = λ old new error s. s.1;
  refuses = λ error. refuses (fault_of error);
}
  where
    refuses : (fault : Option FrontFault) → IsRefusal (stop_of_fault number fault)
    refuses (Some fault) = tt
    refuses None = tt

pub judges_failures : (asked : List (List ℕ)) → Obeys FailuresStop (judges asked)
judges_failures asked = stays_failures (JudgesWords asked) stop_of_words (judges_stays asked)

pub judges_looks : (asked : List (List ℕ)) → Obeys OnlyLooks (judges asked)
judges_looks asked = stays_looks (JudgesWords asked) stop_of_words (judges_stays asked)

pub compiles_failures : (number : ℕ) (text : List ℕ) → Obeys FailuresStop (compiles number text)
compiles_failures number text = stays_failures (Compiles text) (stop_of_front number) (compiles_stays number text)

pub compiles_looks : (number : ℕ) (text : List ℕ) → Obeys OnlyLooks (compiles number text)
compiles_looks number text = stays_looks (Compiles text) (stop_of_front number) (compiles_stays number text)

pub compiles_calls : (number : ℕ) (text : List ℕ) → Obeys (MakesCalls []) (compiles number text)
compiles_calls number text = stays_calls (Compiles text) (stop_of_front number) (compiles_stays number text)

-- ---- a file

pub reads_failures : (number : ℕ) (file : List ℕ) → Obeys FailuresStop (reads number file)
reads_failures number file = obeys_calls FailuresStop (ReadsFile file) (stop_of_read number) value_law fails
  where
    same : (old new : Outside) → new.store.faults ≡ old.store.faults → new ≡ record old { store = new.store } → NoneFailed old new
    same old new faults rest = record {
      store = faults;
      input = ap (λ o. o.input.faults) rest;
      out = ap (λ o. o.out.faults) rest;
      messages = ap (λ o. o.messages.faults) rest;
    }

    value_law : (old new : Outside) (text : _) → ReadsFile file old new (Ok text) → NoneFailed old new
    value_law old new text s = same old new (ap (λ t. t.faults) s.0.0) s.1

    fails : (old new : Outside) (error : _) → ReadsFile file old new (Err error) → FailuresStop old new (Some (stop_of_read number error))
    fails old new stores.Failed s = record {
      failed = inl (s.0.faults, ap (λ o. o.input.faults) s.1);
      out = ap (λ o. o.out.faults) s.1;
      messages = ap (λ o. o.messages.faults) s.1;
    }
    fails old new (stores.TooLong limit) s = same old new (ap (λ t. t.faults) s.0.0) s.1
    fails old new stores.NoMemory s = same old new (ap (λ t. t.faults) s.0) s.1

pub reads_looks : (number : ℕ) (file : List ℕ) → Obeys OnlyLooks (reads number file)
reads_looks number file = obeys_calls OnlyLooks (ReadsFile file) (stop_of_read number) value_law fails
  where
    same : (old new : Outside) → new.store.files ≡ old.store.files → new ≡ record old { store = new.store } → LeavesAll old new
    same old new files rest = record {
      files = files;
      input = ap (λ o. o.input) rest;
      out = ap (λ o. o.out) rest;
      memory = ap (λ o. o.memory) rest;
    }

    value_law : (old new : Outside) (text : _) → ReadsFile file old new (Ok text) → LeavesAll old new
    value_law old new text s = same old new (ap (λ t. t.files) s.0.0) s.1

    fails : (old new : Outside) (error : _) → ReadsFile file old new (Err error) → LeavesAll old new
    fails old new stores.Failed s = same old new s.0.files s.1
    fails old new (stores.TooLong limit) s = same old new (ap (λ t. t.files) s.0.0) s.1
    fails old new stores.NoMemory s = same old new (ap (λ t. t.files) s.0) s.1

pub reads_calls : (number : ℕ) (file : List ℕ) → Obeys (MakesCalls (Read file ∷ [])) (reads number file)
reads_calls number file =
    obeys_calls (MakesCalls (Read file ∷ [])) (ReadsFile file) (stop_of_read number) (λ old new text s. ap (λ t. t.calls) s.0.0) fails
  where
    fails : (old new : Outside) (error : _) → ReadsFile file old new (Err error) → MakesFirst (Read file ∷ []) old.store new.store
    fails old new stores.Failed s = record { made = Read file ∷ []; rest = []; whole = refl; calls = s.0.calls }
    fails old new (stores.TooLong limit) s = record { made = Read file ∷ []; rest = []; whole = refl; calls = ap (λ t. t.calls) s.0.0 }
    fails old new stores.NoMemory s = makes_none (Read file ∷ []) old.store new.store (ap (λ t. t.calls) s.0)

-- ---- the image

builds_none : (old new : Outside) → new ≡ record old { memory = new.memory } → NoneFailed old new
builds_none old new rest = record {
  store = ap (λ o. o.store.faults) rest;
  input = ap (λ o. o.input.faults) rest;
  out = ap (λ o. o.out.faults) rest;
  messages = ap (λ o. o.messages.faults) rest;
}

pub builds_failures : (file : List ℕ) (unit : TypedUnit) → Obeys FailuresStop (builds file unit)
builds_failures file unit =
    obeys_calls FailuresStop (BuildsImage file unit) stop_of_image (λ old new rows s. builds_none old new s.1) fails
  where
    fails : (old new : Outside) (error : _) → BuildsImage file unit old new (Err error) → FailuresStop old new (Some (stop_of_image error))
    fails old new (images.Link fault) s = builds_none old new s.1
    fails old new (images.Unbound name) s = builds_none old new s.1
    fails old new images.NoMemory s = builds_none old new s.1

pub builds_cleanly : (file : List ℕ) (unit : TypedUnit) → Obeys RefusesCleanly (builds file unit)
builds_cleanly file unit = obeys_calls RefusesCleanly (BuildsImage file unit) stop_of_image (λ old new rows s. tt) fails
  where
    same : (old new : Outside) → new.memory ≡ old.memory → new ≡ record old { memory = new.memory } → LeavesAll old new
    same old new memory rest = record {
      files = ap (λ o. o.store.files) rest;
      input = ap (λ o. o.input) rest;
      out = ap (λ o. o.out) rest;
      memory = memory;
    }

    fails : (old new : Outside) (error : _) → BuildsImage file unit old new (Err error) →
        RefusesCleanly old new (Some (stop_of_image error))
    fails old new (images.Link fault) s = same old new s.0.1 s.1
    fails old new (images.Unbound name) s = same old new s.0.2 s.1
    fails old new images.NoMemory s = same old new s.0 s.1

pub builds_calls : (file : List ℕ) (unit : TypedUnit) → Obeys (MakesCalls []) (builds file unit)
builds_calls file unit =
    obeys_calls (MakesCalls []) (BuildsImage file unit) stop_of_image
    (λ old new rows s. no_calls old.store new.store (ap (λ o. o.store.calls) s.1))
    (λ old new error s. makes_none [] old.store new.store (ap (λ o. o.store.calls) s.1))
