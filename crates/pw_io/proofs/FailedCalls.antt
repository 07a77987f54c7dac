-- A call of a store in memory that was let fail is a failed read or a failed write of the store.
use Rattle.std.proofs.Common.{◌≡◌, ℕ, List, [], ◌∷◌, ◌++◌, Some, Ok, Err, refl, ap, subst, sym}
use Rattle.pw_io.specs.declared.ports.Asked.TheVariants.{Read, Write}
use Rattle.pw_io.specs.declared.errors.ReadError.TheVariants as no_read
use Rattle.pw_io.specs.declared.errors.WriteError.TheVariants as no_write
use Rattle.pw_io.specs.Faults.{Rises}
use Rattle.pw_io.specs.Store.{Reads, Writes}
use Rattle.pw_io.specs.InMemory.{StoreInMemory, reported_store, Fails}

-- as a read
pub failed_read : (old new : StoreInMemory) (copy name : List ℕ) (limit : ℕ) → copy ≡ name
    → Fails old (Read copy) new (Ok tt) → Reads (reported_store old) name limit (reported_store new) (Err no_read.Failed)
failed_read old new copy name limit same fails =
    subst (λ s. Reads (reported_store old) name limit (reported_store s) (Err no_read.Failed)) (sym fails.0)
    (record { files = refl; calls = ap (λ n. Some (old.calls ++ Read n ∷ [])) same; faults = subst (λ s. Rises old.faults s.faults) fails.0 fails.1 })

-- as a write
pub failed_write : (old new : StoreInMemory) (copy name bytes : List ℕ) → copy ≡ name
    → Fails old (Write copy) new (Ok tt) → Writes (reported_store old) name bytes (reported_store new) (Err no_write.Failed)
failed_write old new copy name bytes same fails =
    subst (λ s. Writes (reported_store old) name bytes (reported_store s) (Err no_write.Failed)) (sym fails.0)
    (record { others = λ other differs. refl; calls = ap (λ n. Some (old.calls ++ Write n ∷ [])) same; faults = subst (λ s. Rises old.faults s.faults) fails.0 fails.1 })
