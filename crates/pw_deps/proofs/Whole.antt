-- What the whole answers, by the two laws of the table.
use Rattle.std.proofs.Common.{ℕ, suc, ◌<◌, ◌^◌, List, [], ◌∷◌, get_or, Result, Ok, Err, subst, Fits, w8, arith}
use Rattle.std.specs.Prelude.{IfOk}
use Rattle.pw_module.specs.declared.dep_error.DepError.{DepError}
use Rattle.pw_module.specs.declared.dep_table.DepTable.{DepTable}
use Rattle.pw_module.specs.Answer.{ReadsAs}
use Rattle.pw_module.specs.Reading.{table_at}
use Rattle.pw_base.specs.Bytes.{AreBytes}
use Rattle.pw_module.specs.Laws.{ReadsTable}
use Rattle.pw_module.proofs.Tables.{read_table_is_spelled_so, spelled_table_is_read}

-- each item of a slice of bytes is one
pub bytes_are : (bytes : List ℕ) → ((i : ℕ) → Fits w8 (get_or bytes i 0)) → AreBytes bytes
bytes_are [] fits = tt
bytes_are (b ∷ bytes) fits = (omega (arith, fits 0), bytes_are bytes (λ i. fits (suc i)))

pub is_found : (symbols text : ℕ) (bytes : List ℕ) (r : Result DepTable DepError) → AreBytes bytes →
    ReadsAs {X = DepTable} {Y = DepTable} (λ t. t) r (table_at symbols text bytes) →
    IfOk r (λ t. ReadsTable symbols text bytes t)
is_found symbols text bytes (Ok t) are given = read_table_is_spelled_so symbols text bytes t are given
is_found symbols text bytes (Err e) are given = tt

pub is_only : (symbols text : ℕ) (bytes : List ℕ) (r : Result DepTable DepError) (t : DepTable) → symbols < 2 ^ 32 →
    ReadsTable symbols text bytes t → ReadsAs {X = DepTable} {Y = DepTable} (λ x. x) r (table_at symbols text bytes) →
    ReadsAs {X = DepTable} {Y = DepTable} (λ x. x) r (Ok t)
is_only symbols text bytes r t few reads given = subst (λ (read : Result DepTable DepError). ReadsAs {X = DepTable} {Y = DepTable} (λ x. x) r read) (spelled_table_is_read symbols text bytes t few reads) given
