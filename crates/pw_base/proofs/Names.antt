-- What reading a name says of the test of names.
use Rattle.std.proofs.Common.{◌≡◌, ℕ, false, List, length, Option, Some, Result, Ok, Err, refl, sym, ◌∙◌, arith}
use Rattle.std.proofs.lemmas.Bool.{false_from_ne_true, false≢true}
use Rattle.pw_base.specs.declared.name.NameError.{NameError}
use Rattle.pw_base.specs.declared.name.NameError.TheVariants.{Empty, TooLong, BadByte}
use Rattle.pw_base.specs.declared.name.NameError.TheVariants as name_errors
use Rattle.pw_base.specs.Name.{IsName, ReadsName}
use Rattle.pw_base.specs.Tests.{is_name, ReadsWhere}
use Rattle.pw_base.proofs.Tests.{name_test_is_right}

-- the test fails where the bytes are no name
pub no_name : (bytes : List ℕ) → (IsName bytes → ⊥) → is_name bytes ≡ false
no_name bytes never = false_from_ne_true (is_name bytes) (λ test. never ((name_test_is_right bytes).0 test))

-- bytes that are refused for another reason than memory are no name
pub refused_name : (bytes : List ℕ) (e : NameError) → ReadsName bytes (Err e) → (e ≡ name_errors.NoMemory → ⊥) → is_name bytes ≡ false
refused_name bytes Empty reads other = no_name bytes (λ is. let some = is.some in omega (arith, reads))
refused_name bytes (TooLong n) reads other = no_name bytes (λ is. let short = is.short in omega (arith, reads.1))
refused_name bytes (BadByte at) reads other = no_name bytes (λ is. false≢true (sym reads.2 ∙ is.good))
refused_name bytes name_errors.NoMemory reads other = absurd (other refl)

-- bytes that are read as a name are one
pub read_name : (bytes name : List ℕ) → ReadsName bytes (Ok name) → ReadsWhere is_name bytes (Ok (Some name))
read_name bytes name reads = (reads.1, (name_test_is_right bytes).1 reads.0)
