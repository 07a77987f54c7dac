-- The numbers of variables in the order of an object, as a list.
use Rattle.std.specs.Prelude.{◌≡◌, ℕ, ◌<◌, List, length, slice_index}
use Rattle.pw_tree.specs.declared.tunit.TVar.{TVar}
use Rattle.pw_code.specs.Objects.{number_in_order}

-- The list has the number of each variable.
pub record AreNumbers (xs : List TVar) (numbers : List ℕ) : Type 0 where
  pub each : length numbers ≡ length xs
  pub number : (i : ℕ) → i < length xs → slice_index numbers i ≡ number_in_order xs i
