-- The answers to the goals of `a_constant_has_64_bits` in `src/ill_typed.rt`.
use Rattle.pw_tree_tests.proofs.IllTyped.{wide_constant}
use Rattle.pw_tree_tests.proofs.ill_typed.a_constant_has_64_bits.Goals as goal

pub returns : goal.returns
returns c = wide_constant
