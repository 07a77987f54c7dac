-- The answers to the goals of `a_text_has_one_reading` in `src/laws.rt`.
use Rattle.pw_front.proofs.OneReading.{one_typed_unit, unit_or_fault}
use Rattle.pw_front.proofs.OneFault.{one_fault}
use Rattle.pw_front.proofs.laws.a_text_has_one_reading.Goals as goal

pub returns : goal.returns
returns c = record { one_unit = one_typed_unit; not_both = unit_or_fault; one_fault = one_fault }
