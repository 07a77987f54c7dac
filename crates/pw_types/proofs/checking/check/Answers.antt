-- What judging the unit answers is what checking it has to answer.
use Rattle.pw_tree.specs.Declarations.{untyped_unit_of}
use Rattle.pw_tree.specs.Units.{unit_of}
use Rattle.pw_types.proofs.Checked.{first_is_first, judged_is_typed, judged_is_well_typed}
use Rattle.pw_types.proofs.checking.check.Goals as goal

pub error_of-requires-clause-first : goal.error_of-requires-clause-first
error_of-requires-clause-first c =
    first_is_first (untyped_unit_of c.args.unit.now) c.in-Err-Fault.fault (rw c.in-Err-Fault.field-0-is at c.in-Err-Fault.ensures)

pub returns-in-Ok-clause-answer : goal.returns-in-Ok-clause-answer
returns-in-Ok-clause-answer c =
    judged_is_typed (untyped_unit_of c.args.unit.now) (unit_of c.in-Ok.typed) c.requires.read c.in-Ok.ensures.0 c.in-Ok.ensures.1

pub returns-in-Ok-clause-well_typed : goal.returns-in-Ok-clause-well_typed
returns-in-Ok-clause-well_typed c =
    judged_is_well_typed (untyped_unit_of c.args.unit.now) (unit_of c.in-Ok.typed) c.requires.read c.in-Ok.ensures.0 c.in-Ok.ensures.1
