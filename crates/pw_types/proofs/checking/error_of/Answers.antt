-- The fault stands at a token of the unit.
use Rattle.std.proofs.Common.{◌<◌, ◌^◌, length, ap, arith}
use Rattle.pw_tree.specs.Declarations.{untyped_unit_of}
use Rattle.pw_types.proofs.FirstFault.{within}
use Rattle.pw_types.proofs.checking.error_of.Goals as goal

pub offset_bounds-lines-fault : goal.offset_bounds-lines-fault
offset_bounds-lines-fault c =
    let here : c.args.fault.at < length c.args.unit.now.lines = within (untyped_unit_of c.args.unit.now) c.args.fault c.requires.parsed c.requires.first in
    let few : length c.args.unit.now.lines < 2 ^ 32 = c.requires.parsed.few in
    omega arith

pub bounds-lines-fault : goal.bounds-lines-fault
bounds-lines-fault c =
    let here : c.args.fault.at < length c.args.unit.now.lines = within (untyped_unit_of c.args.unit.now) c.args.fault c.requires.parsed c.requires.first in
    omega (arith, ap length c.as_slice-lines.ensures)

pub overflow_cast-result : goal.overflow_cast-result
overflow_cast-result c =
    let here : c.args.fault.at < length c.args.unit.now.lines = within (untyped_unit_of c.args.unit.now) c.args.fault c.requires.parsed c.requires.first in
    let few : length c.args.unit.now.lines < 2 ^ 32 = c.requires.parsed.few in
    omega arith
