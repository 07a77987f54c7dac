-- What holds each time a loop of `put_instructions` in `src/put.rt` begins an iteration.
use Rattle.std.proofs.Common.{◌≡◌, ◌++◌, map, take}
use Rattle.pw_code.specs.Items.{instruction, items}
use Rattle.pw_genexpr.proofs.put.put_instructions.Given as goal

abbrev pub invariant-loop-inst : goal.invariant-loop-inst
invariant-loop-inst l = l.to.items ≡ l.fn.to.items ++ items (map instruction (take l.inst-index l.insts))
