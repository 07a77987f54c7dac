-- The answers to the goals of `put_u64` in `src/write.rt`.
use Rattle.std.proofs.Common.{ℕ, List, ◌∙◌, ◌++◌, ap}
use Rattle.pw_wire.proofs.Orders.{bytes_are_field}
use Rattle.pw_wire.proofs.write.put_u64.Goals as goal

pub returns-clause-ok : goal.returns-clause-ok
returns-clause-ok c = c.in_ok-extend_from_slice.ensures.items ∙ ap (λ (bytes : List ℕ). c.args.to.now.items ++ bytes) (c.write_u64.ensures ∙ bytes_are_field 8 c.args.n)
