-- The answers to the goals of `put_u8` in `src/bytes.rt`.
use Rattle.std.proofs.Common.{ℕ, List, ◌∙◌, ◌++◌, ap, arith}
use Rattle.pw_elf.proofs.SmallFields.{byte_is_written}
use Rattle.pw_elf.proofs.bytes.put_u8.Goals as goal

pub returns : goal.returns
returns c = record { ok = c.in_ok-extend_from_slice.ensures.items ∙ ap (λ (bytes : List ℕ). c.args.to.now.items ++ bytes) (byte_is_written c.args.n (omega arith)); err = tt }
