-- The answers to the goals of `u8_at` in `src/bytes.rt`.
use Rattle.std.proofs.Common.{◌≡◌, ◌∙◌, arith}
use Rattle.pw_elf.proofs.SmallFields.{byte_is_field, no_byte}
use Rattle.pw_elf.proofs.bytes.u8_at.Goals as goal

pub returns-then-bytes-at-clause-value : goal.returns-then-bytes-at-clause-value
returns-then-bytes-at-clause-value c = no_byte c.args.bytes.now c.args.off (omega arith)

pub returns-clause-value : goal.returns-clause-value
returns-clause-value c = byte_is_field c.args.bytes.now c.args.off 0 (omega arith)
