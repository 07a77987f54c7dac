-- The answers to the goals of `ident_at` in `src/bytes.rt`.
use Rattle.std.proofs.Common.{◌≡◌, ◌-◌, ℕ, List, Some, take, drop, ◌∙◌, ap, arith}
use Rattle.pw_elf.proofs.SmallFields.{bytes_there, bytes_not_there}
use Rattle.pw_elf.proofs.bytes.ident_at.Goals as goal

pub returns-in_err-end-clause-value : goal.returns-in_err-end-clause-value
returns-in_err-end-clause-value c = c.from_residual.ensures ∙ bytes_not_there 16 c.args.off c.args.bytes.now (omega (arith, c.in_err-end.ensures))

pub returns-then-bytes-end-clause-value : goal.returns-then-bytes-end-clause-value
returns-then-bytes-end-clause-value c = bytes_not_there 16 c.args.off c.args.bytes.now (omega (arith, c.in_ok-end.ensures))

pub returns-clause-value : goal.returns-clause-value
returns-clause-value c =
    let end_is = c.in_ok-end.ensures.1 in
    let width : c.in_ok-end.end - c.args.off ≡ 16 = omega (arith, end_is) in
    let copied : c.copy_from_slice.new.self ≡ take 16 (drop c.args.off c.args.bytes.now) = c.copy_from_slice.ensures.after ∙ ap (λ (n : ℕ). take n (drop c.args.off c.args.bytes.now)) width in
    ap (λ (bytes : List ℕ). Some bytes) copied ∙ bytes_there 16 c.args.off c.args.bytes.now (omega (arith, end_is))
