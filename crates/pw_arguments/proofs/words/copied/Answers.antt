-- Each argument is text.
use Rattle.std.proofs.Common.{subst, sym}
use Rattle.std.specs.Prelude.{IsUtf8}
use Rattle.pw_arguments.proofs.Judging.{at_place, bytes_at}
use Rattle.pw_arguments.proofs.words.copied.Goals as goal

pub unreachable-requires : goal.unreachable-requires
unreachable-requires c =
    let not : ¬ IsUtf8 c.as_slice.result.now = c.in-Err.ensures.cases.0 in
    not (subst IsUtf8 (sym c.as_slice.ensures.value) (at_place IsUtf8 _ _ _ _ (bytes_at c.args.arguments.now c.loop-argument.argument-index c.argument-item.result c.loop-argument-test.true c.argument-item.is) c.requires))
