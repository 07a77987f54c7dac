-- One more record has its number.
use Rattle.std.proofs.Common.{arith}
use Rattle.std.proofs.lemmas.Bool.Decides.{nat_tests}
use Rattle.std.proofs.lemmas.Grind.{common_steps}
use Rattle.pw_image.proofs.RecordNumbers.{record_of-more}
use Rattle.pw_image.proofs.graph.number_records.Goals as goal

pub loop-number-preserved : goal.loop-number-preserved
loop-number-preserved c =
    let r = c.index-records-number in
    λ symbol. grind (
      arith,
      common_steps,
      nat_tests,
      record_of-more c.args.records.now c.loop-number.number r.result symbol c.loop-number-test.true r.is,
      c.loop-number.invariant symbol,
      c.loop-number.invariant r.result.sym,
    )
