-- The next row starts where this one ends, which does not hold the address.
use Rattle.std.proofs.Common.{◌+◌, ap, arith}
use Rattle.pw_build.proofs.RowSearch.{next_start, none_up_to, none_holds}
use Rattle.pw_build.proofs.extents.row_at.Goals as goal

pub loop-row-preserved : goal.loop-row-preserved
loop-row-preserved c =
    let here = c.loop-row.invariant in
    let next = next_start c.args.rows.now c.loop-row.row-index c.row-item.result c.loop-row-test.true c.row-item.is in (
      ap (λ n. n + 1) here.0,
      omega (arith, here.1, next, c.from.ensures),
      none_up_to c.args.rows.now c.args.at c.loop-row.row-index c.row-item.result c.loop-row.start (c.loop-row.start + c.from.result)
          c.loop-row-test.true c.row-item.is here.1 (ap (λ n. c.loop-row.start + n) c.from.ensures) c.if-contains.ensures.cases here.2,
    )

pub returns : goal.returns
returns c =
    let here = c.loop-row.invariant in
    none_holds _ _ _ _ here.0 c.loop-row.auto.row-index-end c.loop-row-test.false here.2
