-- Each record goes on to what is left, and a record's fault is that of all.
use Rattle.std.proofs.Common.{arith}
use Rattle.std.proofs.lemmas.Result.{err_from_is_err_and}
use Rattle.pw_module.specs.Reading.{many, remaining, root_record_at}
use Rattle.pw_deps.proofs.Loop.{goes_on, is_done, ends}
use Rattle.pw_deps.proofs.repeat.roots.Goals as goal

pub returns-in_err-found-clause-value : goal.returns-in_err-found-clause-value
returns-in_err-found-clause-value c =
    let p = err_from_is_err_and c.from_residual-in_err-found.result c.from_residual-in_err-found.ensures.1 in
    rw (p.1, p.2)
    (ends c.in_err-found.field-0.0 (root_record_at c.args.frame.symbols c.args.frame.total) c.loop-index.roots c.args.count c.loop-index.index (remaining 0 c.loop-index.left.now) (many (root_record_at c.args.frame.symbols c.args.frame.total) 0 c.args.count (remaining 0 c.args.rest.now))
    c.loop-index-test.true c.in_err-found.ensures.value c.loop-index.invariant.read)

pub loop-index-preserved : goal.loop-index-preserved
loop-index-preserved c =
    record {
      read = rw (c.in_ok-push.ensures.ok)
          (goes_on (root_record_at c.args.frame.symbols c.args.frame.total) c.loop-index.roots c.args.count c.loop-index.index (remaining 0 c.loop-index.left.now) c.in_ok-found.found (remaining 0 c.in_ok-found.after.now) (many (root_record_at c.args.frame.symbols c.args.frame.total) 0 c.args.count (remaining 0 c.args.rest.now))
          c.loop-index-test.true c.in_ok-found.ensures.value c.loop-index.invariant.read);
      shorter = omega (arith, c.in_ok-found.ensures.shorter, c.loop-index.invariant.shorter);
    }

pub returns-clause-value : goal.returns-clause-value
returns-clause-value c =
    is_done (root_record_at c.args.frame.symbols c.args.frame.total) c.loop-index.roots c.args.count c.loop-index.index (remaining 0 c.loop-index.left.now) (many (root_record_at c.args.frame.symbols c.args.frame.total) 0 c.args.count (remaining 0 c.args.rest.now))
    c.loop-index-test.false c.loop-index.invariant.read
