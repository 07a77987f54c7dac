-- A listed call and a missing file are failed reads.
use Rattle.pw_io.proofs.FailedCalls.{failed_read}
use Rattle.pw_io.proofs.mem_store.MemStoreStore.read.Goals as goal

pub returns-then-is_listed-clause-reads : goal.returns-then-is_listed-clause-reads
returns-then-is_listed-clause-reads c = failed_read _ _ _ _ c.args.limit c.in_ok-copy.ensures c.in_ok-fail.ensures

pub returns-in_default-clause-reads : goal.returns-in_default-clause-reads
returns-in_default-clause-reads c = failed_read _ _ _ _ c.args.limit c.in_ok-copy.ensures c.in_ok-fail-2.ensures
