-- A listed call is a failed write.
use Rattle.pw_io.proofs.FailedCalls.{failed_write}
use Rattle.pw_io.proofs.mem_store.MemStoreStore.write.Goals as goal

pub returns-then-is_listed-clause-writes : goal.returns-then-is_listed-clause-writes
returns-then-is_listed-clause-writes c = failed_write _ _ _ _ c.args.bytes.now c.in_ok-copy.ensures c.in_ok-fail.ensures
