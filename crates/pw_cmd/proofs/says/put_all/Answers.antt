-- A call that fails leaves the prefix that was put.
use Rattle.std.proofs.Common.{sym, take, drop}
use Rattle.std.proofs.lemmas.List.{take-append-drop}
use Rattle.std.proofs.lemmas.Result.{err_from_is_err_and}
use Rattle.pw_cmd.proofs.Texts.{broken_at}
use Rattle.pw_cmd.proofs.says.put_all.Goals as goal

pub returns-in_err-put : goal.returns-in_err-put
returns-in_err-put g c =
    let p = err_from_is_err_and c.from_residual.result c.from_residual.ensures.1 in
    let i = c.loop-byte.byte-index in
    let bytes = c.args.bytes.now in
    rw p.1 (broken_at _ (take i bytes) (drop i bytes) _ _ _ (sym (take-append-drop i bytes)) c.loop-byte.invariant c.in_err-put.ensures.err)
