-- The first text, and then the rest.
use Rattle.std.proofs.Common.{refl}
use Rattle.std.proofs.lemmas.Result.{err_from_is_err_and}
use Rattle.pw_cmd.proofs.Texts.{broken_first, puts_rest}
use Rattle.pw_cmd.proofs.says.put_both.Goals as goal

pub returns-in_err-say : goal.returns-in_err-say
returns-in_err-say g c =
    let p = err_from_is_err_and c.from_residual.result c.from_residual.ensures.1 in
    rw p.1 (broken_first _ _ _ _ _ refl c.in_err-say.ensures)

pub returns : goal.returns
returns g c = puts_rest _ _ _ _ _ _ c.say-2.result refl c.in_ok-say.ensures c.say-2.ensures
