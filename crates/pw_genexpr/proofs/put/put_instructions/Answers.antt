-- An item that is refused leaves the instructions before it.
use Rattle.std.proofs.Common.{◌∙◌}
use Rattle.std.proofs.lemmas.Result.{err_from_is_err_and}
use Rattle.pw_genexpr.proofs.Appending.{first_instructions}
use Rattle.pw_genexpr.proofs.put.put_instructions.Goals as goal

pub returns-in_err-put_item : goal.returns-in_err-put_item
returns-in_err-put_item c =
    let p = err_from_is_err_and c.from_residual.result c.from_residual.ensures.1 in
    rw p.1
    (first_instructions c.args.insts.now c.loop-inst.inst-index c.args.to.now.items c.put_item.new.to.items
    (c.in_err-put_item.ensures.err ∙ c.loop-inst.invariant))
