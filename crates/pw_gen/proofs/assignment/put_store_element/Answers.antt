-- A part that gives up leaves the parts before it, and its own first items.
use Rattle.std.proofs.Common.{◌≡◌, [], ◌∷◌, refl}
use Rattle.pw_gen.specs.Steps.StatementPieces.{load_index, store_at}
use Rattle.pw_gen.proofs.Appended.{one_failed}
use Rattle.pw_gen.proofs.assignment.put_store_element.Goals as goal

pub returns-in_err-put_load_index : goal.returns-in_err-put_load_index
returns-in_err-put_load_index c =
    one_failed c.args.to.now.items c.from_residual.result (load_index c.args.frame.now) (store_at c.args.a.now) (load_index c.args.frame.now) c.put_load_index.new.to.items _ refl c.from_residual.ensures.1
    c.in_err-put_load_index.ensures
