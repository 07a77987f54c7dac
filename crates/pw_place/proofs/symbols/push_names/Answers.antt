-- The symbol of one more name is appended.
use Rattle.std.proofs.Common.{◌∙◌, [], ◌∷◌, ◌++◌, Some, true}
use Rattle.pw_place.specs.Steps.ExternalSymbols.{symbol_of_name}
use Rattle.pw_place.proofs.MappedItems.{mapped_step}
use Rattle.pw_place.proofs.symbols.push_names.Goals as goal

pub loop-number-preserved : goal.loop-number-preserved
loop-number-preserved c =
    mapped_step (λ n. Some (symbol_of_name c.args.kinds.now n)) c.args.names.now c.loop-number.number c.index-names-number.result
    _ _ _ c.loop-number-test.true c.index-names-number.is c.loop-number.invariant
    (c.in_ok-push.ensures.ok
    ∙ (λ i. c.loop-number.to
    ++ Some (record { name = c.in_ok-copy.ensures i; global = true; kind = c.kind_at.ensures i; text = c.in_ok-copy-2.ensures i }) ∷ []))
