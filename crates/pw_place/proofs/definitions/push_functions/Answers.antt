-- The symbol of one more function is appended.
use Rattle.std.proofs.Common.{◌∙◌, [], ◌∷◌, ◌++◌, ap, length, refl}
use Rattle.std.specs.Prelude.{slice_get}
use Rattle.std.proofs.lemmas.Option.{slice_get_read}
use Rattle.pw_place.specs.Symbols.{function_symbol}
use Rattle.pw_place.proofs.MappedItems.{mapped_step}
use Rattle.pw_place.proofs.definitions.push_functions.Goals as goal

pub function_symbol-requires : goal.function_symbol-requires
function_symbol-requires c =
    ap (λ fs. slice_get fs c.loop-i.i) c.requires
    ∙ slice_get_read c.args.functions.now (length c.args.functions.now) c.loop-i.i c.index-functions-i.result refl c.loop-i-test.true c.index-functions-i.is

pub loop-i-preserved : goal.loop-i-preserved
loop-i-preserved c =
    let places = c.args.places.now in
    mapped_step (function_symbol places.kind places.objects.now c.args.unit) c.args.functions.now c.loop-i.i c.index-functions-i.result
    _ _ _ c.loop-i-test.true c.index-functions-i.is c.loop-i.invariant
    (c.in_ok-push.ensures.ok ∙ ap (λ s. c.loop-i.to ++ s ∷ []) c.in_ok-function_symbol.ensures)
