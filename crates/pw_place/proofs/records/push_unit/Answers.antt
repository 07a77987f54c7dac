-- The record of one more function is appended.
use Rattle.std.proofs.Common.{◌∙◌, [], ◌∷◌, ◌++◌, ap, length, refl}
use Rattle.std.specs.Prelude.{slice_get}
use Rattle.std.proofs.lemmas.Option.{slice_get_read}
use Rattle.pw_place.specs.Tables.{function_record}
use Rattle.pw_place.specs.Steps.PlacedFunctions.{HasPlacedDependencies}
use Rattle.pw_place.proofs.MappedItems.{mapped_step}
use Rattle.pw_place.proofs.Numbered.{next_of_all}
use Rattle.pw_place.proofs.records.push_unit.Goals as goal

pub function_record-requires-clause-function : goal.function_record-requires-clause-function
function_record-requires-clause-function c =
    ap (λ fs. slice_get fs c.loop-i.i) c.requires.functions
    ∙ slice_get_read c.args.functions.now (length c.args.functions.now) c.loop-i.i c.index-functions-i.result refl c.loop-i-test.true c.index-functions-i.is

pub function_record-requires-clause-dependencies : goal.function_record-requires-clause-dependencies
function_record-requires-clause-dependencies c =
    (next_of_all (HasPlacedDependencies c.args.numbers.now.places.now.objects.now c.args.unit) c.args.functions.now c.loop-i.i
    c.index-functions-i.result c.loop-i-test.true c.index-functions-i.is c.loop-i.invariant.left).0

pub loop-i-preserved : goal.loop-i-preserved
loop-i-preserved c =
    let places = c.args.numbers.now.places.now in
    record {
      made = mapped_step (function_record places.kind places.objects.now c.args.unit) c.args.functions.now c.loop-i.i c.index-functions-i.result
          _ _ _ c.loop-i-test.true c.index-functions-i.is c.loop-i.invariant.made
          (c.in_ok-push.ensures.ok ∙ ap (λ r. c.loop-i.to ++ r ∷ []) c.in_ok-function_record.ensures);
      left = (next_of_all (HasPlacedDependencies places.objects.now c.args.unit) c.args.functions.now c.loop-i.i c.index-functions-i.result
          c.loop-i-test.true c.index-functions-i.is c.loop-i.invariant.left).1;
    }
