-- The symbol of one more variable is appended.
use Rattle.std.proofs.Common.{◌∙◌, [], ◌∷◌, ◌++◌, ap, length, refl}
use Rattle.std.specs.Prelude.{slice_get}
use Rattle.std.proofs.lemmas.Option.{slice_get_read}
use Rattle.pw_tree.specs.Types.{IsValueType, IsArraySize}
use Rattle.pw_place.specs.Symbols.{variable_symbol}
use Rattle.pw_place.proofs.MappedItems.{mapped_step}
use Rattle.pw_place.proofs.Numbered.{next_of_all}
use Rattle.pw_place.proofs.definitions.push_variables.Goals as goal

pub variable_symbol-requires-clause-variable : goal.variable_symbol-requires-clause-variable
variable_symbol-requires-clause-variable c =
    ap (λ xs. slice_get xs c.loop-i.i) c.requires.variables
    ∙ slice_get_read c.args.variables.now (length c.args.variables.now) c.loop-i.i c.index-variables-i.result refl c.loop-i-test.true c.index-variables-i.is

pub variable_symbol-requires-clause-valued : goal.variable_symbol-requires-clause-valued
variable_symbol-requires-clause-valued c =
    (next_of_all (λ x. IsValueType x.ty) c.args.variables.now c.loop-i.i c.index-variables-i.result c.loop-i-test.true c.index-variables-i.is c.loop-i.invariant.valued).0

pub variable_symbol-requires-clause-sized : goal.variable_symbol-requires-clause-sized
variable_symbol-requires-clause-sized c =
    (next_of_all (λ x. IsArraySize x.count) c.args.variables.now c.loop-i.i c.index-variables-i.result c.loop-i-test.true c.index-variables-i.is c.loop-i.invariant.sized).0

pub loop-i-preserved : goal.loop-i-preserved
loop-i-preserved c =
    let places = c.args.places.now in
    record {
      made = mapped_step (variable_symbol places.kind places.objects.now c.args.unit) c.args.variables.now c.loop-i.i c.index-variables-i.result
          _ _ _ c.loop-i-test.true c.index-variables-i.is c.loop-i.invariant.made
          (c.in_ok-push.ensures.ok ∙ ap (λ s. c.loop-i.to ++ s ∷ []) c.in_ok-variable_symbol.ensures);
      valued = (next_of_all (λ x. IsValueType x.ty) c.args.variables.now c.loop-i.i c.index-variables-i.result c.loop-i-test.true c.index-variables-i.is c.loop-i.invariant.valued).1;
      sized = (next_of_all (λ x. IsArraySize x.count) c.args.variables.now c.loop-i.i c.index-variables-i.result c.loop-i-test.true c.index-variables-i.is c.loop-i.invariant.sized).1;
    }
