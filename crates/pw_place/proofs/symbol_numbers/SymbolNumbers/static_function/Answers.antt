-- The number stands in the unit's list.
use Rattle.std.proofs.Common.{◌∙◌, sym, ap}
use Rattle.std.specs.Prelude.{slice_index}
use Rattle.pw_place.proofs.NumberedSymbols.{function_number, no_function}
use Rattle.pw_place.proofs.symbol_numbers.SymbolNumbers.static_function.Goals as goal

pub returns-in-Some : goal.returns-in-Some
returns-in-Some c =
    let numbers = c.args.self.now in
    let placed = numbers.places.now in
    c.number_at.ensures
    ∙ ap (λ ns. slice_index ns c.args.i) c.as_slice.ensures
    ∙ function_number placed.kind placed.objects.now numbers.units numbers.first_external numbers.numbered c.args.unit c.args.i
    c.in-Some.numbers.now (sym c.in-Some.ensures.value) c.requires

pub returns-in-None : goal.returns-in-None
returns-in-None c =
    let numbers = c.args.self.now in
    let placed = numbers.places.now in
    absurd
    (no_function placed.kind placed.objects.now numbers.units numbers.first_external numbers.numbered c.args.unit c.args.i
    (sym c.in-None.ensures.value) c.requires)
