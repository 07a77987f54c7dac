-- A module has few symbols.
use Rattle.std.proofs.Common.{◌<◌, ◌^◌, length, subst, sym}
use Rattle.pw_place.proofs.FewSymbols.{few_symbols}
use Rattle.pw_place.proofs.records.table.Goals as goal

pub type_records-requires : goal.type_records-requires
type_records-requires c =
    let places = c.args.numbers.now.places.now in
    subst (λ l. length l < 2 ^ 32) (sym c.requires.symbols) (few_symbols places.kind places.objects.now places.placed.limits c.requires.sound)
