-- The names are few, so the number fits.
use Rattle.std.proofs.Common.{arith}
use Rattle.std.specs.Prelude.{bytes_eq}
use Rattle.std.proofs.lemmas.List.Sums.{prefix_len-le-length}
use Rattle.std.specs.Prelude.{not}
use Rattle.pw_tree.specs.declared.tunit.Ext.{Ext}
use Rattle.pw_place.specs.Names.{external_names}
use Rattle.pw_place.proofs.symbol_numbers.SymbolNumbers.external.Goals as goal

pub overflow_add-result : goal.overflow_add-result
overflow_add-result c =
    let numbers = c.args.self.now in
    let placed = numbers.places.now in
    omega (
      arith,
      prefix_len-le-length (λ (n : Ext). not (bytes_eq c.args.name.now n.name)) (external_names placed.objects.now),
      c.name_number.ensures,
      placed.placed.limits.names,
      numbers.numbered.few,
    )
