-- The definitions are few, so all numbers fit.
use Rattle.std.proofs.Common.{◌+◌, ◌≤◌, ◌∙◌, ap, arith}
use Rattle.pw_base.specs.declared.kinds.Kind.{Kind}
use Rattle.pw_base.specs.declared.kinds.Kind.TheVariants.{Program, Library}
use Rattle.pw_place.specs.Symbols.{first_static, static_definitions}
use Rattle.pw_place.specs.Steps.NumberLists.{all_numbers}
use Rattle.pw_place.proofs.FewDefinitions.{few_definitions, all_static_among}
use Rattle.pw_place.proofs.symbol_numbers.number_symbols.Goals as goal

first_is_low : (kind : Kind) → first_static kind ≤ 2
first_is_low Program = omega arith
first_is_low Library = omega arith

pub number_units-requires : goal.number_units-requires
number_units-requires c =
    let placed = c.args.places.now in
    omega (
      arith,
      few_definitions placed.kind placed.objects.now placed.placed.limits c.requires,
      first_is_low placed.kind,
      c.first_static.ensures,
    )

pub invariant_of-result : goal.invariant_of-result
invariant_of-result c =
    let placed = c.args.places.now in
    let last = c.in_ok-units.ensures.next ∙ ap (λ n. n + static_definitions placed.objects.now) c.first_static.ensures in
    record {
      numbered = record {
        of_units = c.in_ok-units.ensures.numbers ∙ ap (λ n. all_numbers n placed.objects.now) c.first_static.ensures;
        of_external = last;
        few = omega (
          arith,
          few_definitions placed.kind placed.objects.now placed.placed.limits c.requires,
          all_static_among placed.objects.now,
          first_is_low placed.kind,
          last,
        );
      };
    }
