-- Past the end stands the number of those with an initialiser.
use Rattle.std.proofs.Common.{◌≡◌, ◌≤◌, length, arith, sym, ◌∙◌}
use Rattle.std.proofs.lemmas.Bool.{ltb-false}
use Rattle.pw_code.specs.Objects.{is_initialised}
use Rattle.pw_gen.proofs.NumberLists.{few_pass, number_past}
use Rattle.pw_gen.proofs.numbers.number_in_order.Goals as goal

pub overflow_cast-result : goal.overflow_cast-result
overflow_cast-result c = omega (arith, c.count_initialised.ensures, few_pass is_initialised c.args.vars.now)

pub returns-in-None : goal.returns-in-None
returns-in-None c =
    let past : length c.args.numbers.now ≤ c.args.number = ltb-false c.args.number (length c.args.numbers.now) (sym c.in-None.ensures.lookup.0) in
    c.count_initialised.ensures ∙ sym (number_past c.args.vars.now c.args.number (omega (arith, past, c.requires.numbers.each)))
