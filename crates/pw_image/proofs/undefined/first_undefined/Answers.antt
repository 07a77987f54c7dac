-- A symbol that has a definition is passed over, and at the end none had none.
use Rattle.std.proofs.Common.{ap, sym, ◌∙◌, arith, length, ◌≤◌, Some}
use Rattle.std.proofs.lemmas.List.{at_drop_all}
use Rattle.pw_image.specs.Unbound.{first_undefined}
use Rattle.pw_image.proofs.UndefinedNames.{undefined_next, defined_next, null_next}
use Rattle.pw_image.proofs.undefined.first_undefined.Goals as goal
use Rattle.pw_image.proofs.undefined.first_undefined.Goals.{in-Some+else-is_undefined, in_default}

pub returns-then-is_undefined : goal.returns-then-is_undefined
returns-then-is_undefined c =
    ap Some c.in_ok-copy.ensures
    ∙ sym (undefined_next c.args.symbols.now c.loop-symbol.symbol-index c.symbol-item.result c.loop-symbol-test.true c.symbol-item.is
    c.in-Some.symbol c.in-Some.is (sym c.is_undefined.ensures ∙ c.if-is_undefined.true))
    ∙ c.loop-symbol.invariant

pub loop-symbol-preserved : goal.loop-symbol-preserved
loop-symbol-preserved c = elim c.match-symbol.branch [
  | in-Some+else-is_undefined w ↦
      defined_next c.args.symbols.now c.loop-symbol.symbol-index c.symbol-item.result c.loop-symbol-test.true c.symbol-item.is
      w.in-Some.symbol w.in-Some.is (sym w.is_undefined.ensures ∙ w.if-is_undefined.false)
      ∙ c.loop-symbol.invariant
  | in_default w ↦
      null_next c.args.symbols.now c.loop-symbol.symbol-index c.symbol-item.result c.loop-symbol-test.true c.symbol-item.is w.in_default.is
      ∙ c.loop-symbol.invariant
]

pub returns : goal.returns
unfolding first_undefined
returns c =
    let past : length c.args.symbols.now ≤ c.loop-symbol.symbol-index = omega (arith, c.loop-symbol-test.false) in
    sym (at_drop_all first_undefined c.args.symbols.now c.loop-symbol.symbol-index past) ∙ c.loop-symbol.invariant
