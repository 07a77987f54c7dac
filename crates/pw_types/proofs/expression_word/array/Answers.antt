-- The answers to the goals of `array` in `src/expression_word.rt`.
use Rattle.std.proofs.Common.{◌≡◌, Some, sym}
use Rattle.pw_tree.specs.Expressions.{expression_of}
use Rattle.pw_types.specs.Steps.Words.{word_in}
use Rattle.pw_types.proofs.Words.{array_by_word}
use Rattle.pw_types.proofs.expression_word.array.Goals as goal

pub returns-in-Some : goal.returns-in-Some
returns-in-Some c =
    let is : word_in (expression_of c.args.e.now) ≡ Some c.in-Some.name.now = sym c.in-Some.ensures in
    array_by_word c.args.scope.now (expression_of c.args.e.now) c.in-Some.name.now c.array_named.result is c.array_named.ensures
