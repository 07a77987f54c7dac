-- The statements that are left can be counted, and have the words that are missing.
use Rattle.std.proofs.Common.{◌≡◌, ◌+◌, ◌<◌, drop}
use Rattle.pw_tree.specs.TypedStatements.{typed_statements_of}
use Rattle.pw_tree.specs.WellTypedStatements.{EverywhereIn}
use Rattle.pw_code.specs.StatementCode.{statements_words}
use Rattle.pw_gen.specs.Steps.Measuring.{reach, HasShortParts}
use Rattle.pw_gen.proofs.size.+size.Given as goal

abbrev pub invariant-statements_words-loop-s : goal.invariant-statements_words-loop-s
invariant-statements_words-loop-s l = record {
  short : EverywhereIn HasShortParts (typed_statements_of (drop l.s-index l.ss));
  rest : l.words + statements_words (typed_statements_of (drop l.s-index l.ss)) ≡ statements_words (typed_statements_of l.ss);
  near : statements_words (typed_statements_of l.ss) < reach;
}
