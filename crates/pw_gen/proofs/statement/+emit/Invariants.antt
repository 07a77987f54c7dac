-- The statements that are left can be compiled where they stand, and their code is what is missing.
use Rattle.std.proofs.Common.{◌≡◌, ◌+◌, ◌<◌, ◌++◌, ◌≤◌, drop, length}
use Rattle.pw_tree.specs.TypedStatements.{typed_statements_of}
use Rattle.pw_tree.specs.WellTypedStatements.{EverywhereIn}
use Rattle.pw_code.specs.Items.{items}
use Rattle.pw_code.specs.StatementCode.{statements_words}
use Rattle.pw_gen.specs.Steps.Places.{code_of_all_at}
use Rattle.pw_gen.specs.Steps.Emitting.{CanEmitAll}
use Rattle.pw_gen.proofs.statement.+emit.Given as goal

abbrev pub invariant-emit_statements-loop-s : goal.invariant-emit_statements-loop-s
invariant-emit_statements-loop-s l = record {
  rest : CanEmitAll l.here (typed_statements_of (drop l.s-index l.ss));
  code : l.to.items ++ items (code_of_all_at l.here (typed_statements_of (drop l.s-index l.ss)))
      ≡ l.fn.to.items ++ items (code_of_all_at l.fn.place (typed_statements_of l.ss));
  grown : length l.fn.to.items ≤ length l.to.items;
}
