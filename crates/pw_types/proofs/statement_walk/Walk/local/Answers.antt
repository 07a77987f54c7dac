-- The answers to the goals of `Walk::local` in `src/statement_walk.rt`.
use Rattle.std.proofs.Common.{◌≡◌, [], ap, sym, ◌∙◌}
use Rattle.pw_types.specs.Steps.CheckingStatements.{block_of, span_of_statement}
use Rattle.pw_tree.specs.Placed.{local_name_at}
use Rattle.pw_types.specs.Statements.{faults_of_name}
use Rattle.pw_types.proofs.DeclaringLocals.{declares_local}
use Rattle.pw_types.proofs.statement_walk.Walk.local.Goals as goal

pub returns : goal.returns
returns c =
    let free : faults_of_name (block_of c.args.self.now) c.args.name.now (local_name_at (span_of_statement c.args.at) c.args.ty) ≡ [] =
    ap (faults_of_name (block_of c.args.self.now) c.args.name.now) (sym c.local_name_at.ensures) ∙ c.in_ok-declarable.ensures.0 in
    rw c.unboxed.ensures (declares_local c.args.setting.now c.args.self.now c.maybe_value.new.self c.declare.new.self (span_of_statement c.args.at) c.args.ty c.args.name.now _
    c.in_ok-value.value c.in_ok-number.number free c.in_ok-value.ensures.0 c.in_ok-value.ensures.1 c.in_ok-number.ensures)
