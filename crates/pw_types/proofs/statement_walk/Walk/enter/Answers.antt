-- The answers to the goals of `Walk::enter` in `src/statement_walk.rt`.
use Rattle.std.proofs.Common.{Ok, lit<, sym, ◌∙◌, subst, ◌<◌}
use Rattle.pw_tree.specs.Statements.{Statement}
use Rattle.pw_types.specs.Steps.StatementWeights.{weight, weight_of_step}
use Rattle.pw_types.proofs.StatementForms.{place_at, is_empty, is_block, is_local, is_set, is_evaluate, is_if, is_while, is_do, is_for, is_return, is_break, is_continue, leads_as, steps_as, whole_as, less_as, whole_less}
use Rattle.pw_types.proofs.statement_walk.Walk.enter.Goals as goal

pub returns-in-Local-clause-judged : goal.returns-in-Local-clause-judged
returns-in-Local-clause-judged c =
    whole_as c.args.setting.now c.args.self.now c.local.new.self _ _ (is_local c.args.stmt.now c.in-Local.ty c.in-Local.name c.in-Local.value c.in-Local.is) c.local.result c.done-in-Local.result c.done-in-Local.ensures c.local.ensures

pub returns-in-Local-clause-less : goal.returns-in-Local-clause-less
unfolding weight
returns-in-Local-clause-less c = whole_less _ _ c.local.result c.done-in-Local.result (is_local c.args.stmt.now c.in-Local.ty c.in-Local.name c.in-Local.value c.in-Local.is) c.done-in-Local.ensures (lit< tt)

pub returns-in-Set-clause-judged : goal.returns-in-Set-clause-judged
returns-in-Set-clause-judged c =
    whole_as c.args.setting.now c.args.self.now c.assign.new.self _ _ (is_set c.args.stmt.now c.in-Set.name c.in-Set.index c.in-Set.value c.in-Set.is) c.assign.result c.done-in-Set.result c.done-in-Set.ensures c.assign.ensures

pub returns-in-Set-clause-less : goal.returns-in-Set-clause-less
unfolding weight
returns-in-Set-clause-less c = whole_less _ _ c.assign.result c.done-in-Set.result (is_set c.args.stmt.now c.in-Set.name c.in-Set.index c.in-Set.value c.in-Set.is) c.done-in-Set.ensures (lit< tt)

pub returns-in-Eval-clause-judged : goal.returns-in-Eval-clause-judged
returns-in-Eval-clause-judged c =
    whole_as c.args.setting.now c.args.self.now c.evaluate.new.self _ _ (is_evaluate c.args.stmt.now c.in-Eval.e c.in-Eval.is) c.evaluate.result c.done-in-Eval.result c.done-in-Eval.ensures c.evaluate.ensures

pub returns-in-Eval-clause-less : goal.returns-in-Eval-clause-less
unfolding weight
returns-in-Eval-clause-less c = whole_less _ _ c.evaluate.result c.done-in-Eval.result (is_evaluate c.args.stmt.now c.in-Eval.e c.in-Eval.is) c.done-in-Eval.ensures (lit< tt)

pub returns-in-Return-clause-judged : goal.returns-in-Return-clause-judged
returns-in-Return-clause-judged c =
    whole_as c.args.setting.now c.args.self.now c.leave_function.new.self _ _ (is_return c.args.stmt.now c.in-Return.value c.in-Return.is) c.leave_function.result c.done-in-Return.result c.done-in-Return.ensures c.leave_function.ensures

pub returns-in-Return-clause-less : goal.returns-in-Return-clause-less
unfolding weight
returns-in-Return-clause-less c = whole_less _ _ c.leave_function.result c.done-in-Return.result (is_return c.args.stmt.now c.in-Return.value c.in-Return.is) c.done-in-Return.ensures (lit< tt)

pub returns-in-Break-clause-judged : goal.returns-in-Break-clause-judged
returns-in-Break-clause-judged c =
    whole_as c.args.setting.now c.args.self.now c.args.self.now _ _ (is_break c.args.stmt.now c.in-Break.is) c.break_off.result c.done-in-Break.result c.done-in-Break.ensures c.break_off.ensures

pub returns-in-Break-clause-less : goal.returns-in-Break-clause-less
unfolding weight
returns-in-Break-clause-less c = whole_less _ _ c.break_off.result c.done-in-Break.result (is_break c.args.stmt.now c.in-Break.is) c.done-in-Break.ensures (lit< tt)

pub returns-in-Continue-clause-judged : goal.returns-in-Continue-clause-judged
returns-in-Continue-clause-judged c =
    whole_as c.args.setting.now c.args.self.now c.args.self.now _ _ (is_continue c.args.stmt.now c.in-Continue.is) c.go_on.result c.done-in-Continue.result c.done-in-Continue.ensures c.go_on.ensures

pub returns-in-Continue-clause-less : goal.returns-in-Continue-clause-less
unfolding weight
returns-in-Continue-clause-less c = whole_less _ _ c.go_on.result c.done-in-Continue.result (is_continue c.args.stmt.now c.in-Continue.is) c.done-in-Continue.ensures (lit< tt)

pub returns-in-Block-clause-judged : goal.returns-in-Block-clause-judged
returns-in-Block-clause-judged c =
    steps_as c.args.setting.now c.args.self.now c.enter_block.new.self _ _ (is_block c.args.stmt.now c.in-Block.body c.as_slice.result.now c.in-Block.is c.as_slice.ensures) c.enter_block.result (c.enter_block.ensures.judged (place_at c.args.stmt.now))

pub returns-in-Block-clause-less : goal.returns-in-Block-clause-less
unfolding weight
returns-in-Block-clause-less c =
    less_as _ _ c.enter_block.result (is_block c.args.stmt.now c.in-Block.body c.as_slice.result.now c.in-Block.is c.as_slice.ensures) c.enter_block.ensures.less

pub returns-in-If-clause-judged : goal.returns-in-If-clause-judged
returns-in-If-clause-judged c =
    steps_as c.args.setting.now c.args.self.now c.enter_if.new.self _ _ (is_if c.args.stmt.now c.in-If.c c.in-If.a c.get.result.now c.in-If.b c.in-If.is c.get.ensures) c.enter_if.result (c.enter_if.ensures.judged (place_at c.args.stmt.now))

pub returns-in-If-clause-less : goal.returns-in-If-clause-less
unfolding weight
returns-in-If-clause-less c =
    less_as _ _ c.enter_if.result (is_if c.args.stmt.now c.in-If.c c.in-If.a c.get.result.now c.in-If.b c.in-If.is c.get.ensures) c.enter_if.ensures.less

pub returns-in-While-clause-judged : goal.returns-in-While-clause-judged
returns-in-While-clause-judged c =
    steps_as c.args.setting.now c.args.self.now c.enter_while.new.self _ _ (is_while c.args.stmt.now c.in-While.c c.in-While.body c.get-in-While.result.now c.in-While.is c.get-in-While.ensures) c.enter_while.result (c.enter_while.ensures.judged (place_at c.args.stmt.now))

pub returns-in-While-clause-less : goal.returns-in-While-clause-less
unfolding weight
returns-in-While-clause-less c =
    less_as _ _ c.enter_while.result (is_while c.args.stmt.now c.in-While.c c.in-While.body c.get-in-While.result.now c.in-While.is c.get-in-While.ensures) c.enter_while.ensures.less

pub returns-in-Do-clause-judged : goal.returns-in-Do-clause-judged
returns-in-Do-clause-judged c =
    leads_as c.args.setting.now c.args.self.now c.args.self.now _ _ (is_do c.args.stmt.now c.in-Do.body c.get-in-Do.result.now c.in-Do.c c.in-Do.is c.get-in-Do.ensures) c.enter_do.result (c.enter_do.ensures.judged (place_at c.args.stmt.now))

pub returns-in-Do-clause-less : goal.returns-in-Do-clause-less
unfolding weight
returns-in-Do-clause-less c =
    subst (λ (s : Statement). weight_of_step c.enter_do.result < weight s) (sym (is_do c.args.stmt.now c.in-Do.body c.get-in-Do.result.now c.in-Do.c c.in-Do.is c.get-in-Do.ensures)) c.enter_do.ensures.less

pub returns-in-For-clause-judged : goal.returns-in-For-clause-judged
returns-in-For-clause-judged c =
    steps_as c.args.setting.now c.args.self.now c.enter_for.new.self _ _ (is_for c.args.stmt.now c.in-For.first c.in-For.c c.in-For.last c.in-For.body c.get-in-For.result.now c.in-For.is c.get-in-For.ensures) c.enter_for.result (c.enter_for.ensures.judged (place_at c.args.stmt.now))

pub returns-in-For-clause-less : goal.returns-in-For-clause-less
unfolding weight
returns-in-For-clause-less c =
    less_as _ _ c.enter_for.result (is_for c.args.stmt.now c.in-For.first c.in-For.c c.in-For.last c.in-For.body c.get-in-For.result.now c.in-For.is c.get-in-For.ensures) c.enter_for.ensures.less

pub returns-in-Empty-clause-judged : goal.returns-in-Empty-clause-judged
returns-in-Empty-clause-judged c =
    whole_as c.args.setting.now c.args.self.now c.args.self.now _ _ (is_empty c.args.stmt.now c.in-Empty.is) (Ok c.empty.result) c.done.result c.done.ensures c.empty.ensures

pub returns-in-Empty-clause-less : goal.returns-in-Empty-clause-less
unfolding weight
returns-in-Empty-clause-less c = whole_less _ _ (Ok c.empty.result) c.done.result (is_empty c.args.stmt.now c.in-Empty.is) c.done.ensures (lit< tt)
