-- What a typed statement does (C17, 6.8).
use Rattle.std.specs.Prelude.{ℕ, zero, suc, Option, Some, None}
use Rattle.pw_tree.specs.Names.{Definition}
use Rattle.pw_tree.specs.TypedExpressions.{TypedExpression}
use Rattle.pw_tree.specs.TypedStatements.{TypedStatement, TypedStatements, OptionalTypedStatement, evaluate, set_local, set_variable, set_element, block, if_else, while_loop, do_loop, for_loop, returns, breaks, continues, nil, cons, absent, present}
use Rattle.pw_tree.specs.States.{Value, holds, Locals, with_local_set, State, with_element, spent, Outcome, gives, stops, and_then, chosen, stepped}
use Rattle.pw_tree.specs.Evaluation.{Context, eval, indexed}

-- How a statement ends: control goes on after it, or leaves as `break`, `continue` and `return` do (C17, 6.8.6).
pub data Completion : Type 0 where
  normal : Locals → Completion
  broke : Locals → Completion
  continued : Locals → Completion
  returned : Option Value → Completion

-- What follows a statement, where control goes on after it.
abbrev pub followed : Completion → (Locals → State → Outcome Completion) → State → Outcome Completion
followed (normal locals) next st = next locals st
followed done next st = gives done st

-- What an iteration of a loop leads to: back to the loop's start, or out of the loop.
pub data Iteration : Type 0 where
  back : Locals → Iteration
  out : Completion → Iteration

-- What follows the body of a loop: `continue` ends the body, and `break` the loop.
abbrev pub after_body : Completion → (Locals → State → Outcome Iteration) → State → Outcome Iteration
after_body (normal locals) next st = next locals st
after_body (continued locals) next st = next locals st
after_body (broke locals) next st = gives (out (normal locals)) st
after_body (returned value) next st = gives (out (returned value)) st

-- A part of an iteration that runs a statement, and then what follows.
abbrev pub runs : (Locals → State → Outcome Completion) → (Locals → State → Outcome Iteration) → Locals → State → Outcome Iteration
runs body next locals st = and_then (body locals st) (λ done. after_body done next)

-- A part of an iteration that tests the loop's condition, and then what follows; an absent condition holds.
abbrev pub tests : Context → Option TypedExpression → (Locals → State → Outcome Iteration) → Locals → State → Outcome Iteration
tests x None next locals st = next locals st
tests x (Some c) next locals st =
    and_then (eval x c locals st) (λ v. chosen (holds v) (next locals) (gives (out (normal locals))))

-- The end of an iteration: back to the loop's start.
abbrev pub goes_back : Locals → State → Outcome Iteration
goes_back locals st = gives (back locals) st

-- What follows an iteration.
abbrev pub after_iteration : Iteration → (Locals → State → Outcome Completion) → State → Outcome Completion
after_iteration (back locals) again st = again locals st
after_iteration (out done) again st = gives done st

-- A loop of one iteration after another. Going back to the start takes a step; n is no less than the steps left, so that
-- none is left where it is 0.
abbrev pub iterations : (Locals → State → Outcome Iteration) → ℕ → Locals → State → Outcome Completion
iterations iteration zero locals st = and_then (iteration locals st) (λ t. after_iteration t (λ locals. stops spent))
iterations iteration (suc n) locals st =
    and_then (iteration locals st) (λ t. after_iteration t (λ locals. stepped (iterations iteration n locals)))

-- The value of an expression that may be absent.
abbrev pub eval_option : Context → Option TypedExpression → Locals → State → Outcome (Option Value)
eval_option x None locals st = gives None st
eval_option x (Some e) locals st = and_then (eval x e locals st) (λ v. gives (Some v))

-- Assigns a value to an element of a variable.
abbrev pub stores : Definition → ℕ → Locals → Value → State → Outcome Completion
stores x i locals v st = gives (normal locals) (with_element x i v st)

-- What a statement does. An index is evaluated and tested before the value that is assigned; a declaration without
-- initialiser sets 0 or null.
abbrev mutual
  pub exec : Context → TypedStatement → Locals → State → Outcome Completion
  exec x (evaluate e) locals st = and_then (eval x e locals st) (λ v. gives (normal locals))
  exec x (set_local i e) locals st = and_then (eval_option x e locals st) (λ v. gives (normal (with_local_set locals i v)))
  exec x (set_variable v e) locals st = and_then (eval x e locals st) (stores (x.named v) 0 locals)
  exec x (set_element a size line i e) locals st =
      and_then (eval x i locals st) (λ v. indexed x size line v (λ k st. and_then (eval x e locals st) (stores (x.named a) k locals)))
  exec x (block body) locals st = exec_all x body locals st
  exec x (if_else c a b) locals st =
      and_then (eval x c locals st) (λ v. chosen (holds v) (exec x a locals) (exec_maybe x b locals))
  exec x (while_loop c body) locals st = iterations (tests x (Some c) (runs (exec x body) goes_back)) x.iterations_left locals st
  exec x (do_loop body c) locals st = iterations (runs (exec x body) (tests x (Some c) goes_back)) x.iterations_left locals st
  exec x (for_loop first c last body) locals st =
      and_then (exec_maybe x first locals st) (λ done. followed done
      (iterations (tests x c (runs (exec x body) (runs (exec_maybe x last) goes_back))) x.iterations_left))
  exec x (returns e) locals st = and_then (eval_option x e locals st) (λ v. gives (returned v))
  exec x breaks locals st = gives (broke locals) st
  exec x continues locals st = gives (continued locals) st

  -- What several statements do, one after another.
  pub exec_all : Context → TypedStatements → Locals → State → Outcome Completion
  exec_all x nil locals st = gives (normal locals) st
  exec_all x (cons s ss) locals st = and_then (exec x s locals st) (λ done. followed done (exec_all x ss))

  -- What a statement does that may be absent.
  pub exec_maybe : Context → OptionalTypedStatement → Locals → State → Outcome Completion
  exec_maybe x absent locals st = gives (normal locals) st
  exec_maybe x (present s) locals st = exec x s locals st
