-- The output only grows: the output in which an evaluation ends begins with the output that was there before.
use Rattle.std.proofs.Common.{◌≡◌, ℕ, zero, suc, ◌%◌, Bool, true, false, List, [], ◌∷◌, ◌++◌, Option, Some, None, refl, sym, ap, ◌∙◌, append_assoc, nat_eq, nat_lt}
use Rattle.std.proofs.lemmas.List.{append-nil}
use Rattle.pw_tree.specs.Laws.{IsPrefix}
use Rattle.pw_tree.specs.Names.{Definition, Project}
use Rattle.pw_tree.specs.Units.{Function}
use Rattle.pw_tree.specs.TypedExpressions.{TypedExpression, TypedExpressions, constant, local, variable, designator, element, unary, binary, conditional, call, call_pointer, input, output, nil, cons}
use Rattle.pw_tree.specs.TypedStatements.{TypedStatement, TypedStatements, OptionalTypedStatement, evaluate, set_local, set_variable, set_element, block, if_else, while_loop, do_loop, for_loop, returns, breaks, continues, nil, cons, absent, present}
use Rattle.pw_tree.specs.States.{Value, number, null, pointer, holds, as_number, Locals, State, Outcome, gives, stops, and_then, chosen, stepped_from, stepped}
use Rattle.pw_tree.specs.Evaluation.{Context, divided, binary_value, truth_of, operated, indexed, next_byte, call_through, eval, eval_all}
use Rattle.pw_tree.specs.Execution.{Completion, normal, broke, continued, returned, followed, Iteration, back, out, after_body, runs, tests, goes_back, after_iteration, iterations, eval_option, stores, exec, exec_all, exec_maybe}
use Rattle.pw_tree.specs.Meaning.{called_function, locals_at_entry, entered_from, call_of}
use Rattle.pw_tree.specs.declared.operator.Bin.{Bin}
use Rattle.pw_tree.specs.declared.operator.Bin.TheVariants.{Div, Rem, Eq, AndAnd, OrOr}

-- A list is a prefix of itself, and prefixes compose.
pub prefix_self : (xs : List ℕ) → IsPrefix xs xs
prefix_self xs = ([], sym (append-nil xs))

pub prefix_trans : (xs ys zs : List ℕ) → IsPrefix xs ys → IsPrefix ys zs → IsPrefix xs zs
prefix_trans xs ys zs p q = (p.0 ++ q.0, q.1 ∙ ap (λ l. l ++ q.0) p.1 ∙ append_assoc xs p.0 q.0)

-- The state in which an evaluation ends.
abbrev pub state_after : {A : Type 0} → Outcome A → State
state_after (gives v st) = st
state_after (stops why st) = st

-- The output that was there before is a prefix of the output after an evaluation.
pub record Grows {A : Type 0} (st : State) (r : Outcome A) : Type 0 where
  pub more : IsPrefix st.output (state_after r).output

-- An evaluation that writes nothing.
pub grows_nothing : {A : Type 0} (st : State) (r : Outcome A) → (state_after r).output ≡ st.output → Grows st r
grows_nothing st r e = record { more = ([], e ∙ sym (append-nil st.output)) }

-- Evaluations one after another.
pub grows_then : {A B : Type 0} (st : State) (r : Outcome A) (next : A → State → Outcome B) →
    Grows st r → ((v : A) (st1 : State) → Grows st1 (next v st1)) → Grows st (and_then r next)
grows_then st (gives v st1) next g h = record { more = prefix_trans _ _ _ g.more (h v st1).more }
grows_then st (stops why st1) next g h = record { more = g.more }

pub grows_choice : {A : Type 0} (t : Bool) (a b : State → Outcome A) →
    ((st : State) → Grows st (a st)) → ((st : State) → Grows st (b st)) → (st : State) → Grows st (chosen t a b st)
grows_choice true a b g h st = g st
grows_choice false a b g h st = h st

pub grows_stepped_from : {A : Type 0} (n : ℕ) (next : State → Outcome A) →
    ((st : State) → Grows st (next st)) → (st : State) → Grows st (stepped_from n next st)
grows_stepped_from zero next g st = grows_nothing st _ refl
grows_stepped_from (suc n) next g st = record { more = (g (record st { steps = n })).more }

pub grows_stepped : {A : Type 0} (next : State → Outcome A) →
    ((st : State) → Grows st (next st)) → (st : State) → Grows st (stepped next st)
grows_stepped next g st = grows_stepped_from st.steps next g st

-- Calls write only at the end of the output.
pub record CallsGrow (x : Context) : Type 0 where
  pub grows : (f : Definition) (arguments : List Value) (st : State) → Grows st (x.called f arguments st)

pub grows_divided : (x : Context) (line : ℕ) (op : Bin) (unsigned : Bool) (a b : ℕ) (st : State) → Grows st (divided x line op unsigned a b st)
grows_divided x line op unsigned a b = grows_choice (nat_eq b 0) _ _ (λ st. grows_nothing st _ refl) (λ st. grows_nothing st _ refl)

pub grows_binary : (x : Context) (line : ℕ) (op : Bin) (unsigned : Bool) (a b : Value) (st : State) →
    Grows st (binary_value x line op unsigned a b st)
grows_binary x line Div unsigned a b st = grows_divided x line Div unsigned (as_number a) (as_number b) st
grows_binary x line Rem unsigned a b st = grows_divided x line Rem unsigned (as_number a) (as_number b) st
grows_binary x line Eq unsigned a b st = grows_nothing st _ refl
grows_binary x line op unsigned a b st = grows_nothing st _ refl

pub grows_operated : (x : Context) (line : ℕ) (op : Bin) (unsigned : Bool) (a : Value) (right : State → Outcome Value) →
    ((st : State) → Grows st (right st)) → (st : State) → Grows st (operated x line op unsigned a right st)
grows_operated x line AndAnd unsigned a right g st =
    grows_choice (holds a) _ _ (λ st. grows_then st (right st) truth_of (g st) (λ v st. grows_nothing st _ refl)) (λ st. grows_nothing st _ refl) st
grows_operated x line OrOr unsigned a right g st =
    grows_choice (holds a) _ _ (λ st. grows_nothing st _ refl) (λ st. grows_then st (right st) truth_of (g st) (λ v st. grows_nothing st _ refl)) st
grows_operated x line op unsigned a right g st =
    grows_then st (right st) (binary_value x line op unsigned a) (g st) (λ v. grows_binary x line op unsigned a v)

pub grows_indexed : {A : Type 0} (x : Context) (size line : ℕ) (v : Value) (next : ℕ → State → Outcome A) →
    ((k : ℕ) (st : State) → Grows st (next k st)) → (st : State) → Grows st (indexed x size line v next st)
grows_indexed x size line v next g =
    grows_choice (nat_lt (as_number v) size) _ _ (g (as_number v)) (λ st. grows_nothing st _ refl)

pub grows_next_byte : (bytes : List ℕ) (st : State) → Grows st (next_byte bytes st)
grows_next_byte [] st = grows_nothing st _ refl
grows_next_byte (byte ∷ rest) st = grows_nothing st _ refl

pub grows_call_through : (x : Context) → CallsGrow x → (line : ℕ) (arguments : List Value) (v : Value) (st : State) →
    Grows st (call_through x line arguments v st)
grows_call_through x c line arguments (pointer f) st = c.grows f arguments st
grows_call_through x c line arguments null st = grows_nothing st _ refl
grows_call_through x c line arguments (number n) st = grows_nothing st _ refl

-- Expressions.
mutual
  pub grows_eval : (x : Context) → CallsGrow x → (e : TypedExpression) (locals : Locals) (st : State) → Grows st (eval x e locals st)
  grows_eval x c (constant at value) locals st = grows_nothing st _ refl
  grows_eval x c (local at i) locals st = grows_nothing st _ refl
  grows_eval x c (variable at v) locals st = grows_nothing st _ refl
  grows_eval x c (designator at f) locals st = grows_nothing st _ refl
  grows_eval x c (element at a size i) locals st =
      grows_then st _ _ (grows_eval x c i locals st) (λ v. grows_indexed x size at.line v (λ k st. gives (st.variables (x.named a) k) st) (λ k st. grows_nothing st _ refl))
  grows_eval x c (unary at op e) locals st = grows_then st _ _ (grows_eval x c e locals st) (λ v st. grows_nothing st _ refl)
  grows_eval x c (binary at op unsigned l r) locals st =
      grows_then st _ _ (grows_eval x c l locals st) (λ v. grows_operated x at.line op unsigned v _ (grows_eval x c r locals))
  grows_eval x c (conditional at t a b) locals st =
      grows_then st _ _ (grows_eval x c t locals st) (λ v. grows_choice (holds v) _ _ (grows_eval x c a locals) (grows_eval x c b locals))
  grows_eval x c (call at f es) locals st = grows_then st _ _ (grows_eval_all x c es locals st) (c.grows (x.named f))
  grows_eval x c (call_pointer at e es) locals st =
      grows_then st _ _ (grows_eval_all x c es locals st) (λ vs st. grows_then st _ _ (grows_eval x c e locals st) (grows_call_through x c at.line vs))
  grows_eval x c (input at) locals st = grows_next_byte st.input st
  grows_eval x c (output at e) locals st =
      grows_then st _ _ (grows_eval x c e locals st) (λ v st. record { more = (as_number v % 256 ∷ [], refl) })

  pub grows_eval_all : (x : Context) → CallsGrow x → (es : TypedExpressions) (locals : Locals) (st : State) → Grows st (eval_all x es locals st)
  grows_eval_all x c nil locals st = grows_nothing st _ refl
  grows_eval_all x c (cons e es) locals st =
      grows_then st _ _ (grows_eval x c e locals st) (λ v st. grows_then st _ _ (grows_eval_all x c es locals st) (λ vs st. grows_nothing st _ refl))

pub grows_followed : (done : Completion) (next : Locals → State → Outcome Completion) →
    ((locals : Locals) (st : State) → Grows st (next locals st)) → (st : State) → Grows st (followed done next st)
grows_followed (normal locals) next g st = g locals st
grows_followed (broke locals) next g st = grows_nothing st _ refl
grows_followed (continued locals) next g st = grows_nothing st _ refl
grows_followed (returned v) next g st = grows_nothing st _ refl

pub grows_after_body : (done : Completion) (next : Locals → State → Outcome Iteration) →
    ((locals : Locals) (st : State) → Grows st (next locals st)) → (st : State) → Grows st (after_body done next st)
grows_after_body (normal locals) next g st = g locals st
grows_after_body (broke locals) next g st = grows_nothing st _ refl
grows_after_body (continued locals) next g st = g locals st
grows_after_body (returned v) next g st = grows_nothing st _ refl

pub grows_runs : (body : Locals → State → Outcome Completion) (next : Locals → State → Outcome Iteration) →
    ((locals : Locals) (st : State) → Grows st (body locals st)) → ((locals : Locals) (st : State) → Grows st (next locals st)) →
    (locals : Locals) (st : State) → Grows st (runs body next locals st)
grows_runs body next g h locals st = grows_then st _ _ (g locals st) (λ done. grows_after_body done next h)

pub grows_tests : (x : Context) → CallsGrow x → (c : Option TypedExpression) (next : Locals → State → Outcome Iteration) →
    ((locals : Locals) (st : State) → Grows st (next locals st)) → (locals : Locals) (st : State) → Grows st (tests x c next locals st)
grows_tests x c None next g locals st = g locals st
grows_tests x c (Some e) next g locals st =
    grows_then st _ _ (grows_eval x c e locals st) (λ v. grows_choice (holds v) _ _ (g locals) (λ st. grows_nothing st _ refl))

pub grows_goes_back : (locals : Locals) (st : State) → Grows st (goes_back locals st)
grows_goes_back locals st = grows_nothing st _ refl

pub grows_after_iteration : (t : Iteration) (again : Locals → State → Outcome Completion) →
    ((locals : Locals) (st : State) → Grows st (again locals st)) → (st : State) → Grows st (after_iteration t again st)
grows_after_iteration (back locals) again g st = g locals st
grows_after_iteration (out done) again g st = grows_nothing st _ refl

-- Loops.
pub grows_iterations : (iteration : Locals → State → Outcome Iteration) → ((locals : Locals) (st : State) → Grows st (iteration locals st)) →
    (n : ℕ) (locals : Locals) (st : State) → Grows st (iterations iteration n locals st)
grows_iterations iteration g zero locals st =
    grows_then st _ _ (g locals st) (λ t. grows_after_iteration t _ (λ locals st. grows_nothing st _ refl))
grows_iterations iteration g (suc n) locals st =
    grows_then st _ _ (g locals st) (λ t. grows_after_iteration t _ (λ locals. grows_stepped _ (grows_iterations iteration g n locals)))

pub grows_eval_option : (x : Context) → CallsGrow x → (e : Option TypedExpression) (locals : Locals) (st : State) →
    Grows st (eval_option x e locals st)
grows_eval_option x c None locals st = grows_nothing st _ refl
grows_eval_option x c (Some e) locals st = grows_then st _ _ (grows_eval x c e locals st) (λ v st. grows_nothing st _ refl)

-- Statements.
mutual
  pub grows_exec : (x : Context) → CallsGrow x → (s : TypedStatement) (locals : Locals) (st : State) → Grows st (exec x s locals st)
  grows_exec x c (evaluate e) locals st = grows_then st _ _ (grows_eval x c e locals st) (λ v st. grows_nothing st _ refl)
  grows_exec x c (set_local i e) locals st = grows_then st _ _ (grows_eval_option x c e locals st) (λ v st. grows_nothing st _ refl)
  grows_exec x c (set_variable v e) locals st = grows_then st _ _ (grows_eval x c e locals st) (λ v st. grows_nothing st _ refl)
  grows_exec x c (set_element a size line i e) locals st =
      grows_then st _ _ (grows_eval x c i locals st) (λ v. grows_indexed x size line v
      (λ k st. and_then (eval x e locals st) (stores (x.named a) k locals))
      (λ k st. grows_then st _ _ (grows_eval x c e locals st) (λ v st. grows_nothing st _ refl)))
  grows_exec x c (block body) locals st = grows_exec_all x c body locals st
  grows_exec x c (if_else t a b) locals st =
      grows_then st _ _ (grows_eval x c t locals st) (λ v. grows_choice (holds v) _ _ (grows_exec x c a locals) (grows_exec_maybe x c b locals))
  grows_exec x c (while_loop t body) locals st =
      grows_iterations _ (grows_tests x c (Some t) _ (grows_runs _ _ (grows_exec x c body) grows_goes_back)) x.iterations_left locals st
  grows_exec x c (do_loop body t) locals st =
      grows_iterations _ (grows_runs _ _ (grows_exec x c body) (grows_tests x c (Some t) _ grows_goes_back)) x.iterations_left locals st
  grows_exec x c (for_loop first t last body) locals st =
      grows_then st _ _ (grows_exec_maybe x c first locals st) (λ done. grows_followed done _
      (grows_iterations _ (grows_tests x c t _ (grows_runs _ _ (grows_exec x c body) (grows_runs _ _ (grows_exec_maybe x c last) grows_goes_back))) x.iterations_left))
  grows_exec x c (returns e) locals st = grows_then st _ _ (grows_eval_option x c e locals st) (λ v st. grows_nothing st _ refl)
  grows_exec x c breaks locals st = grows_nothing st _ refl
  grows_exec x c continues locals st = grows_nothing st _ refl

  pub grows_exec_all : (x : Context) → CallsGrow x → (ss : TypedStatements) (locals : Locals) (st : State) → Grows st (exec_all x ss locals st)
  grows_exec_all x c nil locals st = grows_nothing st _ refl
  grows_exec_all x c (cons s ss) locals st =
      grows_then st _ _ (grows_exec x c s locals st) (λ done. grows_followed done _ (grows_exec_all x c ss))

  pub grows_exec_maybe : (x : Context) → CallsGrow x → (s : OptionalTypedStatement) (locals : Locals) (st : State) →
      Grows st (exec_maybe x s locals st)
  grows_exec_maybe x c absent locals st = grows_nothing st _ refl
  grows_exec_maybe x c (present s) locals st = grows_exec x c s locals st

pub grows_entered : (n : ℕ) (f : Definition) (callee : Function) (body : State → Outcome Completion) →
    ((st : State) → Grows st (body st)) → (st : State) → Grows st (entered_from n f callee body st)
grows_entered zero f callee body g st = grows_nothing st _ refl
grows_entered (suc n) f callee body g st =
    record { more = (grows_then (record st { calls = n }) _ _ (g (record st { calls = n })) (λ done st. grows_nothing st _ refl)).more }

-- Calls.
pub grows_call : (project : Project) (n : ℕ) (f : Definition) (arguments : List Value) (st : State) → Grows st (call_of project n f arguments st)
grows_call project zero f arguments st = grows_nothing st _ refl
grows_call project (suc n) f arguments st =
    grows_stepped _ (λ st. grows_entered st.calls f (called_function project f) _ (grows_exec_all _ (record { grows = grows_call project n }) (called_function project f).body (locals_at_entry arguments)) st) st
