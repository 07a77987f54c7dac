-- With more steps left an evaluation comes to the same, unless it is spent; then it goes on.
use Rattle.std.proofs.Common.{◌≡◌, ℕ, zero, suc, ◌+◌, ◌≤◌, ◌%◌, Bool, true, false, List, [], ◌∷◌, Option, Some, None, refl, sym, ap, subst, nat_eq, nat_lt, arith}
use Rattle.pw_tree.specs.Laws.{IsPrefix}
use Rattle.pw_tree.specs.Names.{Definition, Project}
use Rattle.pw_tree.specs.Units.{Function}
use Rattle.pw_tree.specs.TypedExpressions.{TypedExpression, TypedExpressions, constant, local, variable, designator, element, unary, binary, conditional, call, call_pointer, input, output, nil, cons}
use Rattle.pw_tree.specs.TypedStatements.{TypedStatement, TypedStatements, OptionalTypedStatement, evaluate, set_local, set_variable, set_element, block, if_else, while_loop, do_loop, for_loop, returns, breaks, continues, nil, cons, absent, present}
use Rattle.pw_tree.specs.States.{Value, number, null, pointer, holds, as_number, Locals, State, spent, checked, Outcome, gives, stops, and_then, chosen, stepped_from, stepped}
use Rattle.pw_tree.specs.Evaluation.{Context, divided, binary_value, truth_of, operated, indexed, next_byte, call_through, eval, eval_all}
use Rattle.pw_tree.specs.Execution.{Completion, normal, broke, continued, returned, followed, Iteration, back, out, after_body, runs, tests, goes_back, after_iteration, iterations, eval_option, stores, exec, exec_all, exec_maybe}
use Rattle.pw_tree.specs.Meaning.{called_function, named_in, locals_at_entry, entered_from, call_of}
use Rattle.pw_tree.specs.declared.operator.Bin.{Bin}
use Rattle.pw_tree.specs.declared.operator.Bin.TheVariants.{Div, Rem, Eq, AndAnd, OrOr}
use Rattle.pw_tree.proofs.Growth.{prefix_self, prefix_trans, state_after, Grows, grows_nothing, grows_then, grows_choice, grows_stepped_from, grows_stepped, CallsGrow, grows_binary, grows_operated, grows_indexed, grows_call_through, grows_eval, grows_eval_all, grows_followed, grows_after_body, grows_runs, grows_tests, grows_goes_back, grows_after_iteration, grows_iterations, grows_exec, grows_exec_all, grows_exec_maybe, grows_entered, grows_call}

-- The state with k steps more left.
abbrev pub with_more : ℕ → State → State
with_more k st = record st { steps = st.steps + k }

-- The second outcome is the first with k steps more left; where the first is spent, the second has written more.
abbrev pub SameUnlessSpent : {A : Type 0} → ℕ → Outcome A → Outcome A → Type 0
SameUnlessSpent k (gives v st) r = r ≡ gives v (with_more k st)
SameUnlessSpent k (stops (checked fault f line) st) r = r ≡ stops (checked fault f line) (with_more k st)
SameUnlessSpent k (stops spent st) r = IsPrefix st.output (state_after r).output

pub record Follows {A : Type 0} (k : ℕ) (r r' : Outcome A) : Type 0 where
  pub same : SameUnlessSpent k r r'

follows_spent : {A : Type 0} (k : ℕ) (st : State) (r' : Outcome A) → Grows (with_more k st) r' → Follows k (stops spent st) r'
follows_spent k st r' g = record { same = g.more }

-- Evaluations one after another.
follows_then : {A B : Type 0} (k : ℕ) (r r' : Outcome A) (next next' : A → State → Outcome B) →
    Follows k r r' → ((v : A) (st : State) → Follows k (next v st) (next' v (with_more k st))) →
    ((v : A) (st : State) → Grows st (next' v st)) → Follows k (and_then r next) (and_then r' next')
follows_then k (gives v st) r' next next' f h g = subst (λ q. Follows k (next v st) (and_then q next')) (sym f.same) (h v st)
follows_then k (stops (checked fault d line) st) r' next next' f h g = record { same = ap (λ q. and_then q next') f.same }
follows_then k (stops spent st) (gives v st') next next' f h g = record { same = prefix_trans _ _ _ f.same (g v st').more }
follows_then k (stops spent st) (stops why st') next next' f h g = record { same = f.same }

follows_choice : {A : Type 0} (k : ℕ) (t : Bool) (a a' b b' : State → Outcome A) →
    ((st : State) → Follows k (a st) (a' (with_more k st))) → ((st : State) → Follows k (b st) (b' (with_more k st))) →
    (st : State) → Follows k (chosen t a b st) (chosen t a' b' (with_more k st))
follows_choice k true a a' b b' f g st = f st
follows_choice k false a a' b b' f g st = g st

follows_stepped_from : {A : Type 0} (k n : ℕ) (next next' : State → Outcome A) →
    ((st : State) → Follows k (next st) (next' (with_more k st))) → ((st : State) → Grows st (next' st)) →
    (st : State) → Follows k (stepped_from n next st) (stepped_from (n + k) next' (with_more k st))
follows_stepped_from k zero next next' f g st = follows_spent k st _ (grows_stepped_from (0 + k) next' g (with_more k st))
follows_stepped_from k (suc n) next next' f g st =
    let e : suc n + k ≡ suc (n + k) = omega arith in
    subst (λ s. Follows k (next (record st { steps = n })) (stepped_from s next' (with_more k st))) (sym e) (f (record st { steps = n }))

follows_stepped : {A : Type 0} (k : ℕ) (next next' : State → Outcome A) →
    ((st : State) → Follows k (next st) (next' (with_more k st))) → ((st : State) → Grows st (next' st)) →
    (st : State) → Follows k (stepped next st) (stepped next' (with_more k st))
follows_stepped k next next' f g st = follows_stepped_from k st.steps next next' f g st

follows_followed : (k : ℕ) (done : Completion) (next next' : Locals → State → Outcome Completion) →
    ((locals : Locals) (st : State) → Follows k (next locals st) (next' locals (with_more k st))) →
    (st : State) → Follows k (followed done next st) (followed done next' (with_more k st))
follows_followed k (normal locals) next next' f st = f locals st
follows_followed k (broke locals) next next' f st = record { same = refl }
follows_followed k (continued locals) next next' f st = record { same = refl }
follows_followed k (returned v) next next' f st = record { same = refl }

follows_after_body : (k : ℕ) (done : Completion) (next next' : Locals → State → Outcome Iteration) →
    ((locals : Locals) (st : State) → Follows k (next locals st) (next' locals (with_more k st))) →
    (st : State) → Follows k (after_body done next st) (after_body done next' (with_more k st))
follows_after_body k (normal locals) next next' f st = f locals st
follows_after_body k (broke locals) next next' f st = record { same = refl }
follows_after_body k (continued locals) next next' f st = f locals st
follows_after_body k (returned v) next next' f st = record { same = refl }

follows_runs : (k : ℕ) (body body' : Locals → State → Outcome Completion) (next next' : Locals → State → Outcome Iteration) →
    ((locals : Locals) (st : State) → Follows k (body locals st) (body' locals (with_more k st))) →
    ((locals : Locals) (st : State) → Follows k (next locals st) (next' locals (with_more k st))) →
    ((locals : Locals) (st : State) → Grows st (next' locals st)) →
    (locals : Locals) (st : State) → Follows k (runs body next locals st) (runs body' next' locals (with_more k st))
follows_runs k body body' next next' f h g locals st =
    follows_then k _ _ _ _ (f locals st) (λ done. follows_after_body k done next next' h) (λ done. grows_after_body done next' g)

follows_goes_back : (k : ℕ) (locals : Locals) (st : State) → Follows k (goes_back locals st) (goes_back locals (with_more k st))
follows_goes_back k locals st = record { same = refl }

follows_after_iteration : (k : ℕ) (t : Iteration) (again again' : Locals → State → Outcome Completion) →
    ((locals : Locals) (st : State) → Follows k (again locals st) (again' locals (with_more k st))) →
    (st : State) → Follows k (after_iteration t again st) (after_iteration t again' (with_more k st))
follows_after_iteration k (back locals) again again' f st = f locals st
follows_after_iteration k (out done) again again' f st = record { same = refl }

-- Loops.
follows_iterations : (k : ℕ) (iteration iteration' : Locals → State → Outcome Iteration) →
    ((locals : Locals) (st : State) → Follows k (iteration locals st) (iteration' locals (with_more k st))) →
    ((locals : Locals) (st : State) → Grows st (iteration' locals st)) →
    (m n : ℕ) → m ≤ n → (locals : Locals) (st : State) → Follows k (iterations iteration m locals st) (iterations iteration' n locals (with_more k st))
follows_iterations k iteration iteration' f g zero zero h locals st =
    follows_then k _ _ _ _ (f locals st)
    (λ t. follows_after_iteration k t (λ locals. stops spent) (λ locals. stops spent) (λ locals st. record { same = prefix_self st.output }))
    (λ t. grows_after_iteration t (λ locals. stops spent) (λ locals st. grows_nothing st _ refl))
follows_iterations k iteration iteration' f g zero (suc n) h locals st =
    let again : (locals : Locals) (st : State) → Grows st (stepped (iterations iteration' n locals) st) = (λ locals. grows_stepped _ (grows_iterations iteration' g n locals)) in
    follows_then k _ _ _ _ (f locals st)
    (λ t. follows_after_iteration k t (λ locals. stops spent) (λ locals. stepped (iterations iteration' n locals)) (λ locals st. follows_spent k st _ (again locals (with_more k st))))
    (λ t. grows_after_iteration t (λ locals. stepped (iterations iteration' n locals)) again)
follows_iterations k iteration iteration' f g (suc m) zero h locals st = absurd (omega arith)
follows_iterations k iteration iteration' f g (suc m) (suc n) h locals st =
    let again : (locals : Locals) (st : State) → Grows st (stepped (iterations iteration' n locals) st) = (λ locals. grows_stepped _ (grows_iterations iteration' g n locals)) in
    follows_then k _ _ _ _ (f locals st)
    (λ t. follows_after_iteration k t (λ locals. stepped (iterations iteration m locals)) (λ locals. stepped (iterations iteration' n locals))
    (λ locals. follows_stepped k _ _ (follows_iterations k iteration iteration' f g m n (omega arith) locals) (grows_iterations iteration' g n locals)))
    (λ t. grows_after_iteration t (λ locals. stepped (iterations iteration' n locals)) again)

-- The context of a body in which calls and loops have more steps.
abbrev later : Context → (Definition → List Value → State → Outcome Value) → ℕ → Context
later x called iterations_left = record x { called = called; iterations_left = iterations_left }

-- Calls and loops of the second context follow those of the first.
record Goes (k : ℕ) (x : Context) (called : Definition → List Value → State → Outcome Value) (n : ℕ) : Type 0 where
  calls : (f : Definition) (arguments : List Value) (st : State) → Follows k (x.called f arguments st) (called f arguments (with_more k st))
  grows : (f : Definition) (arguments : List Value) (st : State) → Grows st (called f arguments st)
  enough : x.iterations_left ≤ n

module _ (k : ℕ) (x : Context) (called : Definition → List Value → State → Outcome Value) (n : ℕ) (goes : Goes k x called n) where
  abbrev y : Context
  y = later x called n

  grow : CallsGrow y
  grow = record { grows = goes.grows }

  follows_divided : (line : ℕ) (op : Bin) (unsigned : Bool) (a b : ℕ) (st : State) →
      Follows k (divided x line op unsigned a b st) (divided y line op unsigned a b (with_more k st))
  follows_divided line op unsigned a b =
      follows_choice k (nat_eq b 0) _ _ _ _ (λ st. record { same = refl }) (λ st. record { same = refl })

  follows_binary : (line : ℕ) (op : Bin) (unsigned : Bool) (a b : Value) (st : State) →
      Follows k (binary_value x line op unsigned a b st) (binary_value y line op unsigned a b (with_more k st))
  follows_binary line Div unsigned a b st = follows_divided line Div unsigned (as_number a) (as_number b) st
  follows_binary line Rem unsigned a b st = follows_divided line Rem unsigned (as_number a) (as_number b) st
  follows_binary line Eq unsigned a b st = record { same = refl }
  follows_binary line op unsigned a b st = record { same = refl }

  follows_truth : (right right' : State → Outcome Value) →
      ((st : State) → Follows k (right st) (right' (with_more k st))) →
      (st : State) → Follows k (and_then (right st) truth_of) (and_then (right' (with_more k st)) truth_of)
  follows_truth right right' f st =
      follows_then k _ _ truth_of truth_of (f st) (λ v st. record { same = refl }) (λ v st. grows_nothing st _ refl)

  follows_operated : (line : ℕ) (op : Bin) (unsigned : Bool) (a : Value) (right right' : State → Outcome Value) →
      ((st : State) → Follows k (right st) (right' (with_more k st))) →
      (st : State) → Follows k (operated x line op unsigned a right st) (operated y line op unsigned a right' (with_more k st))
  follows_operated line AndAnd unsigned a right right' f st =
      follows_choice k (holds a) _ _ _ _ (follows_truth right right' f) (λ st. record { same = refl }) st
  follows_operated line OrOr unsigned a right right' f st =
      follows_choice k (holds a) _ _ _ _ (λ st. record { same = refl }) (follows_truth right right' f) st
  follows_operated line op unsigned a right right' f st =
      follows_then k _ _ _ _ (f st) (λ v. follows_binary line op unsigned a v) (λ v. grows_binary y line op unsigned a v)

  follows_indexed : {A : Type 0} (size line : ℕ) (v : Value) (next next' : ℕ → State → Outcome A) →
      ((i : ℕ) (st : State) → Follows k (next i st) (next' i (with_more k st))) →
      (st : State) → Follows k (indexed x size line v next st) (indexed y size line v next' (with_more k st))
  follows_indexed size line v next next' f =
      follows_choice k (nat_lt (as_number v) size) _ _ _ _ (f (as_number v)) (λ st. record { same = refl })

  follows_next_byte : (bytes : List ℕ) (st : State) → Follows k (next_byte bytes st) (next_byte bytes (with_more k st))
  follows_next_byte [] st = record { same = refl }
  follows_next_byte (byte ∷ rest) st = record { same = refl }

  follows_call_through : (line : ℕ) (arguments : List Value) (v : Value) (st : State) →
      Follows k (call_through x line arguments v st) (call_through y line arguments v (with_more k st))
  follows_call_through line arguments (pointer f) st = goes.calls f arguments st
  follows_call_through line arguments null st = record { same = refl }
  follows_call_through line arguments (number i) st = record { same = refl }

  -- Expressions.
  mutual
    follows_eval : (e : TypedExpression) (locals : Locals) (st : State) → Follows k (eval x e locals st) (eval y e locals (with_more k st))
    follows_eval (constant at value) locals st = record { same = refl }
    follows_eval (local at i) locals st = record { same = refl }
    follows_eval (variable at v) locals st = record { same = refl }
    follows_eval (designator at f) locals st = record { same = refl }
    follows_eval (element at a size i) locals st =
        follows_then k _ _ _ _ (follows_eval i locals st)
        (λ v. follows_indexed size at.line v (λ i st. gives (st.variables (x.named a) i) st) (λ i st. gives (st.variables (x.named a) i) st) (λ i st. record { same = refl }))
        (λ v. grows_indexed y size at.line v (λ i st. gives (st.variables (x.named a) i) st) (λ i st. grows_nothing st _ refl))
    follows_eval (unary at op e) locals st =
        follows_then k _ _ _ _ (follows_eval e locals st) (λ v st. record { same = refl }) (λ v st. grows_nothing st _ refl)
    follows_eval (binary at op unsigned l r) locals st =
        follows_then k _ _ _ _ (follows_eval l locals st)
        (λ v. follows_operated at.line op unsigned v (eval x r locals) (eval y r locals) (follows_eval r locals))
        (λ v. grows_operated y at.line op unsigned v (eval y r locals) (grows_eval y grow r locals))
    follows_eval (conditional at c a b) locals st =
        follows_then k _ _ _ _ (follows_eval c locals st)
        (λ v. follows_choice k (holds v) (eval x a locals) (eval y a locals) (eval x b locals) (eval y b locals) (follows_eval a locals) (follows_eval b locals))
        (λ v. grows_choice (holds v) (eval y a locals) (eval y b locals) (grows_eval y grow a locals) (grows_eval y grow b locals))
    follows_eval (call at f es) locals st =
        follows_then k _ _ _ _ (follows_eval_all es locals st) (goes.calls (x.named f)) (goes.grows (x.named f))
    follows_eval (call_pointer at e es) locals st =
        follows_then k _ _ _ _ (follows_eval_all es locals st)
        (λ vs st. follows_then k _ _ _ _ (follows_eval e locals st) (follows_call_through at.line vs) (grows_call_through y grow at.line vs))
        (λ vs st. grows_then st _ _ (grows_eval y grow e locals st) (grows_call_through y grow at.line vs))
    follows_eval (input at) locals st = follows_next_byte st.input st
    follows_eval (output at e) locals st =
        follows_then k _ _ _ _ (follows_eval e locals st) (λ v st. record { same = refl }) (λ v st. record { more = (as_number v % 256 ∷ [], refl) })

    follows_eval_all : (es : TypedExpressions) (locals : Locals) (st : State) →
        Follows k (eval_all x es locals st) (eval_all y es locals (with_more k st))
    follows_eval_all nil locals st = record { same = refl }
    follows_eval_all (cons e es) locals st =
        follows_then k _ _ _ _ (follows_eval e locals st)
        (λ v st. follows_then k _ _ _ _ (follows_eval_all es locals st) (λ vs st. record { same = refl }) (λ vs st. grows_nothing st _ refl))
        (λ v st. grows_then st _ _ (grows_eval_all y grow es locals st) (λ vs st. grows_nothing st _ refl))

  follows_eval_option : (e : Option TypedExpression) (locals : Locals) (st : State) →
      Follows k (eval_option x e locals st) (eval_option y e locals (with_more k st))
  follows_eval_option None locals st = record { same = refl }
  follows_eval_option (Some e) locals st =
      follows_then k _ _ _ _ (follows_eval e locals st) (λ v st. record { same = refl }) (λ v st. grows_nothing st _ refl)

  follows_tests : (c : Option TypedExpression) (next next' : Locals → State → Outcome Iteration) →
      ((locals : Locals) (st : State) → Follows k (next locals st) (next' locals (with_more k st))) →
      ((locals : Locals) (st : State) → Grows st (next' locals st)) →
      (locals : Locals) (st : State) → Follows k (tests x c next locals st) (tests y c next' locals (with_more k st))
  follows_tests None next next' f g locals st = f locals st
  follows_tests (Some e) next next' f g locals st =
      follows_then k _ _ _ _ (follows_eval e locals st)
      (λ v. follows_choice k (holds v) (next locals) (next' locals) (gives (out (normal locals))) (gives (out (normal locals))) (f locals) (λ st. record { same = refl }))
      (λ v. grows_choice (holds v) (next' locals) (gives (out (normal locals))) (g locals) (λ st. grows_nothing st _ refl))

  -- Statements.
  mutual
    follows_exec : (s : TypedStatement) (locals : Locals) (st : State) → Follows k (exec x s locals st) (exec y s locals (with_more k st))
    follows_exec (evaluate e) locals st =
        follows_then k _ _ _ _ (follows_eval e locals st) (λ v st. record { same = refl }) (λ v st. grows_nothing st _ refl)
    follows_exec (set_local i e) locals st =
        follows_then k _ _ _ _ (follows_eval_option e locals st) (λ v st. record { same = refl }) (λ v st. grows_nothing st _ refl)
    follows_exec (set_variable a e) locals st =
        follows_then k _ _ _ _ (follows_eval e locals st) (λ v st. record { same = refl }) (λ v st. grows_nothing st _ refl)
    follows_exec (set_element a size line i e) locals st =
        let value : Context → ℕ → State → Outcome Completion = (λ z i st. and_then (eval z e locals st) (stores (z.named a) i locals)) in
        let grown : (i : ℕ) (st : State) → Grows st (value y i st) = (λ i st. grows_then st _ _ (grows_eval y grow e locals st) (λ v st. grows_nothing st _ refl)) in
        follows_then k _ _ _ _ (follows_eval i locals st)
        (λ v. follows_indexed size line v (value x) (value y)
        (λ i st. follows_then k _ _ _ _ (follows_eval e locals st) (λ v st. record { same = refl }) (λ v st. grows_nothing st _ refl)))
        (λ v. grows_indexed y size line v (value y) grown)
    follows_exec (block body) locals st = follows_exec_all body locals st
    follows_exec (if_else c a b) locals st =
        follows_then k _ _ _ _ (follows_eval c locals st)
        (λ v. follows_choice k (holds v) (exec x a locals) (exec y a locals) (exec_maybe x b locals) (exec_maybe y b locals) (follows_exec a locals) (follows_exec_maybe b locals))
        (λ v. grows_choice (holds v) (exec y a locals) (exec_maybe y b locals) (grows_exec y grow a locals) (grows_exec_maybe y grow b locals))
    follows_exec (while_loop c body) locals st =
        follows_iterations k _ _
        (follows_tests (Some c) _ _ (follows_runs k _ (exec y body) _ _ (follows_exec body) (follows_goes_back k) grows_goes_back) (grows_runs _ _ (grows_exec y grow body) grows_goes_back))
        (grows_tests y grow (Some c) _ (grows_runs _ _ (grows_exec y grow body) grows_goes_back))
        x.iterations_left n goes.enough locals st
    follows_exec (do_loop body c) locals st =
        follows_iterations k _ _
        (follows_runs k _ (exec y body) _ _ (follows_exec body) (follows_tests (Some c) _ _ (follows_goes_back k) grows_goes_back) (grows_tests y grow (Some c) _ grows_goes_back))
        (grows_runs _ _ (grows_exec y grow body) (grows_tests y grow (Some c) _ grows_goes_back))
        x.iterations_left n goes.enough locals st
    follows_exec (for_loop first c last body) locals st =
        let part : Context → Locals → State → Outcome Iteration = (λ z. runs (exec z body) (runs (exec_maybe z last) goes_back)) in
        let part_grows : (locals : Locals) (st : State) → Grows st (part y locals st) = grows_runs _ _ (grows_exec y grow body) (grows_runs _ _ (grows_exec_maybe y grow last) grows_goes_back) in
        let loop_follows : (locals : Locals) (st : State) → Follows k (iterations (tests x c (part x)) x.iterations_left locals st) (iterations (tests y c (part y)) n locals (with_more k st)) =
        follows_iterations k _ _
        (follows_tests c (part x) (part y)
        (follows_runs k _ (exec y body) _ _ (follows_exec body) (follows_runs k _ (exec_maybe y last) _ _ (follows_exec_maybe last) (follows_goes_back k) grows_goes_back) (grows_runs _ _ (grows_exec_maybe y grow last) grows_goes_back))
        part_grows)
        (grows_tests y grow c (part y) part_grows)
        x.iterations_left n goes.enough in
        follows_then k _ _ _ _ (follows_exec_maybe first locals st)
        (λ done. follows_followed k done _ _ loop_follows)
        (λ done. grows_followed done _ (grows_iterations _ (grows_tests y grow c (part y) part_grows) n))
    follows_exec (returns e) locals st =
        follows_then k _ _ _ _ (follows_eval_option e locals st) (λ v st. record { same = refl }) (λ v st. grows_nothing st _ refl)
    follows_exec breaks locals st = record { same = refl }
    follows_exec continues locals st = record { same = refl }

    follows_exec_all : (ss : TypedStatements) (locals : Locals) (st : State) →
        Follows k (exec_all x ss locals st) (exec_all y ss locals (with_more k st))
    follows_exec_all nil locals st = record { same = refl }
    follows_exec_all (cons s ss) locals st =
        follows_then k _ _ _ _ (follows_exec s locals st)
        (λ done. follows_followed k done (exec_all x ss) (exec_all y ss) (follows_exec_all ss))
        (λ done. grows_followed done (exec_all y ss) (grows_exec_all y grow ss))

    follows_exec_maybe : (s : OptionalTypedStatement) (locals : Locals) (st : State) →
        Follows k (exec_maybe x s locals st) (exec_maybe y s locals (with_more k st))
    follows_exec_maybe absent locals st = record { same = refl }
    follows_exec_maybe (present s) locals st = follows_exec s locals st

follows_entered : (k left : ℕ) (f : Definition) (callee : Function) (body body' : State → Outcome Completion) →
    ((st : State) → Follows k (body st) (body' (with_more k st))) →
    (st : State) → Follows k (entered_from left f callee body st) (entered_from left f callee body' (with_more k st))
follows_entered k zero f callee body body' h st = record { same = refl }
follows_entered k (suc left) f callee body body' h st =
    follows_then k _ _ _ _ (h (record st { calls = left })) (λ done st. record { same = refl }) (λ done st. grows_nothing st _ refl)

-- Calls.
pub follows_call : (k : ℕ) (project : Project) (m n : ℕ) → m ≤ n → (f : Definition) (arguments : List Value) (st : State) →
    Follows k (call_of project m f arguments st) (call_of project n f arguments (with_more k st))
follows_call k project zero n h f arguments st = follows_spent k st _ (grows_call project n f arguments (with_more k st))
follows_call k project (suc m) zero h f arguments st = absurd (omega arith)
follows_call k project (suc m) (suc n) h f arguments st =
    let callee : Function = called_function project f in
    let x : Context = record { self = f; named = named_in project f.in_module f.in_unit; called = call_of project m; iterations_left = m } in
    let goes : Goes k x (call_of project n) n = record { calls = follows_call k project m n (omega arith); grows = grows_call project n; enough = omega arith } in
    let y : Context = later x (call_of project n) n in
    let quiet : CallsGrow y = record { grows = grows_call project n } in
    follows_stepped k _ _
    (λ st. follows_entered k st.calls f callee _ _ (follows_exec_all k x (call_of project n) n goes callee.body (locals_at_entry arguments)) st)
    (λ st. grows_entered st.calls f callee _ (grows_exec_all y quiet callee.body (locals_at_entry arguments)) st)
    st
