-- The law of statements, a row of the scheme after the other.
use Rattle.std.proofs.Common.{◌≡◌, ℕ, zero, suc, ◌+◌, ◌<◌, ◌≤◌, Bool, false, List, [], ◌∷◌, ◌++◌, length, Option, Some, None, refl, sym, subst, arith}
use Rattle.std.specs.Prelude.{slice_get}
use Rattle.std.specs.List.{AllByRecursion}
use Rattle.pw_tree.specs.declared.ty.Ref.{Ref}
use Rattle.pw_tree.specs.Held.{held, held_option, held_by, held_by_all, held_by_maybe}
use Rattle.pw_tree.specs.Depends.{names_in, names_in_option, names_of, names_of_all, names_of_maybe}
use Rattle.pw_tree.specs.Names.{Definition}
use Rattle.pw_tree.specs.TypedExpressions.{TypedExpression}
use Rattle.pw_tree.specs.TypedStatements.{TypedStatement, TypedStatements, OptionalTypedStatement, evaluate, set_local, set_variable, set_element, block, if_else, while_loop, do_loop, for_loop, returns, breaks, continues, nil, cons, absent, present}
use Rattle.pw_tree.specs.States.{Value, State, Locals, Outcome, gives}
use Rattle.pw_tree.specs.Evaluation.{Context, eval}
use Rattle.pw_tree.specs.Execution.{Completion, normal, exec, exec_all, exec_maybe, iterations, runs, tests, goes_back}
use Rattle.pw_tree.specs.WellTypedExpressions.{Class, nothing, number, class, IsValue, IsValueClass, HasClass, HasFittingParts, ReadsKnown, HasSmallNumbers, Throughout}
use Rattle.pw_tree.specs.WellTypedExpressions as classes
use Rattle.pw_tree.specs.WellTypedStatements.{IfPresent, IsCondition, Everywhere, EverywhereIn, EverywhereIf, StatementFits, known_after, known_after_maybe, StatementReads, StatementsRead, MaybeReads, LeavesLoops, AllLeaveLoops, MaybeLeavesLoops, IsSimpleTyped, IsSimpleTypedLast, IsTypedFirstPart, IsTypedLastPart, HasSimpleParts, StatementHasSmallNumbers}
use Rattle.pw_code.specs.Items.{CodePart, size}
use Rattle.pw_code.specs.Pieces.{jump}
use Rattle.pw_code.specs.ExpressionCode.{expression_words, expression_code}
use Rattle.pw_code.specs.StatementCode.{statement_words, optional_words, condition_words, statement_code, statements_code, optional_code, condition_code}
use Rattle.pw_code.proofs.Exports.{size-expression, size-statement, size-optional}
use Rattle.pw_simulation.specs.World.{World}
use Rattle.pw_simulation.specs.Sees.{Sees}
use Rattle.pw_simulation.specs.Bodies.{Body, HasFrame, IsLinked, context_of, Runs}
use Rattle.pw_simulation.specs.Calls.{CallsRun}
use Rattle.pw_simulation.specs.Statements.{IsKeptBody, Surroundings, CompletesAt, RunsStatement, StatementsRun}
use Rattle.pw_simulation.proofs.Expressions.{links_left, links_right, value_class, expressions_run}
use Rattle.pw_simulation.proofs.StatementParts.{Covers, covers_itself, covers_after, stays, one_after_another}
use Rattle.pw_simulation.proofs.StatementRows.{evaluate_row, break_row, continue_row, return_row, return_value_row, set_local_row, declare_row}
use Rattle.pw_simulation.proofs.VariableRows.{set_variable_row}
use Rattle.pw_simulation.proofs.SetElementRows.{set_element_row}
use Rattle.pw_simulation.proofs.IfRows.{if_row, if_else_row}
use Rattle.pw_simulation.proofs.LoopRows.{inside_loop, outside_loops, statement_less, while_row, do_row}
use Rattle.pw_simulation.proofs.ForRows.{endless, conditional, for_row}

-- ---- classes

-- a local that has a class is one of the function's,
local_below : (cs : List Class) (i : ℕ) (c : Class) → slice_get cs i ≡ Some c → i < length cs
local_below [] i c h = cc
local_below (d ∷ cs) zero c h = omega arith
local_below (d ∷ cs) (suc i) c h = let rest = local_below cs i c h in omega (arith, rest)

-- and its class is one of values
local_value : (cs : List Class) (i : ℕ) (c : Class) → AllByRecursion IsValueClass cs → slice_get cs i ≡ Some c → IsValue c
local_value [] i c all h = cc
local_value (d ∷ cs) zero c all h = let same : d ≡ c = cc in subst IsValue same (some d all.0)
  where
    some : (d : Class) → IsValueClass d → IsValue d
    some nothing h = absurd h
    some number h = tt
    some (classes.pointer k) h = tt
local_value (d ∷ cs) (suc i) c all h = local_value cs i c all.1 h

-- ---- parts of a `for`

simple_leaves : (in_loop : Bool) (s : TypedStatement) → IsSimpleTyped s → LeavesLoops in_loop s
unfolding LeavesLoops
simple_leaves in_loop (evaluate e) h = tt
simple_leaves in_loop (set_local i e) h = tt
simple_leaves in_loop (set_variable x e) h = tt
simple_leaves in_loop (set_element a size line i e) h = tt
simple_leaves in_loop (block body) h = absurd h
simple_leaves in_loop (if_else c a b) h = absurd h
simple_leaves in_loop (while_loop c body) h = absurd h
simple_leaves in_loop (do_loop body c) h = absurd h
simple_leaves in_loop (for_loop first c last body) h = absurd h
simple_leaves in_loop (returns e) h = absurd h
simple_leaves in_loop breaks h = absurd h
simple_leaves in_loop continues h = absurd h

last_is_simple : (s : TypedStatement) → IsSimpleTypedLast s → IsSimpleTyped s
last_is_simple (set_local i (Some e)) h = tt
last_is_simple (set_local i None) h = absurd h
last_is_simple (evaluate e) h = h
last_is_simple (set_variable x e) h = h
last_is_simple (set_element a size line i e) h = h
last_is_simple (block body) h = h
last_is_simple (if_else c a b) h = h
last_is_simple (while_loop c body) h = h
last_is_simple (do_loop body c) h = h
last_is_simple (for_loop first c last body) h = h
last_is_simple (returns e) h = h
last_is_simple breaks h = h
last_is_simple continues h = h

first_leaves : (in_loop : Bool) (s : OptionalTypedStatement) → IsTypedFirstPart s → MaybeLeavesLoops in_loop s
unfolding MaybeLeavesLoops
first_leaves in_loop absent h = tt
first_leaves in_loop (present s) h = simple_leaves in_loop s h

last_leaves : (in_loop : Bool) (s : OptionalTypedStatement) → IsTypedLastPart s → MaybeLeavesLoops in_loop s
unfolding MaybeLeavesLoops
last_leaves in_loop absent h = tt
last_leaves in_loop (present s) h = simple_leaves in_loop s (last_is_simple s h)

covers_after_maybe : (s : OptionalTypedStatement) (known : List ℕ) → Covers (known_after_maybe s known) known
covers_after_maybe absent known = covers_itself known
covers_after_maybe (present s) known = covers_after s known

module _ (w : World) (sees : Sees w) (b : Body) (frame : HasFrame w b) (body_is : IsKeptBody w b) (n : ℕ)
    (calls : Definition → List Value → State → Outcome Value) (calls_run : CallsRun w calls n) where
  abbrev x : Context
  x = context_of w b calls n

  abbrev AreLinked : List Ref → Type 0
  AreLinked = AllByRecursion (IsLinked w b)

  -- nothing
  nothing_row : (around : Surroundings) (known : List ℕ) (at : ℕ) → RunsStatement w b around known known n at [] (λ locals. gives (normal locals))
  unfolding size
  nothing_row around known at locals st s r here = stays w sees b frame n (CompletesAt w b around known known (at + 0)) 0 (normal locals) st s r.at (let e = here.here in omega arith, r.carried)

  -- an expression of a statement
  expression_of : (known : List ℕ) (h : ℕ) (e : TypedExpression) → Throughout (HasFittingParts b.unit b.classes) e → Throughout (ReadsKnown known) e
      → Throughout HasSmallNumbers e → h + held e ≤ b.frame.held
      → AreLinked (names_in e) → (locals : Locals) → Runs w b known locals n h (class e) (expression_code b.frame h e) (eval x e locals)
  expression_of known h e p k m few links locals =
      expressions_run w b known locals n h n calls e sees frame calls_run (record { parts = p; reads = k; numbers = m; held = few; links = links })

  -- what is asked of the condition of a `for`
  record IsFineCondition (known : List ℕ) (c : Option TypedExpression) : Type 0 where
    value : IsCondition c
    parts : IfPresent (Throughout (HasFittingParts b.unit b.classes)) c
    reads : IfPresent (Throughout (ReadsKnown known)) c
    numbers : IfPresent (Throughout HasSmallNumbers) c
    few : held_option c ≤ b.frame.held
    links : AreLinked (names_in_option c)

  -- the loop of a `for`, behind its first part
  for_loop_runs : (around : Surroundings) (known : List ℕ) (c : Option TypedExpression) (top body_at next jump_at nb nl : ℕ)
      (body last : List CodePart) (mb ml : Locals → State → Outcome Completion) → IsFineCondition known c
      → top + condition_words c ≡ body_at → body_at + size body ≡ next → next + size last ≡ jump_at → size body ≡ nb → size last ≡ nl
      → RunsStatement w b (inside_loop around (jump_at + 1) next) known known n body_at body mb
      → RunsStatement w b (outside_loops around) known known n next last ml
      → RunsStatement w b around known known n top (condition_code b.frame c (nb + (nl + 1)) ++ body ++ last ++ jump jump_at top ∷ [])
      (iterations (tests x c (runs mb (runs ml goes_back))) n)
  for_loop_runs around known None top body_at next jump_at nb nl body last mb ml f start middle end words_b words_l runs_body runs_last =
      endless w sees b frame n around body_is.kept known body_at next jump_at top nb nl body last mb ml middle end words_b words_l runs_body runs_last (omega arith)
  for_loop_runs around known (Some e) top body_at next jump_at nb nl body last mb ml f start middle end words_b words_l runs_body runs_last =
      conditional w sees b frame n around body_is.kept known body_at next jump_at top nb nl body last mb ml middle end words_b words_l runs_body runs_last (class e) (expression_code b.frame 0 e) (eval x e) f.value
      (omega (arith, size-expression b.frame 0 e, start)) (expression_of known 0 e f.parts f.reads f.numbers (let h = f.few in omega arith) f.links)

  -- what is asked of a statement, of several, and of one that may be absent
  record IsFine (around : Surroundings) (known : List ℕ) (s : TypedStatement) : Type 0 where
    fits : Everywhere (StatementFits b.unit around.result b.classes) s
    reads : StatementReads known s
    loops : LeavesLoops around.in_loop s
    simple : Everywhere HasSimpleParts s
    numbers : Everywhere StatementHasSmallNumbers s
    few : held_by s ≤ b.frame.held
    links : AreLinked (names_of s)

  record AreFine (around : Surroundings) (known : List ℕ) (ss : TypedStatements) : Type 0 where
    fits : EverywhereIn (StatementFits b.unit around.result b.classes) ss
    reads : StatementsRead known ss
    loops : AllLeaveLoops around.in_loop ss
    simple : EverywhereIn HasSimpleParts ss
    numbers : EverywhereIn StatementHasSmallNumbers ss
    few : held_by_all ss ≤ b.frame.held
    links : AreLinked (names_of_all ss)

  record IsFineIf (around : Surroundings) (known : List ℕ) (s : OptionalTypedStatement) : Type 0 where
    fits : EverywhereIf (StatementFits b.unit around.result b.classes) s
    reads : MaybeReads known s
    loops : MaybeLeavesLoops around.in_loop s
    simple : EverywhereIf HasSimpleParts s
    numbers : EverywhereIf StatementHasSmallNumbers s
    few : held_by_maybe s ≤ b.frame.held
    links : AreLinked (names_of_maybe s)

  mutual
    unfolding statement_code statements_code optional_code Rattle.pw_code.specs.StatementCode.else_code statement_words optional_words Everywhere EverywhereIn EverywhereIf StatementReads StatementsRead MaybeReads LeavesLoops AllLeaveLoops MaybeLeavesLoops held_by held_by_all held_by_maybe

    statement_runs : (s : TypedStatement) (around : Surroundings) (known : List ℕ) (at : ℕ) → IsFine around known s
        → RunsStatement w b around known (known_after s known) n at (statement_code b.frame around.targets at s) (exec x s)
    statement_runs (evaluate e) around known at f =
        evaluate_row w sees b frame n around known at (class e) (expression_code b.frame 0 e) (eval x e) (expression_of known 0 e f.fits.parts f.reads f.numbers.expressions (let h = f.few in omega arith) f.links)
    statement_runs (set_local i None) around known at f =
        declare_row w sees b frame n around known at i (let h = f.fits.classes_fit in let each = body_is.each in omega (arith, h, each))
    statement_runs (set_local i (Some e)) around known at f =
        let is_class = f.fits.classes_fit in
        let below = local_below b.classes i (class e) is_class in
        set_local_row w sees b frame n around known at i (class e) (expression_code b.frame 0 e) (eval x e) is_class (local_value b.classes i (class e) body_is.values is_class)
        (let each = body_is.each in omega (arith, below, each)) (expression_of known 0 e f.fits.parts f.reads f.numbers.expressions (let h = f.few in omega arith) f.links)
    statement_runs (set_variable v e) around known at f =
        let is_class = f.fits.classes_fit in
        set_variable_row w sees b frame n around known v None (class e) (f.links.0.variable None (class e) is_class) (subst IsValue (sym is_class.class_is) (value_class is_class.ty is_class.variable.type)) at
        (expression_code b.frame 0 e) (eval x e) (omega arith) (expression_of known 0 e f.fits.parts f.reads f.numbers.expressions (let h = f.few in omega arith) f.links.1)
    statement_runs (set_element a array_size line i e) around known at f =
        let is_class = f.fits.classes_fit.0 in
        let bound = is_class.variable.size in
        let small = f.numbers.line in
        let few = f.few in
        let index = expression_of known 0 i f.fits.parts.0 f.reads.0 f.numbers.expressions.0 (omega arith) (links_left (IsLinked w b) (names_in i) (names_in e) f.links.1) in
        set_element_row w sees b frame n around known a array_size (class e) (f.links.0.variable (Some array_size) (class e) is_class) (subst IsValue (sym is_class.class_is) (value_class is_class.ty is_class.variable.type))
        (omega (arith, bound.1)) (omega arith) (expression_code b.frame 1 e) (eval x e)
        (expression_of known 1 e f.fits.parts.1 f.reads.1 f.numbers.expressions.1 (omega arith) (links_right (IsLinked w b) (names_in i) (names_in e) f.links.1)) calls n line (omega arith) at (expression_code b.frame 0 i) (eval x i)
        (λ locals. subst (λ k. Runs w b known locals n 0 k (expression_code b.frame 0 i) (eval x i locals)) f.fits.classes_fit.1 (index locals))
    statement_runs (block body) around known at f =
        statements_runs body around known at (record { fits = f.fits.1; reads = f.reads; loops = f.loops; simple = f.simple.1; numbers = f.numbers.1; few = f.few; links = f.links })
    statement_runs (if_else c a absent) around known at f =
        let few = f.few in
        let at_a : ℕ = at + (expression_words c + 2) in
        let front = links_left (IsLinked w b) (names_in c ++ names_of a) [] f.links in
        if_row w sees b frame n around known at at_a (statement_words a) (class c) (expression_code b.frame 0 c) (statement_code b.frame around.targets at_a a) (eval x c) (exec x a)
        f.fits.0.classes_fit (omega (arith, size-expression b.frame 0 c)) (size-statement b.frame around.targets at_a a)
        (expression_of known 0 c f.fits.0.parts f.reads.0 f.numbers.0.expressions (omega arith) (links_left (IsLinked w b) (names_in c) (names_of a) front))
        (statement_less w sees b frame n around known (known_after a known) known at_a (statement_code b.frame around.targets at_a a) (exec x a) (covers_after a known)
        (statement_runs a around known at_a (record { fits = f.fits.1; reads = f.reads.1; loops = f.loops.0; simple = f.simple.1; numbers = f.numbers.1; few = omega arith; links = links_right (IsLinked w b) (names_in c) (names_of a) front })))
    statement_runs (if_else c a (present s)) around known at f =
        let few = f.few in
        let at_a : ℕ = at + (expression_words c + 2) in
        let at_b : ℕ = at_a + statement_words a + 1 in
        let front = links_left (IsLinked w b) (names_in c ++ names_of a) (names_of s) f.links in
        if_else_row w sees b frame n around known at at_a at_b (statement_words a) (statement_words s) (class c) (expression_code b.frame 0 c) (statement_code b.frame around.targets at_a a)
        (statement_code b.frame around.targets at_b s) (eval x c) (exec x a) (exec x s)
        f.fits.0.classes_fit (omega (arith, size-expression b.frame 0 c)) (omega (arith, size-statement b.frame around.targets at_a a)) (size-statement b.frame around.targets at_a a) (size-statement b.frame around.targets at_b s)
        (expression_of known 0 c f.fits.0.parts f.reads.0 f.numbers.0.expressions (omega arith) (links_left (IsLinked w b) (names_in c) (names_of a) front))
        (statement_less w sees b frame n around known (known_after a known) known at_a (statement_code b.frame around.targets at_a a) (exec x a) (covers_after a known)
        (statement_runs a around known at_a (record { fits = f.fits.1; reads = f.reads.1; loops = f.loops.0; simple = f.simple.1; numbers = f.numbers.1; few = omega arith; links = links_right (IsLinked w b) (names_in c) (names_of a) front })))
        (statement_less w sees b frame n around known (known_after s known) known at_b (statement_code b.frame around.targets at_b s) (exec x s) (covers_after s known)
        (statement_runs s around known at_b (record { fits = f.fits.2; reads = f.reads.2; loops = f.loops.1; simple = f.simple.2; numbers = f.numbers.2; few = omega arith; links = links_right (IsLinked w b) (names_in c ++ names_of a) (names_of s) f.links })))
    statement_runs (while_loop c body) around known at f =
        let few = f.few in
        let body_at : ℕ = at + (expression_words c + 2) in
        let next : ℕ = body_at + statement_words body in
        let inner : Surroundings = inside_loop around (next + 1) next in
        while_row w sees b frame n around body_is.kept known at body_at next (statement_words body) (class c) (expression_code b.frame 0 c) (statement_code b.frame inner.targets body_at body) (eval x c) (exec x body)
        f.fits.0.classes_fit (omega (arith, size-expression b.frame 0 c)) (omega (arith, size-statement b.frame inner.targets body_at body)) (size-statement b.frame inner.targets body_at body)
        (expression_of known 0 c f.fits.0.parts f.reads.0 f.numbers.0.expressions (omega arith) (links_left (IsLinked w b) (names_in c) (names_of body) f.links))
        (statement_less w sees b frame n inner known (known_after body known) known body_at (statement_code b.frame inner.targets body_at body) (exec x body) (covers_after body known)
        (statement_runs body inner known body_at (record { fits = f.fits.1; reads = f.reads.1; loops = f.loops; simple = f.simple.1; numbers = f.numbers.1; few = omega arith; links = links_right (IsLinked w b) (names_in c) (names_of body) f.links })))
    statement_runs (do_loop body c) around known at f =
        let few = f.few in
        let next : ℕ = at + statement_words body in
        let jump_at : ℕ = next + (expression_words c + 1) in
        let inner : Surroundings = inside_loop around (jump_at + 1) next in
        do_row w sees b frame n around body_is.kept known at next jump_at (class c) (statement_code b.frame inner.targets at body) (expression_code b.frame 0 c) (eval x c) (exec x body)
        f.fits.0.classes_fit (omega (arith, size-statement b.frame inner.targets at body)) (omega (arith, size-expression b.frame 0 c))
        (expression_of known 0 c f.fits.0.parts f.reads.1 f.numbers.0.expressions (omega arith) (links_right (IsLinked w b) (names_of body) (names_in c) f.links))
        (statement_less w sees b frame n inner known (known_after body known) known at (statement_code b.frame inner.targets at body) (exec x body) (covers_after body known)
        (statement_runs body inner known at (record { fits = f.fits.1; reads = f.reads.0; loops = f.loops; simple = f.simple.1; numbers = f.numbers.1; few = omega arith; links = links_left (IsLinked w b) (names_of body) (names_in c) f.links })))
    statement_runs (for_loop first c last body) around known at f =
        let few = f.few in
        let mid = known_after_maybe first known in
        let top : ℕ = at + optional_words first in
        let body_at : ℕ = top + condition_words c in
        let next : ℕ = body_at + statement_words body in
        let jump_at : ℕ = next + optional_words last in
        let inner : Surroundings = inside_loop around (jump_at + 1) next in
        let outer : Surroundings = outside_loops around in
        let links3 = links_left (IsLinked w b) (names_of_maybe first ++ names_in_option c ++ names_of_maybe last) (names_of body) f.links in
        let links2 = links_left (IsLinked w b) (names_of_maybe first ++ names_in_option c) (names_of_maybe last) links3 in
        let runs_first = optional_runs first outer known at (record {
          fits = f.fits.1;
          reads = f.reads.0;
          loops = first_leaves false first f.simple.0.0;
          simple = f.simple.1;
          numbers = f.numbers.1;
          few = omega arith;
          links = links_left (IsLinked w b) (names_of_maybe first) (names_in_option c) links2;
        }) in
        let runs_last = statement_less w sees b frame n outer mid (known_after_maybe last mid) mid next (optional_code b.frame around.targets next last) (exec_maybe x last) (covers_after_maybe last mid)
        (optional_runs last outer mid next (record {
          fits = f.fits.2;
          reads = f.reads.2;
          loops = last_leaves false last f.simple.0.1;
          simple = f.simple.2;
          numbers = f.numbers.2;
          few = omega arith;
          links = links_right (IsLinked w b) (names_of_maybe first ++ names_in_option c) (names_of_maybe last) links3;
        })) in
        let runs_body = statement_less w sees b frame n inner mid (known_after body mid) mid body_at (statement_code b.frame inner.targets body_at body) (exec x body) (covers_after body mid)
        (statement_runs body inner mid body_at (record {
          fits = f.fits.3;
          reads = f.reads.3;
          loops = f.loops;
          simple = f.simple.3;
          numbers = f.numbers.3;
          few = omega arith;
          links = links_right (IsLinked w b) (names_of_maybe first ++ names_in_option c ++ names_of_maybe last) (names_of body) f.links;
        })) in
        let condition : IsFineCondition mid c = record {
          value = f.fits.0.classes_fit;
          parts = f.fits.0.parts;
          reads = f.reads.1;
          numbers = f.numbers.0.expressions;
          few = omega arith;
          links = links_right (IsLinked w b) (names_of_maybe first) (names_in_option c) links2;
        } in
        let words_b = size-statement b.frame inner.targets body_at body in
        let words_l = size-optional b.frame around.targets next last in
        for_row w sees b frame n around body_is.kept known mid at top (optional_code b.frame around.targets at first) (condition_code b.frame c (statement_words body + (optional_words last + 1))) (statement_code b.frame inner.targets body_at body)
        (optional_code b.frame around.targets next last) (jump jump_at top ∷ []) (exec_maybe x first) (iterations (tests x c (runs (exec x body) (runs (exec_maybe x last) goes_back))) n) (covers_after_maybe first known)
        (omega (arith, size-optional b.frame around.targets at first)) runs_first
        (for_loop_runs around mid c top body_at next jump_at (statement_words body) (optional_words last) (statement_code b.frame inner.targets body_at body) (optional_code b.frame around.targets next last) (exec x body) (exec_maybe x last) condition
        refl (omega (arith, words_b)) (omega (arith, words_l)) words_b words_l runs_body runs_last)
    statement_runs (returns None) around known at f = return_row w sees b frame n around known at f.fits.classes_fit
    statement_runs (returns (Some e)) around known at f =
        return_value_row w sees b frame n around known at (expression_words e) (class e) (expression_code b.frame 0 e) (eval x e) (size-expression b.frame 0 e) f.fits.classes_fit.1
        (expression_of known 0 e f.fits.parts f.reads f.numbers.expressions (let h = f.few in omega arith) f.links)
    statement_runs breaks around known at f = break_row w sees b frame n around known at f.loops
    statement_runs continues around known at f = continue_row w sees b frame n around known at f.loops

    statements_runs : (ss : TypedStatements) (around : Surroundings) (known : List ℕ) (at : ℕ) → AreFine around known ss
        → RunsStatement w b around known known n at (statements_code b.frame around.targets at ss) (exec_all x ss)
    statements_runs nil around known at f = nothing_row around known at
    statements_runs (cons s ss) around known at f =
        let few = f.few in
        let next : ℕ = at + statement_words s in
        let words : next ≡ at + size (statement_code b.frame around.targets at s) = omega (arith, size-statement b.frame around.targets at s) in
        one_after_another w sees b frame n around known (known_after s known) known at (statement_code b.frame around.targets at s) (statements_code b.frame around.targets next ss) (exec x s) (exec_all x ss) (covers_after s known)
        (statement_runs s around known at (record { fits = f.fits.0; reads = f.reads.0; loops = f.loops.0; simple = f.simple.0; numbers = f.numbers.0; few = omega arith; links = links_left (IsLinked w b) (names_of s) (names_of_all ss) f.links }))
        (subst (λ k. RunsStatement w b around (known_after s known) known n k (statements_code b.frame around.targets next ss) (exec_all x ss)) words
        (statement_less w sees b frame n around (known_after s known) (known_after s known) known next (statements_code b.frame around.targets next ss) (exec_all x ss) (covers_after s known)
        (statements_runs ss around (known_after s known) next (record { fits = f.fits.1; reads = f.reads.1; loops = f.loops.1; simple = f.simple.1; numbers = f.numbers.1; few = omega arith; links = links_right (IsLinked w b) (names_of s) (names_of_all ss) f.links }))))

    optional_runs : (s : OptionalTypedStatement) (around : Surroundings) (known : List ℕ) (at : ℕ) → IsFineIf around known s
        → RunsStatement w b around known (known_after_maybe s known) n at (optional_code b.frame around.targets at s) (exec_maybe x s)
    optional_runs absent around known at f = nothing_row around known at
    optional_runs (present s) around known at f =
        statement_runs s around known at (record { fits = f.fits; reads = f.reads; loops = f.loops; simple = f.simple; numbers = f.numbers; few = f.few; links = f.links })

pub statements_run : StatementsRun
statements_run w b around known n at calls ss sees frame body_is calls_run is =
    statements_runs w sees b frame body_is n calls calls_run ss around known at
    (record { fits = is.fits; reads = is.reads; loops = is.loops; simple = is.simple_parts; numbers = is.numbers; few = is.held; links = is.links })
