-- Worked rows on steps, loops and locals, computed from the definition.
use Rattle.std.proofs.Common.{◌≡◌, false, [], ◌∷◌, Some, None, refl, codes}
use Rattle.pw_tree.specs.TypedExpressions.{constant, local, unary, binary, call, call_pointer, output, typed_expressions}
use Rattle.pw_tree.specs.TypedStatements.{evaluate, set_local, block, if_else, while_loop, do_loop, for_loop, returns, breaks, continues, absent, present, typed_statements}
use Rattle.pw_tree.specs.Names.{Project}
use Rattle.pw_tree.specs.States.{null_call, checked, spent}
use Rattle.pw_tree.specs.Meaning.{meaning, exit, stopped}
use Rattle.pw_tree.specs.declared.ty.Ty.TheVariants.{Long, Fn}
use Rattle.pw_tree.specs.declared.ty.Ref.TheVariants.{Global}
use Rattle.pw_tree.specs.declared.operator.Un.TheVariants.{Bang}
use Rattle.pw_tree.specs.declared.operator.Bin.TheVariants.{Mul, Add, Lt, Eq}
use Rattle.pw_tree.proofs.Programs.{at, at_pointer, at_void, external, program, definition, run}

-- long main(void) { return 0; }
abbrev empty_main : Project
empty_main = program (
    external (codes "main") Long [] 1 (
    (returns (Some (constant (at 1) 0))) ∷
    []) ∷
    []) []

-- A call takes a step.
pub no_step_no_call : meaning empty_main [] 0 ≡ run [] [] (stopped spent)
no_step_no_call = refl

-- And one is enough for it.
pub one_step_one_call : meaning empty_main [] 1 ≡ run [] [] (exit 0)
one_step_one_call = refl

-- long main(void) { while (1) { __out(46); } return 0; }
abbrev dots : Project
dots = program (
    external (codes "main") Long [] 1 (
    (while_loop (constant (at 1) 1) (block (typed_statements ((evaluate (output (at_void 1) (constant (at 1) 46))) ∷ [])))) ∷
    (returns (Some (constant (at 1) 0))) ∷
    []) ∷
    []) []

-- A return to the start of a loop takes a step, before the condition is tested again.
pub a_turn_takes_a_step : meaning dots [] 4 ≡ run (codes "....") [] (stopped spent)
a_turn_takes_a_step = refl

-- long main(void) { while (1) { break; } return 0; }
abbrev one_break : Project
one_break = program (
    external (codes "main") Long [] 1 (
    (while_loop (constant (at 1) 1) (block (typed_statements (breaks ∷ [])))) ∷
    (returns (Some (constant (at 1) 0))) ∷
    []) ∷
    []) []

-- `break` takes no step.
pub break_takes_no_step : meaning one_break [] 1 ≡ run [] [] (exit 0)
break_takes_no_step = refl

-- long main(void) { while (0) { } return 7; }
abbrev no_turn : Project
no_turn = program (
    external (codes "main") Long [] 1 (
    (while_loop (constant (at 1) 0) (block (typed_statements []))) ∷
    (returns (Some (constant (at 1) 7))) ∷
    []) ∷
    []) []

-- A loop that is left at once takes no step.
pub a_loop_without_a_turn_takes_no_step : meaning no_turn [] 1 ≡ run [] [] (exit 7)
a_loop_without_a_turn_takes_no_step = refl

-- long main(void) { long n; do { n = n + 1; } while (n < 3); return n; }
abbrev do_once : Project
do_once = program (
    external (codes "main") Long [] 1 (
    (set_local 0 None) ∷
    (do_loop (block (typed_statements ((set_local 0 (Some (binary (at 1) Add false (local (at 1) 0) (constant (at 1) 1)))) ∷ []))) (binary (at 1) Lt false (local (at 1) 0) (constant (at 1) 3))) ∷
    (returns (Some (local (at 1) 0))) ∷
    []) ∷
    []) []

-- `do` tests after its body.
pub do_tests_after_its_body : meaning do_once [] 3 ≡ run [] [] (exit 3)
do_tests_after_its_body = refl

-- `do` takes a step where its condition holds.
pub do_takes_a_step_to_go_back : meaning do_once [] 2 ≡ run [] [] (stopped spent)
do_takes_a_step_to_go_back = refl

-- long main(void) { long n; long i; for (i = 0; i < 5; i = i + 1) { if (i == 2) { continue; } if (i == 4) { break; } n = n + i; } return n * 10 + i; }
abbrev for_with_continue : Project
for_with_continue = program (
    external (codes "main") Long [] 1 (
    (set_local 0 None) ∷
    (set_local 1 None) ∷
    (for_loop (present (set_local 1 (Some (constant (at 1) 0)))) (Some (binary (at 1) Lt false (local (at 1) 1) (constant (at 1) 5))) (present (set_local 1 (Some (binary (at 1) Add false (local (at 1) 1) (constant (at 1) 1))))) (block (typed_statements ((if_else (binary (at 1) Eq false (local (at 1) 1) (constant (at 1) 2)) (block (typed_statements (continues ∷ []))) absent) ∷ (if_else (binary (at 1) Eq false (local (at 1) 1) (constant (at 1) 4)) (block (typed_statements (breaks ∷ []))) absent) ∷ (set_local 0 (Some (binary (at 1) Add false (local (at 1) 0) (local (at 1) 1)))) ∷ [])))) ∷
    (returns (Some (binary (at 1) Add false (binary (at 1) Mul false (local (at 1) 0) (constant (at 1) 10)) (local (at 1) 1)))) ∷
    []) ∷
    []) []

-- `continue` goes on with the last part, and `break` leaves it out.
pub for_runs_its_last_part_after_continue : meaning for_with_continue [] 40 ≡ run [] [] (exit 44)
for_runs_its_last_part_after_continue = refl

-- long main(void) { long i; for (i = 0; i < 3; i = i + 1) { long n; n = n + 1; if (i == 2) { return n; } } return 0; }
abbrev declared_anew : Project
declared_anew = program (
    external (codes "main") Long [] 1 (
    (set_local 0 None) ∷
    (for_loop (present (set_local 0 (Some (constant (at 1) 0)))) (Some (binary (at 1) Lt false (local (at 1) 0) (constant (at 1) 3))) (present (set_local 0 (Some (binary (at 1) Add false (local (at 1) 0) (constant (at 1) 1))))) (block (typed_statements ((set_local 1 None) ∷ (set_local 1 (Some (binary (at 1) Add false (local (at 1) 1) (constant (at 1) 1)))) ∷ (if_else (binary (at 1) Eq false (local (at 1) 0) (constant (at 1) 2)) (block (typed_statements ((returns (Some (local (at 1) 1))) ∷ []))) absent) ∷ [])))) ∷
    (returns (Some (constant (at 1) 0))) ∷
    []) ∷
    []) []

-- A declaration without initialiser sets 0 each time.
pub a_declaration_sets_0_each_time : meaning declared_anew [] 40 ≡ run [] [] (exit 1)
a_declaration_sets_0_each_time = refl

-- long main(void) { fn0 p; return p(); }
abbrev declared_null : Project
declared_null = program (
    external (codes "main") Long [] 1 (
    (set_local 0 None) ∷
    (returns (Some (call_pointer (at 1) (local (at_pointer 0 1) 0) (typed_expressions [])))) ∷
    []) ∷
    []) []

-- Or null.
pub a_declaration_sets_null : meaning declared_null [] 40 ≡ run [] [] (stopped (checked null_call (definition 0 0 0) 1))
a_declaration_sets_null = refl

-- long f(void) { }
-- long main(void) { return f() + 3; }
abbrev falls_off : Project
falls_off = program (
    external (codes "f") Long [] 1 (
    []) ∷
    external (codes "main") Long [] 2 (
    (returns (Some (binary (at 2) Add false (call (at 2) (Global (codes "f")) (typed_expressions [])) (constant (at 2) 3)))) ∷
    []) ∷
    []) []

-- A function that falls off its end gives 0.
pub a_body_may_fall_off_its_end : meaning falls_off [] 40 ≡ run [] [] (exit 3)
a_body_may_fall_off_its_end = refl

-- fn0 f(void) { }
-- long main(void) { return !f(); }
abbrev falls_off_null : Project
falls_off_null = program (
    external (codes "f") (Fn 0) [] 1 (
    []) ∷
    external (codes "main") Long [] 2 (
    (returns (Some (unary (at 2) Bang (call (at_pointer 0 2) (Global (codes "f")) (typed_expressions []))))) ∷
    []) ∷
    []) []

-- Or null, where its result is a pointer.
pub a_body_may_fall_off_its_end_and_give_null : meaning falls_off_null [] 40 ≡ run [] [] (exit 1)
a_body_may_fall_off_its_end_and_give_null = refl

-- long main(void) { long n; long i; for (i = 0; i < 2; i = i + 1) { while (1) { n = n + 1; break; } } return n; }
abbrev nested : Project
nested = program (
    external (codes "main") Long [] 1 (
    (set_local 0 None) ∷
    (set_local 1 None) ∷
    (for_loop (present (set_local 1 (Some (constant (at 1) 0)))) (Some (binary (at 1) Lt false (local (at 1) 1) (constant (at 1) 2))) (present (set_local 1 (Some (binary (at 1) Add false (local (at 1) 1) (constant (at 1) 1))))) (block (typed_statements ((while_loop (constant (at 1) 1) (block (typed_statements ((set_local 0 (Some (binary (at 1) Add false (local (at 1) 0) (constant (at 1) 1)))) ∷ breaks ∷ [])))) ∷ [])))) ∷
    (returns (Some (local (at 1) 0))) ∷
    []) ∷
    []) []

-- `break` leaves the inner loop alone.
pub break_leaves_the_inner_loop : meaning nested [] 40 ≡ run [] [] (exit 2)
break_leaves_the_inner_loop = refl
