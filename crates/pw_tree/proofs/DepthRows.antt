-- Worked rows on how deep calls go, computed from the definition.
use Rattle.std.proofs.Common.{◌≡◌, false, [], ◌∷◌, Some, refl, codes}
use Rattle.pw_tree.specs.TypedExpressions.{constant, local, binary, call, typed_expressions}
use Rattle.pw_tree.specs.TypedStatements.{evaluate, block, if_else, returns, absent, typed_statements}
use Rattle.pw_tree.specs.Names.{Project}
use Rattle.pw_tree.specs.States.{depth, checked, spent}
use Rattle.pw_tree.specs.Meaning.{meaning, exit, stopped}
use Rattle.pw_tree.specs.declared.ty.Ty.TheVariants.{Long}
use Rattle.pw_tree.specs.declared.ty.Ref.TheVariants.{Global}
use Rattle.pw_tree.specs.declared.operator.Bin.TheVariants.{Add, Sub, Eq}
use Rattle.pw_tree.proofs.Programs.{at, external, program, definition, run}

-- long f(long n) { if (n == 0) { return 0; } return f(n - 1) + 1; }
-- long main(void) { return f(998); }
abbrev a_thousand_calls : Project
a_thousand_calls = program (
    external (codes "f") Long (Long ∷ []) 1 (
    (if_else (binary (at 1) Eq false (local (at 1) 0) (constant (at 1) 0)) (block (typed_statements ((returns (Some (constant (at 1) 0))) ∷ []))) absent) ∷
    (returns (Some (binary (at 1) Add false (call (at 1) (Global (codes "f")) (typed_expressions ((binary (at 1) Sub false (local (at 1) 0) (constant (at 1) 1)) ∷ []))) (constant (at 1) 1)))) ∷
    []) ∷
    external (codes "main") Long [] 2 (
    (returns (Some (call (at 2) (Global (codes "f")) (typed_expressions ((constant (at 2) 998) ∷ []))))) ∷
    []) ∷
    []) []

-- 1,000 calls are alive, `main` included.
pub a_thousand_calls_may_be_alive : meaning a_thousand_calls [] 1000 ≡ run [] [] (exit 998)
a_thousand_calls_may_be_alive = refl

-- long f(long n) { if (n == 0) { return 0; } return f(n - 1) + 1; }
-- long main(void) { return f(999); }
abbrev one_call_more : Project
one_call_more = program (
    external (codes "f") Long (Long ∷ []) 1 (
    (if_else (binary (at 1) Eq false (local (at 1) 0) (constant (at 1) 0)) (block (typed_statements ((returns (Some (constant (at 1) 0))) ∷ []))) absent) ∷
    (returns (Some (binary (at 1) Add false (call (at 1) (Global (codes "f")) (typed_expressions ((binary (at 1) Sub false (local (at 1) 0) (constant (at 1) 1)) ∷ []))) (constant (at 1) 1)))) ∷
    []) ∷
    external (codes "main") Long [] 2 (
    (returns (Some (call (at 2) (Global (codes "f")) (typed_expressions ((constant (at 2) 999) ∷ []))))) ∷
    []) ∷
    []) []

-- The fault names the called function and the line of its name.
pub one_call_more_is_a_fault : meaning one_call_more [] 1001 ≡ run [] [] (stopped (checked depth (definition 0 0 0) 1))
one_call_more_is_a_fault = refl

-- long g(void) { return 0; }
-- long f(long n) { if (n == 0) { return 0; } return f(n - 1) + 1; }
-- long main(void) { g(); return f(999); }
abbrev two_calls_more : Project
two_calls_more = program (
    external (codes "g") Long [] 1 (
    (returns (Some (constant (at 1) 0))) ∷
    []) ∷
    external (codes "f") Long (Long ∷ []) 2 (
    (if_else (binary (at 2) Eq false (local (at 2) 0) (constant (at 2) 0)) (block (typed_statements ((returns (Some (constant (at 2) 0))) ∷ []))) absent) ∷
    (returns (Some (binary (at 2) Add false (call (at 2) (Global (codes "f")) (typed_expressions ((binary (at 2) Sub false (local (at 2) 0) (constant (at 2) 1)) ∷ []))) (constant (at 2) 1)))) ∷
    []) ∷
    external (codes "main") Long [] 3 (
    (evaluate (call (at 3) (Global (codes "g")) (typed_expressions []))) ∷
    (returns (Some (call (at 3) (Global (codes "f")) (typed_expressions ((constant (at 3) 999) ∷ []))))) ∷
    []) ∷
    []) []

-- A call takes its step before it is found too deep.
pub a_call_takes_its_step_first : meaning two_calls_more [] 1001 ≡ run [] [] (stopped spent)
a_call_takes_its_step_first = refl

-- With one step more it is found too deep.
pub and_is_then_found_too_deep : meaning two_calls_more [] 1002 ≡ run [] [] (stopped (checked depth (definition 0 0 1) 2))
and_is_then_found_too_deep = refl
