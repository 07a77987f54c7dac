-- The rows of `while`, `do` and `for`.
use Rattle.std.proofs.Common.{◌≡◌, ℕ, ◌+◌, true, false, List, [], ◌∷◌, ◌++◌, refl, sym, ◌∙◌, ap, subst, arith, pos, append_assoc}
use Rattle.pw_isa.specs.declared.instruction.Inst.TheVariants.{Beq}
use Rattle.pw_tree.specs.States.{Value, holds, State, Locals, Outcome, gives, and_then, chosen}
use Rattle.pw_tree.specs.Execution.{Completion, normal, broke, continued, returned, Iteration, out, runs, goes_back, iterations}
use Rattle.pw_tree.specs.WellTypedExpressions.{Class, IsValue}
use Rattle.pw_hart.specs.State.{MachineState}
use Rattle.pw_code.specs.Items.{CodePart, instruction, size}
use Rattle.pw_code.specs.Pieces.{jump, unless_zero}
use Rattle.pw_code.specs.StatementCode.{targets_in_loop}
use Rattle.pw_code.proofs.Exports.{size-append}
use Rattle.pw_simulation.specs.World.{World}
use Rattle.pw_simulation.specs.Sees.{Sees}
use Rattle.pw_simulation.specs.Bodies.{Body, HasFrame, Runs}
use Rattle.pw_simulation.specs.Statements.{IsPastSlots, Surroundings, CompletesAt, RunsStatement}
use Rattle.pw_simulation.proofs.Meets.{meets_as}
use Rattle.pw_simulation.proofs.Sequences.{alone}
use Rattle.pw_simulation.proofs.ConditionRows.{associated}
use Rattle.pw_simulation.proofs.StatementParts.{Covers, covers_itself, completes_less, PartRuns}
use Rattle.pw_simulation.proofs.StatementRows.{jump_word}
use Rattle.pw_simulation.proofs.IfRows.{unless_words}
use Rattle.pw_simulation.proofs.Loops.{EndsTurn, IsInLoop, back_part, runs_part, tests_part, tests_last_part, loop_row}

-- what is round the body of a loop
abbrev pub inside_loop : Surroundings → (behind next : ℕ) → Surroundings
inside_loop around behind next = record { in_loop = true; targets = targets_in_loop behind next around.targets; result = around.result }

-- what is round a part that has no `break` and no `continue`
abbrev pub outside_loops : Surroundings → Surroundings
outside_loops around = record around { in_loop = false }

module _ (w : World) (sees : Sees w) (b : Body) (frame : HasFrame w b) (n : ℕ) (around : Surroundings) where
  -- fewer locals are known behind
  pub statement_less : (known later less : List ℕ) (at : ℕ) (code : List CodePart) (m : Locals → State → Outcome Completion) → Covers later less
      → RunsStatement w b around known later n at code m
      → RunsStatement w b around known less n at code m
  statement_less known later less at code m covers law locals st s r here =
      meets_as w (IsPastSlots b) b.stack_pointer b.calls_left (size code) (size code) (CompletesAt w b around known later (at + size code)) (CompletesAt w b around known less (at + size code)) (m locals st) s (omega arith)
      (completes_less w sees b frame n around known known later less (at + size code) (covers_itself known) covers) (law locals st s r here)

  -- what does not leave a loop may stand in one
  pub statement_outside : (known later : List ℕ) (at : ℕ) (code : List CodePart) (m : Locals → State → Outcome Completion)
      → RunsStatement w b (outside_loops around) known later n at code m
      → RunsStatement w b around known later n at code m
  statement_outside known later at code m law locals st s r here =
      meets_as w (IsPastSlots b) b.stack_pointer b.calls_left (size code) (size code) (CompletesAt w b (outside_loops around) known later (at + size code)) (CompletesAt w b around known later (at + size code)) (m locals st) s (omega arith)
      weaker (law locals st s r (record { here = here.here; code_there = here.code_there; ahead = record { for_return = here.ahead.for_return; for_break = λ e. cc; for_continue = λ e. cc } }))
    where
      weaker : (done : Completion) (t : MachineState) → CompletesAt w b (outside_loops around) known later (at + size code) done t
          → CompletesAt w b around known later (at + size code) done t
      weaker (normal locals) t h = h
      weaker (broke locals) t h = let e = h.0 in cc
      weaker (continued locals) t h = let e = h.0 in cc
      weaker (returned x) t h = h

  module _ (kept : w.keep b.self ≡ true) (known : List ℕ) where
    -- the meaning of a condition that stays in the loop or leaves it
    abbrev pub tested : (Locals → State → Outcome Value) → (Locals → State → Outcome Iteration) → Locals → State → Outcome Iteration
    tested f next locals st = and_then (f locals st) (λ v. chosen (holds v) (next locals) (gives (out (normal locals))))

    -- ---- `while`

    pub while_row : (at body_at next nb : ℕ) (c : Class) (cond body : List CodePart) (f : Locals → State → Outcome Value)
        (mb : Locals → State → Outcome Completion)
        → IsValue c → at + size cond + 2 ≡ body_at → body_at + size body ≡ next → size body ≡ nb
        → ((locals : Locals) → Runs w b known locals n 0 c cond (f locals))
        → RunsStatement w b (inside_loop around (next + 1) next) known known n body_at body mb
        → RunsStatement w b around known known n at (cond ++ unless_zero (nb + 1) ++ body ++ jump next at ∷ [])
        (iterations (tested f (runs mb goes_back)) n)
    while_row at body_at next nb c cond body f mb some start end words runs_cond runs_body =
        loop_row w sees b frame n around known kept (size cond + (2 + (size body + 0))) at next front (tested f (runs mb goes_back)) (omega (arith, size_front, start, end)) (omega (arith, size_front)) turn
      where
        tail : List CodePart
        tail = jump next at ∷ []

        front : List CodePart
        front = cond ++ unless_zero (nb + 1) ++ body

        behind : ℕ
        behind = at + size (front ++ tail)

        size_front : size front ≡ size cond + 2 + size body
        size_front = size-append (cond ++ unless_zero (nb + 1)) body ∙ ap (λ k. k + size body) (size-append cond (unless_zero (nb + 1)) ∙ ap (λ k. size cond + k) (unless_words (nb + 1)))

        one : size tail ≡ 1
        one = jump_word next at

        size_rest : size (body ++ tail) ≡ size body + 1
        size_rest = size-append body tail ∙ omega (arith, one)

        size_all : size (front ++ tail) ≡ size cond + 2 + size body + 1
        size_all = size-append front tail ∙ omega (arith, one, size_front)

        together : front ++ tail ≡ cond ++ (unless_zero (nb + 1) ++ (body ++ tail))
        together = associated cond (unless_zero (nb + 1)) body tail

        in_loop : IsInLoop w sees b frame n around known (inside_loop around (next + 1) next) (body_at + size body) behind
        in_loop = record { returns = refl; result = refl; breaks = λ e. omega (arith, size_all, start, end); continues = λ e. sym end }

        last : PartRuns w sees b frame n (EndsTurn w sees b frame n around known behind next) 0 around known (body_at + size body) tail goes_back
        last = subst (λ k. PartRuns w sees b frame n (EndsTurn w sees b frame n around known behind next) 0 around known k tail goes_back) (sym end) (back_part w sees b frame n around known behind next tail)

        rest_part : PartRuns w sees b frame n (EndsTurn w sees b frame n around known behind next) (size body + 0) around known (at + size cond + 2)
            (body ++ tail) (runs mb goes_back)
        rest_part = subst (λ k. PartRuns w sees b frame n (EndsTurn w sees b frame n around known behind next) (size body + 0) around known k (body ++ tail) (runs mb goes_back)) (sym start)
            (runs_part w sees b frame n around known 0 behind next body_at (inside_loop around (next + 1) next) body tail mb goes_back in_loop (omega (arith, size_all, size_rest, start)) runs_body last)

        turn : PartRuns w sees b frame n (EndsTurn w sees b frame n around known behind next) (size cond + (2 + (size body + 0))) around known at
            (front ++ tail) (tested f (runs mb goes_back))
        turn = subst (λ code. PartRuns w sees b frame n (EndsTurn w sees b frame n around known behind next) (size cond + (2 + (size body + 0))) around known at code (tested f (runs mb goes_back))) (sym together)
            (tests_part w sees b frame n around known (size body + 0) behind next at (nb + 1) c cond (body ++ tail) f (runs mb goes_back) some (omega (arith, size_rest, words)) (ap (λ code. at + size code) (sym together)) runs_cond rest_part)

    -- ---- `do`

    pub do_row : (at next jump_at : ℕ) (c : Class) (body cond : List CodePart) (f : Locals → State → Outcome Value)
        (mb : Locals → State → Outcome Completion)
        → IsValue c → at + size body ≡ next → next + size cond + 1 ≡ jump_at → ((locals : Locals) → Runs w b known locals n 0 c cond (f locals))
        → RunsStatement w b (inside_loop around (jump_at + 1) next) known known n at body mb
        → RunsStatement w b around known known n at (body ++ cond ++ instruction (Beq 10 0 (pos 8)) ∷ jump jump_at at ∷ [])
        (iterations (runs mb (tested f goes_back)) n)
    do_row at next jump_at c body cond f mb some start end runs_cond runs_body =
        subst (λ code. RunsStatement w b around known known n at code (iterations iteration n)) together
        (loop_row w sees b frame n around known kept (size body + (size cond + 1)) at jump_at front iteration (omega (arith, size_front, start, end)) (omega (arith, size_front)) turn)
      where
        branch : List CodePart
        branch = instruction (Beq 10 0 (pos 8)) ∷ []

        tail : List CodePart
        tail = jump jump_at at ∷ []

        front : List CodePart
        front = body ++ cond ++ branch

        iteration : Locals → State → Outcome Iteration
        iteration = runs mb (tested f goes_back)

        behind : ℕ
        behind = at + size (front ++ tail)

        size_front : size front ≡ size body + size cond + 1
        size_front = size-append (body ++ cond) branch ∙ omega (arith, size-append body cond, alone (Beq 10 0 (pos 8)))

        one : size tail ≡ 1
        one = jump_word jump_at at

        size_all : size (front ++ tail) ≡ size body + size cond + 2
        size_all = size-append front tail ∙ omega (arith, one, size_front)

        together : front ++ tail ≡ (body ++ cond) ++ (instruction (Beq 10 0 (pos 8)) ∷ tail)
        together = append_assoc (body ++ cond) branch tail

        apart : front ++ tail ≡ body ++ (cond ++ (instruction (Beq 10 0 (pos 8)) ∷ tail))
        apart = together ∙ append_assoc body cond (instruction (Beq 10 0 (pos 8)) ∷ tail)

        in_loop : IsInLoop w sees b frame n around known (inside_loop around (jump_at + 1) next) (at + size body) behind
        in_loop = record { returns = refl; result = refl; breaks = λ e. omega (arith, size_all, start, end); continues = λ e. sym start }

        last : PartRuns w sees b frame n (EndsTurn w sees b frame n around known behind jump_at) (size cond + 1) around known (at + size body)
            (cond ++ (instruction (Beq 10 0 (pos 8)) ∷ tail)) (tested f goes_back)
        last = subst (λ k. PartRuns w sees b frame n (EndsTurn w sees b frame n around known behind jump_at) (size cond + 1) around known k (cond ++ (instruction (Beq 10 0 (pos 8)) ∷ tail)) (tested f goes_back)) (sym start)
            (tests_last_part w sees b frame n around known behind jump_at at next c cond f some end (omega (arith, size_all, start, end)) runs_cond)

        turn : PartRuns w sees b frame n (EndsTurn w sees b frame n around known behind jump_at) (size body + (size cond + 1)) around known at
            (front ++ tail) iteration
        turn = subst (λ code. PartRuns w sees b frame n (EndsTurn w sees b frame n around known behind jump_at) (size body + (size cond + 1)) around known at code iteration) (sym apart)
            (runs_part w sees b frame n around known (size cond + 1) behind jump_at at (inside_loop around (jump_at + 1) next) body (cond ++ (instruction (Beq 10 0 (pos 8)) ∷ tail)) mb (tested f goes_back) in_loop
            (ap (λ code. at + size code) (sym apart)) runs_body last)
