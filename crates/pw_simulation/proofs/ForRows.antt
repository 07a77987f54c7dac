-- The rows of `for`, with a condition and without.
use Rattle.std.proofs.Common.{◌≡◌, ℕ, ◌+◌, true, List, [], ◌∷◌, ◌++◌, refl, sym, ◌∙◌, ap, subst, arith, append_assoc}
use Rattle.pw_tree.specs.States.{Value, State, Locals, Outcome, and_then}
use Rattle.pw_tree.specs.Execution.{Completion, followed, Iteration, runs, goes_back, iterations}
use Rattle.pw_tree.specs.WellTypedExpressions.{Class, IsValue}
use Rattle.pw_hart.specs.State.{MachineState}
use Rattle.pw_code.specs.Items.{CodePart, size}
use Rattle.pw_code.specs.Pieces.{jump, unless_zero}
use Rattle.pw_code.proofs.Exports.{size-append}
use Rattle.pw_simulation.specs.World.{World}
use Rattle.pw_simulation.specs.Sees.{Sees}
use Rattle.pw_simulation.specs.Bodies.{Body, HasFrame, Runs}
use Rattle.pw_simulation.specs.Statements.{Surroundings, RunsStatement}
use Rattle.pw_simulation.proofs.ConditionRows.{associated}
use Rattle.pw_simulation.proofs.StatementParts.{Covers, PartRuns, one_after_another}
use Rattle.pw_simulation.proofs.StatementRows.{jump_word}
use Rattle.pw_simulation.proofs.IfRows.{unless_words}
use Rattle.pw_simulation.proofs.Loops.{EndsTurn, IsInLoop, back_part, runs_part, tests_part, loop_row}
use Rattle.pw_simulation.proofs.LoopRows.{inside_loop, outside_loops, statement_less, statement_outside, tested}

module _ (w : World) (sees : Sees w) (b : Body) (frame : HasFrame w b) (n : ℕ) (around : Surroundings) (kept : w.keep b.self ≡ true) where
  -- ---- the loop behind the first part

  module _ (known : List ℕ) (body_at next jump_at top nb nl : ℕ) (body last : List CodePart) (mb ml : Locals → State → Outcome Completion)
      (middle : body_at + size body ≡ next) (end : next + size last ≡ jump_at)
      (words_b : size body ≡ nb) (words_l : size last ≡ nl)
      (runs_body : RunsStatement w b (inside_loop around (jump_at + 1) next) known known n body_at body mb)
      (runs_last : RunsStatement w b (outside_loops around) known known n next last ml) where
    abbrev turn : Locals → State → Outcome Iteration
    turn = runs mb (runs ml goes_back)

    abbrev tail : List CodePart
    tail = jump jump_at top ∷ []

    abbrev P : Iteration → MachineState → Type 0
    P = EndsTurn w sees b frame n around known (jump_at + 1) jump_at

    size_tail : size (last ++ tail) ≡ size last + 1
    size_tail = size-append last tail ∙ ap (λ k. size last + k) (jump_word jump_at top)

    size_rest : size (body ++ (last ++ tail)) ≡ size body + size last + 1
    size_rest = size-append body (last ++ tail) ∙ omega (arith, size_tail)

    in_loop : IsInLoop w sees b frame n around known (inside_loop around (jump_at + 1) next) (body_at + size body) (jump_at + 1)
    in_loop = record { returns = refl; result = refl; breaks = λ e. refl; continues = λ e. sym middle }

    not_in_loop : IsInLoop w sees b frame n around known (outside_loops around) (next + size last) (jump_at + 1)
    not_in_loop = record { returns = refl; result = refl; breaks = λ e. cc; continues = λ e. cc }

    jumps : PartRuns w sees b frame n P 0 around known (next + size last) tail goes_back
    jumps = subst (λ k. PartRuns w sees b frame n P 0 around known k tail goes_back) (sym end) (back_part w sees b frame n around known (jump_at + 1) jump_at tail)

    last_part : PartRuns w sees b frame n P (size last + 0) around known (body_at + size body) (last ++ tail) (runs ml goes_back)
    last_part = subst (λ k. PartRuns w sees b frame n P (size last + 0) around known k (last ++ tail) (runs ml goes_back)) (sym middle)
        (runs_part w sees b frame n around known 0 (jump_at + 1) jump_at next (outside_loops around) last tail ml goes_back not_in_loop (omega (arith, size_tail, end)) runs_last jumps)

    turn_part : PartRuns w sees b frame n P (size body + (size last + 0)) around known body_at (body ++ (last ++ tail)) turn
    turn_part = runs_part w sees b frame n around known (size last + 0) (jump_at + 1) jump_at body_at (inside_loop around (jump_at + 1) next) body (last ++ tail) mb (runs ml goes_back) in_loop (omega (arith, size_rest, middle, end)) runs_body last_part

    -- without a condition
    pub endless : body_at ≡ top → RunsStatement w b around known known n top (body ++ last ++ tail) (iterations turn n)
    endless start =
        loop_row w sees b frame n around known kept (size body + (size last + 0)) top jump_at (body ++ last) turn (omega (arith, size-append body last, start, middle, end)) (omega (arith, size-append body last))
        (subst (λ k. PartRuns w sees b frame n (EndsTurn w sees b frame n around known k jump_at) (size body + (size last + 0)) around known top (body ++ last ++ tail) turn) behind
        (subst (λ code. PartRuns w sees b frame n P (size body + (size last + 0)) around known top code turn) (sym (append_assoc body last tail))
        (subst (λ k. PartRuns w sees b frame n P (size body + (size last + 0)) around known k (body ++ (last ++ tail)) turn) start turn_part)))
      where
        behind : jump_at + 1 ≡ top + size (body ++ last ++ tail)
        behind = let e = ap size (append_assoc body last tail) in omega (arith, e, size_rest, start, middle, end)

    -- with one
    module _ (c : Class) (cond : List CodePart) (f : Locals → State → Outcome Value) (some : IsValue c) (start : top + size cond + 2 ≡ body_at)
        (runs_cond : (locals : Locals) → Runs w b known locals n 0 c cond (f locals)) where
      abbrev branch : List CodePart
      branch = unless_zero (nb + (nl + 1))

      pub conditional : RunsStatement w b around known known n top (cond ++ branch ++ body ++ last ++ tail)
          (iterations (tested w sees b frame n around kept known f turn) n)
      conditional =
          loop_row w sees b frame n around known kept (size cond + (2 + (size body + (size last + 0)))) top jump_at (cond ++ branch ++ body ++ last) (tested w sees b frame n around kept known f turn)
          (omega (arith, size_front, start, middle, end)) (omega (arith, size_front))
          (subst (λ k. PartRuns w sees b frame n (EndsTurn w sees b frame n around known k jump_at) (size cond + (2 + (size body + (size last + 0)))) around known top (cond ++ branch ++ body ++ last ++ tail) (tested w sees b frame n around kept known f turn)) behind
          (subst (λ code. PartRuns w sees b frame n P (size cond + (2 + (size body + (size last + 0)))) around known top code (tested w sees b frame n around kept known f turn)) (sym together)
          (tests_part w sees b frame n around known (size body + (size last + 0)) (jump_at + 1) jump_at top (nb + (nl + 1)) c cond (body ++ (last ++ tail)) f turn some (omega (arith, size_rest, words_b, words_l)) (omega (arith, size_apart, start, middle, end)) runs_cond
          (subst (λ k. PartRuns w sees b frame n P (size body + (size last + 0)) around known k (body ++ (last ++ tail)) turn) (sym start) turn_part))))
        where
          size_front : size (cond ++ branch ++ body ++ last) ≡ size cond + 2 + size body + size last
          size_front = size-append (cond ++ branch ++ body) last ∙ omega (arith, size-append (cond ++ branch) body, size-append cond branch, unless_words (nb + (nl + 1)))

          size_apart : size (cond ++ (branch ++ (body ++ (last ++ tail)))) ≡ size cond + 2 + size body + size last + 1
          size_apart = size-append cond (branch ++ (body ++ (last ++ tail))) ∙ omega (arith, size-append branch (body ++ (last ++ tail)), size_rest, unless_words (nb + (nl + 1)))

          together : cond ++ branch ++ body ++ last ++ tail ≡ cond ++ (branch ++ (body ++ (last ++ tail)))
          together = append_assoc (cond ++ branch ++ body) last tail ∙ associated cond branch body (last ++ tail)

          behind : jump_at + 1 ≡ top + size (cond ++ branch ++ body ++ last ++ tail)
          behind = let e = ap size together in omega (arith, e, size_apart, start, middle, end)

  -- ---- all of it

  in_front : (first condition body last tail : List CodePart)
      → first ++ condition ++ body ++ last ++ tail ≡ first ++ (condition ++ body ++ last ++ tail)
  in_front first condition body last tail =
      append_assoc (first ++ condition ++ body) last tail ∙ associated first condition body (last ++ tail) ∙ ap (λ k. first ++ k) (sym (associated condition body last tail))

  pub for_row : (known mid : List ℕ) (at top : ℕ) (first condition body last tail : List CodePart) (mf : Locals → State → Outcome Completion)
      (loop : Locals → State → Outcome Completion) → Covers mid known → at + size first ≡ top
      → RunsStatement w b (outside_loops around) known mid n at first mf
      → RunsStatement w b around mid mid n top (condition ++ body ++ last ++ tail) loop
      → RunsStatement w b around known known n at (first ++ condition ++ body ++ last ++ tail)
      (λ locals st. and_then (mf locals st) (λ done. followed done loop))
  for_row known mid at top first condition body last tail mf loop covers start runs_first runs_loop =
      subst (λ code. RunsStatement w b around known known n at code (λ locals st. and_then (mf locals st) (λ done. followed done loop))) (sym (in_front first condition body last tail))
      (one_after_another w sees b frame n around known mid known at first (condition ++ body ++ last ++ tail) mf loop covers (statement_outside w sees b frame n around known mid at first mf runs_first)
      (statement_less w sees b frame n around mid mid known (at + size first) (condition ++ body ++ last ++ tail) loop covers
      (subst (λ k. RunsStatement w b around mid mid n k (condition ++ body ++ last ++ tail) loop) (sym start) runs_loop)))
