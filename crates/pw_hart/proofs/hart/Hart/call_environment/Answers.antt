-- The call by its number.
use Rattle.std.proofs.Common.{sym, ap, ◌∙◌}
use Rattle.pw_hart.specs.Exec.{calls_environment}
use Rattle.pw_hart.specs.Harts.{state_of}
use Rattle.pw_hart.proofs.Calls.{calls_take, calls_put, calls_end}
use Rattle.pw_hart.proofs.hart.Hart.call_environment.Goals as goal

pub returns-then-number-eq-INPUT : goal.returns-then-number-eq-INPUT
returns-then-number-eq-INPUT g c =
    calls_take _ _ _ _ _ _ _ c.take_input.result (sym c.get-number.ensures ∙ c.if-number-eq-INPUT.true) c.take_input.ensures

pub returns-then-number-eq-OUTPUT : goal.returns-then-number-eq-OUTPUT
returns-then-number-eq-OUTPUT g c =
    calls_put _ _ _ _ _ _ c.put_output.result (sym c.get-number.ensures ∙ c.if-number-eq-OUTPUT.true) c.put_output.ensures

pub returns : goal.returns
returns g c =
    calls_end _ _ c.end_of_call.result c.end_of_call.ensures.machines
    (λ mem input output.
    ap (λ n. calls_environment n (state_of c.args.self.now mem input output)) (sym c.get-number.ensures)
    ∙ c.end_of_call.ensures.ends mem input output)
