-- One instruction: by the fetch, by the word, and by the instruction.
use Rattle.std.proofs.Common.{Some, sym, ap, ◌∙◌}
use Rattle.pw_hart.proofs.Calls.{steps_refused, steps_illegal, answers_call, answers_execute}
use Rattle.pw_hart.proofs.hart.Hart.carry_out.Goals as goal

pub returns-in_default : goal.returns-in_default
returns-in_default g c =
    steps_refused _ _ _
    (record { input = g.I.Source.state c.args.input.now; used_up = c.args.used_up.now; out = g.O.Sink.state c.args.out.now })
    c.in_default.field-0 (sym c.in_default.ensures.word) c.fetch.ensures.unchanged c.fetch.ensures.fetched

pub returns-in_default-decode : goal.returns-in_default-decode
returns-in_default-decode g c =
    steps_illegal _ _ _
    (record { input = g.I.Source.state c.args.input.now; used_up = c.args.used_up.now; out = g.O.Sink.state c.args.out.now })
    c.in-Ok.word c.from.result (sym c.in-Ok.ensures.word) (sym c.in_default-decode.ensures.value) c.from.ensures c.fetch.ensures.unchanged c.fetch.ensures.fetched

pub execute-requires : goal.execute-requires
execute-requires g c = record { encodable = c.in-Some.ensures.encodable; no_call = c.in_default-inst.not-Ecall }

pub returns-in-Ecall : goal.returns-in-Ecall
returns-in-Ecall g c =
    answers_call _ _ _ _
    (record { input = g.I.Source.state c.args.input.now; used_up = c.args.used_up.now; out = g.O.Sink.state c.args.out.now })
    (record { input = g.I.Source.state c.call_environment.new.input; used_up = c.call_environment.new.used_up; out = g.O.Sink.state c.call_environment.new.out })
    c.in-Ok.word (sym c.in-Ok.ensures.word) (sym c.in-Some.ensures.value ∙ ap Some c.in-Ecall.is)
    c.fetch.ensures.unchanged c.fetch.ensures.fetched c.call_environment.result c.call_environment.ensures

pub returns-in_default-inst : goal.returns-in_default-inst
returns-in_default-inst g c =
    answers_execute _ _ _ _ _
    (record { input = g.I.Source.state c.args.input.now; used_up = c.args.used_up.now; out = g.O.Sink.state c.args.out.now })
    c.in-Ok.word c.in-Some.inst c.execute.result (sym c.in-Ok.ensures.word) (sym c.in-Some.ensures.value)
    c.fetch.ensures.unchanged c.fetch.ensures.fetched c.execute.ensures.no_fetch c.execute.ensures.does
