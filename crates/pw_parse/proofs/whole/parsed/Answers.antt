-- The tokens up to the limit are those that are read.
use Rattle.std.proofs.Common.{◌≡◌, sym, ◌∙◌, ap, suc, ◌+◌, take, arith}
use Rattle.pw_grammar.specs.Faults.{token_of}
use Rattle.pw_parse.proofs.Wholes.{parsed_under}
use Rattle.pw_parse.proofs.whole.parsed.Goals as goal

pub returns-in-Some : goal.returns-in-Some
returns-in-Some c = parsed_under _ c.args.tokens.now _ c.in-Some.limit c.under_limit.result (sym c.first_limit.ensures.is ∙ c.in-Some.is)
    (ap (λ n. take n c.args.tokens.now) (let e = c.token.ensures in let z : c.token.result + 1 ≡ suc (token_of c.in-Some.limit) = omega (arith, e) in z)) c.under_limit.ensures
