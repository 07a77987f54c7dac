-- The answers to the goals of `number` in `src/initialiser.rt`.
use Rattle.std.proofs.Common.{◌≡◌, ◌≢◌, ℕ, Bool, Ok, Err, rules, arith}
use Rattle.std.proofs.lemmas.Grind.{common_steps}
use Rattle.pw_lex.specs.declared.token.Token.{Token}
use Rattle.pw_grammar.specs.declared.error.SyntaxError.{SyntaxError}
use Rattle.pw_grammar.specs.declared.error.SyntaxError.TheVariants.{NoMemory}
use Rattle.pw_grammar.specs.Expressions.{value_in, is_unsigned_constant}
use Rattle.pw_grammar.specs.Reading.Steps.{Position, ReadResult, take, read_then, pure}
use Rattle.pw_parse.proofs.initialiser.number.Goals as goal

-- an outcome of which less is kept
value_alone : (o : ReadResult Token) (v : ℕ × Bool) (j : Position)
    → read_then {B = ℕ × Bool} o (λ t. pure (value_in t.kind, is_unsigned_constant t.kind)) ≡ Ok (v, j) → read_then o (λ t. pure (value_in t.kind)) ≡ Ok (v.0, j)
value_alone (Ok p) v j e = grind (arith, common_steps)
value_alone (Err x) v j e = cc

refusal_alone : (o : ReadResult Token) (x : SyntaxError)
    → read_then {B = ℕ × Bool} o (λ t. pure (value_in t.kind, is_unsigned_constant t.kind)) ≡ Err x → read_then o (λ t. pure (value_in t.kind)) ≡ Err x
refusal_alone (Ok p) x e = cc
refusal_alone (Err y) x e = cc

pub returns-in_err-value : goal.returns-in_err-value
returns-in_err-value c =
    let h = λ (known : c.in_err-value.field-0.0 ≢ NoMemory). refusal_alone (take c.args.cursor.now) _ (c.in_err-value.ensures known) in
    first_of (search rules, grind (arith, common_steps))

pub returns : goal.returns
returns c = value_alone (take c.args.cursor.now) _ _ c.in_ok-value.ensures
