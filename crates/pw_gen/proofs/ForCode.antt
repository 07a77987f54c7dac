-- The code of a `for`, by the parts that it is appended in.
use Rattle.std.proofs.Common.{◌≡◌, ℕ, ◌+◌, List, [], ◌∷◌, ◌++◌, Option, refl, sym, ap, ◌∙◌, append_assoc}
use Rattle.pw_tree.specs.TypedExpressions.{TypedExpression}
use Rattle.pw_tree.specs.TypedStatements.{TypedStatement, OptionalTypedStatement, for_loop}
use Rattle.pw_code.specs.Items.{CodePart}
use Rattle.pw_code.specs.Pieces.{jump}
use Rattle.pw_code.specs.StatementCode.{condition_words, statement_words, optional_words, condition_code, statement_code}
use Rattle.pw_gen.specs.declared.place.Place.{Place}
use Rattle.pw_gen.specs.Steps.Places.{after, in_loop, code_at, optional_code_at, for_body_code_at}

pub for_is : (place top behind : Place) (first : OptionalTypedStatement) (c : Option TypedExpression) (last : OptionalTypedStatement)
    (body : TypedStatement) (n : ℕ) → top ≡ after place (optional_words first) →
    behind ≡ after (after top (condition_words c)) (statement_words body) → n ≡ optional_words last →
    optional_code_at place first ++ for_body_code_at top c body n ++ optional_code_at behind last ++ jump (behind.at + n) top.at ∷ []
    ≡ code_at place (for_loop first c last body)
unfolding statement_code
for_is place top behind first c last body n et eb en =
    let t : Place = after place (optional_words first) in
    let b : Place = after (after t (condition_words c)) (statement_words body) in
    let m : ℕ = optional_words last in
    let next : ℕ = t.at + condition_words c + statement_words body in
    let there : behind ≡ b = eb ∙ ap (λ (q : Place). after (after q (condition_words c)) (statement_words body)) et in
    ap (λ (q : Place). optional_code_at place first ++ for_body_code_at q c body n ++ optional_code_at behind last ++ jump (behind.at + n) q.at ∷ []) et
    ∙ ap (λ (q : Place). optional_code_at place first ++ for_body_code_at t c body n ++ optional_code_at q last ++ jump (q.at + n) t.at ∷ []) there
    ∙ ap (λ (k : ℕ). optional_code_at place first ++ for_body_code_at t c body k ++ optional_code_at b last ++ jump (b.at + k) t.at ∷ []) en
    ∙ ap (λ (l : List CodePart). l ++ optional_code_at b last ++ jump (b.at + m) t.at ∷ [])
    (sym (append_assoc (optional_code_at place first) (condition_code place.frame c (statement_words body + (m + 1)))
    (code_at (in_loop (next + m + 1) next (after t (condition_words c))) body)))
