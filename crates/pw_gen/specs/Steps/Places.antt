-- Where code stands, and the code of statements there.
use Rattle.std.specs.Prelude.{ℕ, ◌+◌, List, ◌++◌, Option}
use Rattle.pw_tree.specs.TypedExpressions.{TypedExpression}
use Rattle.pw_tree.specs.TypedStatements.{TypedStatement, TypedStatements, OptionalTypedStatement}
use Rattle.pw_code.specs.Items.{CodePart}
use Rattle.pw_code.specs.ExpressionCode.{expression_words}
use Rattle.pw_code.specs.StatementCode.{condition_words, statement_words, condition_code, statement_code, statements_code, optional_code, else_code}
use Rattle.pw_code.specs.StatementCode as scheme
use Rattle.pw_gen.specs.declared.place.Targets.{Targets}
use Rattle.pw_gen.specs.declared.place.Place.{Place}
use Rattle.pw_gen.specs.Steps.StatementPieces.{only_if}

-- the words that jumps go to, as the scheme has them
abbrev pub targets_of : Targets → scheme.Targets
targets_of t = record { break_to = t.break_to; continue_to = t.continue_to; return_to = t.return_to }

-- the place that stands so many words further on
abbrev pub after : Place → ℕ → Place
after place words = record place { at = place.at + words }

-- the place in the body of a loop
abbrev pub in_loop : (end next : ℕ) → Place → Place
in_loop end next place = record place { targets = record { break_to = end; continue_to = next; return_to = place.targets.return_to } }

-- the code of statements at a place
abbrev pub code_at : Place → TypedStatement → List CodePart
code_at place s = statement_code place.frame (targets_of place.targets) place.at s

-- the code of a list of statements at a place
abbrev pub code_of_all_at : Place → TypedStatements → List CodePart
code_of_all_at place ss = statements_code place.frame (targets_of place.targets) place.at ss

-- the code of a statement that may be absent
abbrev pub optional_code_at : Place → OptionalTypedStatement → List CodePart
optional_code_at place s = optional_code place.frame (targets_of place.targets) place.at s

-- the code of an `else` part that may be absent
abbrev pub else_code_at : Place → OptionalTypedStatement → List CodePart
else_code_at place s = else_code place.frame (targets_of place.targets) place.at s

-- the condition of an `if` and its first branch; an `else` after it has this jump
abbrev pub then_code_at : Place → TypedExpression → TypedStatement → (jump_words : ℕ) → List CodePart
then_code_at place c a jump_words =
    only_if place.frame c (statement_words a + jump_words) ++ code_at (after place (expression_words c + 2)) a

-- the condition of a `for` and its body; the last part after it has so many words
abbrev pub for_body_code_at : Place → Option TypedExpression → TypedStatement → (last_words : ℕ) → List CodePart
for_body_code_at top c body last_words =
    let next : ℕ = top.at + condition_words c + statement_words body in
    condition_code top.frame c (statement_words body + (last_words + 1))
    ++ code_at (in_loop (next + last_words + 1) next (after top (condition_words c))) body
