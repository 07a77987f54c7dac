-- What judging gives, with the names that were used on the way.
use Rattle.std.proofs.Common.{◌≡◌, ℕ, List, Result, Ok, Err, ap, ◌∙◌}
use Rattle.pw_types.specs.declared.fault.Refusal.{Refusal}
use Rattle.pw_types.specs.declared.fault.Refusal.TheVariants as refusals
use Rattle.pw_types.specs.declared.typed.Typed.{Typed}
use Rattle.pw_types.specs.Steps.Judging.{Judge}
use Rattle.pw_types.specs.Steps.CheckingExpressions.{Valued}
use Rattle.pw_types.specs.Steps.ResumingExpressions.{Gives, GivesWith}

-- judging p after these uses is what q is after others
pub given : (p q : Judge Valued) (old new : List ℕ) (result : Result Typed Refusal) → p old ≡ q new → Gives q result →
    GivesWith p old new result
given p q old new (Ok t) same h = same ∙ ap (λ r. r new) h
given p q old new (Err (refusals.Fault f)) same h = same ∙ ap (λ r. r new) h
given p q old new (Err refusals.NoMemory) same h = h
