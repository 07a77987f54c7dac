-- These bytes are a name.
use Rattle.std.proofs.Common.{◌≡◌, ◌∙◌, true, false, true≢false, subst, sym, Option, Ok, List, ℕ, refl}
use Rattle.pw_base.specs.Tests.{is_name, ReadsWhere}
use Rattle.pw_image.specs.Rows.{program_name}
use Rattle.pw_build.proofs.parts.program_name.Goals as goal

app_is_a_name : is_name program_name ≡ true
unfolding is_name
app_is_a_name = refl

pub unreachable-requires : goal.unreachable-requires
unreachable-requires c =
    let no : is_name program_name ≡ false =
    subst (λ (o : Option (List ℕ)). ReadsWhere is_name program_name (Ok o)) c.in-None.is c.in_ok-name.ensures in
    true≢false (sym app_is_a_name ∙ no)
