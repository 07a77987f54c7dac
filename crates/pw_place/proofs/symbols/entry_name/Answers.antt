-- These bytes are a name.
use Rattle.std.proofs.Common.{◌≡◌, ◌∙◌, false, true≢false, subst, sym, Option, Ok, List, ℕ}
use Rattle.std.specs.Prelude.{codes}
use Rattle.pw_base.specs.Tests.{is_name, ReadsWhere}
use Rattle.pw_place.proofs.AllSymbols.{entry_is_named}
use Rattle.pw_place.proofs.symbols.entry_name.Goals as goal

pub unreachable-requires : goal.unreachable-requires
unreachable-requires c =
    let no : is_name (codes "_start") ≡ false =
    subst (λ (o : Option (List ℕ)). ReadsWhere is_name (codes "_start") (Ok o)) c.in-None.is c.in_ok-name.ensures in
    true≢false (sym entry_is_named ∙ no)
