-- The answers to the goals of `FileScope::find` in `src/file_scope.rt`.
use Rattle.std.proofs.Common.{◌∙◌, sym, ap, List, ℕ}
use Rattle.pw_types.specs.Scopes.{file_named}
use Rattle.pw_types.specs.Steps.Uses.{file_number}
use Rattle.pw_types.proofs.Keys.{bytes}
use Rattle.pw_types.proofs.KeyedFiles.{found, placed}
use Rattle.pw_types.proofs.file_scope.FileScope.find.Goals as goal

pub returns-in-Some : goal.returns-in-Some
returns-in-Some c =
    let name : List ℕ = c.args.name.now in
    let entries = c.self.inside.by_name.entries in (
      ap (file_named name) (sym c.self.view_is) ∙ sym (found bytes name entries c.self.invariant) ∙ sym c.in-Some.ensures.value,
      placed bytes name entries c.in-Some.number c.self.invariant (sym c.in-Some.ensures.index) ∙ ap (file_number name) c.self.view_is,
    )

pub returns-in-None : goal.returns-in-None
returns-in-None c =
    ap (file_named c.args.name.now) (sym c.self.view_is)
    ∙ sym (found bytes c.args.name.now c.self.inside.by_name.entries c.self.invariant)
    ∙ sym c.in-None.ensures.value
