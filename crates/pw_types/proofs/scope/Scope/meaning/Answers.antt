-- The answers to the goals of `Scope::meaning` in `src/scope.rt`.
use Rattle.std.proofs.Common.{◌≡◌, ◌∙◌, ap, subst}
use Rattle.pw_types.specs.Scopes.{local_named, name_meaning, a_local, missing}
use Rattle.pw_types.specs.Steps.Lookups.{IsDeclared}
use Rattle.pw_types.proofs.Meanings.{is_local, is_missing, is_declared}
use Rattle.pw_types.proofs.scope.Scope.meaning.Goals as goal

pub returns-in-Some : goal.returns-in-Some
returns-in-Some c =
    subst (λ s. name_meaning s c.args.name.now ≡ a_local c.in-Some.local.now) c.self.view_is
    (is_local _ c.args.name.now c.in-Some.local.now (c.in-Some.ensures ∙ ap (local_named c.args.name.now) c.deref.ensures.value))

pub returns-in-Some-find : goal.returns-in-Some-find
returns-in-Some-find c =
    subst (λ s. IsDeclared s c.args.name.now c.in-Some-find.number c.in-Some-find.file.now) c.self.view_is
    (is_declared _ c.args.name.now _ _ (c.in-None.ensures ∙ ap (local_named c.args.name.now) c.deref.ensures.value) c.in-Some-find.ensures)

pub returns-in-None-find : goal.returns-in-None-find
returns-in-None-find c =
    subst (λ s. name_meaning s c.args.name.now ≡ missing) c.self.view_is
    (is_missing _ c.args.name.now (c.in-None.ensures ∙ ap (local_named c.args.name.now) c.deref.ensures.value) c.in-None-find.ensures)
