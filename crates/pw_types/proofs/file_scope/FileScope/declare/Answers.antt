-- The answers to the goals of `FileScope::declare` in `src/file_scope.rt`.
use Rattle.std.proofs.Common.{◌∙◌, sym, ap, subst, None, ◌≡◌}
use Rattle.std.specs.Map.{lookup}
use Rattle.pw_types.specs.Scopes.{with_file}
use Rattle.pw_types.specs.Steps.Lookups.{AreKeyed}
use Rattle.pw_types.proofs.Keys.{bytes}
use Rattle.pw_types.proofs.KeyedFiles.{HasJoined, also, at_name, joins_known, joins_new}
use Rattle.pw_types.proofs.file_scope.FileScope.declare.Goals as goal

known : (c : goal.Joined-file) →
    HasJoined bytes c.args.file c.self.inside.by_name.entries (c.get_mut.follows.lender (also c.args.file.defined c.in-Some.known.now)).entries
known c =
    joins_known bytes c.args.file c.in-Some.known.now c.bytes.result.now _ _ c.bytes.ensures.bytes c.self.invariant c.get_mut.ensures.unique
    (sym c.in-Some.ensures.value) (c.get_mut.follows.holds (also c.args.file.defined c.in-Some.known.now)).0

new : (c : goal.Joined-insert-2) → HasJoined bytes c.args.file c.self.inside.by_name.entries c.insert.new.self.entries
new c =
    let same = c.get_mut.follows.holds-at-none in
    let entries = c.get_mut.follows.lender-at-none.entries in
    let none : lookup (at_name bytes c.bytes.result.now) entries ≡ None = subst (λ m. lookup (at_name bytes c.bytes.result.now) m.entries ≡ None) (sym same) (sym c.in-None.ensures.value) in
    subst (λ m. HasJoined bytes c.args.file m.entries c.insert.new.self.entries) same
    (joins_new bytes c.args.file c.bytes.result.now c.in_ok-key-in-None.key c.get_mut.follows.lender-at-none _ c.bytes.ensures.bytes
    (c.in_ok-key-in-None.ensures.items ∙ c.bytes-in-None.ensures.bytes)
    (subst (λ m. AreKeyed bytes m.entries) (sym same) c.self.invariant) none c.in-Ok.ensures.entries)

pub invariant_of-self : goal.invariant_of-self
invariant_of-self c = (known c).keyed

pub returns-in-Some : goal.returns-in-Some
returns-in-Some c = (known c).files ∙ ap (with_file c.args.file) c.self.view_is

pub invariant_of-self-in-Ok : goal.invariant_of-self-in-Ok
invariant_of-self-in-Ok c = (new c).keyed

pub returns-in-Ok : goal.returns-in-Ok
returns-in-Ok c = (new c).files ∙ ap (with_file c.args.file) c.self.view_is
