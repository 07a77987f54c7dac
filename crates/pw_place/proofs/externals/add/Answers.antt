-- An entry is among others where its name is among theirs.
use Rattle.std.proofs.Common.{◌≡◌, ◌∙◌, ◌++◌, [], ◌∷◌, true, false, sym, ap, if◌then◌else◌}
use Rattle.std.specs.List.{list_any}
use Rattle.std.specs.Str.{bytes_eq}
use Rattle.pw_place.specs.Names.{same_name}
use Rattle.pw_place.proofs.NameKeys.{among}
use Rattle.pw_place.proofs.externals.add.Goals as goal

pub returns-then-contains-clause-joined : goal.returns-then-contains-clause-joined
returns-then-contains-clause-joined c =
    let entries = c.args.entries.now in
    let n = c.args.n.now in
    let there : list_any (same_name n) entries ≡ true =
    among (λ m. m.name) n.name entries
    ∙ sym (ap (list_any (bytes_eq n.name)) c.requires)
    ∙ ap (λ b. list_any (bytes_eq b) c.args.names.now) (sym c.bytes.ensures.bytes)
    ∙ sym c.contains.ensures
    ∙ c.if-contains.true in
    sym (ap (λ b. if b then entries else entries ++ n ∷ []) there)

pub returns-clause-joined : goal.returns-clause-joined
returns-clause-joined c =
    let entries = c.args.entries.now in
    let n = c.args.n.now in
    let lacking : list_any (same_name n) entries ≡ false =
    among (λ m. m.name) n.name entries
    ∙ sym (ap (list_any (bytes_eq n.name)) c.requires)
    ∙ ap (λ b. list_any (bytes_eq b) c.args.names.now) (sym c.bytes.ensures.bytes)
    ∙ sym c.contains.ensures
    ∙ c.if-contains.false in
    c.in_ok-push.ensures.ok ∙ ap (λ m. entries ++ m ∷ []) c.in_ok-copy.ensures ∙ sym (ap (λ b. if b then entries else entries ++ n ∷ []) lacking)
