-- What is not known is set, and nothing else.
use Rattle.std.proofs.Common.{◌∙◌, ap, sym}
use Rattle.pw_place.specs.Steps.NameKinds.{is_unknown_at}
use Rattle.pw_place.proofs.NamedKinds.{unknown_within, unknown_is_set, known_is_kept}
use Rattle.pw_place.proofs.name_kinds.meet.Goals as goal

pub set-requires : goal.set-requires
set-requires c =
    unknown_within c.args.kinds.now c.args.number c.args.kind
    (ap (λ ks. is_unknown_at ks c.args.number) (sym c.as_slice.ensures) ∙ sym c.is_unknown.ensures ∙ c.if-is_unknown.true)

pub returns-then-is_unknown : goal.returns-then-is_unknown
returns-then-is_unknown c =
    c.set.ensures
    ∙ unknown_is_set c.args.kinds.now c.args.number c.args.kind
    (ap (λ ks. is_unknown_at ks c.args.number) (sym c.as_slice.ensures) ∙ sym c.is_unknown.ensures ∙ c.if-is_unknown.true)

pub returns-else-is_unknown : goal.returns-else-is_unknown
returns-else-is_unknown c =
    known_is_kept c.args.kinds.now c.args.number c.args.kind
    (ap (λ ks. is_unknown_at ks c.args.number) (sym c.as_slice.ensures) ∙ sym c.is_unknown.ensures ∙ c.if-is_unknown.false)
