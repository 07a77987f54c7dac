-- One more definition is met.
use Rattle.std.proofs.Common.{◌∙◌, ◌++◌, ◌∷◌, [], take, sym, ap, None, replicate}
use Rattle.std.proofs.lemmas.List.{take_more}
use Rattle.pw_place.specs.Steps.NameKinds.{kinds_among, symbol_met}
use Rattle.pw_place.proofs.NamedKinds.{symbol_is_met, nothing_known}
use Rattle.pw_place.proofs.name_kinds.name_kinds.Goals as goal

pub loop-s-init : goal.loop-s-init
loop-s-init c =
    c.in_ok-kinds.ensures ∙ ap (λ n. replicate n None) c.len.ensures ∙ sym (nothing_known c.args.externals.now.entries)

pub loop-s-preserved : goal.loop-s-preserved
loop-s-preserved c =
    let names = c.args.externals.now.entries in
    let s = c.s-item.result in
    let before = take c.loop-s.s-index c.args.defined.now in
    c.meet_symbol.ensures
    ∙ ap (λ ks. symbol_met names ks s) c.loop-s.invariant
    ∙ symbol_is_met before s names c.requires.differ
    ∙ ap (λ ss. kinds_among ss names)
    (sym (take_more c.args.defined.now c.loop-s.s-index s c.loop-s-test.true ∙ ap (λ t. before ++ t ∷ []) (sym c.s-item.is)))
