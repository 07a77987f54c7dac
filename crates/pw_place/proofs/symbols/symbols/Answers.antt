-- The parts are appended in order.
use Rattle.std.proofs.Common.{◌∙◌, [], ◌∷◌, ◌++◌, sym, ap, subst, map, Some, None}
use Rattle.std.specs.Prelude.{bytes_eq, filter, not}
use Rattle.std.specs.List.{IsDistinct, enumerate_from}
use Rattle.pw_tree.specs.declared.tunit.Ext.{Ext}
use Rattle.pw_place.specs.Steps.NameKinds.{kinds_among}
use Rattle.pw_place.specs.Steps.ExternalSymbols.{symbol_of_name}
use Rattle.pw_place.proofs.DistinctFirsts.{names_differ}
use Rattle.pw_place.proofs.AllSymbols.{all_symbols}
use Rattle.pw_place.proofs.symbols.symbols.Goals as goal

pub name_kinds-requires-clause-differ : goal.name_kinds-requires-clause-differ
name_kinds-requires-clause-differ c =
    let places = c.args.places.now in
    subst (λ names. IsDistinct bytes_eq (map (λ (n : Ext). n.name) names)) (sym places.placed.names) (names_differ places.objects.now)

pub returns : goal.returns
returns c =
    let places = c.args.places.now in
    all_symbols places.kind places.objects.now c.in_ok-defined.defined places.externals.entries c.in_ok-kinds.kinds
    c.push.new.self c.push_entry.new.to c.push_static.new.to c.push_names.new.to
    c.in_ok-defined.ensures places.placed.names
    (c.in_ok-kinds.ensures ∙ ap (λ ss. kinds_among ss places.externals.entries) c.as_slice.ensures)
    (c.in_ok-push.ensures.ok ∙ ap (λ l. l ++ None ∷ []) c.new-symbols.ensures)
    c.in_ok-push_entry.ensures
    (c.in_ok-push_static.ensures ∙ ap (λ ss. c.push_entry.new.to ++ map Some (filter (λ s. not s.global) ss)) c.as_slice-2.ensures)
    (c.in_ok-push_names.ensures
    ∙ (λ i. c.push_static.new.to ++ map (λ n. Some (symbol_of_name (c.as_slice-4.ensures i) n)) (enumerate_from 0 (c.as_slice-3.ensures i))))
