-- Names that join one after another are the first of each.
use Rattle.std.proofs.Common.{◌≡◌, List, [], ◌++◌, fold, flat_map, sym, ◌∙◌}
use Rattle.std.proofs.lemmas.List.Sums.{fold-append}
use Rattle.pw_base.specs.declared.kinds.Kind.{Kind}
use Rattle.pw_code.specs.declared.object.Object.{Object}
use Rattle.pw_place.specs.Names.{external_names}
use Rattle.pw_place.specs.Places.{functions, names_in_item, slot_names}
use Rattle.pw_place.specs.Sizes.{entry_items}
use Rattle.pw_place.specs.Steps.NameLists.{joined, item_joined, code_joined, function_joined, object_joined}
use Rattle.pw_place.specs.Steps.ExternalLists.{entry_joined, unit_joined}
use Rattle.pw_place.proofs.Joined.{fold_flat, all_joined_are_first}

-- The entries of all units.
pub entries_are_first : (objects : List Object) → fold unit_joined [] objects ≡ external_names objects
entries_are_first objects =
    fold_flat entry_joined (λ o. o.names) [] objects ∙ all_joined_are_first (λ n. n.name) (flat_map (λ o. o.names) objects)

-- The names that all code refers to.
pub slots_are_first : (kind : Kind) (objects : List Object) →
    fold object_joined (code_joined [] (entry_items kind)) objects ≡ slot_names kind objects
slots_are_first kind objects =
    let start = code_joined [] (entry_items kind) in
    let fs = functions objects in
    let items = flat_map (λ f. f.items) fs in
    fold_flat function_joined (λ o. o.funs) start objects
    ∙ fold_flat item_joined (λ f. f.items) start fs
    ∙ sym (fold-append item_joined [] (entry_items kind) items)
    ∙ fold_flat joined names_in_item [] (entry_items kind ++ items)
    ∙ all_joined_are_first (λ n. n) (flat_map names_in_item (entry_items kind ++ items))
