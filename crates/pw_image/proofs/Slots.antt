-- The slots of a unit's object.
use Rattle.std.proofs.Common.{◌≡◌, ℕ, List, [], ◌∷◌, ◌++◌, map, not, refl, sym, ap, codes, ◌∙◌, bytes_eq, flat_map, append-nil}
use Rattle.std.specs.List.{filter}
use Rattle.std.proofs.lemmas.List.Concat.{flat_map-append}
use Rattle.pw_base.specs.declared.kinds.Kind.TheVariants.{Program}
use Rattle.pw_tree.specs.declared.ty.Ref.TheVariants.{Global, LocalFun, LocalVar}
use Rattle.pw_tree.specs.declared.tunit.TVar.{TVar}
use Rattle.pw_tree.specs.Units.{Function}
use Rattle.pw_code.specs.declared.object.FunCode.{FunCode}
use Rattle.pw_code.specs.Items.{CodePart, instruction, address, items}
use Rattle.pw_code.specs.FunctionCode.{function_code}
use Rattle.pw_code.specs.Objects.{item_in_order, function_object}
use Rattle.pw_place.specs.Names.{first_of_each}
use Rattle.pw_place.specs.Places.{names_in_item, text_items}
use Rattle.pw_agree.specs.Placing.{external_names, each_name_once}
use Rattle.pw_image.specs.OneUnit.{objects_of}
use Rattle.pw_image.specs.Laws.{SlotsStand}
use Rattle.pw_image.proofs.Lists.{bytes_eq_sym, filter_same}

-- The code names the same external names as its items.
named_in_code : (xs : List TVar) (code : List CodePart) → flat_map names_in_item (map (item_in_order xs) (items code)) ≡ external_names code
unfolding external_names
named_in_code xs [] = refl
named_in_code xs (instruction i ∷ code) = named_in_code xs code
named_in_code xs (address rd (Global name) ∷ code) = ap (λ l. name ∷ l) (named_in_code xs code)
named_in_code xs (address rd (LocalFun i) ∷ code) = named_in_code xs code
named_in_code xs (address rd (LocalVar i) ∷ code) = named_in_code xs code

named_in_functions : (xs : List TVar) (fs : List Function) →
    flat_map names_in_item (flat_map (λ (f : FunCode). f.items) (map (function_object xs) fs)) ≡ flat_map (λ f. external_names (function_code f)) fs
named_in_functions xs [] = refl
named_in_functions xs (f ∷ fs) =
    flat_map-append names_in_item (map (item_in_order xs) (items (function_code f))) (flat_map (λ (g : FunCode). g.items) (map (function_object xs) fs))
    ∙ (λ i. named_in_code xs (function_code f) i ++ named_in_functions xs fs i)

-- Each name once is the first of each.
once : (names : List (List ℕ)) → first_of_each bytes_eq names ≡ each_name_once names
unfolding first_of_each each_name_once
once [] = refl
once (name ∷ names) =
    ap (λ l. name ∷ l) (filter_same (λ y. not (bytes_eq y name)) (λ y. not (bytes_eq name y)) (λ y. ap not (bytes_eq_sym y name)) (first_of_each bytes_eq names)
    ∙ ap (filter (λ y. not (bytes_eq name y))) (once names))

pub slots_stand : SlotsStand
unfolding external_names
slots_stand name unit =
    let named : List (List ℕ) = flat_map (λ (f : Function). external_names (function_code f)) unit.functions in
    let same : flat_map names_in_item (text_items Program (objects_of name unit)) ≡ codes "main" ∷ (named ++ []) =
    ap (λ l. codes "main" ∷ flat_map names_in_item (flat_map (λ (f : FunCode). f.items) l)) (append-nil (map (function_object unit.variables) unit.functions))
    ∙ ap (λ l. codes "main" ∷ l) (named_in_functions unit.variables unit.functions ∙ sym (append-nil named)) in
    once (flat_map names_in_item (text_items Program (objects_of name unit))) ∙ ap each_name_once same
