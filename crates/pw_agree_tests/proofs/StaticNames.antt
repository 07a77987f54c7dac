-- Static names are their own unit's: places, what is kept, and the image.
use Rattle.std.proofs.Common.{◌≡◌, List, [], ◌∷◌, map, refl, ap, true, false, lit<, inl, inr}
use Rattle.pw_tree.specs.declared.ty.Ref.TheVariants.{LocalFun}
use Rattle.pw_tree.specs.Names.{Definition}
use Rattle.pw_tree.specs.Depends.{entry, defined, Depends}
use Rattle.pw_tree.specs.Held.{held}
use Rattle.pw_mem.specs.Memory.{zeros}
use Rattle.pw_code.specs.Items.{size}
use Rattle.pw_code.specs.LoadImmediate.{load_signed, signed_words}
use Rattle.pw_code.specs.Pieces.{load_held}
use Rattle.pw_code.specs.ExpressionCode.{expression_words, expression_code}
use Rattle.pw_code.specs.StatementCode.{statement_words, statement_code}
use Rattle.pw_code.specs.FunctionCode.{store_parameters}
use Rattle.pw_module.specs.LoadOrder.{path_ends, ends_of_paths, each_number_once}
use Rattle.pw_agree.specs.Placing.{external_names, each_name_once}
use Rattle.pw_agree.specs.Image.{words_at, functions_image, units_image, variables_image}
use Rattle.pw_agree.specs.Kept.{IsKept, root, named, HasWay, IsLevel}
use Rattle.pw_agree.proofs.Members.{IsIn}
use Rattle.pw_agree.proofs.Listed.{IsClosed, led_to, led_in}
use Rattle.pw_agree.proofs.Levels.{same_node, has_level, has_parent, finds_kept}
use Rattle.pw_agree_tests.specs.StaticNames.{project, first_h, main, second_h, IsPlaced, IsKeptSo, IsImage, StaticNamesAreOwn}

placed : IsPlaced
unfolding path_ends ends_of_paths each_number_once external_names each_name_once words_at functions_image units_image variables_image size load_signed signed_words load_held expression_words expression_code statement_words statement_code store_parameters held zeros
placed = record {
  order = refl;
  is_loaded = refl;
  meant_in_first = refl;
  meant_in_second = refl;
  static_is_no_external = refl;
  text_of_other = refl;
  first_h_at = refl;
  main_at = refl;
  second_h_at = refl;
  other_at = refl;
  slots = refl;
}

-- ---- what is kept

main_names_h : Depends project (defined main) first_h
main_names_h = (LocalFun 0, (0, lit< tt, refl), refl)

not_the_other : IsIn (led_to project (defined main)) (defined second_h) → ⊥
not_the_other (inl e) = let apart : false ≡ true = ap (same_node (defined second_h)) e in cc
not_the_other (inr h) = absurd h

main_kept : IsKept project (defined main)
main_kept = named (root {n = entry} tt) refl

first_h_kept : IsKept project (defined first_h)
first_h_kept = named main_kept main_names_h

abbrev kept : List Definition
kept = first_h ∷ main ∷ []

closed : IsClosed project (entry ∷ map defined kept)
closed = record {
  roots_in = (inl refl, tt);
  named_in = ((inr (inr (inl refl)), tt), (tt, ((inr (inl refl), tt), tt)));
}

main_way : HasWay project 1 (defined main)
main_way = (entry, tt, refl)

first_h_way : HasWay project 2 (defined first_h)
first_h_way = (defined main, main_way, main_names_h)

main_level : IsLevel project (defined main) 1
main_level = has_level project (defined main) 1 main_way refl

kept_so : IsKeptSo
kept_so = record {
  main_depends = main_names_h;
  other_depends = (LocalFun 0, (0, lit< tt, refl), refl);
  main_does_not = λ h. not_the_other (led_in project (defined main) (defined second_h) h);
  kept = finds_kept project kept (first_h_kept, (main_kept, tt)) closed;
  main_level = main_level;
  first_h_level = has_level project (defined first_h) 2 first_h_way refl;
  first_h_parent = has_parent project (defined first_h) 1 (defined main) main_level main_names_h refl (refl, tt);
}

-- ---- the image

image : IsImage
unfolding path_ends ends_of_paths each_number_once external_names each_name_once words_at functions_image units_image variables_image size load_signed signed_words load_held expression_words expression_code statement_words statement_code store_parameters held zeros
image = record {
  text = refl;
  slot = refl;
}

pub static_names_are_own : StaticNamesAreOwn
static_names_are_own = (placed, kept_so, image)
