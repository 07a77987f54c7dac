-- Modules are searched breadth first: places, what is kept, and the image.
use Rattle.std.proofs.Common.{List, [], ◌∷◌, map, refl, codes, lit<, inl, inr}
use Rattle.pw_tree.specs.declared.ty.Ref.TheVariants.{Global}
use Rattle.pw_tree.specs.Names.{Definition}
use Rattle.pw_tree.specs.Depends.{entry, defined, Depends}
use Rattle.pw_tree.specs.Held.{held}
use Rattle.pw_mem.specs.Memory.{zeros}
use Rattle.pw_code.specs.Items.{size}
use Rattle.pw_code.specs.LoadImmediate.{load_signed, signed_words}
use Rattle.pw_code.specs.Pieces.{load_held}
use Rattle.pw_code.specs.ExpressionCode.{expression_words, expression_code}
use Rattle.pw_code.specs.StatementCode.{statement_words, statement_code}
use Rattle.pw_code.specs.FunctionCode.{store_parameters}
use Rattle.pw_module.specs.LoadOrder.{path_ends, ends_of_paths, each_number_once}
use Rattle.pw_agree.specs.Placing.{external_names, each_name_once}
use Rattle.pw_agree.specs.Image.{words_at, functions_image, units_image, variables_image}
use Rattle.pw_agree.specs.Kept.{IsKept, root, named, HasWay, IsLevel}
use Rattle.pw_agree.proofs.Listed.{IsClosed}
use Rattle.pw_agree.proofs.Levels.{has_level, has_parent, finds_kept}
use Rattle.pw_agree_tests.specs.BreadthFirst.{project, main, b_f, IsPlaced, IsKeptSo, IsImage, SearchIsBreadthFirst}

placed : IsPlaced
unfolding path_ends ends_of_paths each_number_once external_names each_name_once words_at functions_image units_image variables_image size load_signed signed_words load_held expression_words expression_code statement_words statement_code store_parameters held zeros
placed = record {
  order = refl;
  is_loaded = refl;
  meant = refl;
  main_at = refl;
  a_g_at = refl;
  b_f_at = refl;
  c_f_at = refl;
  slots = refl;
}

-- ---- what is kept

main_names_f : Depends project (defined main) b_f
main_names_f = (Global (codes "f"), (0, lit< tt, refl), refl)

main_kept : IsKept project (defined main)
main_kept = named (root {n = entry} tt) refl

b_f_kept : IsKept project (defined b_f)
b_f_kept = named main_kept main_names_f

abbrev kept : List Definition
kept = main ∷ b_f ∷ []

closed : IsClosed project (entry ∷ map defined kept)
closed = record {
  roots_in = (inl refl, tt);
  named_in = ((inr (inl refl), tt), ((inr (inr (inl refl)), tt), (tt, tt)));
}

main_way : HasWay project 1 (defined main)
main_way = (entry, tt, refl)

main_level : IsLevel project (defined main) 1
main_level = has_level project (defined main) 1 main_way refl

kept_so : IsKeptSo
kept_so = record {
  kept = finds_kept project kept (main_kept, (b_f_kept, tt)) closed;
  b_f_level = has_level project (defined b_f) 2 (defined main, main_way, main_names_f) refl;
  b_f_parent = has_parent project (defined b_f) 1 (defined main) main_level main_names_f refl (refl, tt);
}

-- ---- the image

image : IsImage
unfolding path_ends ends_of_paths each_number_once external_names each_name_once words_at functions_image units_image variables_image size load_signed signed_words load_held expression_words expression_code statement_words statement_code store_parameters held zeros
image = record {
  program_text = refl;
  a_text = refl;
  b_text = refl;
  c_text = refl;
  program_data = refl;
  b_data = refl;
}

pub search_is_breadth_first : SearchIsBreadthFirst
search_is_breadth_first = (placed, kept_so, image)
