-- Initialised variables stand first: places, what is kept, and the image.
use Rattle.std.proofs.Common.{[], ◌∷◌, refl, inl, inr}
use Rattle.pw_tree.specs.Depends.{entry, defined}
use Rattle.pw_tree.specs.Held.{held}
use Rattle.pw_mem.specs.Memory.{zeros}
use Rattle.pw_code.specs.Items.{size}
use Rattle.pw_code.specs.LoadImmediate.{load_signed, signed_words}
use Rattle.pw_code.specs.Pieces.{load_held}
use Rattle.pw_code.specs.ExpressionCode.{expression_words, expression_code}
use Rattle.pw_code.specs.StatementCode.{statement_words, statement_code}
use Rattle.pw_code.specs.FunctionCode.{store_parameters}
use Rattle.pw_module.specs.LoadOrder.{path_ends, ends_of_paths, each_number_once}
use Rattle.pw_agree.specs.Placing.{external_names, each_name_once}
use Rattle.pw_agree.specs.Image.{words_at, functions_image, units_image, variables_image}
use Rattle.pw_agree.specs.Kept.{IsKept, root, named}
use Rattle.pw_agree.proofs.Listed.{IsClosed}
use Rattle.pw_agree.proofs.Levels.{finds_kept}
use Rattle.pw_agree_tests.specs.Variables.{project, main, IsPlaced, IsImage, InitialisedStandFirst}

main_kept : IsKept project (defined main)
main_kept = named (root {n = entry} tt) refl

closed : IsClosed project (entry ∷ defined main ∷ [])
closed = record { roots_in = (inl refl, tt); named_in = ((inr (inl refl), tt), (tt, tt)) }

placed : IsPlaced
unfolding path_ends ends_of_paths each_number_once external_names each_name_once words_at functions_image units_image variables_image size load_signed signed_words load_held expression_words expression_code statement_words statement_code store_parameters held zeros
placed = record {
  is_loaded = refl;
  one_means = refl;
  both_means = refl;
  zero_at = refl;
  one_at = refl;
  t_at = refl;
  p_at = refl;
  library_one_at = refl;
  both_at = refl;
  table_at = refl;
  program_slots = refl;
  library_slots = refl;
  kept = finds_kept project (main ∷ []) (main_kept, tt) closed;
}

image : IsImage
unfolding path_ends ends_of_paths each_number_once external_names each_name_once words_at functions_image units_image variables_image size load_signed signed_words load_held expression_words expression_code statement_words statement_code store_parameters held zeros
image = record {
  program_text = refl;
  library_text = refl;
  program_data = refl;
  library_data = refl;
}

pub initialised_stand_first : InitialisedStandFirst
initialised_stand_first = (placed, image)
