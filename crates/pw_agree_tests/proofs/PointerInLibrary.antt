-- A pointer in a library keeps its function: places, what is kept, and the image.
use Rattle.std.proofs.Common.{List, [], ◌∷◌, map, refl, lit<, inl, inr}
use Rattle.pw_tree.specs.declared.ty.Ref.TheVariants.{LocalFun}
use Rattle.pw_tree.specs.declared.tunit.Init.TheVariants.{Fun}
use Rattle.pw_tree.specs.Names.{Definition}
use Rattle.pw_tree.specs.Depends.{entry, defined}
use Rattle.pw_tree.specs.Held.{held}
use Rattle.pw_mem.specs.Memory.{zeros}
use Rattle.pw_code.specs.Items.{size}
use Rattle.pw_code.specs.LoadImmediate.{load_signed, signed_words}
use Rattle.pw_code.specs.Pieces.{load_held}
use Rattle.pw_code.specs.ExpressionCode.{expression_words, expression_code}
use Rattle.pw_code.specs.StatementCode.{statement_words, statement_code}
use Rattle.pw_code.specs.FunctionCode.{store_parameters}
use Rattle.pw_module.specs.LoadOrder.{path_ends, ends_of_paths, each_number_once}
use Rattle.pw_agree.specs.Placing.{external_names, each_name_once}
use Rattle.pw_agree.specs.Image.{words_at, functions_image, units_image, variables_image}
use Rattle.pw_agree.specs.Kept.{IsPointedTo, IsKept, root, named, HasWay}
use Rattle.pw_agree.proofs.Listed.{IsClosed}
use Rattle.pw_agree.proofs.Levels.{has_level, has_parent, finds_kept}
use Rattle.pw_agree_tests.specs.PointerInLibrary.{project, main, callback, hook, IsPlaced, IsKeptSo, IsImage, PointerKeeps}

placed : IsPlaced
unfolding path_ends ends_of_paths each_number_once external_names each_name_once words_at functions_image units_image variables_image size load_signed signed_words load_held expression_words expression_code statement_words statement_code store_parameters held zeros
placed = record {
  order = refl;
  is_loaded = refl;
  meant = refl;
  main_at = refl;
  callback_at = refl;
  hook_at = refl;
  program_slots = refl;
  library_slots = refl;
}

-- ---- what is kept

hook_points : IsPointedTo project callback
hook_points = record {
  at = hook;
  variable = _;
  there = refl;
  values = Fun (LocalFun 0) ∷ [];
  initialised = refl;
  name = LocalFun 0;
  named = (0, lit< tt, refl);
  means = refl;
}

entry_kept : IsKept project entry
entry_kept = root tt

main_kept : IsKept project (defined main)
main_kept = named entry_kept refl

callback_kept : IsKept project (defined callback)
callback_kept = root hook_points

abbrev kept : List Definition
kept = main ∷ callback ∷ []

closed : IsClosed project (entry ∷ map defined kept)
closed = record {
  roots_in = (inl refl, (inr (inr (inl refl)), tt));
  named_in = ((inr (inl refl), tt), (tt, (tt, tt)));
}

main_way : HasWay project 1 (defined main)
main_way = (entry, tt, refl)

kept_so : IsKeptSo
kept_so = record {
  kept = finds_kept project kept (main_kept, (callback_kept, tt)) closed;
  callback_level = has_level project (defined callback) 0 hook_points refl;
  main_level = has_level project (defined main) 1 main_way refl;
  main_parent = has_parent project (defined main) 0 entry (has_level project entry 0 tt refl) refl refl (refl, (refl, tt));
}

-- ---- the image

image : IsImage
unfolding path_ends ends_of_paths each_number_once external_names each_name_once words_at functions_image units_image variables_image size load_signed signed_words load_held expression_words expression_code statement_words statement_code store_parameters held zeros
image = record {
  program_text = refl;
  library_text = refl;
  program_data = refl;
  library_data = refl;
}

pub pointer_keeps : PointerKeeps
pointer_keeps = (placed, kept_so, image)
