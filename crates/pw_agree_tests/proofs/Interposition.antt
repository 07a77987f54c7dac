-- The program interposes: places, what is kept, and the image.
use Rattle.std.proofs.Common.{List, [], ◌∷◌, map, refl, codes, lit<, inl, inr}
use Rattle.pw_tree.specs.declared.ty.Ref.TheVariants.{Global}
use Rattle.pw_tree.specs.Names.{Definition}
use Rattle.pw_tree.specs.Depends.{entry, defined, Depends}
use Rattle.pw_tree.specs.Held.{held}
use Rattle.pw_mem.specs.Memory.{zeros}
use Rattle.pw_code.specs.Items.{size}
use Rattle.pw_code.specs.LoadImmediate.{load_signed, signed_words}
use Rattle.pw_code.specs.Pieces.{load_held}
use Rattle.pw_code.specs.ExpressionCode.{expression_words, expression_code}
use Rattle.pw_code.specs.StatementCode.{statement_words, statement_code}
use Rattle.pw_code.specs.FunctionCode.{store_parameters}
use Rattle.pw_module.specs.LoadOrder.{path_ends, ends_of_paths, each_number_once}
use Rattle.pw_agree.specs.Placing.{external_names, each_name_once}
use Rattle.pw_agree.specs.Image.{words_at, functions_image, units_image, variables_image}
use Rattle.pw_agree.specs.Kept.{IsKept, root, named, HasWay, IsLevel}
use Rattle.pw_agree.proofs.Listed.{IsClosed}
use Rattle.pw_agree.proofs.Levels.{has_level, has_parent, finds_kept}
use Rattle.pw_agree_tests.specs.Interposition.{project, program_f, main, library_g, IsPlaced, IsKeptSo, IsImage, ProgramInterposes}

placed : IsPlaced
unfolding path_ends ends_of_paths each_number_once external_names each_name_once words_at functions_image units_image variables_image size load_signed signed_words load_held expression_words expression_code statement_words statement_code store_parameters held zeros
placed = record {
  order = refl;
  is_loaded = refl;
  meant_in_library = refl;
  meant_in_program = refl;
  program_f_at = refl;
  main_at = refl;
  library_f_at = refl;
  library_g_at = refl;
  program_slots = refl;
  library_slots = refl;
}

-- ---- what is kept

main_names_g : Depends project (defined main) library_g
main_names_g = (Global (codes "g"), (0, lit< tt, refl), refl)

g_names_f : Depends project (defined library_g) program_f
g_names_f = (Global (codes "f"), (0, lit< tt, refl), refl)

entry_kept : IsKept project entry
entry_kept = root tt

main_kept : IsKept project (defined main)
main_kept = named entry_kept refl

library_g_kept : IsKept project (defined library_g)
library_g_kept = named main_kept main_names_g

program_f_kept : IsKept project (defined program_f)
program_f_kept = named library_g_kept g_names_f

abbrev kept : List Definition
kept = program_f ∷ main ∷ library_g ∷ []

closed : IsClosed project (entry ∷ map defined kept)
closed = record {
  roots_in = (inl refl, tt);
  named_in = (
    (inr (inr (inl refl)), tt),
    (tt, ((inr (inr (inr (inl refl))), tt), ((inr (inl refl), tt), tt))),
  );
}

main_way : HasWay project 1 (defined main)
main_way = (entry, tt, refl)

library_g_way : HasWay project 2 (defined library_g)
library_g_way = (defined main, main_way, main_names_g)

program_f_way : HasWay project 3 (defined program_f)
program_f_way = (defined library_g, library_g_way, g_names_f)

entry_level : IsLevel project entry 0
entry_level = has_level project entry 0 tt refl

main_level : IsLevel project (defined main) 1
main_level = has_level project (defined main) 1 main_way refl

library_g_level : IsLevel project (defined library_g) 2
library_g_level = has_level project (defined library_g) 2 library_g_way refl

kept_so : IsKeptSo
kept_so = record {
  kept = finds_kept project kept (program_f_kept, (main_kept, (library_g_kept, tt))) closed;
  entry_level = entry_level;
  main_level = main_level;
  main_parent = has_parent project (defined main) 0 entry entry_level refl refl (refl, tt);
  library_g_level = library_g_level;
  library_g_parent = has_parent project (defined library_g) 1 (defined main) main_level main_names_g refl (refl, tt);
  program_f_level = has_level project (defined program_f) 3 program_f_way refl;
  program_f_parent = has_parent project (defined program_f) 2 (defined library_g) library_g_level g_names_f refl (refl, tt);
}

-- ---- the image

image : IsImage
unfolding path_ends ends_of_paths each_number_once external_names each_name_once words_at functions_image units_image variables_image size load_signed signed_words load_held expression_words expression_code statement_words statement_code store_parameters held zeros
image = record {
  program_text = refl;
  library_text = refl;
  program_data = refl;
  library_data = refl;
}

pub program_interposes : ProgramInterposes
program_interposes = (placed, kept_so, image)
