-- The text of a unit's object is that of the image in which every function is kept.
use Rattle.std.proofs.Common.{◌≡◌, ℕ, suc, ◌+◌, List, [], ◌∷◌, ◌++◌, map, refl, ap, ◌∙◌, arith, flat_map}
use Rattle.std.specs.List.{enumerate_from}
use Rattle.pw_base.specs.Limits.{text_offset}
use Rattle.pw_base.specs.declared.kinds.Kind.TheVariants.{Program}
use Rattle.pw_tree.specs.Units.{Function, TypedUnit}
use Rattle.pw_code.specs.FunctionCode.{function_code, entry_code}
use Rattle.pw_code.specs.Objects.{function_object}
use Rattle.pw_place.specs.Places.{function_start}
use Rattle.pw_place.specs.Contents.{words_of_function}
use Rattle.pw_agree.specs.Placing.{base_of, target_address, function_address}
use Rattle.pw_agree.specs.Image.{words_at, functions_image, units_image}
use Rattle.pw_image.specs.OneUnit.{project_of, objects_of, own_definition}
use Rattle.pw_image.specs.Blanked.{keeps_all}
use Rattle.pw_image.specs.Laws.{TextIsImage}
use Rattle.pw_image.proofs.Functions.{functions_stand}
use Rattle.pw_image.proofs.Targets.{of_text, targets_stand}
use Rattle.pw_image.proofs.Words.{same_words}

module _ (name : List ℕ) (unit : TypedUnit) where
  same_function : (i : ℕ) (f : Function) →
      words_of_function Program (objects_of name unit) 0 (i, function_object unit.variables f)
      ≡ words_at (target_address (project_of unit) 0 0) (function_address (project_of unit) (own_definition i)) (function_code f)
  same_function i f =
      same_words (objects_of name unit) unit.variables (base_of 0) (target_address (project_of unit) 0 0) (targets_stand name unit)
      (text_offset + function_start Program (objects_of name unit) 0 i) (function_code f)
      ∙ ap (λ p. words_at (target_address (project_of unit) 0 0) p (function_code f))
      (of_text (function_start Program (objects_of name unit) 0 i) ∙ functions_stand name unit i)

  same_functions : (i : ℕ) (fs : List Function) →
      flat_map (words_of_function Program (objects_of name unit) 0) (enumerate_from i (map (function_object unit.variables) fs))
      ≡ functions_image (project_of unit) keeps_all 0 0 i fs
  unfolding functions_image
  same_functions i [] = refl
  same_functions i (f ∷ fs) =
      let next : i + 1 ≡ suc i = omega arith in
      λ p. same_function i f p ++ (same_functions (i + 1) fs ∙ ap (λ j. functions_image (project_of unit) keeps_all 0 0 j fs) next) p

pub text_is_image : TextIsImage
unfolding units_image
text_is_image name unit =
    let entry = same_words (objects_of name unit) unit.variables (base_of 0) (target_address (project_of unit) 0 0) (targets_stand name unit)
    text_offset entry_code in
    λ p. entry p ++ (same_functions name unit 0 unit.functions p ++ [])
