-- The records of a unit's functions lie in its text.
use Rattle.std.proofs.Common.{◌≡◌, ℕ, suc, ◌+◌, ◌/◌, ◌≤◌, List, [], ◌∷◌, ◌++◌, map, length, refl, sym, ap, subst, ◌∙◌, arith, append_assoc, append-nil, length-append}
use Rattle.std.specs.Prelude.{sum_by}
use Rattle.std.specs.List.{AllByRecursion, enumerate_from}
use Rattle.std.proofs.lemmas.List.{length_push}
use Rattle.std.proofs.lemmas.List.Elements.{All-from_recursion}
use Rattle.std.proofs.lemmas.List.Sums.{sum_by-append, sum_by-cons}
use Rattle.pw_base.specs.declared.kinds.Kind.TheVariants.{Program}
use Rattle.pw_tree.specs.Units.{Function, TypedUnit}
use Rattle.pw_module.specs.declared.dep_table.FunRec.{FunRec}
use Rattle.pw_code.specs.Items.{size}
use Rattle.pw_code.specs.FunctionCode.{function_words, entry_code}
use Rattle.pw_code.specs.Objects.{function_object}
use Rattle.pw_place.specs.Contents.{text}
use Rattle.pw_place.specs.Tables.{function_record, function_records}
use Rattle.pw_agree.specs.Placing.{text_of, target_address}
use Rattle.pw_agree.specs.Image.{words_at, functions_image, units_image}
use Rattle.pw_image.specs.OneUnit.{project_of, objects_of}
use Rattle.pw_image.specs.Blanked.{keeps_all, word_bytes}
use Rattle.pw_image.specs.Laws.{RecordsLieInText}
use Rattle.pw_image.proofs.Functions.{bytes_of_function}
use Rattle.pw_image.proofs.Words.{length_of_words}
use Rattle.pw_image.proofs.TextImage.{text_is_image}
use Rattle.pw_image.proofs.Blanking.{start_behind, words_in, length_in, record_at}

module _ (name : List ℕ) (unit : TypedUnit) where
  length_of_functions : (i : ℕ) (fs : List Function) →
      length (functions_image (project_of unit) keeps_all 0 0 i fs) ≡ sum_by function_words fs
  unfolding functions_image
  length_of_functions i [] = refl
  length_of_functions i (f ∷ fs) =
      length-append (words_in name unit keeps_all i f) (functions_image (project_of unit) keeps_all 0 0 (suc i) fs)
      ∙ (λ p. length_in name unit keeps_all i f p + length_of_functions (suc i) fs p) ∙ sym (sum_by-cons function_words f fs)

  -- The text has the words of the entry and of the functions.
  length_of_text : length (text Program (objects_of name unit)) ≡ 6 + sum_by function_words unit.functions
  unfolding units_image size
  length_of_text =
      let entry : List ℕ = words_at (target_address (project_of unit) 0 0) (text_of 0) entry_code in
      let functions : List ℕ = functions_image (project_of unit) keeps_all 0 0 0 unit.functions in
      ap length (text_is_image name unit ∙ ap (λ (l : List ℕ). entry ++ l) (append-nil functions))
      ∙ length-append entry functions
      ∙ (λ p. length_of_words (target_address (project_of unit) 0 0) (text_of 0) entry_code p + length_of_functions 0 unit.functions p)

  -- A record lies in the text.
  abbrev Within : FunRec → Type 0
  Within r = r.start / word_bytes + r.size / word_bytes ≤ length (text Program (objects_of name unit))

  within : (before : List Function) (f : Function) (fs : List Function) → unit.functions ≡ before ++ (f ∷ fs) →
      Within (record_at name unit keeps_all (length before) f)
  within before f fs split =
      let whole : sum_by function_words unit.functions ≡ sum_by function_words before + sum_by function_words (f ∷ fs) =
      ap (sum_by function_words) split ∙ sum_by-append function_words before (f ∷ fs) in
      omega (
        arith,
        start_behind name unit keeps_all before (f ∷ fs) split,
        bytes_of_function unit.variables f,
        whole,
        sum_by-cons function_words f fs,
        length_of_text,
      )

  -- The records of functions from this number on.
  abbrev records_from : ℕ → List Function → List FunRec
  records_from i fs = map (function_record Program (objects_of name unit) 0) (enumerate_from i (map (function_object unit.variables) fs))

  each_within : (fs before : List Function) → unit.functions ≡ before ++ fs → AllByRecursion Within (records_from (length before) fs)
  each_within [] before split = tt
  each_within (f ∷ fs) before split =
      let next : length (before ++ f ∷ []) ≡ length before + 1 = length_push before f in (
        within before f fs split,
        subst (λ (n : ℕ). AllByRecursion Within (records_from n fs)) next
            (each_within fs (before ++ f ∷ []) (split ∙ sym (append_assoc before (f ∷ []) fs))),
      )

pub records_lie_in_text : RecordsLieInText
records_lie_in_text name unit =
    let entry : 6 ≤ length (text Program (objects_of name unit)) = omega (arith, length_of_text name unit) in
    let functions : AllByRecursion (Within name unit) (records_from name unit 0 unit.functions ++ []) =
    subst (AllByRecursion (Within name unit)) (sym (append-nil (records_from name unit 0 unit.functions)))
    (each_within name unit unit.functions [] refl) in
    All-from_recursion (Within name unit) (function_records Program (objects_of name unit)) (entry, functions)
