-- The text of a unit's object, with zeros in place of what is not kept.
use Rattle.std.proofs.Common.{◌≡◌, ℕ, suc, ◌+◌, ◌*◌, ◌/◌, Bool, true, false, if◌then◌else◌, List, [], ◌∷◌, ◌++◌, map, length, take, drop, refl, sym, ap, ◌∙◌, arith, append_assoc, append-nil, length-append}
use Rattle.std.specs.Prelude.{sum_by}
use Rattle.std.specs.List.{enumerate_from, range_with_len}
use Rattle.std.proofs.lemmas.List.{take_at, drop_at, length-replicate, length_push}
use Rattle.std.proofs.lemmas.List.Sums.{sum_by_push}
use Rattle.pw_base.specs.declared.kinds.Kind.TheVariants.{Program}
use Rattle.pw_tree.specs.Units.{Function, TypedUnit}
use Rattle.pw_mem.specs.Memory.{zeros}
use Rattle.pw_module.specs.declared.dep_table.FunRec.{FunRec}
use Rattle.pw_code.specs.Items.{size}
use Rattle.pw_code.specs.FunctionCode.{function_code, function_words, entry_code}
use Rattle.pw_code.specs.Objects.{function_object}
use Rattle.pw_code.proofs.Exports.{size-function}
use Rattle.pw_place.specs.Sizes.{function_bytes}
use Rattle.pw_place.specs.Places.{function_start}
use Rattle.pw_place.specs.Contents.{text}
use Rattle.pw_place.specs.Tables.{function_record}
use Rattle.pw_agree.specs.Kept.{Keep}
use Rattle.pw_agree.specs.Placing.{text_of, target_address, function_address}
use Rattle.pw_agree.specs.Image.{words_at, functions_image, units_image}
use Rattle.pw_image.specs.OneUnit.{project_of, objects_of, own_definition}
use Rattle.pw_image.specs.Blanked.{keeps_all, without_function, blanked}
use Rattle.pw_image.specs.Laws.{BlankedTextIsImage}
use Rattle.pw_image.proofs.Functions.{bytes_of_function, functions_stand}
use Rattle.pw_image.proofs.Words.{length_of_words}
use Rattle.pw_image.proofs.TextImage.{text_is_image}

-- ---- zeros in the middle

blank_middle : (front words rest : List ℕ) (r : FunRec) → r.start ≡ 4 * length front → r.size ≡ 4 * length words →
    without_function (front ++ (words ++ rest)) r ≡ front ++ (zeros (length words) ++ rest)
blank_middle front words rest r from long =
    let at : r.start / 4 ≡ length front = omega arith in
    let many : r.size / 4 ≡ length words = omega arith in
    let past : length (front ++ words) ≡ r.start / 4 + r.size / 4 = omega (arith, length-append front words) in
    let behind : drop (r.start / 4 + r.size / 4) (front ++ (words ++ rest)) ≡ rest =
    ap (drop (r.start / 4 + r.size / 4)) (sym (append_assoc front words rest)) ∙ drop_at (front ++ words) rest (r.start / 4 + r.size / 4) past in
    λ p. take_at front (words ++ rest) (r.start / 4) (sym at) p ++ (zeros (many p) ++ behind p)

module _ (name : List ℕ) (unit : TypedUnit) (keep : Keep) where
  abbrev pub start : ℕ → ℕ
  start i = function_start Program (objects_of name unit) 0 i

  -- A function starts after the entry and the functions before it.
  pub start_behind : (before fs : List Function) → unit.functions ≡ before ++ fs → start (length before) ≡ 4 * (6 + sum_by function_words before)
  unfolding size
  start_behind before fs split =
      let first : take (length before) unit.functions ≡ before = ap (take (length before)) split ∙ take_at before fs (length before) refl in
      let there : text_of 0 + start (length before) ≡ text_of 0 + 4 * (6 + 0 + sum_by function_words before) =
      functions_stand name unit (length before) ∙ ap (λ l. text_of 0 + 4 * (6 + 0 + sum_by function_words l)) first in
      omega arith

  abbrev pub record_at : ℕ → Function → FunRec
  record_at i f = function_record Program (objects_of name unit) 0 (i, function_object unit.variables f)

  abbrev pub words_in : ℕ → Function → List ℕ
  words_in i f = words_at (target_address (project_of unit) 0 0) (function_address (project_of unit) (own_definition i)) (function_code f)

  pub length_in : (i : ℕ) (f : Function) → length (words_in i f) ≡ function_words f
  length_in i f =
      length_of_words (target_address (project_of unit) 0 0) (function_address (project_of unit) (own_definition i)) (function_code f) ∙ size-function f

  abbrev part : Bool → ℕ → Function → List ℕ
  part kept i f = if kept then words_in i f else zeros (function_words f)

  length_of_part : (kept : Bool) (i : ℕ) (f : Function) → length (part kept i f) ≡ function_words f
  unfolding zeros
  length_of_part true i f = length_in i f
  length_of_part false i f = length-replicate (function_words f) 0

  -- One function is left as it is, or blanked.
  one : (kept : Bool) (before : List Function) (f : Function) (fs : List Function) (front rest : List ℕ) → unit.functions ≡ before ++ (f ∷ fs) →
      length front ≡ 6 + sum_by function_words before →
      (if kept then front ++ (words_in (length before) f ++ rest) else without_function (front ++ (words_in (length before) f ++ rest)) (record_at (length before) f))
      ≡ front ++ (part kept (length before) f ++ rest)
  one true before f fs front rest split long = refl
  one false before f fs front rest split long =
      let from : start (length before) ≡ 4 * length front = start_behind before (f ∷ fs) split ∙ ap (λ n. 4 * n) (sym long) in
      let many : function_bytes (function_object unit.variables f) ≡ 4 * length (words_in (length before) f) =
      bytes_of_function unit.variables f ∙ ap (λ n. 4 * n) (sym (length_in (length before) f)) in
      blank_middle front (words_in (length before) f) rest (record_at (length before) f) from many
      ∙ ap (λ n. front ++ (zeros n ++ rest)) (length_in (length before) f)

  blank_from : (fs before : List Function) (front : List ℕ) → unit.functions ≡ before ++ fs → length front ≡ 6 + sum_by function_words before →
      blanked (front ++ functions_image (project_of unit) keeps_all 0 0 (length before) fs)
      (map (function_record Program (objects_of name unit) 0) (enumerate_from (length before) (map (function_object unit.variables) fs)))
      (map (λ i. keep (own_definition i)) (range_with_len (length before) (length fs)))
      ≡ front ++ functions_image (project_of unit) keep 0 0 (length before) fs
  unfolding blanked functions_image
  blank_from [] before front split long = refl
  blank_from (f ∷ fs) before front split long =
      let kept : Bool = keep (own_definition (length before)) in
      let more : List Function = before ++ f ∷ [] in
      let next : suc (length before) ≡ length more = omega (arith, length_push before f) in
      let same_next : length before + 1 ≡ length more = omega (arith, length_push before f) in
      let records = (λ (i : ℕ). map (function_record Program (objects_of name unit) 0) (enumerate_from i (map (function_object unit.variables) fs))) in
      let keeps = (λ (i : ℕ). map (λ j. keep (own_definition j)) (range_with_len i (length fs))) in
      let longer : length (front ++ part kept (length before) f) ≡ 6 + sum_by function_words more =
      omega (arith, length-append front (part kept (length before) f), length_of_part kept (length before) f, sum_by_push function_words before f) in
      ap (λ l. blanked l (records (length before + 1)) (keeps (length before + 1)))
      (one kept before f fs front (functions_image (project_of unit) keeps_all 0 0 (suc (length before)) fs) split long
      ∙ sym (append_assoc front (part kept (length before) f) (functions_image (project_of unit) keeps_all 0 0 (suc (length before)) fs)))
      ∙ (λ p. blanked ((front ++ part kept (length before) f) ++ functions_image (project_of unit) keeps_all 0 0 (next p) fs) (records (same_next p)) (keeps (same_next p)))
      ∙ blank_from fs more (front ++ part kept (length before) f) (split ∙ sym (append_assoc before (f ∷ []) fs)) longer
      ∙ (λ p. (front ++ part kept (length before) f) ++ functions_image (project_of unit) keep 0 0 (sym next p) fs)
      ∙ append_assoc front (part kept (length before) f) (functions_image (project_of unit) keep 0 0 (suc (length before)) fs)

pub blanked_text_is_image : BlankedTextIsImage
unfolding blanked units_image words_at
blanked_text_is_image name unit keep =
    let entry : List ℕ = words_at (target_address (project_of unit) 0 0) (text_of 0) entry_code in
    let records : List FunRec = map (function_record Program (objects_of name unit) 0) (enumerate_from 0 (map (function_object unit.variables) unit.functions)) in
    let keeps : List Bool = map (λ i. keep (own_definition i)) (range_with_len 0 (length unit.functions)) in
    let whole : text Program (objects_of name unit) ≡ entry ++ functions_image (project_of unit) keeps_all 0 0 0 unit.functions =
    text_is_image name unit ∙ ap (λ l. entry ++ l) (append-nil (functions_image (project_of unit) keeps_all 0 0 0 unit.functions)) in
    (λ p. blanked (whole p) (append-nil records p) keeps)
    ∙ blank_from name unit keep unit.functions [] entry refl refl
    ∙ ap (λ l. entry ++ l) (sym (append-nil (functions_image (project_of unit) keep 0 0 0 unit.functions)))
