-- The status and the words of an answer are those of the end that is meant.
use Rattle.std.proofs.Common.{◌≡◌, ℕ, zero, suc, ◌<◌, length, List, [], ◌∷◌, Option, Some, None, slice_get, option_map, Ok, Err, ap, sym, ◌∙◌, arith, inl, inr, refl}
use Rattle.std.specs.Prelude.{◌⊎◌}
use Rattle.std.specs.Option.{option_map_or}
use Rattle.pw_tree.specs.Units.{Function, TypedUnit}
use Rattle.pw_tree.specs.Meaning.{End}
use Rattle.pw_hart.specs.Outside.{Outside}
use Rattle.pw_simulation.specs.Moments.{kind_of}
use Rattle.pw_module.specs.declared.kept_row.KeptRow.{KeptRow}
use Rattle.pw_agree.specs.Kept.{Keep}
use Rattle.pw_image.specs.OneUnit.{own_definition}
use Rattle.pw_image.specs.Rows.{AreRows, program_name}
use Rattle.pw_build.specs.declared.run.Ended.{Ended}
use Rattle.pw_build.specs.declared.run.Ended.TheVariants.{Exit, Checked, Spent, Trap, Limit, ReadFault, WriteFault}
use Rattle.pw_build.specs.Meant.{IsEnd, EndsAsMeant, IsMeant}
use Rattle.pw_cmd.specs.declared.answer.Ending.{Ending}
use Rattle.pw_cmd.specs.declared.answer.Ending.TheVariants as endings
use Rattle.pw_cmd.specs.declared.answer.Stop.TheVariants.{ReadFailed, WriteFailed}
use Rattle.pw_cmd.specs.Answer.{status_of_ending, checked_text, place_text, unit_text, row_text, ending_text}
use Rattle.pw_cmd.specs.Ends.{status_of_end, function_text, end_text}
use Rattle.pw_cmd.specs.Primitives.{ending_of}
use Rattle.pw_cmd.proofs.Inversion.{ok_same, ok_is_not_err}

-- ---- the answer of an end

-- what the answer of a run's end is: an ending, or that a call failed
pub answered : (rows : List KeptRow) (ended : Ended) →
    ((ending : Ending) × (ending_of rows ended ≡ Ok ending))
    ⊎ ((ending_of rows ended ≡ Err ReadFailed) ⊎ (ending_of rows ended ≡ Err WriteFailed))
answered rows (Exit value) = inl (endings.Ended value, refl)
answered rows (Checked kind row line) = inl (endings.Faulted kind (slice_get rows row) line, refl)
answered rows Spent = inl (endings.Spent, refl)
answered rows (Trap cause pc value) = inl (endings.Trapped cause pc value, refl)
answered rows (Limit limit) = inl (endings.Limited limit, refl)
answered rows ReadFault = inr (inl refl)
answered rows WriteFault = inr (inr refl)

module _ (unit : TypedUnit) (keep : Keep) (steps : ℕ) (old new : Outside) (rows : List KeptRow) where
  -- a run with an ending ended as meant
  pub ends_as_meant : (ended : Ended) (ending : Ending) → ending_of rows ended ≡ Ok ending → IsMeant unit keep steps old new ended →
      EndsAsMeant unit keep steps old new ended
  ends_as_meant (Exit value) ending is m = m
  ends_as_meant (Checked kind row line) ending is m = m
  ends_as_meant Spent ending is m = m
  ends_as_meant (Trap cause pc value) ending is m = m
  ends_as_meant (Limit limit) ending is m = m
  ends_as_meant ReadFault ending is m = absurd (ok_is_not_err (sym is))
  ends_as_meant WriteFault ending is m = absurd (ok_is_not_err (sym is))

-- ---- the status

pub status_meant : (unit : TypedUnit) (rows : List KeptRow) (end : End) (ended : Ended) (ending : Ending) → IsEnd unit end ended →
    ending_of rows ended ≡ Ok ending → status_of_ending ending ≡ status_of_end end
status_meant unit rows end (Exit value) ending m is = ap status_of_ending (sym (ok_same is)) ∙ sym (ap status_of_end m)
status_meant unit rows end (Checked kind row line) ending m is = ap status_of_ending (sym (ok_same is)) ∙ sym (ap status_of_end m.end_is)
status_meant unit rows end Spent ending m is = ap status_of_ending (sym (ok_same is)) ∙ sym (ap status_of_end m)
status_meant unit rows end (Trap cause pc value) ending m is = absurd m
status_meant unit rows end (Limit limit) ending m is = absurd m
status_meant unit rows end ReadFault ending m is = absurd m
status_meant unit rows end WriteFault ending m is = absurd m

-- ---- the words

-- a list has an element of each number below its length
none_past : {A : Type 0} (xs : List A) (i : ℕ) → slice_get xs i ≡ None → i < length xs → ⊥
none_past [] i is low = absurd (omega (arith, low))
none_past (x ∷ xs) zero is low = cc
none_past (x ∷ xs) (suc i) is low = none_past xs i is (omega (arith, low))

module _ (file : List ℕ) (unit : TypedUnit) (rows : List KeptRow) (are : AreRows file unit rows) where
  -- each function of the unit has a row
  row_there : (number : ℕ) → number < length unit.functions → (row : KeptRow) × (slice_get rows (suc number) ≡ Some row)
  row_there number there = by_row (slice_get rows (suc number)) refl where
    by_row : (row : Option KeptRow) → slice_get rows (suc number) ≡ row → (row : KeptRow) × (slice_get rows (suc number) ≡ Some row)
    by_row (Some row) is = (row, is)
    by_row None is = absurd (none_past rows (suc number) is (omega (arith, are.all, there)))

  name_from : (f : Option Function) (name : List ℕ) → option_map (λ f. f.name) f ≡ Some name → name ≡ option_map_or (λ f. f.name) f []
  name_from (Some f) name is = cc
  name_from None name is = cc

  -- and the row says where it stands
  row_says : (number : ℕ) → number < length unit.functions →
      row_text (slice_get rows (suc number)) ≡ function_text file unit (own_definition number)
  row_says number there =
      let found = row_there number there in
      let row : KeptRow = found.0 in
      let is = are.each (suc number) row found.1 in
      ap row_text found.1 ∙ ap (λ word. place_text word (unit_text row.unit) row.name) is.«module»
      ∙ ap (λ u. place_text program_name (unit_text u) row.name) is.file_is
      ∙ ap (place_text program_name file) (name_from (slice_get unit.functions number) row.name is.name)

  pub text_meant : (end : End) (ended : Ended) (ending : Ending) → IsEnd unit end ended → ending_of rows ended ≡ Ok ending →
      ending_text ending ≡ end_text file unit end
  text_meant end (Exit value) ending m is = ap ending_text (sym (ok_same is)) ∙ sym (ap (end_text file unit) m)
  text_meant end (Checked kind row line) ending m is =
      ap ending_text (sym (ok_same is))
      ∙ ap (λ k. checked_text k (row_text (slice_get rows row)) line) m.kind_is
      ∙ ap (λ r. checked_text (kind_of m.fault) (row_text (slice_get rows r)) line) m.row_is
      ∙ ap (λ place. checked_text (kind_of m.fault) place line) (row_says m.number m.there)
      ∙ sym (ap (end_text file unit) m.end_is)
  text_meant end Spent ending m is = ap ending_text (sym (ok_same is)) ∙ sym (ap (end_text file unit) m)
  text_meant end (Trap cause pc value) ending m is = absurd m
  text_meant end (Limit limit) ending m is = absurd m
  text_meant end ReadFault ending m is = absurd m
  text_meant end WriteFault ending m is = absurd m
