-- The parts of the program of a unit's object are those of the image of the unit's project.
use Rattle.std.proofs.Common.{◌≡◌, ℕ, suc, ◌^◌, ◌<◌, List, length, None, sym, ap, subst, ◌∙◌, arith}
use Rattle.pw_base.specs.declared.kinds.Kind.TheVariants.{Program}
use Rattle.pw_tree.specs.Units.{TypedUnit}
use Rattle.pw_tree.specs.WellTypedUnits.{IsWellTyped}
use Rattle.pw_mem.specs.Words.{text_bytes}
use Rattle.pw_place.specs.Contents.{text}
use Rattle.pw_place.specs.Tables.{function_records}
use Rattle.pw_place.specs.Refusals.{link_fault}
use Rattle.pw_place.specs.Merging.{placed_of}
use Rattle.pw_agree.specs.Kept.{Keep}
use Rattle.pw_agree.specs.Image.{text_image, data_image, doubleword_bytes}
use Rattle.pw_image.specs.OneUnit.{project_of, objects_of}
use Rattle.pw_image.specs.Blanked.{kept_records, blanked}
use Rattle.pw_image.specs.Keeping.{have_levels}
use Rattle.pw_image.specs.Rows.{AreRows, keep_of}
use Rattle.pw_image.proofs.Blanking.{blanked_text_is_image}
use Rattle.pw_image.proofs.RelocatedData.{relocated_data_are_image}
use Rattle.pw_image.proofs.Counts.{records_are_all, functions_are_few}
use Rattle.pw_image.proofs.Tables.{tables_show_projects}
use Rattle.pw_image.proofs.PlacedRows.{rows_are_rows, rows_keep_levels}
use Rattle.pw_image.proofs.RecordSymbols.{records_have_symbols}
use Rattle.pw_image.proofs.RecordsInText.{records_lie_in_text}
use Rattle.pw_image.proofs.RelocationsInData.{relocations_lie_in_data}
use Rattle.pw_build.specs.declared.parts.Parts.{Parts}
use Rattle.pw_build.specs.Steps.Parts.{IsWhole, ArePartsOf}

-- The placed program of a unit's object without a fault is whole.
pub program_is_whole : (file : List ℕ) (unit : TypedUnit) → IsWellTyped unit → link_fault Program (objects_of file unit) ≡ None →
    IsWhole (placed_of Program (objects_of file unit))
program_is_whole file unit typed links =
    let all : length (function_records Program (objects_of file unit)) ≡ suc (length unit.functions) = records_are_all file unit in
    let few : suc (length unit.functions) < 2 ^ 32 = functions_are_few file unit links in
    record {
      some = omega arith;
      few = omega arith;
      in_text = records_lie_in_text file unit;
      in_data = relocations_lie_in_data file unit typed;
      named = records_have_symbols file unit typed;
    }

-- The parts are the rows, the text and the data of the project's image in which exactly the functions are there that are kept.
pub record AreUnitParts (file : List ℕ) (unit : TypedUnit) (parts : Parts) : Type 0 where
  pub rows_are : AreRows file unit parts.rows
  pub text : parts.text.items ≡ text_bytes (text_image (project_of unit) (keep_of parts.rows) 0)
  pub content : parts.data.items ≡ doubleword_bytes (data_image (project_of unit) 0)

pub unit_parts : (file : List ℕ) (unit : TypedUnit) (parts : Parts) → IsWellTyped unit →
    ArePartsOf (placed_of Program (objects_of file unit)) parts → AreUnitParts file unit parts
unit_parts file unit parts typed made =
    let levels = made.levels in
    let g = made.levels_are.graph in
    let are = made.levels_are.are in
    let shows = tables_show_projects file unit g typed made.levels_are.graph_is in
    let all : g.funs ≡ suc (length unit.functions) = made.levels_are.graph_is.funs ∙ records_are_all file unit in
    let kept : kept_records unit (keep_of parts.rows) ≡ have_levels levels =
    ap (λ rows. kept_records unit (keep_of rows)) made.rows ∙ rows_keep_levels file unit g levels typed shows are all in
    let keep : Keep = keep_of parts.rows in
    let words = text Program (objects_of file unit) in
    let records = function_records Program (objects_of file unit) in
    record {
      rows_are = subst (AreRows file unit) (sym made.rows) (rows_are_rows file unit g levels typed shows are all);
      text =
          made.text ∙ ap (λ keeps. text_bytes (blanked words records keeps)) (sym kept)
          ∙ ap text_bytes (blanked_text_is_image file unit keep);
      content = made.content ∙ relocated_data_are_image file unit typed;
    }
