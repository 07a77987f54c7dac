-- What code reaches by a reference.
use Rattle.std.proofs.Common.{◌≡◌, ℕ, ◌+◌, ◌*◌, not, ap, ◌∙◌, arith, bytes_eq}
use Rattle.std.specs.List.{prefix_len}
use Rattle.pw_base.specs.Limits.{text_offset, data_offset}
use Rattle.pw_base.specs.declared.kinds.Kind.TheVariants.{Program}
use Rattle.pw_tree.specs.declared.ty.Ref.TheVariants.{Global, LocalFun, LocalVar}
use Rattle.pw_code.specs.Objects.{number_in_order}
use Rattle.pw_place.specs.Places.{function_start, slot_names, variable_start}
use Rattle.pw_agree.specs.Placing.{base_of, text_of, data_of}
use Rattle.pw_image.specs.OneUnit.{objects_of}
use Rattle.pw_image.specs.Laws.{TargetsStand}
use Rattle.pw_image.proofs.Lists.{bytes_eq_sym, prefix_same}
use Rattle.pw_image.proofs.Functions.{functions_stand}
use Rattle.pw_image.proofs.Slots.{slots_stand}
use Rattle.pw_image.proofs.Variables.{variables_stand}

-- The text's and the data's addresses are the module's and their offsets.
pub of_text : (n : ℕ) → base_of 0 + (text_offset + n) ≡ text_of 0 + n
of_text n = omega arith

pub of_data : (n : ℕ) → base_of 0 + (data_offset + n) ≡ data_of 0 + n
of_data n = omega arith

pub targets_stand : TargetsStand
targets_stand name unit (Global wanted) =
    of_data (8 * prefix_len (λ other. not (bytes_eq wanted other)) (slot_names Program (objects_of name unit)))
    ∙ ap (λ n. data_of 0 + 8 * n) (prefix_same (λ other. not (bytes_eq wanted other)) (λ other. not (bytes_eq other wanted))
    (λ other. ap not (bytes_eq_sym wanted other)) (slot_names Program (objects_of name unit)))
    ∙ ap (λ l. data_of 0 + 8 * prefix_len (λ other. not (bytes_eq other wanted)) l) (slots_stand name unit)
targets_stand name unit (LocalFun i) =
    of_text (function_start Program (objects_of name unit) 0 i) ∙ functions_stand name unit i
targets_stand name unit (LocalVar i) =
    of_data (variable_start Program (objects_of name unit) 0 (number_in_order unit.variables i)) ∙ variables_stand name unit i
