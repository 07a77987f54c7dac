-- The answers to the goals of `rest` in `src/immediate.rt`.
use Rattle.std.proofs.Common.{◌≡◌, ◌∙◌}
use Rattle.std.specs.Int.RustNames.{FitsSigned}
use Rattle.std.specs.Int.{w32, w64}
use Rattle.std.proofs.lemmas.Int.{to_z-of_z}
use Rattle.pw_code.proofs.Exports.{rest_computed}
use Rattle.pw_genexpr.proofs.immediate.rest.Goals as goal

pub returns : goal.returns
returns c =
    let wide : FitsSigned w64 c.args.value = c.ranges.value in
    let narrow : FitsSigned w32 c.lower.result = record { sfits = c.lower.type_inv } in
    rest_computed c.args.value c.from.result wide (simp to_z-of_z at c.from.ensures ∙ simp to_z-of_z at c.lower.ensures)
