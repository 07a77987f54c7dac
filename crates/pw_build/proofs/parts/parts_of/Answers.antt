-- Each part is made by the same levels.
use Rattle.std.proofs.Common.{◌∙◌, ap}
use Rattle.pw_mem.specs.Words.{text_bytes}
use Rattle.pw_image.specs.Blanked.{blanked}
use Rattle.pw_image.specs.Keeping.{have_levels}
use Rattle.pw_image.specs.Reported.{rows_of}
use Rattle.pw_build.proofs.parts.parts_of.Goals as goal

pub returns : goal.returns
returns c =
    let levels = c.in_ok-levels.levels in
    record {
      levels = levels;
      levels_are = c.in_ok-levels.ensures;
      rows = c.in_ok-rows.ensures ∙ ap (λ name. rows_of name c.args.placed.now levels) c.in_ok-module.ensures;
      text = c.in_ok-text.ensures ∙ (λ p. text_bytes (blanked (c.as_slice.ensures p) (c.as_slice-2.ensures p) (have_levels levels)));
      content = c.in_ok-data.ensures;
    }
