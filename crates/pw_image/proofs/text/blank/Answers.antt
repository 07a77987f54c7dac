-- The first record that is left is done, until none is left, or no level.
use Rattle.std.proofs.Common.{◌≡◌, ℕ, Bool, if◌then◌else◌, List, inl, inr, sym, ap, ◌∙◌}
use Rattle.pw_image.specs.Blanked.{without_function}
use Rattle.pw_image.proofs.BlankedOneByOne.{blanked_by, one_blanked, no_record_left, no_level_left}
use Rattle.pw_image.proofs.text.blank.Goals as goal

pub returns : goal.returns
returns c =
    let words : List ℕ = c.loop-record.words in
    let records = c.loop-record.record-iterator.a.rest.now in
    let levels = c.loop-record.record-iterator.b.rest.now in
    let done : blanked_by words records levels ≡ words = elim c.in-None.ensures.steps [
      | inl none ↦ no_record_left words records levels none.1.0
      | inr none ↦ no_level_left words records levels none.1.0
    ] in
    sym done ∙ c.loop-record.invariant

pub loop-record-preserved-then-is_none : goal.loop-record-preserved-then-is_none
loop-record-preserved-then-is_none c =
    let words : List ℕ = c.loop-record.words in
    let blank : List ℕ = without_function words c.in-Some.record.now in
    one_blanked words c.blank_function.new.words _ _ c.in-Some.record.now _ _ c.in-Some.level.now _
    c.in-Some.ensures.steps.0 c.in-Some.ensures.steps.1
    (c.blank_function.ensures ∙ ap (λ (kept : Bool). if kept then words else blank) (sym c.if-is_none.ensures)) c.loop-record.invariant

pub loop-record-preserved : goal.loop-record-preserved
loop-record-preserved c =
    let words : List ℕ = c.loop-record.words in
    let blank : List ℕ = without_function words c.in-Some.record.now in
    one_blanked words words _ _ c.in-Some.record.now _ _ c.in-Some.level.now _
    c.in-Some.ensures.steps.0 c.in-Some.ensures.steps.1
    (ap (λ (kept : Bool). if kept then words else blank) (sym c.if-is_none.ensures)) c.loop-record.invariant
