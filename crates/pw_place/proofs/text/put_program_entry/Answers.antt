-- The slot of `main` stands within reach, and the words are those of the entry's code.
use Rattle.std.proofs.Common.{◌+◌, ◌∙◌, ap, pos, arith, codes, w64}
use Rattle.std.specs.Prelude.{◌-ℤ◌}
use mir.Val.{to_z, of_z, SFits}
use Rattle.std.proofs.lemmas.Int.{to_z-of_z}
use Rattle.pw_base.specs.Limits.{text_offset, data_offset}
use Rattle.pw_place.proofs.Extents.{few_slots}
use Rattle.pw_place.proofs.Reach.{slot_within}
use Rattle.pw_place.proofs.Written.{entry_words}
use Rattle.pw_place.proofs.text.put_program_entry.Goals as goal

pub overflow_add-slot : goal.overflow_add-slot
overflow_add-slot c =
    let within = slot_within c.args.places.now.kind c.args.places.now.objects.now (codes "main") in
    let slots = few_slots c.args.places.now.kind c.args.places.now.objects.now in
    omega (arith, c.slot_start-slot.ensures, c.args.places.now.placed.limits.text)

pub distance-requires-clause-target : goal.distance-requires-clause-target
distance-requires-clause-target c =
    let within = slot_within c.args.places.now.kind c.args.places.now.objects.now (codes "main") in
    let slots = few_slots c.args.places.now.kind c.args.places.now.objects.now in
    omega (arith, c.slot_start-slot.ensures, c.args.places.now.placed.limits.text)

pub returns : goal.returns
returns c =
    let d = c.distance.result in
    let fits : SFits w64 d = record { sfits = c.distance.type_inv } in
    let far =
    to_z-of_z w64 d fits ∙ c.distance.ensures.distance
    ∙ ap (λ slot. pos (data_offset + slot) -ℤ pos (text_offset + 4)) c.slot_start-slot.ensures in
    rw (c.in_ok-put-4.ensures, c.in_ok-put-3.ensures, c.in_ok-put-2.ensures, c.in_ok-put_slot_address.ensures, c.in_ok-put.ensures)
    (entry_words c.args.places.now.kind c.args.places.now.objects.now c.args.words.now (to_z w64 (of_z w64 d)) far)
