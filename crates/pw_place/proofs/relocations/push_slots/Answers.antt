-- The relocation of one more slot is appended.
use Rattle.std.proofs.Common.{ℕ, ◌+◌, ◌*◌, ◌<◌, [], ◌∷◌, ◌++◌, length, ◌∙◌, ap, arith}
use Rattle.pw_base.specs.Limits.{data_offset}
use Rattle.pw_module.specs.declared.relocation.Reloc.{Reloc}
use Rattle.pw_module.specs.declared.relocation.RelocKind.TheVariants.{Sym}
use Rattle.pw_place.specs.Sizes.{doubleword_bytes}
use Rattle.pw_place.specs.Places.{slot_names}
use Rattle.pw_place.specs.Contents.{slot_relocation}
use Rattle.pw_place.proofs.Numbered.{listed_step}
use Rattle.pw_place.proofs.Extents.{few_slots}
use Rattle.pw_place.proofs.Reach.{element_at}
use Rattle.pw_place.proofs.relocations.push_slots.Goals as goal

pub overflow_mul-n : goal.overflow_mul-n
overflow_mul-n c =
    let places = c.args.numbers.now.places.now in
    let slots = few_slots places.kind places.objects.now in
    let same = ap length places.placed.with_slots in
    omega (arith, slots, same, c.len-n-end.ensures, places.placed.limits.text)

pub overflow_add-n : goal.overflow_add-n
overflow_add-n c =
    let places = c.args.numbers.now.places.now in
    let slots = few_slots places.kind places.objects.now in
    let same = ap length places.placed.with_slots in
    omega (arith, slots, same, c.len-n-end.ensures, places.placed.limits.text)

pub loop-n-preserved : goal.loop-n-preserved
loop-n-preserved c =
    let places = c.args.numbers.now.places.now in
    let names = slot_names places.kind places.objects.now in
    let n = c.loop-n.n in
    let same = ap length places.placed.with_slots in
    let low : n < length names = omega (arith, same, c.len-n-end.ensures) in
    let there = element_at names n low in
    let reloc : ℕ → Reloc = λ s. record { offset = data_offset + doubleword_bytes * n; kind = Sym s } in
    let one = c.in_ok-push.ensures.ok ∙ ap (λ s. c.loop-n.to ++ reloc s ∷ []) (c.slot_symbol.ensures there.0 there.1) in
    listed_step (slot_relocation places.kind places.objects.now) names n there.0 _ _ _ there.1 c.loop-n.invariant one
