-- The places of the parts of loops, as they are computed.
use Rattle.std.proofs.Common.{◌≡◌, ℕ, suc, ◌+◌, ◌<◌, sym, ap, ◌∙◌, subst, arith}
use Rattle.pw_gen.specs.declared.place.Place.{Place}
use Rattle.pw_gen.specs.Steps.Places.{after, in_loop}

pub while_place : (place inner here : Place) (k w K W : ℕ) → k ≡ K → w ≡ W → inner ≡ after place k →
    here ≡ in_loop (inner.at + w + 1) (inner.at + w) inner → here ≡ in_loop (place.at + K + W + 1) (place.at + K + W) (after place K)
while_place place inner here k w K W ek ew ei eh =
    eh ∙ ap (λ (i : Place). in_loop (i.at + w + 1) (i.at + w) i) (ei ∙ ap (after place) ek)
    ∙ ap (λ v. in_loop (place.at + K + v + 1) (place.at + K + v) (after place K)) ew

pub for_place : (top inner here : Place) (k w last K W : ℕ) → k ≡ K → w ≡ W → inner ≡ after top k →
    here ≡ in_loop (inner.at + w + last + 1) (inner.at + w) inner →
    here ≡ in_loop (top.at + K + W + last + 1) (top.at + K + W) (after top K)
for_place top inner here k w last K W ek ew ei eh =
    eh ∙ ap (λ (i : Place). in_loop (i.at + w + last + 1) (i.at + w) i) (ei ∙ ap (after top) ek)
    ∙ ap (λ v. in_loop (top.at + K + v + last + 1) (top.at + K + v) (after top K)) ew

pub do_place : (place here : Place) (k w K W : ℕ) → k ≡ K → w ≡ W →
    here ≡ in_loop (place.at + w + (k + 1) + 1) (place.at + w) place → here ≡ in_loop (place.at + W + (K + 1) + 1) (place.at + W) place
do_place place here k w K W ek ew eh =
    eh ∙ ap (λ v. in_loop (place.at + v + (k + 1) + 1) (place.at + v) place) ew
    ∙ ap (λ l. in_loop (place.at + W + (l + 1) + 1) (place.at + W) place) ek
