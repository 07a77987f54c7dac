-- What `Has` says of parts of parts, and that laid parts stand at their places.
use Rattle.std.proofs.Common.{◌≡◌, ℕ, zero, suc, ◌+◌, ◌^◌, ◌<◌, ◌≤◌, List, [], ◌∷◌, ◌++◌, length, take, drop, replicate, Some, refl, sym, ap, subst, ◌∙◌, append_assoc, arith}
use Rattle.std.specs.Prelude.{slice_get}
use Rattle.std.proofs.lemmas.List.{take_at, drop_at, length-append, length-replicate, append-nil}
use Rattle.pw_base.specs.Field.{field, field_at}
use Rattle.pw_base.specs.Laid.{Has, Part, padding, align_up, laid, part_offset}
use Rattle.pw_base.proofs.Fields.{written_field_is_read}

-- bytes have themselves from their start on
pub Has-whole : (bytes : List ℕ) → Has bytes 0 bytes
Has-whole bytes = record { before = []; after = []; parts = sym (append-nil bytes); at = refl }

-- and the first of two parts
pub Has-left : (bytes : List ℕ) (off : ℕ) (x y : List ℕ) → Has bytes off (x ++ y) → Has bytes off x
Has-left bytes off x y h =
    record { before = h.before; after = y ++ h.after; parts = h.parts ∙ ap (λ (t : List ℕ). h.before ++ t) (append_assoc x y h.after); at = h.at }

-- and the second, after the first
pub Has-right : (bytes : List ℕ) (off n : ℕ) (x y : List ℕ) → length x ≡ n → Has bytes off (x ++ y) → Has bytes (off + n) y
Has-right bytes off n x y len h =
    record {
      before = h.before ++ x;
      after = h.after;
      parts = h.parts ∙ ap (λ (t : List ℕ). h.before ++ t) (append_assoc x y h.after) ∙ sym (append_assoc h.before x (y ++ h.after));
      at = let e = h.at in omega (arith, length-append h.before x);
    }

-- what a part has, the whole has further on
pub Has-inner : (bytes part : List ℕ) (off at : ℕ) (inner : List ℕ) → Has bytes off part → Has part at inner → Has bytes (off + at) inner
Has-inner bytes part off at inner h g =
    let whole : Has bytes off (g.before ++ (inner ++ g.after)) = subst (λ (t : List ℕ). Has bytes off t) g.parts h in
    Has-left bytes (off + at) inner g.after (Has-right bytes off at g.before (inner ++ g.after) g.at whole)

-- what stands from the offset on
pub Has-drop : (bytes : List ℕ) (off : ℕ) (part : List ℕ) (h : Has bytes off part) → drop off bytes ≡ part ++ h.after
Has-drop bytes off part h = ap (λ (b : List ℕ). drop off b) h.parts ∙ drop_at h.before (part ++ h.after) off h.at

-- the part is what is taken there
pub Has-slice : (bytes : List ℕ) (off n : ℕ) (part : List ℕ) → length part ≡ n → Has bytes off part → take n (drop off bytes) ≡ part
Has-slice bytes off n part len h = rw (Has-drop bytes off part h) (take_at part h.after n len)

-- and lies within the bytes
pub Has-inside : (bytes : List ℕ) (off : ℕ) (part : List ℕ) → Has bytes off part → off + length part ≤ length bytes
Has-inside bytes off part h =
    let e = h.at in
    let whole : length bytes ≡ length h.before + (length part + length h.after) = ap (λ (b : List ℕ). length b) h.parts ∙ length-append h.before (part ++ h.after) ∙ ap (λ (n : ℕ). length h.before + n) (length-append part h.after) in
    omega arith

-- a field that stands there is read there
pub Has-field : (bytes : List ℕ) (off width value : ℕ) → value < 256 ^ width → Has bytes off (field width value) →
    field_at width bytes off ≡ Some value
Has-field bytes off width value small h = rw (Has-drop bytes off (field width value) h) (written_field_is_read width value h.after small)

-- two parts that stand one right after the other stand there as one
pub Has-join : (bytes : List ℕ) (off next n : ℕ) (x y : List ℕ) → length x ≡ n → next ≡ off + n → Has bytes off x →
    Has bytes next y → Has bytes off (x ++ y)
Has-join bytes off next n x y len is h g =
    let at = h.at in
    let both : length (h.before ++ x) ≡ next = omega (arith, length-append h.before x, at, len, is) in
    let whole : bytes ≡ (h.before ++ x) ++ h.after = h.parts ∙ sym (append_assoc h.before x h.after) in
    let after_x : drop next bytes ≡ h.after = ap (λ (b : List ℕ). drop next b) whole ∙ drop_at (h.before ++ x) h.after next both in
    let tail : h.after ≡ y ++ g.after = sym after_x ∙ Has-drop bytes next y g in
    record {
      before = h.before;
      after = g.after;
      parts = h.parts ∙ ap (λ (t : List ℕ). h.before ++ (x ++ t)) tail ∙ ap (λ (t : List ℕ). h.before ++ t) (sym (append_assoc x y g.after));
      at = at;
    }

-- each of laid parts stands at its place
pub laid_parts_stand : (off : ℕ) (ps : List Part) (k : ℕ) (p : Part) (bytes : List ℕ) → Has bytes off (laid off ps) →
    slice_get ps k ≡ Some p → Has bytes (part_offset off ps k) p.content
laid_parts_stand off [] k p bytes h found = absurd cc
laid_parts_stand off (q ∷ qs) zero p bytes h found =
    let same : q ≡ p = cc in
    let zeros = replicate (padding q.align off) 0 in
    let later = Has-right bytes off (padding q.align off) zeros (q.content ++ laid (align_up q.align off + length q.content) qs) (length-replicate {A = ℕ} (padding q.align off) 0) h in
    subst (λ (r : Part). Has bytes (align_up q.align off) r.content) same (Has-left bytes (align_up q.align off) q.content _ later)
laid_parts_stand off (q ∷ qs) (suc k) p bytes h found =
    let zeros = replicate (padding q.align off) 0 in
    let later = Has-right bytes off (padding q.align off) zeros (q.content ++ laid (align_up q.align off + length q.content) qs) (length-replicate {A = ℕ} (padding q.align off) 0) h in
    laid_parts_stand (align_up q.align off + length q.content) qs k p bytes (Has-right bytes (align_up q.align off) (length q.content) q.content _ refl later) found
