-- The words of code, item by item, and those of a program's entry.
use Rattle.std.proofs.Common.{◌≡◌, ℕ, zero, suc, ◌+◌, ◌<◌, ◌≤◌, List, [], ◌∷◌, ◌++◌, length, get_or, drop, refl, sym, ◌∙◌, ap, arith, append_assoc, add-one, pos, Some, codes}
use Rattle.std.specs.Prelude.{ℤ, ◌-ℤ◌, slice_get}
use Rattle.std.proofs.lemmas.Option.{slice_get_read}
use Rattle.std.proofs.lemmas.List.{append-nil}
use Rattle.std.proofs.lemmas.List.Sums.{sum_by-cons}
use Rattle.pw_base.specs.Limits.{text_offset, data_offset}
use Rattle.pw_base.specs.declared.kinds.Kind.{Kind}
use Rattle.pw_base.specs.declared.kinds.Kind.TheVariants.{Program, Library}
use Rattle.pw_isa.specs.declared.instruction.Inst.TheVariants.{Auipc, Ld, Jalr, Addi, Ecall}
use Rattle.pw_isa.specs.Encoding.{word_of}
use Rattle.pw_code.specs.LoadImmediate.{upper_immediate, lower}
use Rattle.pw_code.specs.declared.item.Item.{Item}
use Rattle.pw_code.specs.declared.object.Object.{Object}
use Rattle.pw_place.specs.Sizes.{item_bytes, code_bytes, entry_items}
use Rattle.pw_place.specs.Places.{slot_start}
use Rattle.pw_place.specs.Contents.{words_of_item, words_of_code}

-- What is left of a list from an element on.
drop_at : {X : Type 0} (xs : List X) (i : ℕ) (x : X) → slice_get xs i ≡ Some x → drop i xs ≡ x ∷ drop (suc i) xs
drop_at [] i x h = cc
drop_at (y ∷ xs) zero x h = let same : y ≡ x = cc in ap (λ z. z ∷ xs) same
drop_at (y ∷ xs) (suc i) x h = drop_at xs i x h

drop_past : {X : Type 0} (xs : List X) (i : ℕ) → length xs ≤ i → drop i xs ≡ []
drop_past [] zero low = refl
drop_past [] (suc i) low = refl
drop_past (x ∷ xs) zero low = absurd (omega arith)
drop_past (x ∷ xs) (suc i) low = drop_past xs i (omega arith)

left_at : {X : Type 0} (xs : List X) (i : ℕ) (x : X) → i < length xs → x ≡ get_or xs i x → drop i xs ≡ x ∷ drop (i + 1) xs
left_at xs i x low there = rw add-one (drop_at xs i x (slice_get_read xs (length xs) i x refl low there))

module _ (kind : Kind) (objects : List Object) (unit : ℕ) where
  code_cons : (at : ℕ) (item : Item) (items : List Item)
      → words_of_code kind objects unit at (item ∷ items)
      ≡ words_of_item kind objects unit at item ++ words_of_code kind objects unit (at + item_bytes item) items
  unfolding words_of_code
  code_cons at item items = refl

  code_nil : (at : ℕ) → words_of_code kind objects unit at [] ≡ []
  unfolding words_of_code
  code_nil at = refl

  -- An item is written: what is written and what is left are the same together.
  pub written_step : (at : ℕ) (items : List Item) (i : ℕ) (item : Item) (bytes : ℕ) (words new whole : List ℕ)
      → i < length items → item ≡ get_or items i item → bytes ≡ item_bytes item
      → words ++ words_of_code kind objects unit at (drop i items) ≡ whole → new ≡ words ++ words_of_item kind objects unit at item
      → new ++ words_of_code kind objects unit (at + bytes) (drop (i + 1) items) ≡ whole
  written_step at items i item bytes words new whole low there size so_far more =
      let rest : List ℕ = words_of_code kind objects unit (at + item_bytes item) (drop (i + 1) items) in
      ap (λ n. new ++ words_of_code kind objects unit (at + n) (drop (i + 1) items)) size
      ∙ ap (λ ws. ws ++ rest) more
      ∙ append_assoc words (words_of_item kind objects unit at item) rest
      ∙ ap (λ ws. words ++ ws) (sym (code_cons at item (drop (i + 1) items)))
      ∙ ap (λ is. words ++ words_of_code kind objects unit at is) (sym (left_at items i item low there))
      ∙ so_far

  -- Nothing is left: all is written.
  pub written_all : (at : ℕ) (items : List Item) (i : ℕ) (words whole : List ℕ) → length items ≤ i
      → words ++ words_of_code kind objects unit at (drop i items) ≡ whole → words ≡ whole
  written_all at items i words whole past so_far =
      sym (append-nil words) ∙ ap (λ ws. words ++ ws) (sym (code_nil at))
      ∙ ap (λ is. words ++ words_of_code kind objects unit at is) (sym (drop_past items i past)) ∙ so_far

-- The bytes of what is left.
pub stands_step : (at bytes : ℕ) (items : List Item) (i : ℕ) (item : Item) (end : ℕ)
    → i < length items → item ≡ get_or items i item → bytes ≡ item_bytes item
    → at + code_bytes (drop i items) ≡ end → at + bytes + code_bytes (drop (i + 1) items) ≡ end
stands_step at bytes items i item end low there size so_far =
    let left : code_bytes (drop i items) ≡ item_bytes item + code_bytes (drop (i + 1) items) =
    ap code_bytes (left_at items i item low there) ∙ sum_by-cons item_bytes item (drop (i + 1) items) in
    omega arith

-- The words of a program's entry, one after another.
pub entry_words : (kind : Kind) (objects : List Object) (old : List ℕ) (distance : ℤ)
    → distance ≡ pos (data_offset + slot_start kind objects (codes "main")) -ℤ pos (text_offset + 4)
    → ((((old ++ word_of (Addi 9 0 (pos 1000)) ∷ []) ++ word_of (Auipc 5 (upper_immediate distance)) ∷ word_of (Ld 5 5 (lower distance)) ∷ [])
    ++ word_of (Jalr 1 5 (pos 0)) ∷ []) ++ word_of (Addi 17 0 (pos 93)) ∷ []) ++ word_of Ecall ∷ []
    ≡ old ++ words_of_code kind objects 0 text_offset (entry_items Program)
unfolding words_of_code
entry_words kind objects old distance is = rw is (simp append_assoc)

-- A library has no entry, and so no words of one.
pub no_entry : (kind : Kind) (objects : List Object) (words : List ℕ) → kind ≡ Library
    → words ≡ words ++ words_of_code kind objects 0 text_offset (entry_items kind)
no_entry kind objects words library =
    sym (append-nil words) ∙ ap (λ ws. words ++ ws) (sym (code_nil kind objects 0 text_offset))
    ∙ ap (λ k. words ++ words_of_code kind objects 0 text_offset (entry_items k)) (sym library)
