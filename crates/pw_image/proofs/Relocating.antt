-- Relocations are done one after another.
use Rattle.std.proofs.Common.{◌≡◌, ℕ, zero, suc, ◌+◌, ◌-◌, ◌<◌, ◌≤◌, List, [], ◌∷◌, ◌++◌, length, take, drop, get_or, Option, refl, sym, ap, ◌∙◌, arith, drop-drop, drop-cons, add-one}
use Rattle.pw_base.specs.Bytes.{le_bytes}
use Rattle.pw_base.specs.Limits.{data_offset}
use Rattle.pw_module.specs.declared.symbol.Symbol.{Symbol}
use Rattle.pw_module.specs.declared.relocation.Reloc.{Reloc}
use Rattle.pw_image.specs.Relocated.{relocation_value, put_at, relocated}

-- Bytes are put over as many others, from one place up to another.
pub put_over : (content put new : List ℕ) (at end : ℕ) → put ≡ new → end ≡ at + length new →
    take at content ++ (put ++ drop (end - at) (drop at content)) ≡ put_at content at new
put_over content put new at end same ends =
    let long : at + (end - at) ≡ at + length new = omega arith in
    λ p. take at content ++ (same p ++ (drop-drop (end - at) at content ∙ ap (λ (n : ℕ). drop n content) long) p)

module _ (symbols : List (Option Symbol)) where
  first_relocated : (content : List ℕ) (r : Reloc) (rs : List Reloc) →
      relocated symbols content (r ∷ rs)
      ≡ relocated symbols (put_at content (r.offset - data_offset) (le_bytes 8 (relocation_value symbols r.kind))) rs
  unfolding relocated
  first_relocated content r rs = refl

  -- What the relocations that are left make of the data does not change as the first of them is done.
  pub one_relocated : (content new : List ℕ) (relocs : List Reloc) (i : ℕ) (d : Reloc) (whole : List ℕ) → i < length relocs →
      new ≡ put_at content ((get_or relocs i d).offset - data_offset) (le_bytes 8 (relocation_value symbols (get_or relocs i d).kind)) →
      relocated symbols content (drop i relocs) ≡ whole → relocated symbols new (drop (i + 1) relocs) ≡ whole
  one_relocated content new relocs i d whole low is so_far =
      let r : Reloc = get_or relocs i d in
      let rest : List Reloc = drop (i + 1) relocs in
      let left : drop i relocs ≡ r ∷ rest = drop-cons relocs i d low ∙ ap (λ (n : ℕ). r ∷ drop n relocs) (sym (add-one i)) in
      ap (λ (l : List ℕ). relocated symbols l rest) is ∙ sym (first_relocated content r rest)
      ∙ ap (relocated symbols content) (sym left) ∙ so_far

  -- When none is left, the data are done.
  pub all_relocated : (content : List ℕ) (relocs : List Reloc) (i : ℕ) → length relocs ≤ i →
      relocated symbols content (drop i relocs) ≡ content
  unfolding relocated
  all_relocated content [] zero past = refl
  all_relocated content [] (suc i) past = refl
  all_relocated content (r ∷ rs) zero past = absurd (omega arith)
  all_relocated content (r ∷ rs) (suc i) past = all_relocated content rs i (omega arith)
