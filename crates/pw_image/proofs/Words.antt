-- The words of code: placing and the image write the same ones.
use Rattle.std.proofs.Common.{◌≡◌, ℕ, suc, ◌+◌, ◌-◌, ◌^◌, ◌%◌, ◌<◌, ◌≤◌, Bool, true, false, cond, if◌then◌else◌, List, [], ◌∷◌, map, length, refl, ap, ◌∙◌, arith, nat_lt}
use Rattle.std.specs.Prelude.{ℤ, pos, negsuc, ◌-ℤ◌, int_lt}
use Rattle.std.proofs.lemmas.Bool.Decides.{nat_tests}
use Rattle.std.proofs.lemmas.Int.{ints}
use Rattle.pw_base.specs.declared.kinds.Kind.TheVariants.{Program}
use Rattle.pw_isa.specs.Formats.{pattern, u_word}
use Rattle.pw_isa.specs.Encoding.{word_of}
use Rattle.pw_isa.specs.declared.instruction.Inst.TheVariants.{Auipc}
use Rattle.pw_tree.specs.declared.ty.Ref.{Ref}
use Rattle.pw_tree.specs.declared.ty.Ref.TheVariants.{Global, LocalFun, LocalVar}
use Rattle.pw_tree.specs.declared.tunit.TVar.{TVar}
use Rattle.pw_code.specs.declared.object.Object.{Object}
use Rattle.pw_code.specs.Items.{CodePart, instruction, address, size, items}
use Rattle.pw_code.specs.LoadImmediate.{upper, lower, upper_immediate}
use Rattle.pw_code.specs.Objects.{ref_in_order, item_in_order}
use Rattle.pw_place.specs.Places.{target}
use Rattle.pw_place.specs.Contents.{second_instruction, words_of_code}
use Rattle.pw_agree.specs.Image.{distance, with_lower, words_at}

-- ---- the upper part of a distance

-- Twenty bits are the same where 2 ^ 20 is taken away.
same_pattern_of_pos : (n : ℕ) (t : Bool) → nat_lt n (2 ^ 19) ≡ t → pattern (2 ^ 20) (cond t (pos n) (pos n -ℤ pos (2 ^ 20))) ≡ pattern (2 ^ 20) (pos n)
same_pattern_of_pos n true test = refl
same_pattern_of_pos n false test = by_size (nat_lt n (2 ^ 20)) refl
  where
    by_size : (t : Bool) → nat_lt n (2 ^ 20) ≡ t → pattern (2 ^ 20) (pos n -ℤ pos (2 ^ 20)) ≡ pattern (2 ^ 20) (pos n)
    by_size true small =
        let h : n < 2 ^ 20 = grind (arith, nat_tests) in
        let d : pos n -ℤ pos (2 ^ 20) ≡ negsuc (2 ^ 20 - suc n) = omega (arith, ints) in
        ap (pattern (2 ^ 20)) d ∙ (let e : 2 ^ 20 - suc ((2 ^ 20 - suc n) % 2 ^ 20) ≡ n % 2 ^ 20 = omega arith in e)
    by_size false great =
        let h : 2 ^ 20 ≤ n = grind (arith, nat_tests) in
        let d : pos n -ℤ pos (2 ^ 20) ≡ pos (n - 2 ^ 20) = omega (arith, ints) in
        ap (pattern (2 ^ 20)) d ∙ (let e : (n - 2 ^ 20) % 2 ^ 20 ≡ n % 2 ^ 20 = omega arith in e)

same_pattern : (u : ℤ) → pattern (2 ^ 20) (if int_lt u (pos (2 ^ 19)) then u else u -ℤ pos (2 ^ 20)) ≡ pattern (2 ^ 20) u
same_pattern (pos n) = same_pattern_of_pos n (nat_lt n (2 ^ 19)) refl
same_pattern (negsuc n) = refl

pub same_auipc : (rd : ℕ) (v : ℤ) → word_of (Auipc rd (upper_immediate v)) ≡ word_of (Auipc rd (upper v))
same_auipc rd v = ap (u_word 0x17 rd) (same_pattern (upper v))

-- ---- distances

-- A distance is the same from any base.
same_distance : (base to at : ℕ) → pos to -ℤ pos at ≡ pos (base + to) -ℤ pos (base + at)
same_distance base to at = omega (arith, ints)

same_second : (xs : List TVar) (rd : ℕ) (to : Ref) (v : ℤ) → second_instruction rd (ref_in_order xs to) v ≡ with_lower rd to (lower v)
same_second xs rd (Global name) v = refl
same_second xs rd (LocalFun i) v = refl
same_second xs rd (LocalVar i) v = refl

-- ---- code

module _ (objects : List Object) (xs : List TVar) (base : ℕ) (to : Ref → ℕ) (stands : (r : Ref) → base + target Program objects 0 (ref_in_order xs r) ≡ to r) where
  -- Where each reference reaches the same address, code has the same words.
  pub same_words : (at : ℕ) (code : List CodePart) → words_of_code Program objects 0 at (map (item_in_order xs) (items code)) ≡ words_at to (base + at) code
  unfolding words_of_code words_at
  same_words at [] = refl
  same_words at (instruction i ∷ code) =
      let on : base + (at + 4) ≡ base + at + 4 = omega arith in
      ap (λ l. word_of i ∷ l) (same_words (at + 4) code ∙ ap (λ p. words_at to p code) on)
  same_words at (address rd r ∷ code) =
      let on : base + (at + 8) ≡ base + at + 8 = omega arith in
      let d : pos (target Program objects 0 (ref_in_order xs r)) -ℤ pos at ≡ distance (base + at) (to r) =
      same_distance base (target Program objects 0 (ref_in_order xs r)) at ∙ ap (λ t. pos t -ℤ pos (base + at)) (stands r) in
      let first : word_of (Auipc rd (upper_immediate (pos (target Program objects 0 (ref_in_order xs r)) -ℤ pos at))) ≡ word_of (Auipc rd (upper (distance (base + at) (to r)))) =
      same_auipc rd (pos (target Program objects 0 (ref_in_order xs r)) -ℤ pos at) ∙ ap (λ v. word_of (Auipc rd (upper v))) d in
      let second : word_of (second_instruction rd (ref_in_order xs r) (pos (target Program objects 0 (ref_in_order xs r)) -ℤ pos at))
      ≡ word_of (with_lower rd r (lower (distance (base + at) (to r)))) =
      ap word_of (same_second xs rd r (pos (target Program objects 0 (ref_in_order xs r)) -ℤ pos at) ∙ ap (λ v. with_lower rd r (lower v)) d) in
      let rest = same_words (at + 8) code ∙ ap (λ p. words_at to p code) on in
      λ i. first i ∷ second i ∷ rest i

-- Code has as many words as its size.
pub length_of_words : (to : Ref → ℕ) (at : ℕ) (code : List CodePart) → length (words_at to at code) ≡ size code
unfolding words_at size
length_of_words to at [] = refl
length_of_words to at (instruction i ∷ code) = omega (arith, length_of_words to (at + 4) code)
length_of_words to at (address rd r ∷ code) = omega (arith, length_of_words to (at + 8) code)
