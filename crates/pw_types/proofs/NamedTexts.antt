-- The list of external names: a name that is defined or used has its kind's text there, and no name stands there twice.
use Rattle.std.proofs.Common.{◌≡◌, ℕ, suc, ◌+◌, Bool, true, false, ◌||◌, ◌&&◌, not, cond, if◌then◌else◌, List, [], ◌∷◌, map, find, Option, Some, refl, sym, ap, subst, ◌∙◌, arith, bytes_eq, inl, inr}
use Rattle.std.specs.Prelude.{⊤, option_map}
use Rattle.std.specs.List.{AllByRecursion, IsDistinct}
use Rattle.std.proofs.lemmas.Bool.{cases_Bool}
use Rattle.pw_base.specs.TypeText.{IsTypeText}
use Rattle.pw_tree.specs.declared.tunit.Ext.{Ext}
use Rattle.pw_tree.specs.WellTypedExpressions.{text_named}
use Rattle.pw_types.specs.declared.names.File.{File}
use Rattle.pw_types.specs.Scopes.{file_named}
use Rattle.pw_types.specs.Steps.Uses.{file_number, is_kept_by_number, names_by_number}
use Rattle.pw_types.specs.Units.{text_of_kind}
use Rattle.pw_types.specs.Steps.Texts.{HasText, HaveTexts}
use Rattle.pw_types.proofs.TypeTexts.{kind_text}
use Rattle.pw_types.proofs.JoinedFiles.{names_of}

-- one name of the list, and the names after it
abbrev row : File → List Ext → List Ext
row f others = record { name = f.name; text = text_of_kind f.kind } ∷ others

-- where it is the name
text_here : (keep : Bool) (name : List ℕ) (f g : File) (others : List Ext) → keep ≡ true → bytes_eq f.name name ≡ true → f ≡ g →
    text_named name (if keep then row f others else others) ≡ Some (text_of_kind g.kind)
text_here true name f g others k b e =
    ap (λ c. option_map (λ (n : Ext). n.text) (cond c (Some (record { name = f.name; text = text_of_kind f.kind })) (find (λ (n : Ext). bytes_eq n.name name) others))) b
    ∙ ap (λ (h : File). Some (text_of_kind h.kind)) e
text_here false name f g others k b e = cc

-- where it is another
text_after : (keep : Bool) (name : List ℕ) (f : File) (others : List Ext) → bytes_eq f.name name ≡ false →
    text_named name (if keep then row f others else others) ≡ text_named name others
text_after true name f others b =
    ap (λ c. option_map (λ (n : Ext). n.text) (cond c (Some (record { name = f.name; text = text_of_kind f.kind })) (find (λ (n : Ext). bytes_eq n.name name) others))) b
text_after false name f others b = refl

module _ (used : List ℕ) (name : List ℕ) where
  named_here : (n : ℕ) (f g : File) (gs : List File) (b : Bool) → bytes_eq g.name name ≡ b → b ≡ true →
      cond b (Some g) (file_named name gs) ≡ Some f → is_kept_by_number used (n + cond (not b) (1 + file_number name gs) 0) f ≡ true →
      text_named name (names_by_number used n (g ∷ gs)) ≡ Some (text_of_kind f.kind)
  unfolding names_by_number
  named_here n f g gs true is t h k =
      let e : g ≡ f = cc in
      let kept : is_kept_by_number used n g ≡ true =
      subst (λ (x : File). is_kept_by_number used n x ≡ true) (sym e) (subst (λ m. is_kept_by_number used m f ≡ true) (let z : n + 0 ≡ n = omega arith in z) k) in
      text_here (is_kept_by_number used n g) name g f (names_by_number used (suc n) gs) kept is e
  named_here n f g gs false is t h k = cc

  named_after : (n : ℕ) (f g : File) (gs : List File) (b : Bool) → bytes_eq g.name name ≡ b → b ≡ false →
      (file_named name gs ≡ Some f → is_kept_by_number used (suc n + file_number name gs) f ≡ true →
      text_named name (names_by_number used (suc n) gs) ≡ Some (text_of_kind f.kind)) →
      cond b (Some g) (file_named name gs) ≡ Some f → is_kept_by_number used (n + cond (not b) (1 + file_number name gs) 0) f ≡ true →
      text_named name (names_by_number used n (g ∷ gs)) ≡ Some (text_of_kind f.kind)
  unfolding names_by_number
  named_after n f g gs true is t others h k = cc
  named_after n f g gs false is t others h k =
      text_after (is_kept_by_number used n g) name g (names_by_number used (suc n) gs) is
      ∙ others h (subst (λ m. is_kept_by_number used m f ≡ true) (let z : n + (1 + file_number name gs) ≡ suc n + file_number name gs = omega arith in z) k)

  -- a name that is kept has its kind's text
  pub text_of_name : (n : ℕ) (f : File) (fs : List File) → file_named name fs ≡ Some f →
      is_kept_by_number used (n + file_number name fs) f ≡ true →
      text_named name (names_by_number used n fs) ≡ Some (text_of_kind f.kind)
  text_of_name n f [] h k = cc
  text_of_name n f (g ∷ gs) h k = elim (cases_Bool (bytes_eq g.name name)) [
    | inl same ↦ named_here n f g gs (bytes_eq g.name name) refl same h k
    | inr other ↦ named_after n f g gs (bytes_eq g.name name) refl other (text_of_name (suc n) f gs) h k
  ]

-- ---- the names differ

abbrev pub names_in : List Ext → List (List ℕ)
names_in names = map (λ n. n.name) names

all_apart : (used : List ℕ) (n : ℕ) (P : List ℕ → Type 0) (fs : List File) → AllByRecursion P (names_of fs) →
    AllByRecursion P (names_in (names_by_number used n fs))
unfolding names_by_number
all_apart used n P [] h = tt
all_apart used n P (f ∷ fs) h = elim (cases_Bool (is_kept_by_number used n f)) [
  | inl kept ↦ subst (λ b. AllByRecursion P (names_in (if b then row f (names_by_number used (suc n) fs) else names_by_number used (suc n) fs))) (sym kept)
      (h.0, all_apart used (suc n) P fs h.1)
  | inr left ↦ subst (λ b. AllByRecursion P (names_in (if b then row f (names_by_number used (suc n) fs) else names_by_number used (suc n) fs))) (sym left)
      (all_apart used (suc n) P fs h.1)
]

pub names_apart : (used : List ℕ) (n : ℕ) (fs : List File) → IsDistinct bytes_eq (names_of fs) →
    IsDistinct bytes_eq (names_in (names_by_number used n fs))
unfolding names_by_number IsDistinct
names_apart used n [] h = tt
names_apart used n (f ∷ fs) h = elim (cases_Bool (is_kept_by_number used n f)) [
  | inl kept ↦ subst (λ b. IsDistinct bytes_eq (names_in (if b then row f (names_by_number used (suc n) fs) else names_by_number used (suc n) fs))) (sym kept)
      (all_apart used (suc n) (λ y. bytes_eq f.name y ≡ false) fs h.0, names_apart used (suc n) fs h.1)
  | inr left ↦ subst (λ b. IsDistinct bytes_eq (names_in (if b then row f (names_by_number used (suc n) fs) else names_by_number used (suc n) fs))) (sym left)
      (names_apart used (suc n) fs h.1)
]

-- ---- the texts

pub texts_are : (used : List ℕ) (n : ℕ) (fs : List File) → HaveTexts fs →
    AllByRecursion (λ n. IsTypeText n.text) (names_by_number used n fs)
unfolding names_by_number HaveTexts
texts_are used n [] h = tt
texts_are used n (f ∷ fs) h = elim (cases_Bool (is_kept_by_number used n f)) [
  | inl kept ↦ subst (λ b. AllByRecursion (λ n. IsTypeText n.text) (if b then row f (names_by_number used (suc n) fs) else names_by_number used (suc n) fs)) (sym kept)
      (kind_text f.kind h.0, texts_are used (suc n) fs h.1)
  | inr left ↦ subst (λ b. AllByRecursion (λ n. IsTypeText n.text) (if b then row f (names_by_number used (suc n) fs) else names_by_number used (suc n) fs)) (sym left)
      (texts_are used (suc n) fs h.1)
]

found_text : (b : Bool) (f g : File) (o : Option File) → HasText f.kind → (o ≡ Some g → HasText g.kind) →
    cond b (Some f) o ≡ Some g → HasText g.kind
found_text true f g o t h e = let is : f ≡ g = cc in subst (λ (x : File). HasText x.kind) is t
found_text false f g o t h e = h e

pub text_of_file : (name : List ℕ) (fs : List File) (f : File) → HaveTexts fs → file_named name fs ≡ Some f → HasText f.kind
unfolding HaveTexts
text_of_file name [] f t h = cc
text_of_file name (g ∷ gs) f t h = found_text (bytes_eq g.name name) g f _ t.0 (text_of_file name gs f t.1) h
