-- Files in memory after one of them was replaced or added: what is found under each name.
use Rattle.std.proofs.Common.{◌≡◌, ◌≢◌, ℕ, Bool, true, false, cond, ltb, List, [], ◌∷◌, ◌++◌, length, get_or, Option, Some, None, Ok, refl, ap, sym, ◌∙◌}
use Rattle.std.specs.Prelude.{find, position, option_map, Vec}
use Rattle.std.specs.List.{position_or_len}
use Rattle.std.specs.Str.{bytes_eq}
use Rattle.std.specs.declared.alloc.Global.{Global}
use Rattle.std.proofs.Math.ListN.{set}
use Rattle.std.proofs.lemmas.Bool.{ltb-false}
use Rattle.std.proofs.lemmas.Option.{cond_some, slice_get_past}
use Rattle.std.proofs.lemmas.List.Folds.{find_at, find-set, find_past}
use Rattle.std.proofs.lemmas.List.Quantifiers.{position-Some}
use Rattle.std.proofs.lemmas.Slice.Eq.{bytes_eq-Decides}
use Rattle.pw_io.specs.InMemory.{File, WritesFile}

false_from_not_true : (b : Bool) → (b ≡ true → ⊥) → b ≡ false
false_from_not_true true never = absurd (never refl)
false_from_not_true false never = refl

-- a name is its own
bytes_eq_same : (name : List ℕ) → bytes_eq name name ≡ true
bytes_eq_same name = (bytes_eq-Decides name name).1 refl

-- and no other
bytes_eq_other : (name other : List ℕ) → other ≢ name → bytes_eq name other ≡ false
bytes_eq_other name other differs = false_from_not_true _ (λ same. differs (sym ((bytes_eq-Decides name other).0 same)))

-- a choice that gives nothing
cond_none : {X : Type 0} (b : Bool) (x : X) (o : Option X) → cond b (Some x) o ≡ None → (b ≡ false) × (o ≡ None)
cond_none true x o none = cc
cond_none false x o none = (refl, none)

-- where no place passes, nothing is found
find_none : {X : Type 0} (p : X → Bool) (xs : List X) → position p xs ≡ None → find p xs ≡ None
find_none p xs none =
    let fails : ltb (position_or_len p xs) (length xs) ≡ false = (cond_none _ _ _ none).0 in
    find_at p xs ∙ slice_get_past xs (position_or_len p xs) (ltb-false _ _ fails)

-- an element at the end is found where none before it passes
find-push_none : {X : Type 0} (p : X → Bool) (xs : List X) (x : X) → find p xs ≡ None → p x ≡ true → find p (xs ++ x ∷ []) ≡ Some x
find-push_none p [] x none passes = rw passes
find-push_none p (y ∷ ys) x none passes =
    let fails = cond_none (p y) y (find p ys) none in rw fails.0 (find-push_none p ys x fails.1 passes)

-- an element at the end that fails changes nothing
find-push_past : {X : Type 0} (p : X → Bool) (xs : List X) (x : X) → p x ≡ false → find p (xs ++ x ∷ []) ≡ find p xs
find-push_past p [] x fails = rw fails
find-push_past p (y ∷ ys) x fails = ap (λ rest. cond (p y) (Some y) rest) (find-push_past p ys x fails)

-- a file of a name that no other has, at the end
pub bytes_of-push : (files : List File) (name : List ℕ) (bytes : Vec ℕ Global) → position (λ file. bytes_eq file.0 name) files ≡ None
    → WritesFile files name bytes.items (files ++ (name, bytes) ∷ []) (Ok tt)
bytes_of-push files name bytes none = (
  ap (λ found. option_map (λ (file : File). file.1.items) found) (find-push_none (λ file. bytes_eq file.0 name) files (name, bytes) (find_none _ files none) (bytes_eq_same name)),
  λ other differs. ap (λ found. option_map (λ (file : File). file.1.items) found) (find-push_past (λ file. bytes_eq file.0 other) files (name, bytes) (bytes_eq_other name other differs)),
)

-- the first file of a name with other bytes
pub bytes_of-set : (files : List File) (name : List ℕ) (place : ℕ) (file : File) (bytes : Vec ℕ Global)
    → position (λ f. bytes_eq f.0 name) files ≡ Some place → file ≡ get_or files place file
    → WritesFile files name bytes.items (set files place (file.0, bytes)) (Ok tt)
bytes_of-set files name place file bytes found stands =
    let at = position-Some (λ (f : File). bytes_eq f.0 name) files place file found in
    let first : position_or_len (λ (f : File). bytes_eq f.0 name) files ≡ place = (cond_some _ _ _ found).1 in
    let named : bytes_eq file.0 name ≡ true = ap (λ (f : File). bytes_eq f.0 name) stands ∙ at.1 in
    let is_name : file.0 ≡ name = (bytes_eq-Decides file.0 name).0 named in (
      ap (λ found. option_map (λ (f : File). f.1.items) found) (find-set (λ f. bytes_eq f.0 name) files place (file.0, bytes) (sym first) at.0 named),
      λ other differs.
          let fails : bytes_eq file.0 other ≡ false = rw is_name (bytes_eq_other name other differs) in
          ap (λ found. option_map (λ (f : File). f.1.items) found)
          (find_past (λ f. bytes_eq f.0 other) files place (file.0, bytes) file (ap (λ (f : File). bytes_eq f.0 other) (sym stands) ∙ fails) fails),
    )
