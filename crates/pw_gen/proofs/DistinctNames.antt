-- Names that differ still differ where some are left out, and where some are put first.
use Rattle.std.proofs.Common.{◌≡◌, ℕ, Bool, true, false, not, cond, List, [], ◌∷◌, ◌++◌, map, refl, ◌∙◌, bytes_eq}
use Rattle.std.specs.List.{AllByRecursion, IsDistinct, filter}
use Rattle.std.proofs.lemmas.Cmp.{nat_list_eq_equiv}
use Rattle.pw_gen.proofs.Elements.{each_append, each_map, each_weaker, each_filter}

-- a name differs from each of these
abbrev pub Lacks : List (List ℕ) → List ℕ → Type 0
Lacks names name = AllByRecursion (λ other. bytes_eq name other ≡ false) names

turned : (a b : List ℕ) → bytes_eq a b ≡ false → bytes_eq b a ≡ false
turned a b h = nat_list_eq_equiv.symm b a ∙ h

-- ---- parts of lists

each_left : {X : Type 0} (P : X → Type 0) (xs ys : List X) → AllByRecursion P (xs ++ ys) → AllByRecursion P xs
each_left P [] ys h = tt
each_left P (x ∷ xs) ys h = (h.0, each_left P xs ys h.1)

each_right : {X : Type 0} (P : X → Type 0) (xs ys : List X) → AllByRecursion P (xs ++ ys) → AllByRecursion P ys
each_right P [] ys h = h
each_right P (x ∷ xs) ys h = each_right P xs ys h.1

pub each_of_map : {X Y : Type 0} (P : Y → Type 0) (f : X → Y) (xs : List X) → AllByRecursion P (map f xs) → AllByRecursion (λ x. P (f x)) xs
each_of_map P f [] h = tt
each_of_map P f (x ∷ xs) h = (h.0, each_of_map P f xs h.1)

pub distinct_left : (xs ys : List (List ℕ)) → IsDistinct bytes_eq (xs ++ ys) → IsDistinct bytes_eq xs
unfolding IsDistinct
distinct_left [] ys h = tt
distinct_left (x ∷ xs) ys h = (each_left (λ y. bytes_eq x y ≡ false) xs ys h.0, distinct_left xs ys h.1)

pub distinct_right : (xs ys : List (List ℕ)) → IsDistinct bytes_eq (xs ++ ys) → IsDistinct bytes_eq ys
unfolding IsDistinct
distinct_right [] ys h = h
distinct_right (x ∷ xs) ys h = distinct_right xs ys h.1

pub distinct_across : (xs ys : List (List ℕ)) → IsDistinct bytes_eq (xs ++ ys) → AllByRecursion (Lacks ys) xs
unfolding IsDistinct
distinct_across [] ys h = tt
distinct_across (x ∷ xs) ys h = (each_right (λ y. bytes_eq x y ≡ false) xs ys h.0, distinct_across xs ys h.1)

pub distinct_both : (xs ys : List (List ℕ)) → IsDistinct bytes_eq xs → IsDistinct bytes_eq ys → AllByRecursion (Lacks ys) xs →
    IsDistinct bytes_eq (xs ++ ys)
unfolding IsDistinct
distinct_both [] ys h k l = k
distinct_both (x ∷ xs) ys h k l = (each_append (λ y. bytes_eq x y ≡ false) xs ys h.0 l.0, distinct_both xs ys h.1 k l.1)

-- ---- items with names

module _ {X : Type 0} (name : X → List ℕ) where
  pub lacks_kept : (p : X → Bool) (a : List ℕ) (xs : List X) → Lacks (map name xs) a → Lacks (map name (filter p xs)) a
  lacks_kept p a xs h =
      each_map (λ b. bytes_eq a b ≡ false) name (filter p xs)
      (each_filter (λ x. bytes_eq a (name x) ≡ false) p xs (each_of_map (λ b. bytes_eq a b ≡ false) name xs h))

  kept_by : (b : Bool) (x : X) (ys : List X) → Lacks (map name ys) (name x) → IsDistinct bytes_eq (map name ys) →
      IsDistinct bytes_eq (map name (cond b (x ∷ ys) ys))
  unfolding IsDistinct
  kept_by true x ys l h = (l, h)
  kept_by false x ys l h = h

  pub distinct_kept : (p : X → Bool) (xs : List X) → IsDistinct bytes_eq (map name xs) → IsDistinct bytes_eq (map name (filter p xs))
  unfolding IsDistinct
  distinct_kept p [] h = tt
  distinct_kept p (x ∷ xs) h = kept_by (p x) x (filter p xs) (lacks_kept p (name x) xs h.0) (distinct_kept p xs h.1)

  -- one more name, which each of those before lacks
  one_more : (x : X) (ys zs : List X) → Lacks (map name ys) (name x) → AllByRecursion (Lacks (map name zs)) (map name ys) →
      AllByRecursion (Lacks (map name (x ∷ zs))) (map name ys)
  one_more x [] zs l h = tt
  one_more x (y ∷ ys) zs l h = ((turned (name x) (name y) l.0, h.0), one_more x ys zs l.1 h.1)

  across_by : (b c : Bool) (x : X) (ys zs : List X) → c ≡ not b → Lacks (map name ys) (name x) → Lacks (map name zs) (name x) →
      AllByRecursion (Lacks (map name zs)) (map name ys) →
      AllByRecursion (Lacks (map name (cond c (x ∷ zs) zs))) (map name (cond b (x ∷ ys) ys))
  across_by true true x ys zs e l m h = cc
  across_by true false x ys zs e l m h = (m, h)
  across_by false true x ys zs e l m h = one_more x ys zs l h
  across_by false false x ys zs e l m h = cc

  across : (p q : X → Bool) → ((x : X) → q x ≡ not (p x)) → (xs : List X) → IsDistinct bytes_eq (map name xs) →
      AllByRecursion (Lacks (map name (filter q xs))) (map name (filter p xs))
  unfolding IsDistinct
  across p q other [] h = tt
  across p q other (x ∷ xs) h =
      across_by (p x) (q x) x (filter p xs) (filter q xs) (other x) (lacks_kept p (name x) xs h.0) (lacks_kept q (name x) xs h.0)
      (across p q other xs h.1)

  -- Those that pass a test stand first, then the others.
  pub distinct_parted : (p q : X → Bool) → ((x : X) → q x ≡ not (p x)) → (xs : List X) → IsDistinct bytes_eq (map name xs) →
      IsDistinct bytes_eq (map name (filter p xs) ++ map name (filter q xs))
  distinct_parted p q other xs h =
      distinct_both (map name (filter p xs)) (map name (filter q xs)) (distinct_kept p xs h) (distinct_kept q xs h) (across p q other xs h)
