-- The numbers of a unit's variables in the order of its object, one after the other.
use Rattle.std.proofs.Common.{◌≡◌, ℕ, zero, suc, ◌+◌, ◌<◌, ◌≤◌, Bool, true, false, not, cond, if◌then◌else◌, List, [], ◌∷◌, ◌++◌, length, map, take, drop, set, get_or, Option, Some, None, refl, sym, ap, ◌∙◌, arith}
use Rattle.std.specs.Prelude.{slice_get}
use Rattle.std.specs.List.{filter}
use Rattle.std.specs.Option.{option_map_or, is_some, is_none}
use Rattle.std.proofs.lemmas.List.{take_all, append_assoc, length-map, length-take-le, drop_more, get_or_at, set_at, map_more}
use Rattle.pw_tree.specs.declared.tunit.TVar.{TVar}
use Rattle.pw_code.specs.Objects.{is_initialised, is_uninitialised, number_in_order}

-- ---- lists

past_end : {X : Type 0} (xs : List X) (i : ℕ) → length xs ≤ i → slice_get xs i ≡ None
past_end [] i h = refl
past_end (x ∷ xs) zero h = absurd (omega arith)
past_end (x ∷ xs) (suc i) h = past_end xs i (omega arith)

one_more : {X : Type 0} (b : Bool) (x : X) (ys : List X) (n : ℕ) → length ys ≤ n → length (cond b (x ∷ ys) ys) ≤ suc n
one_more true x ys n h = omega arith
one_more false x ys n h = omega arith

-- No more pass a test than there are.
pub few_pass : {X : Type 0} (p : X → Bool) (xs : List X) → length (filter p xs) ≤ length xs
few_pass p [] = omega arith
few_pass p (x ∷ xs) = one_more (p x) x (filter p xs) (length xs) (few_pass p xs)

-- ---- numbers

-- Past the end stands the number of those with an initialiser.
pub number_past : (xs : List TVar) (i : ℕ) → length xs ≤ i → number_in_order xs i ≡ length (filter is_initialised xs)
number_past xs i h =
    ap (λ (o : Option TVar). if option_map_or is_initialised o true then length (filter is_initialised (take i xs))
    else length (filter is_initialised xs) + length (filter is_uninitialised (take i xs))) (past_end xs i h)
    ∙ ap (λ (l : List TVar). length (filter is_initialised l)) (take_all i xs h)

-- ---- a list that is mapped in place

-- One more item is mapped.
pub mapped_more : {X : Type 0} (f : X → X) (now old : List X) (i : ℕ) (x y : X) → now ≡ map f (take i old) ++ drop i old → i < length old →
    x ≡ get_or now i x → y ≡ f x → set now i y ≡ map f (take (i + 1) old) ++ drop (i + 1) old
mapped_more {X} f now old i x y e lt ex ey =
    let p : List X = map f (take i old) in
    let g : X = get_or old i x in
    let rest : List X = drop (i + 1) old in
    let n : length p ≡ i = length-map (take i old) f ∙ length-take-le i old (omega arith) in
    let now_is : now ≡ p ++ g ∷ rest = e ∙ ap (λ l. p ++ l) (drop_more old i x lt) in
    let x_is : x ≡ g = ex ∙ ap (λ (l : List X). get_or l i x) now_is ∙ get_or_at p g rest x i n in
    ap (λ (l : List X). set l i y) now_is ∙ set_at p g rest y i n ∙ ap (λ z. p ++ z ∷ rest) (ey ∙ ap f x_is)
    ∙ sym (append_assoc p (f g ∷ []) rest) ∙ ap (λ l. l ++ rest) (sym (map_more f old i x lt))
