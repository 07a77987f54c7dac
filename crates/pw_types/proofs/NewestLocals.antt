-- The newest local of a name is the first from the back.
use Rattle.std.proofs.Common.{◌≡◌, ℕ, List, [], ◌∷◌, reverse, Option, Some, None, refl, ap, ◌∙◌, find, is_some, if◌then◌else◌}
use Rattle.std.specs.Option.{option_or}
use Rattle.std.specs.Str.{bytes_eq}
use Rattle.std.proofs.lemmas.List.{reverse-append}
use Rattle.std.proofs.lemmas.List.Folds.{find-append}
use Rattle.pw_types.specs.declared.names.Local.{Local}
use Rattle.pw_types.specs.Scopes.{local_named}

-- what is found first, and else what is found then
first_or : {X : Type 0} (a b : Option X) → option_or a b ≡ (if is_some a then a else b)
first_or (Some x) b = refl
first_or None b = refl

pub newest : (name : List ℕ) (ls : List Local) → find (λ l. bytes_eq l.name name) (reverse ls) ≡ local_named name ls
unfolding local_named
newest name [] = refl
newest name (l ∷ ls) =
    ap (find (λ l. bytes_eq l.name name)) (reverse-append (l ∷ []) ls)
    ∙ find-append (λ l. bytes_eq l.name name) (reverse ls) (l ∷ [])
    ∙ first_or (find (λ l. bytes_eq l.name name) (reverse ls)) _
    ∙ (λ i. if is_some (newest name ls i) then newest name ls i else (if bytes_eq l.name name then Some l else None))
