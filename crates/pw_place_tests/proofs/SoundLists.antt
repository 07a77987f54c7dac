-- What holds of each item of a list holds of each where one is pushed.
use Rattle.std.proofs.Common.{◌≡◌, List, [], ◌∷◌, ◌++◌, sym, subst}
use Rattle.std.specs.List.{AllByRecursion}

all_with : {X : Type 0} (P : X → Type 0) (xs : List X) (x : X) → AllByRecursion P xs → P x → AllByRecursion P (xs ++ x ∷ [])
all_with P [] x all one = (one, tt)
all_with P (y ∷ xs) x all one = (all.0, all_with P xs x all.1 one)

pub all_pushed : {X : Type 0} (P : X → Type 0) (xs : List X) (x : X) (new : List X) → AllByRecursion P xs → P x → new ≡ xs ++ x ∷ []
    → AllByRecursion P new
all_pushed P xs x new all one pushed = subst (AllByRecursion P) (sym pushed) (all_with P xs x all one)
