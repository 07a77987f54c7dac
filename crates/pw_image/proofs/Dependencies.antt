-- The functions that a well-typed body names are the function's dependencies.
use Rattle.std.proofs.Common.{◌≡◌, map, ℕ, zero, suc, ◌+◌, ◌<◌, Bool, true, false, List, [], ◌∷◌, ◌++◌, length, get_or, Option, Some, None, inl, inr, refl, sym, ap, ◌∙◌, subst, arith, bytes_eq}
use Rattle.std.specs.Prelude.{Contains, decimal, slice_get, ◌&&◌}
use Rattle.std.specs.Option.{option_or}
use Rattle.std.specs.List.{AllByRecursion}
use Rattle.pw_tree.specs.declared.ty.Ty.{Ty}
use Rattle.pw_tree.specs.declared.ty.Sig.{Sig}
use Rattle.pw_tree.specs.declared.ty.Ref.{Ref}
use Rattle.pw_tree.specs.declared.ty.Ref.TheVariants.{Global, LocalFun, LocalVar}
use Rattle.pw_tree.specs.TypeTexts.{letter_of, text_of_function, text_of_variable}
use Rattle.pw_tree.specs.Units.{Function, TypedUnit}
use Rattle.pw_tree.specs.Names.{Definition, Entity, function, first_found, found, resolved}
use Rattle.pw_tree.specs.Depends.{names_of_all}
use Rattle.pw_tree.specs.WellTypedExpressions.{Class, class_of, text_named, HasClass}
use Rattle.pw_tree.specs.WellTypedUnits.{FunctionIsNamed, IsWellTypedFunction, IsWellTyped}
use Rattle.pw_code.specs.Objects.{functions_of_all, dependencies}
use Rattle.pw_agree.proofs.Members.{IsIn, contained_is_in}
use Rattle.pw_image.specs.OneUnit.{project_of, own_definition}
use Rattle.pw_image.specs.Records.{record_meant}
use Rattle.pw_image.specs.Laws.{DependenciesAreNames}
use Rattle.pw_image.proofs.Names.{bytes_eq_is}
use Rattle.pw_image.proofs.SymbolAddresses.{seek_function, seek_variable, meant_is}
use Rattle.pw_image.proofs.Records.{variables_without}
use Rattle.pw_image.proofs.BodyNames.{body_named, body_meant, from_once, to_once}

-- what is in a list is contained in it
pub in_is_contained : {X : Type 0} (xs : List X) (x : X) → IsIn xs x → Contains xs x
in_is_contained [] x h = absurd h
in_is_contained (y ∷ ys) x (inl e) = (0, omega arith, e)
in_is_contained (y ∷ ys) x (inr h) =
    let c = in_is_contained ys x h in
    let within : c.0 < length ys = c.1 in
    (suc c.0, omega arith, c.2)

-- texts of functions and of variables differ
abbrev second : List ℕ → ℕ
second xs = get_or xs 1 0

not_none : (n : ℕ) → n ≡ 40 → n ≡ 0 → ⊥
not_none n a b = absurd (omega arith)

not_square : (n : ℕ) → n ≡ 40 → n ≡ 91 → ⊥
not_square n a b = absurd (omega arith)

bracket_there : (a b : ℕ) (xs : List ℕ) → a ∷ (40 ∷ xs) ≡ b ∷ [] → ⊥
bracket_there a b xs h = not_none (second (a ∷ (40 ∷ xs))) refl (ap second h)

brackets_differ : (a b : ℕ) (xs ys : List ℕ) → a ∷ (40 ∷ xs) ≡ b ∷ (91 ∷ ys) → ⊥
brackets_differ a b xs ys h = not_square (second (a ∷ (40 ∷ xs))) refl (ap second h)

texts_differ : (sig : Sig) (ty : Ty) (size : Option ℕ) → text_of_function sig ≡ text_of_variable ty size → ⊥
texts_differ sig ty None h = bracket_there (letter_of sig.result) (letter_of ty) (map letter_of sig.params ++ (41 ∷ [])) h
texts_differ sig ty (Some count) h =
    brackets_differ (letter_of sig.result) (letter_of ty) (map letter_of sig.params ++ (41 ∷ [])) (decimal count ++ (93 ∷ [])) h

module _ (name : List ℕ) (unit : TypedUnit) (wanted : List ℕ) where
  right : (g b : Bool) → g && b ≡ true → (g ≡ true) × (b ≡ true)
  right true true e = (refl, refl)
  right true false e = cc
  right false b e = cc

  rest_found : (g b : Bool) (e d : Entity) (rest : Option Entity) → g && b ≡ false → option_or (found g b e) rest ≡ Some d → rest ≡ Some d
  rest_found true true e d rest h k = cc
  rest_found true false e d rest h k = k
  rest_found false b e d rest h k = k

  -- a function that the name means has its text in the list
  text_there : (i : ℕ) (fs : List Function) (e : Entity) → AllByRecursion (FunctionIsNamed unit.names) fs → first_found (seek_function name unit wanted) i fs ≡ Some e →
      (sig : Sig) × (text_named wanted unit.names ≡ Some (text_of_function sig))
  text_there i [] e named h = cc
  text_there i (f ∷ fs) e named h = by_test (f.global && bytes_eq f.name wanted) refl (text_there (i + 1) fs e named.1)
    where
      by_test : (t : Bool) → f.global && bytes_eq f.name wanted ≡ t
          → (first_found (seek_function name unit wanted) (i + 1) fs ≡ Some e → (sig : Sig) × (text_named wanted unit.names ≡ Some (text_of_function sig)))
          → (sig : Sig) × (text_named wanted unit.names ≡ Some (text_of_function sig))
      by_test true t later =
          let both = right f.global (bytes_eq f.name wanted) t in
          (f.sig, ap (λ w. text_named w unit.names) (sym (bytes_eq_is f.name wanted both.1)) ∙ named.0 both.0)
      by_test false t later =
          later (rest_found f.global (bytes_eq f.name wanted) (function (own_definition i)) e (first_found (seek_function name unit wanted) (i + 1) fs) t h)

  by_function : IsWellTyped unit → (g : Definition) (o : Option Entity) → first_found (seek_function name unit wanted) 0 unit.functions ≡ o →
      option_or o (first_found (seek_variable name unit wanted) 0 unit.variables) ≡ Some (function g) →
      (sig : Sig) × (text_named wanted unit.names ≡ Some (text_of_function sig))
  by_function well g (Some e) there h = text_there 0 unit.functions e well.functions_named there
  by_function well g None there h =
      let none = variables_without name unit wanted 0 unit.variables in
      let some : record_meant (first_found (seek_variable name unit wanted) 0 unit.variables) ≡ Some (suc g.number) = ap record_meant h in cc

no_variable : (unit : TypedUnit) → IsWellTyped unit → (g : Definition) (x : Ref) (size : Option ℕ) (c : Class) → HasClass unit x size c →
    resolved (project_of unit) 0 0 x ≡ Some (function g) → ⊥
no_variable unit well g (Global wanted) size c h means =
    let text = by_function [] unit wanted well g (first_found (seek_function [] unit wanted) 0 unit.functions) refl (sym (meant_is [] unit wanted) ∙ means) in
    let named = h.variable.names in
    let same : Some (text_of_function text.0) ≡ Some (text_of_variable h.ty size) = sym text.1 ∙ named in
    let one : text_of_function text.0 ≡ text_of_variable h.ty size = cc in texts_differ text.0 h.ty size one
no_variable unit well g (LocalFun i) size c h means = absurd h.variable.names
no_variable unit well g (LocalVar i) size c h means = cc

pub at_place : {X : Type 0} (P : X → Type 0) (xs : List X) (i : ℕ) (x : X) → AllByRecursion P xs → slice_get xs i ≡ Some x → P x
at_place P [] i x h e = cc
at_place P (y ∷ ys) zero x h e = let same : y ≡ x = cc in subst P same h.0
at_place P (y ∷ ys) (suc i) x h e = at_place P ys i x h.1 e

pub dependencies_are_names : DependenciesAreNames
dependencies_are_names unit i f r g well there means =
    let typed = at_place (IsWellTypedFunction unit) unit.functions i f well.functions there in
    let none : (x : Ref) (size : Option ℕ) (c : Class) → HasClass unit x size c → x ≡ r → ⊥ =
    λ x size c h e. no_variable unit well g x size c h (ap (resolved (project_of unit) 0 0) e ∙ means) in (
      λ h. in_is_contained (dependencies f) r (to_once r (functions_of_all f.body)
          (body_meant r unit typed.classes none (class_of f.sig.result) f.body typed.fits (contained_is_in (names_of_all f.body) r h))),
      λ h. in_is_contained (names_of_all f.body) r (body_named r f.body (from_once r (functions_of_all f.body) (contained_is_in (dependencies f) r h))),
    )
