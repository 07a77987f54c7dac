-- The first symbol without a definition, as a list of symbols is gone through.
use Rattle.std.proofs.Common.{◌≡◌, ℕ, ◌+◌, ◌<◌, true, false, List, ◌∷◌, length, drop, get_or, Option, Some, None, refl, sym, ap, ◌∙◌}
use Rattle.std.specs.Option.{is_some, option_or}
use Rattle.std.proofs.lemmas.List.{drop_more}
use Rattle.pw_module.specs.declared.symbol.Symbol.{Symbol}
use Rattle.pw_module.specs.declared.symbol.SymKind.{SymKind}
use Rattle.pw_module.specs.declared.symbol.SymKind.TheVariants.{Fun, Var, Undefined}
use Rattle.pw_image.specs.Unbound.{undefined_name_of, first_undefined}

-- a name that is there is the symbol's own
own_name : (kind : SymKind) (name : List ℕ) → is_some (undefined_name_of kind name) ≡ true → undefined_name_of kind name ≡ Some name
own_name Undefined name h = refl
own_name (Fun start size) name h = cc
own_name (Var start size) name h = cc

no_name : (kind : SymKind) (name : List ℕ) → is_some (undefined_name_of kind name) ≡ false → undefined_name_of kind name ≡ None
no_name Undefined name h = cc
no_name (Fun start size) name h = refl
no_name (Var start size) name h = refl

module _ (symbols : List (Option Symbol)) (i : ℕ) (item : Option Symbol) (within : i < length symbols)
    (there : item ≡ get_or symbols i item) where
  -- what is left, from the next symbol on
  next_and_rest : drop i symbols ≡ item ∷ drop (i + 1) symbols
  next_and_rest = drop_more symbols i item within ∙ ap (λ x. x ∷ drop (i + 1) symbols) (sym there)

  -- The next symbol has no definition: it is the first of what is left.
  pub undefined_next : (s : Symbol) → item ≡ Some s → is_some (undefined_name_of s.kind s.name) ≡ true →
      first_undefined (drop i symbols) ≡ Some s.name
  unfolding first_undefined
  undefined_next s is h =
      ap first_undefined (next_and_rest ∙ ap (λ x. x ∷ drop (i + 1) symbols) is)
      ∙ ap (λ o. option_or o (first_undefined (drop (i + 1) symbols))) (own_name s.kind s.name h)

  -- It has one, and is passed over.
  pub defined_next : (s : Symbol) → item ≡ Some s → is_some (undefined_name_of s.kind s.name) ≡ false →
      first_undefined (drop (i + 1) symbols) ≡ first_undefined (drop i symbols)
  unfolding first_undefined
  defined_next s is h =
      sym (ap first_undefined (next_and_rest ∙ ap (λ x. x ∷ drop (i + 1) symbols) is)
      ∙ ap (λ o. option_or o (first_undefined (drop (i + 1) symbols))) (no_name s.kind s.name h))

  -- So is the null symbol.
  pub null_next : item ≡ None → first_undefined (drop (i + 1) symbols) ≡ first_undefined (drop i symbols)
  unfolding first_undefined
  null_next is = sym (ap first_undefined (next_and_rest ∙ ap (λ x. x ∷ drop (i + 1) symbols) is))
