-- The places that stand in the lists of all places.
use Rattle.std.proofs.Common.{◌≡◌, ℕ, ◌<◌, List, [], length, Option, Some, None, slice_get, slice_index, option_map, is_some, true≢false, refl, sym, ap, ◌∙◌, subst, arith}
use Rattle.std.specs.Option.{option_map_or, unwrap_or}
use Rattle.pw_base.specs.declared.kinds.Kind.{Kind}
use Rattle.pw_code.specs.declared.object.Object.{Object}
use Rattle.pw_place.specs.Places.{functions_in, variables_in, function_start, variable_start}
use Rattle.pw_place.specs.Steps.PlaceLists.{unit_places, all_places}
use Rattle.pw_place.specs.declared.places.UnitPlaces.{UnitPlaces}
use Rattle.pw_place.proofs.Enumerated.{get_made, index_made}

none_is_some : {X P : Type 0} (x : X) → None ≡ Some x → P
none_is_some x h = absurd (true≢false (sym (ap is_some h)))

module _ (kind : Kind) (objects : List Object) (units : List UnitPlaces) (unit i : ℕ) (are : units ≡ all_places kind objects) where
  there : slice_get units unit ≡ option_map (λ o. unit_places kind objects (unit, o)) (slice_get objects unit)
  there = ap (λ us. slice_get us unit) are ∙ get_made (unit_places kind objects) objects unit

  -- a unit that has a definition is there
  is_there : {B : Type 0} (part : Object → List B) → i < length (option_map_or part (slice_get objects unit) []) →
      None ≡ slice_get units unit → {P : Type 0} → P
  is_there part within none {P} = by (slice_get objects unit) refl
    where
      by : (it : Option Object) → slice_get objects unit ≡ it → P
      by None e = absurd (let few : i < length (option_map_or part None []) = subst (λ it. i < length (option_map_or part it [])) e within in omega (arith, few))
      by (Some o) e = none_is_some _ (none ∙ there ∙ ap (option_map (λ o. unit_places kind objects (unit, o))) e)

  pub function_found : (p : UnitPlaces) → Some p ≡ slice_get units unit → i < length (functions_in objects unit) →
      slice_index p.functions i ≡ function_start kind objects unit i
  function_found p at within = by (slice_get objects unit) refl
    where
      by : (it : Option Object) → slice_get objects unit ≡ it → slice_index p.functions i ≡ function_start kind objects unit i
      by None e = none_is_some p (sym (at ∙ there ∙ ap (option_map (λ o. unit_places kind objects (unit, o))) e))
      by (Some o) e =
          let found : Some p ≡ Some (unit_places kind objects (unit, o)) = at ∙ there ∙ ap (option_map (λ o. unit_places kind objects (unit, o))) e in
          let own : i < length o.funs = subst (λ it. i < length (option_map_or (λ o. o.funs) it [])) e within in
          ap (λ it. slice_index (unwrap_or it p).functions i) found ∙ index_made (function_start kind objects unit) o.funs i own

  pub variable_found : (p : UnitPlaces) → Some p ≡ slice_get units unit → i < length (variables_in objects unit) →
      slice_index p.variables i ≡ variable_start kind objects unit i
  variable_found p at within = by (slice_get objects unit) refl
    where
      by : (it : Option Object) → slice_get objects unit ≡ it → slice_index p.variables i ≡ variable_start kind objects unit i
      by None e = none_is_some p (sym (at ∙ there ∙ ap (option_map (λ o. unit_places kind objects (unit, o))) e))
      by (Some o) e =
          let found : Some p ≡ Some (unit_places kind objects (unit, o)) = at ∙ there ∙ ap (option_map (λ o. unit_places kind objects (unit, o))) e in
          let own : i < length o.vars = subst (λ it. i < length (option_map_or (λ o. o.vars) it [])) e within in
          ap (λ it. slice_index (unwrap_or it p).variables i) found ∙ index_made (variable_start kind objects unit) o.vars i own

  pub no_function : None ≡ slice_get units unit → i < length (functions_in objects unit) → 0 ≡ function_start kind objects unit i
  no_function none within = is_there (λ o. o.funs) within none

  pub no_variable : None ≡ slice_get units unit → i < length (variables_in objects unit) → 0 ≡ variable_start kind objects unit i
  no_variable none within = is_there (λ o. o.vars) within none
