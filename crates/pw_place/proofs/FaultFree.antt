-- A link without a fault is within the limits.
use Rattle.std.proofs.Common.{◌≡◌, ℕ, ◌≤◌, Bool, true, false, cond, List, ◌∷◌, length, refl, Option, Some, None}
use Rattle.std.specs.Prelude.{nat_lt}
use Rattle.std.proofs.lemmas.Bool.{ltb-false}
use Rattle.pw_base.specs.Limits.{module_units, module_names, module_elements, text_bytes}
use Rattle.pw_base.specs.declared.kinds.Kind.{Kind}
use Rattle.pw_code.specs.declared.object.Object.{Object}
use Rattle.pw_place.specs.Names.{external_names}
use Rattle.pw_place.specs.Places.{text_size}
use Rattle.pw_place.specs.Refusals.{first_some, above, elements, link_fault}
use Rattle.pw_place.specs.declared.link_error.What.{What}
use Rattle.pw_place.specs.declared.link_error.What.TheVariants.{Units, Names, Elements, TextBytes}
use Rattle.pw_place.specs.declared.link_error.LinkError.TheVariants.{TooMany}
use Rattle.pw_place.specs.Steps.WithinLimits.{IsWithinLimits}

-- Where none of a list is there, neither its head nor one of its tail is.
none_of_both : {A : Type 0} (x : Option A) (xs : List (Option A)) → first_some (x ∷ xs) ≡ None → (x ≡ None) × (first_some xs ≡ None)
unfolding first_some
none_of_both None xs none = (refl, none)
none_of_both (Some x) xs none = cc

-- A count that is not above a limit is within it.
not_above : (what : What) (limit count : ℕ) → above what limit count ≡ None → count ≤ limit
not_above what limit count none = by (nat_lt limit count) refl none
  where
    by : (b : Bool) → nat_lt limit count ≡ b → cond b (Some (TooMany what count)) None ≡ None → count ≤ limit
    by true e none = cc
    by false e none = ltb-false limit count e

-- The counts are checked first.
pub fault_free_within : (kind : Kind) (objects : List Object) → link_fault kind objects ≡ None → IsWithinLimits kind objects
fault_free_within kind objects none =
    let a = none_of_both (above Units module_units (length objects)) _ none in
    let b = none_of_both (above Names module_names (length (external_names objects))) _ a.1 in
    let c = none_of_both (above Elements module_elements (elements objects)) _ b.1 in
    let d = none_of_both (above TextBytes text_bytes (text_size kind objects)) _ c.1 in
    record {
      units = not_above Units module_units (length objects) a.0;
      names = not_above Names module_names (length (external_names objects)) b.0;
      elements = not_above Elements module_elements (elements objects) c.0;
      text = not_above TextBytes text_bytes (text_size kind objects) d.0;
    }
