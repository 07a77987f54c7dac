-- Places that follow one another, each from where the one before leaves off.
use Rattle.std.specs.Prelude.{ℕ, ◌+◌, if◌then◌else◌, List, [], ◌∷◌, fold}
use Rattle.pw_tree.specs.declared.tunit.TVar.{TVar}
use Rattle.pw_code.specs.declared.object.FunCode.{FunCode}
use Rattle.pw_code.specs.declared.object.Object.{Object}
use Rattle.pw_code.specs.Objects.{is_initialised}
use Rattle.pw_base.specs.declared.kinds.Kind.{Kind}
use Rattle.pw_place.specs.Sizes.{code_bytes, function_bytes, variable_bytes, entry_items}
use Rattle.pw_place.specs.Places.{variables, initialised_size, slots_size}
use Rattle.pw_place.specs.declared.places.UnitPlaces.{UnitPlaces}
use Rattle.pw_place.specs.declared.placing.Next.{Next}

-- What is seen of each item, where a state goes on after each of them.
abbrev pub running : {S X Y : Type 0} → (S → X → Y) → (S → X → S) → S → List X → List Y
running seen after s [] = []
running seen after s (x ∷ xs) = seen s x ∷ running seen after (after s x) xs

-- Where a function stands, and where the next ones do.
abbrev pub function_place : Next → FunCode → ℕ
function_place next f = next.function

-- Where the next ones do, after a function.
abbrev pub after_function : Next → FunCode → Next
after_function next f = record next { function = next.function + function_bytes f }

-- Where a variable stands, and where the next ones do.
abbrev pub variable_place : Next → TVar → ℕ
variable_place next x = if is_initialised x then next.initialised else next.others

-- Where the next ones do, after a variable.
abbrev pub after_variable : Next → TVar → Next
after_variable next x =
    if is_initialised x
    then record next { initialised = next.initialised + variable_bytes x }
    else record next { others = next.others + variable_bytes x }

-- Where the definitions of a unit stand, and where the next ones do.
abbrev pub after_functions : Next → Object → Next
after_functions next o = fold after_function next o.funs

-- The places of the definitions of a unit.
abbrev pub places_of_unit : Next → Object → UnitPlaces
places_of_unit next o = record {
  functions = running function_place after_function next o.funs;
  variables = running variable_place after_variable (after_functions next o) o.vars;
}

-- Where the next ones stand, after a unit.
abbrev pub after_unit : Next → Object → Next
after_unit next o = fold after_variable (after_functions next o) o.vars

-- The places of the first definitions.
abbrev pub first_places : Kind → List Object → Next
first_places kind objects = record {
  function = code_bytes (entry_items kind);
  initialised = slots_size kind objects;
  others = slots_size kind objects + initialised_size (variables objects);
}
