-- Which names a unit uses, and when one of them has no definition, or one of another type.
use Rattle.std.specs.Prelude.{◌≡◌, ◌≢◌, ℕ, List, [], ◌∷◌, ◌++◌, Some, None, Contains, flat_map}
use Rattle.std.specs.Option.{option_map_or}
use Rattle.pw_tree.specs.Units.{TypedUnit}
use Rattle.pw_tree.specs.Names.{Project, Entity, definition_of, text_at}
use Rattle.pw_tree.specs.Depends.{names_of_all}
use Rattle.pw_tree.specs.declared.ty.Ref.{Ref}
use Rattle.pw_tree.specs.declared.ty.Ref.TheVariants.{Global}
use Rattle.pw_tree.specs.declared.tunit.Init.{Init}
use Rattle.pw_tree.specs.declared.tunit.Init.TheVariants.{Num, Fun}

-- The functions that an initialiser names, in order.
abbrev pub names_in_items : List Init → List Ref
names_in_items [] = []
names_in_items (Num n ∷ items) = names_in_items items
names_in_items (Fun f ∷ items) = f ∷ names_in_items items

-- The names that a unit uses: in the bodies of its functions, and in the initialisers of its variables.
abbrev pub names_used : TypedUnit → List Ref
names_used unit =
    flat_map (λ f. names_of_all f.body) unit.functions
    ++ flat_map (λ x. option_map_or names_in_items x.init []) unit.variables

-- A unit uses a name with external linkage.
abbrev pub Uses : TypedUnit → List ℕ → Type 0
Uses unit name = Contains (names_used unit) (Global name)

-- A name that a unit uses is unbound where no module of the load order defines it.
pub record IsUnbound (project : Project) (unit : TypedUnit) (name : List ℕ) : Type 0 where
  pub used : Uses unit name
  pub undefined : definition_of project name ≡ None

-- A name that a unit uses differs where the text that the unit declares it with is not its definition's.
pub record Differs (project : Project) (unit : TypedUnit) (name declared defined : List ℕ) : Type 0 where
  pub used : Uses unit name
  pub declares : Contains unit.names (record { name = name; text = declared })
  pub entity : Entity
  pub found : definition_of project name ≡ Some entity
  pub text : text_at project entity ≡ Some defined
  pub other : declared ≢ defined
