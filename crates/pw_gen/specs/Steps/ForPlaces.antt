-- Where the parts of a `for` stand, and that they can be compiled there.
use Rattle.std.specs.Prelude.{◌≡◌, ℕ, Option}
use Rattle.pw_tree.specs.TypedExpressions.{TypedExpression}
use Rattle.pw_tree.specs.TypedStatements.{TypedStatement, OptionalTypedStatement}
use Rattle.pw_code.specs.StatementCode.{condition_words, statement_words, optional_words}
use Rattle.pw_gen.specs.declared.place.Place.{Place}
use Rattle.pw_gen.specs.declared.branch_places.ForPlaces.{ForPlaces}
use Rattle.pw_gen.specs.Steps.Places.{after}
use Rattle.pw_gen.specs.Steps.Emitting.{CanEmitOptional, CanEmitForBody}

-- The parts of a `for` that stands at a place.
pub record AreForPlaces (place : Place) (first : OptionalTypedStatement) (c : Option TypedExpression) (last : OptionalTypedStatement)
    (body : TypedStatement) (places : ForPlaces) : Type 0 where
  pub top : places.top ≡ after place (optional_words first)
  pub behind : places.last ≡ after (after places.top (condition_words c)) (statement_words body)
  pub words : places.last_words ≡ optional_words last
  pub body_parts : CanEmitForBody places.top c body places.last_words
  pub last_parts : CanEmitOptional places.last last
