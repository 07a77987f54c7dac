-- What statements rest on while the words of their code are counted.
use Rattle.std.specs.Prelude.{ℕ, ◌+◌, ◌^◌, ◌<◌}
use Rattle.pw_tree.specs.TypedStatements.{TypedStatement, TypedStatements, OptionalTypedStatement}
use Rattle.pw_tree.specs.WellTypedStatements.{OfExpressions, Everywhere, EverywhereIn, EverywhereIf}
use Rattle.pw_code.specs.Bounds.{HasShortCode}
use Rattle.pw_code.specs.StatementCode.{statement_words, statements_words, optional_words, else_words}

-- A jump reaches this many words.
abbrev pub reach : ℕ
reach = 2 ^ 18

-- The expressions right in a statement have short code.
abbrev pub HasShortParts : TypedStatement → Type 0
HasShortParts s = OfExpressions HasShortCode s

-- A statement's words can be counted: its expressions have short code, and it is within reach.
pub record CanMeasure (s : TypedStatement) : Type 0 where
  pub short : Everywhere HasShortParts s
  pub near : statement_words s < reach

-- So can those of several.
pub record CanMeasureAll (ss : TypedStatements) : Type 0 where
  pub short : EverywhereIn HasShortParts ss
  pub near : statements_words ss < reach

-- And those of one that may be absent.
pub record CanMeasureOptional (s : OptionalTypedStatement) : Type 0 where
  pub short : EverywhereIf HasShortParts s
  pub near : optional_words s < reach

-- And those of an `else`.
pub record CanMeasureElse (s : OptionalTypedStatement) : Type 0 where
  pub short : EverywhereIf HasShortParts s
  pub near : else_words s < reach
