-- The unit of a text is one that was read.
use Rattle.std.proofs.Common.{◌<◌, ◌^◌, length, arith}
use Rattle.pw_lex.specs.Bytes.{Text}
use Rattle.pw_grammar.proofs.Exports.{trees_are_read, tokens_are_small}
use Rattle.pw_tree.specs.declared.decl.Unit.{Unit}
use Rattle.pw_tree.specs.Declarations.{untyped_unit_of}
use Rattle.pw_tree.specs.Proper.{IsRead}
use Rattle.pw_front.specs.Units.{IsUnitOf}
use Rattle.pw_front.proofs.Lines.{tokens_within}

pub unit_is_read : (text : Text) (unit : Unit) → length text < 2 ^ 32 → IsUnitOf text unit → IsRead (untyped_unit_of unit)
unit_is_read text unit short is =
    trees_are_read is.tokens unit (record { derives = is.derives; no_fault = is.no_fault })
    (omega (arith, short, tokens_within text is.tokens is.has_tokens)) (tokens_are_small text is.tokens is.has_tokens short)
