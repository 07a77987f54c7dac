-- What the proofs of other crates take from this one: the laws of trees and faults, and which parsers take a token.
pub use Rattle.pw_grammar.proofs.Known.{reading_tells, one_tree}
pub use Rattle.pw_grammar.proofs.OneReading.{has_reading, not_both, one_fault}
pub use Rattle.pw_grammar.proofs.Written.{trees_are_written}
pub use Rattle.pw_grammar.proofs.ReadUnits.{trees_are_read}
pub use Rattle.pw_grammar.proofs.TextTokens.{token_ends, tokens_are_small}
pub use Rattle.pw_grammar.proofs.Lawful.{Leaves, leaves_fewer}
pub use Rattle.pw_grammar.proofs.Tokens.{skip_shrinks, expect_shrinks}
pub use Rattle.pw_grammar.proofs.Parts.{AnExpression}
pub use Rattle.pw_grammar.proofs.Pieces.{full_shrinks}
pub use Rattle.pw_grammar.proofs.LawfulChains.{lawful_expression}
pub use Rattle.pw_grammar.proofs.LawfulStarts.{AMaybe, lawful_maybe, AStep, lawful_step, AStart, lawful_start}
pub use Rattle.pw_grammar.proofs.LawfulLoops.{AStatement, full_statement}
pub use Rattle.pw_grammar.proofs.LawfulStatements.{lawful_statement}
