-- The arguments so far are text, and their bytes are counted and not too many.
use Rattle.std.proofs.Common.{take}
use Rattle.pw_arguments.specs.Arguments.{bytes_of}
use Rattle.pw_arguments.proofs.Judging.{AreJudged}
use Rattle.pw_arguments.proofs.words.are_words.Given as goal

abbrev pub invariant-loop-argument : goal.invariant-loop-argument
invariant-loop-argument l = AreJudged l.limit l.bytes (bytes_of (take l.argument-index l.arguments))
