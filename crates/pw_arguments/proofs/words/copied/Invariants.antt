-- The words so far have the bytes of the first arguments.
use Rattle.std.proofs.Common.{◌≡◌, take}
use Rattle.std.specs.Prelude.{map, string_bytes}
use Rattle.pw_arguments.specs.Arguments.{bytes_of}
use Rattle.pw_arguments.proofs.words.copied.Given as goal

abbrev pub invariant-loop-argument : goal.invariant-loop-argument
invariant-loop-argument l = map string_bytes l.words.items ≡ bytes_of (take l.argument-index l.arguments)
