-- The bytes so far are those of the first words.
use Rattle.std.proofs.Common.{◌≡◌, take}
use Rattle.pw_mem.specs.Words.{text_bytes}
use Rattle.pw_image.proofs.text.bytes_of.Given as goal

abbrev pub invariant-loop-word : goal.invariant-loop-word
invariant-loop-word l = l.bytes.items ≡ text_bytes (take l.word-index l.words)
