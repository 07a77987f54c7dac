-- What is left has the letters that are missing.
use Rattle.std.proofs.Common.{◌≡◌, [], ◌∷◌, ◌++◌, map, length}
use Rattle.pw_tree.specs.TypeTexts.{letter_of}
use Rattle.pw_tree.specs.Types.{AreValueTypes}
use Rattle.pw_gen.proofs.function_text.bytes_of.Given as goal

abbrev pub invariant-loop-rest : goal.invariant-loop-rest
invariant-loop-rest l = record {
  types : AreValueTypes l.rest;
  letters : (letter_of l.sig.result ∷ 40 ∷ []) ++ map letter_of l.sig.params ≡ l.text ++ map letter_of l.rest;
}

abbrev pub decreases-loop-rest : goal.decreases-loop-rest
decreases-loop-rest l = length l.rest
