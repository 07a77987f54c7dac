-- What is left has the names that are missing.
use Rattle.std.proofs.Common.{◌≡◌, ◌+◌, ◌++◌, length}
use Rattle.pw_types.specs.Steps.Texts.{HaveTexts}
use Rattle.pw_types.specs.Steps.Uses.{names_by_number}
use Rattle.pw_types.proofs.external.external_names.Given as goal

abbrev pub invariant-loop-rest : goal.invariant-loop-rest
invariant-loop-rest l = record {
  texts : HaveTexts l.rest;
  place : l.number + length l.rest ≡ length l.files;
  names : names_by_number l.used 0 l.files ≡ l.names ++ names_by_number l.used l.number l.rest;
}

abbrev pub decreases-loop-rest : goal.decreases-loop-rest
decreases-loop-rest l = length l.rest
