-- The laws that each command obeys, by those of its stages.
use Rattle.std.proofs.Common.{ℕ, List, [], ◌∷◌}
use Rattle.pw_io.specs.declared.ports.Asked.TheVariants.{Read}
use Rattle.pw_tree.specs.Units.{unit_of}
use Rattle.pw_cmd.specs.declared.words.Request.{Request}
use Rattle.pw_cmd.specs.Commands.{one, performs}
use Rattle.pw_cmd.specs.Laws.{Obeys, FailuresStop, RefusesCleanly, MakesCalls}
use Rattle.pw_cmd.proofs.Composition.{failures_then, cleanly_then, cleanly_at_last, calls_then}
use Rattle.pw_cmd.proofs.StageLaws.{judges_failures, judges_looks, reads_failures, reads_looks, reads_calls, compiles_failures, compiles_looks, compiles_calls, builds_failures, builds_cleanly, builds_calls}
use Rattle.pw_cmd.proofs.RunLaws.{runs_failures, runs_never_refuse, runs_calls}

pub one_failures : (request : Request) → Obeys FailuresStop (one request)
one_failures request =
    failures_then _ _ (reads_failures request.word request.file) (λ text.
    failures_then _ _ (compiles_failures request.word text.items) (λ unit.
    failures_then _ _ (builds_failures request.file (unit_of unit)) (λ rows. runs_failures (unit_of unit) rows request.steps)))

pub one_cleanly : (request : Request) → Obeys RefusesCleanly (one request)
one_cleanly request =
    cleanly_then _ _ (reads_looks request.word request.file) (λ text.
    cleanly_then _ _ (compiles_looks request.word text.items) (λ unit.
    cleanly_at_last _ _ (builds_cleanly request.file (unit_of unit)) (λ rows. runs_never_refuse (unit_of unit) rows request.steps)))

pub one_calls : (request : Request) → Obeys (MakesCalls (Read request.file ∷ [])) (one request)
one_calls request =
    calls_then (Read request.file ∷ []) [] _ _ (reads_calls request.word request.file) (λ text.
    calls_then [] [] _ _ (compiles_calls request.word text.items) (λ unit.
    calls_then [] [] _ _ (builds_calls request.file (unit_of unit)) (λ rows. runs_calls (unit_of unit) rows request.steps)))

pub words_failures : (words : List (List ℕ)) → Obeys FailuresStop (performs words)
words_failures words = failures_then _ _ (judges_failures words) one_failures

pub words_cleanly : (words : List (List ℕ)) → Obeys RefusesCleanly (performs words)
words_cleanly words = cleanly_then _ _ (judges_looks words) one_cleanly
