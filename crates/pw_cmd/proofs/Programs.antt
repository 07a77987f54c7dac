-- The answer for words that have the bytes of the arguments is the answer for the arguments.
use Rattle.std.proofs.Common.{◌≡◌, ℕ, List, subst, inl}
use Rattle.pw_arguments.specs.Words.{AreWords}
use Rattle.pw_hart.specs.Outside.{Outside}
use Rattle.pw_cmd.specs.Answers.{Answers}
use Rattle.pw_cmd.specs.Shows.{ShowsAll}
use Rattle.pw_cmd.specs.Program.{words_end, Ends}
use Rattle.pw_cmd.proofs.Calls.{calls}
use Rattle.pw_cmd.proofs.Completes.{completes}
use Rattle.pw_cmd.proofs.Failures.{failures}
use Rattle.pw_cmd.proofs.Refusing.{refuses}
use Rattle.pw_cmd.proofs.ShowsMeaning.{means}

-- what a reader may take from an answer
shows_all : (words : List (List ℕ)) (old new : Outside) (status : ℕ) → Answers words old new status → ShowsAll words old new status
shows_all words old new status a = record {
  means = means words old new status a;
  failures = failures words old new status a;
  completes = completes words old new status a;
  refuses = refuses words old new status a;
  calls = calls words old new status a;
}

pub answered : (arguments words : List (List ℕ)) (old new : Outside) (status : ℕ) → words ≡ arguments →
    AreWords words_end arguments → Answers words old new status → Ends arguments old new status
answered arguments words old new status same are answers =
    let found : Answers arguments old new status = subst (λ ws. Answers ws old new status) same answers in
    inl (record { are_words = are; answers = found; shows = shows_all arguments old new status found })
