-- What is known of a stage from its answer.
use Rattle.std.proofs.Common.{◌≡◌, Result, Ok, Err, sym, subst}
use Rattle.pw_hart.specs.Outside.{Outside}
use Rattle.pw_cmd.specs.declared.answer.Stop.{Stop}
use Rattle.pw_cmd.specs.Stages.{Stage, Then, stopped, went_on, CallsBelow, gave, failed}

pub ok_same : {T : Type 0} {x y : T} → ◌≡◌ {A = Result T Stop} (Ok x) (Ok y) → x ≡ y
ok_same e = cc

-- two answers that are the same stop for the same reason
pub err_same : {T : Type 0} {x y : Stop} → ◌≡◌ {A = Result T Stop} (Err x) (Err y) → x ≡ y
err_same e = cc

pub ok_is_not_err : {T : Type 0} {x : T} {why : Stop} → ◌≡◌ {A = Result T Stop} (Ok x) (Err why) → ⊥
ok_is_not_err e = cc

-- two stages gave a value, so the first gave one to the second
pub then_gave : {A B : Type 0} {first : Stage A} {next : A → Stage B} {old new : Outside} {result : B}
    → Then first next old new (Ok result) → (value : A) × (mid : Outside) × first old mid (Ok value) × next value mid new (Ok result)
then_gave (stopped why s is) = absurd (ok_is_not_err is)
then_gave (went_on value mid s t) = (value, mid, s, t)

-- a call gave a value, so the layer did
pub call_gave : {A E : Type 0} {says : Outside → Outside → Result A E → Type 0} {reason : E → Stop} {old new : Outside} {value : A}
    → CallsBelow says reason old new (Ok value) → says old new (Ok value)
call_gave {says = says} {old = old} {new = new} (gave value s is) = subst (λ v. says old new (Ok v)) (sym (ok_same is)) s
call_gave (failed error s is) = absurd (ok_is_not_err is)

-- a call stopped, so the layer answered an error, and this is the reason
pub call_failed : {A E : Type 0} {says : Outside → Outside → Result A E → Type 0} {reason : E → Stop} {old new : Outside} {why : Stop}
    → CallsBelow says reason old new (Err why) → (error : E) × says old new (Err error) × (why ≡ reason error)
call_failed (gave value s is) = absurd (ok_is_not_err (sym is))
call_failed (failed error s is) = (error, s, err_same is)
