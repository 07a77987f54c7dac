-- Frames that wait for parts, and what is still to be done.
use Rattle.std.proofs.Common.{◌≡◌, ℕ, ◌+◌, ◌<◌, true, List, [], ◌∷◌, ◌++◌, Some, None, Result, Ok, Err, refl, sym, ◌∙◌, ap, subst, arith, add_assoc, min}
use Rattle.std.specs.Borrow.{Bor}
use Rattle.pw_tree.specs.declared.expr.Expr.{Expr}
use Rattle.pw_tree.specs.Expressions.{Expression, expression_of}
use Rattle.pw_tree.specs.TypedExpressions.{typed_expression_of}
use Rattle.pw_types.specs.declared.role.Role.{Role}
use Rattle.pw_types.specs.declared.role.Role.TheVariants.{Statement, Value, Callee, Base, Argument, Written, Assigned}
use Rattle.pw_types.specs.declared.fault.Fault.{Fault}
use Rattle.pw_types.specs.declared.fault.Refusal.{Refusal}
use Rattle.pw_types.specs.declared.fault.Refusal.TheVariants as stop
use Rattle.pw_types.specs.declared.typed.Typed.{Typed}
use Rattle.pw_types.specs.declared.expression_step.ExpressionFrame.{ExpressionFrame}
use Rattle.pw_types.specs.declared.expression_step.ExpressionStep.{ExpressionStep}
use Rattle.pw_types.specs.declared.expression_step.ExpressionStep.TheVariants.{Part, Instead, Done}
use Rattle.pw_types.specs.Faults.{first_of}
use Rattle.pw_types.specs.Scopes.{Scope}
use Rattle.pw_tree.specs.Held.{held}
use Rattle.pw_types.specs.Typed.{array_of, typed}
use Rattle.pw_types.specs.Steps.Uses.{uses}
use Rattle.pw_types.specs.Expressions.{is_base}
use Rattle.pw_types.specs.Steps.ExpressionFaults.{faults}
use Rattle.pw_types.specs.Steps.Judged.{JudgesExpression}
use Rattle.pw_types.specs.Steps.Judging.{JudgeResult, Judge, judge_then}
use Rattle.pw_types.specs.Steps.CheckingExpressions.{Valued, checked}
use Rattle.pw_types.specs.Steps.ResumingExpressions.{valued, resumed, resume, continued, GivesWith, Continues, ContinuesWith, size, frame_size, step_size, frames_size}
use Rattle.pw_types.proofs.JudgedPhrases.{full, Judged, sound, faulty}
use Rattle.pw_types.proofs.ExpressionLaw.{expression_judged}

-- ---- frames

-- the innermost frame goes on first
pub resume_last : (scope : Scope) (fs : List ExpressionFrame) (f : ExpressionFrame) (o : JudgeResult Valued)
    → resume scope (fs ++ f ∷ []) o ≡ resume scope fs (judge_then o (resumed scope f))
unfolding resume
resume_last scope [] f o = refl
resume_last scope (g ∷ fs) f o = ap (λ r. judge_then r (resumed scope g)) (resume_last scope fs f o)

-- a fault is the fault of the whole
pub resume_fault : (scope : Scope) (fs : List ExpressionFrame) (fault : Fault) → resume scope fs (Err fault) ≡ Err fault
unfolding resume
resume_fault scope [] fault = refl
resume_fault scope (g ∷ fs) fault = ap (λ r. judge_then r (resumed scope g)) (resume_fault scope fs fault)

pub size_last : (fs : List ExpressionFrame) (f : ExpressionFrame) → frames_size (fs ++ f ∷ []) ≡ frames_size fs + frame_size f
unfolding frames_size
size_last [] f = omega arith
size_last (g ∷ fs) f = ap (λ n. frame_size g + n) (size_last fs f) ∙ sym (add_assoc (frame_size g) (frames_size fs) (frame_size f))

-- ---- turns of the loop

-- w is the outcome of the whole: a part is judged with one frame more
pub at_part : {w : JudgeResult Valued} (scope : Scope) (fs gs : List ExpressionFrame) (step : ExpressionStep)
    (used : List ℕ) (f : ExpressionFrame) (role : Role) (e : Bor Expr)
    → w ≡ resume scope fs (continued scope step used) → step ≡ Part f role e → gs ≡ fs ++ f ∷ []
    → w ≡ resume scope gs (checked scope role (expression_of e.now) used)
at_part scope fs gs step used f role e h is more =
    h ∙ ap (λ s. resume scope fs (continued scope s used)) is
    ∙ sym (ap (λ l. resume scope l (checked scope role (expression_of e.now) used)) more ∙ resume_last scope fs f (checked scope role (expression_of e.now) used))

-- another expression is judged instead
pub at_instead : {w : JudgeResult Valued} (scope : Scope) (fs : List ExpressionFrame) (step : ExpressionStep)
    (used : List ℕ) (role : Role) (e : Bor Expr)
    → w ≡ resume scope fs (continued scope step used) → step ≡ Instead role e → w ≡ resume scope fs (checked scope role (expression_of e.now) used)
at_instead scope fs step used role e h is = h ∙ ap (λ s. resume scope fs (continued scope s used)) is

-- the innermost frame goes on
pub at_done : {w : JudgeResult Valued} (scope : Scope) (fs gs : List ExpressionFrame) (step : ExpressionStep)
    (used : List ℕ) (f : ExpressionFrame) (t : Typed)
    → w ≡ resume scope fs (continued scope step used) → step ≡ Done t → fs ≡ gs ++ f ∷ []
    → w ≡ resume scope gs (resumed scope f (valued t) used)
at_done scope fs gs step used f t h is less =
    h ∙ ap (λ s. resume scope fs (continued scope s used)) is ∙ ap (λ l. resume scope l (Ok (valued t, used))) less
    ∙ resume_last scope gs f (Ok (valued t, used))

-- no frame is left
pub at_end : {w : JudgeResult Valued} (scope : Scope) (fs : List ExpressionFrame) (step : ExpressionStep) (used : List ℕ) (t : Typed)
    → w ≡ resume scope fs (continued scope step used) → step ≡ Done t → fs ≡ [] → w ≡ Ok (valued t, used)
unfolding resume
at_end scope fs step used t h is none =
    h ∙ ap (λ s. resume scope fs (continued scope s used)) is ∙ ap (λ l. resume scope l (Ok (valued t, used))) none

pub goes_on : {w : JudgeResult Valued} (scope : Scope) (fs : List ExpressionFrame) (p : Judge Valued) (old new : List ℕ) (step : ExpressionStep)
    → w ≡ resume scope fs (p old) → ContinuesWith scope p old new (Ok step) → w ≡ resume scope fs (continued scope step new)
goes_on scope fs p old new step h on = h ∙ ap (resume scope fs) on

pub refusals : (scope : Scope) (fs : List ExpressionFrame) (q p : Judge Valued) (start end old new : List ℕ)
    (stop : Refusal) (result : Result Typed Refusal)
    → result ≡ Err stop → q start ≡ resume scope fs (p old) → ContinuesWith scope p old new (Err stop) → GivesWith q start end result
refusals scope fs q p start end old new (stop.Fault f) result is h on =
    let P : Result Typed Refusal → Type 0 = λ r. GivesWith q start end r in
    subst P (sym is) (h ∙ ap (resume scope fs) on ∙ resume_fault scope fs f)
refusals scope fs q p start end old new stop.NoMemory result is h on =
    let P : Result Typed Refusal → Type 0 = λ r. GivesWith q start end r in subst P (sym is) tt

-- a step that uses no names
pub as_used : (scope : Scope) (p : Judge Valued) (used : List ℕ) (result : Result ExpressionStep Refusal) →
    Continues scope p result → ContinuesWith scope p used used result
as_used scope p used (Ok step) h = ap (λ r. r used) h
as_used scope p used (Err (stop.Fault f)) h = ap (λ r. r used) h
as_used scope p used (Err stop.NoMemory) h = h

pub part_smaller :
    (fs gs : List ExpressionFrame) (step next : ExpressionStep) (f : ExpressionFrame) (role : Role) (e : Bor Expr) →
    step ≡ Part f role e → gs ≡ fs ++ f ∷ []
    → step_size next < size (expression_of e.now) → frames_size gs + step_size next < frames_size fs + step_size step
part_smaller fs gs step next f role e is more less =
    let now : step_size step ≡ frame_size f + size (expression_of e.now) = ap step_size is in
    let sum : frames_size gs ≡ frames_size fs + frame_size f = ap frames_size more ∙ size_last fs f in
    omega (arith, now, sum, less)

pub done_smaller : (fs gs : List ExpressionFrame) (step next : ExpressionStep) (f : ExpressionFrame) (t : Typed) →
    step ≡ Done t → fs ≡ gs ++ f ∷ []
    → step_size next < frame_size f → frames_size gs + step_size next < frames_size fs + step_size step
done_smaller fs gs step next f t is last less =
    let now : step_size step ≡ 0 = ap step_size is in
    let sum : frames_size fs ≡ frames_size gs + frame_size f = ap frames_size last ∙ size_last gs f in
    omega (arith, now, sum, less)

-- ---- the whole

ok_value : {a b : Valued} {us vs : List ℕ} → ◌≡◌ {A = JudgeResult Valued} (Ok (a, us)) (Ok (b, vs)) → (a ≡ b) × (us ≡ vs)
ok_value {a} {b} {us} {vs} h = let e : ◌≡◌ {A = Valued × List ℕ} (a, us) (b, vs) = cc in (ap (λ p. p.0) e, ap (λ p. p.1) e)

meant : (scope : Scope) (role : Role) (e : Expression) (old new : List ℕ) (t : Typed)
    → Judged role (faults scope role e) (typed scope e) (uses scope e) (checked scope role e)
    → checked scope role e old ≡ Ok (valued t, new) → JudgesExpression scope role e old new (Ok t)
meant scope role e old new t (sound v none tree fit is) h =
    let same = ok_value (sym (is old) ∙ h) in
    let tree_is : v ≡ typed_expression_of t.tree = ap (λ w. w.tree) same.0 in (
      none,
      record {
        tree = tree ∙ ap (λ w. Some w) tree_is;
        held = ap (λ w. w.held) (sym same.0) ∙ ap (λ w. min (held w) 101) tree_is;
        used = sym same.1;
      },
    )
meant scope role e old new t (faulty f first is) h =
    let clash : ◌≡◌ {A = JudgeResult Valued} (Err f) (Ok (valued t, new)) = sym (is old) ∙ h in cc

blamed : (scope : Scope) (role : Role) (e : Expression) (old : List ℕ) (f : Fault)
    → Judged role (faults scope role e) (typed scope e) (uses scope e) (checked scope role e)
    → checked scope role e old ≡ Err f → first_of (faults scope role e) ≡ Some f
blamed scope role e old f (sound v none tree fit is) h =
    let clash : ◌≡◌ {A = JudgeResult Valued} (Ok (full v, old ++ uses scope e)) (Err f) = sym (is old) ∙ h in cc
blamed scope role e old f (faulty g first is) h =
    let same : ◌≡◌ {A = JudgeResult Valued} (Err g) (Err f) = sym (is old) ∙ h in
    let is_f : g ≡ f = cc in first ∙ ap (λ x. Some x) is_f

-- what judging from left to right gives is the typed tree, or the first fault
pub judged : (scope : Scope) (role : Role) (e : Expression) (old new : List ℕ) (result : Result Typed Refusal)
    → (is_base role ≡ true → array_of scope e ≡ None) → GivesWith (checked scope role e) old new result → JudgesExpression scope role e old new result
judged scope role e old new (Ok t) base h = meant scope role e old new t (expression_judged scope role e base) h
judged scope role e old new (Err (stop.Fault f)) base h = blamed scope role e old f (expression_judged scope role e base) h
judged scope role e old new (Err stop.NoMemory) base h = h

-- what is asked of a base is asked where the role is one
pub at_base : {A : Type 0} (role : Role) → (role ≡ Base → A) → is_base role ≡ true → A
at_base Base h is = h refl
at_base Statement h is = cc
at_base Value h is = cc
at_base Callee h is = cc
at_base (Argument want) h is = cc
at_base Written h is = cc
at_base (Assigned want) h is = cc
