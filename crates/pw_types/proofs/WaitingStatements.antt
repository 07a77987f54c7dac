-- The statements that wait, the innermost last.
use Rattle.std.proofs.Common.{◌≡◌, ◌+◌, ◌<◌, List, [], ◌∷◌, ◌++◌, reverse, sym, ap, ◌∙◌, arith}
use Rattle.std.specs.Borrow.{Bor}
use Rattle.std.proofs.lemmas.List.{reverse-append}
use Rattle.pw_tree.specs.Statements.{statement_of}
use Rattle.pw_tree.specs.TypedStatements as tree
use Rattle.pw_tree.specs.declared.stmt.Stmt.{Stmt}
use Rattle.pw_tree.specs.declared.tstmt.TStmt.{TStmt}
use Rattle.pw_types.specs.declared.fault.Refusal.{Refusal}
use Rattle.pw_types.specs.declared.statement_walk.Walk.{Walk}
use Rattle.pw_types.specs.declared.statement_step.Setting.{Setting as Given}
use Rattle.pw_types.specs.declared.statement_step.StatementFrame.{StatementFrame}
use Rattle.pw_types.specs.declared.statement_step.StatementForm.{StatementForm}
use Rattle.pw_types.specs.declared.statement_step.StatementForm.TheVariants as forms
use Rattle.pw_types.specs.declared.statement_step.StatementStep.{StatementStep}
use Rattle.pw_types.specs.declared.statement_step.StatementStep.TheVariants as steps
use Rattle.pw_types.specs.Blocks.{Setting, Block}
use Rattle.pw_types.specs.Steps.CheckingStatements.{WalkResult, outcome_at, judged_at, of_step, Leads, resume, resumed, resumed_form, setting_of, leave}
use Rattle.pw_types.specs.Steps.StatementWeights.{weight, weight_of_form, weight_of_frames, weight_of_step}
use Rattle.pw_types.proofs.Failing.{fails_on_left, fails_as}
use Rattle.pw_types.specs.Steps.Refusals.{Fails}

pub weight_of_more : (fs : List StatementFrame) (f : StatementFrame) →
    weight_of_frames (fs ++ f ∷ []) ≡ weight_of_frames fs + weight_of_form f.form
unfolding weight_of_frames
weight_of_more [] f = omega arith
weight_of_more (g ∷ fs) f = omega (arith, weight_of_more fs f)

-- the one that waits last is resumed first
pub resume_last : (fs : List StatementFrame) (f : StatementFrame) (w : WalkResult) →
    resume (reverse (fs ++ f ∷ [])) w ≡ resume (reverse fs) (resumed f w)
unfolding resume
resume_last fs f w = ap (λ (gs : List StatementFrame). resume gs w) (reverse-append fs (f ∷ []))

-- ---- a part that refusals

form_fails : (x : Setting) (out : Block → Block) (form : StatementForm) (w : WalkResult) (stop : Refusal) → Fails w.faults stop
    → let v : WalkResult = resumed_form x out form w in Fails v.faults stop
form_fails x out (forms.Block done rest) w stop is = fails_on_left _ _ stop is
form_fails x out (forms.Then c d) w stop is = fails_on_left _ _ stop is
form_fails x out (forms.Else c a) w stop is = is
form_fails x out (forms.While c) w stop is = is
form_fails x out (forms.Do c) w stop is = fails_on_left _ _ stop is
form_fails x out (forms.First c last s) w stop is = fails_on_left _ _ stop is
form_fails x out (forms.Last first c s) w stop is = fails_on_left _ _ stop is
form_fails x out (forms.For first c last) w stop is = is

frame_fails : (f : StatementFrame) (w : WalkResult) (stop : Refusal) → Fails w.faults stop →
    let v : WalkResult = resumed f w in Fails v.faults stop
frame_fails f w stop is = form_fails (setting_of f.outer.setting) (leave f.outer.start f.outer.visible) f.form w stop is

pub frames_fail : (fs : List StatementFrame) (w : WalkResult) (stop : Refusal) → Fails w.faults stop →
    let v : WalkResult = resume fs w in Fails v.faults stop
unfolding resume
frames_fail [] w stop is = is
frames_fail (f ∷ fs) w stop is = frames_fail fs (resumed f w) stop (frame_fails f w stop is)

-- ---- each turn

pub part_leads : (whole : WalkResult) (fs fs' : List StatementFrame) (f : StatementFrame) (x : Given) (s : Bor Stmt)
    (old new : Walk) (step : StatementStep)
    → whole ≡ resume (reverse fs) (of_step (steps.Part f x s) old) → fs' ≡ fs ++ f ∷ [] → Leads (outcome_at x old (statement_of s.now)) new step
    → whole ≡ resume (reverse fs') (of_step step new)
part_leads whole fs fs' f x s old new step is more leads =
    is ∙ (ap (λ (w : WalkResult). resume (reverse fs) (resumed f w)) leads
    ∙ (sym (resume_last fs f (of_step step new)) ∙ ap (λ (gs : List StatementFrame). resume (reverse gs) (of_step step new)) (sym more)))

pub part_stops : (whole : WalkResult) (fs : List StatementFrame) (f : StatementFrame) (x : Given) (s : Bor Stmt) (old : Walk) (stop : Refusal)
    → whole ≡ resume (reverse fs) (of_step (steps.Part f x s) old) → (let w : WalkResult = outcome_at x old (statement_of s.now) in Fails w.faults stop)
    → Fails whole.faults stop
part_stops whole fs f x s old stop is fails =
    fails_as _ _ stop (sym (ap (λ (w : WalkResult). w.faults) is))
    (frames_fail (reverse fs) (resumed f (outcome_at x old (statement_of s.now))) stop (frame_fails f (outcome_at x old (statement_of s.now)) stop fails))

pub done_leads : (whole : WalkResult) (fs fs' : List StatementFrame) (f : StatementFrame) (t : TStmt) (old new : Walk) (step : StatementStep)
    → whole ≡ resume (reverse fs) (judged_at (tree.typed_statement_of t) old) → fs ≡ fs' ++ f ∷ [] → Leads (resumed f (judged_at (tree.typed_statement_of t) old)) new step
    → whole ≡ resume (reverse fs') (of_step step new)
done_leads whole fs fs' f t old new step is more leads =
    is ∙ (ap (λ (gs : List StatementFrame). resume (reverse gs) (judged_at (tree.typed_statement_of t) old)) more
    ∙ (resume_last fs' f (judged_at (tree.typed_statement_of t) old) ∙ ap (resume (reverse fs')) leads))

pub done_stops : (whole : WalkResult) (fs fs' : List StatementFrame) (f : StatementFrame) (t : TStmt) (old : Walk) (stop : Refusal)
    → whole ≡ resume (reverse fs) (judged_at (tree.typed_statement_of t) old) → fs ≡ fs' ++ f ∷ []
    → (let w : WalkResult = resumed f (judged_at (tree.typed_statement_of t) old) in Fails w.faults stop) → Fails whole.faults stop
done_stops whole fs fs' f t old stop is more fails =
    fails_as _ _ stop
    (sym (ap (λ (w : WalkResult). w.faults)
    (is ∙ (ap (λ (gs : List StatementFrame). resume (reverse gs) (judged_at (tree.typed_statement_of t) old)) more ∙ resume_last fs' f (judged_at (tree.typed_statement_of t) old)))))
    (frames_fail (reverse fs') (resumed f (judged_at (tree.typed_statement_of t) old)) stop fails)

pub all_done : (whole : WalkResult) (fs : List StatementFrame) (w : WalkResult) → whole ≡ resume (reverse fs) w → fs ≡ [] →
    whole ≡ w
unfolding resume
all_done whole fs w is none = is ∙ ap (λ (gs : List StatementFrame). resume (reverse gs) w) none

pub none_wait : (whole : WalkResult) (fs : List StatementFrame) (w : WalkResult) → whole ≡ w → fs ≡ [] →
    whole ≡ resume (reverse fs) w
unfolding resume
none_wait whole fs w is none = is ∙ ap (λ (gs : List StatementFrame). resume (reverse gs) w) (sym none)

pub at_step : (whole : WalkResult) (fs : List StatementFrame) (w : Walk) (step step' : StatementStep) →
    whole ≡ resume (reverse fs) (of_step step w) → step ≡ step'
    → whole ≡ resume (reverse fs) (of_step step' w)
at_step whole fs w step step' is step_is = is ∙ ap (λ (s : StatementStep). resume (reverse fs) (of_step s w)) step_is

-- ---- less is left

pub part_less : (fs fs' : List StatementFrame) (f : StatementFrame) (x : Given) (s : Bor Stmt) (step step' : StatementStep) →
    fs' ≡ fs ++ f ∷ [] → step ≡ steps.Part f x s
    → weight_of_step step' < weight (statement_of s.now) → weight_of_frames fs' + weight_of_step step' < weight_of_frames fs + weight_of_step step
part_less fs fs' f x s step step' more step_is less =
    let frames : weight_of_frames fs' ≡ weight_of_frames fs + weight_of_form f.form = ap weight_of_frames more ∙ weight_of_more fs f in
    let before : weight_of_step step ≡ weight_of_form f.form + weight (statement_of s.now) = ap weight_of_step step_is in
    omega arith

pub done_less : (fs fs' : List StatementFrame) (f : StatementFrame) (t : TStmt) (step step' : StatementStep) →
    fs ≡ fs' ++ f ∷ [] → step ≡ steps.Done t
    → weight_of_step step' < weight_of_form f.form → weight_of_frames fs' + weight_of_step step' < weight_of_frames fs + weight_of_step step
done_less fs fs' f t step step' more step_is less =
    let frames : weight_of_frames fs ≡ weight_of_frames fs' + weight_of_form f.form = ap weight_of_frames more ∙ weight_of_more fs' f in
    let before : weight_of_step step ≡ 0 = ap weight_of_step step_is in
    omega arith
