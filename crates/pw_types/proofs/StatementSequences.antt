-- Statements in a row, one after another.
use Rattle.std.proofs.Common.{◌≡◌, ℕ, ◌+◌, max, List, [], ◌∷◌, ◌++◌, map, refl, sym, ap, ◌∙◌, arith, add-zero}
use Rattle.std.proofs.Math.Nat.{max-zero}
use Rattle.std.proofs.lemmas.List.{append-nil, map-append}
use Rattle.pw_tree.specs.Statements.{Statement, Statements, nil, cons}
use Rattle.pw_tree.specs.TypedStatements.{TypedStatement, TypedStatements}
use Rattle.pw_tree.specs.TypedStatements as tree
use Rattle.pw_tree.specs.declared.tstmt.TStmt.{TStmt}
use Rattle.pw_types.specs.declared.fault.Fault.{Fault}
use Rattle.pw_types.specs.declared.fault.Refusal.{Refusal}
use Rattle.pw_types.specs.declared.statement_walk.Walk.{Walk}
use Rattle.pw_types.specs.declared.statement_step.Setting.{Setting as Given}
use Rattle.pw_types.specs.Scopes.{Scope}
use Rattle.pw_tree.specs.Held.{held_by_all}
use Rattle.pw_types.specs.Blocks.{Setting, Block, locals_in_all}
use Rattle.pw_types.specs.Steps.Uses.{uses_by_all}
use Rattle.pw_types.specs.Steps.StatementFaults.{faults_by, faults_by_all}
use Rattle.pw_types.specs.TypedStatements.{typed_statements}
use Rattle.pw_types.specs.Steps.Judged.{IsTypedBody}
use Rattle.pw_types.specs.Steps.CheckingStatements.{WalkResult, outcome, block_of, outcome_at, judged_at, setting_of, before, Sequence, sequence, sequence_at}
use Rattle.pw_types.proofs.LeavingStatements.{keeps}
use Rattle.pw_types.proofs.EnclosingStatements.{max_assoc, used_by_both, before_snoc, before_nothing, zero-max}
use Rattle.pw_types.proofs.Failing.{fails_as, fails_on_left}
use Rattle.pw_types.specs.Steps.Refusals.{Fails}

same_sequence : {f f' : List Fault} {c c' : TypedStatements} {u u' : List ℕ} {h h' n n' : ℕ}
    → f ≡ f' → c ≡ c' → u ≡ u' → h ≡ h' → n ≡ n'
    → let x : Sequence = record { faults = f; commands = c; used = u; held = h; count = n } in
    let y : Sequence = record { faults = f'; commands = c'; used = u'; held = h'; count = n' } in x ≡ y
same_sequence ef ec eu eh en = cc

-- a statement that comes to `w`, and those after it
abbrev after_one : Setting → List TypedStatement → Statements → WalkResult → Sequence
after_one x done ss w = record {
  faults = w.faults ++ faults_by_all x w.block ss;
  commands = before done (tree.cons w.typed (typed_statements x w.block ss));
  used = w.used ++ uses_by_all w.block ss;
  held = max w.held (held_by_all (typed_statements x w.block ss));
  count = w.block.count + locals_in_all ss;
}

one_first : (x : Setting) (b : Block) (u : List ℕ) (h : ℕ) (done : List TypedStatement) (s : Statement) (ss : Statements)
    → sequence x b u h done (cons s ss) ≡ after_one x done ss (outcome x b u h s)
unfolding faults_by_all typed_statements uses_by_all held_by_all locals_in_all
one_first x b u h done s ss =
    let more = keeps 0 s b (omega arith) in
    same_sequence refl refl (used_by_both u _ _) (max_assoc h _ _) (omega (arith, more.count))

pub one_less : (x : Given) (old new : Walk) (done all : List TStmt) (t : TStmt) (s : Statement) (ss : Statements)
    → outcome_at x old s ≡ judged_at (tree.typed_statement_of t) new → all ≡ done ++ t ∷ []
    → sequence_at x old done (cons s ss) ≡ sequence_at x new all ss
one_less x old new done all t s ss is more =
    one_first (setting_of x) (block_of old) old.used.items old.held (map tree.typed_statement_of done) s ss
    ∙ (ap (after_one (setting_of x) (map tree.typed_statement_of done) ss) is
    ∙ same_sequence refl
    (before_snoc (map tree.typed_statement_of done) (tree.typed_statement_of t) _
    ∙ ap (λ (cs : List TypedStatement). before cs (typed_statements (setting_of x) (block_of new) ss))
    (sym (map-append tree.typed_statement_of done (t ∷ [])) ∙ ap (map tree.typed_statement_of) (sym more)))
    refl refl refl)

pub one_fails : (x : Given) (start old : Walk) (done : List TStmt) (all : Statements) (s : Statement) (ss : Statements) (stop : Refusal)
    → sequence_at x start [] all ≡ sequence_at x old done (cons s ss) → (let w : WalkResult = outcome_at x old s in Fails w.faults stop)
    → Fails (faults_by_all (setting_of x) (block_of start) all) stop
unfolding faults_by_all
one_fails x start old done all s ss stop is fails =
    fails_as _ _ stop (sym (ap (λ (q : Sequence). q.faults) is)) (fails_on_left (faults_by (setting_of x) (block_of old) s) _ stop fails)

-- the body of a function, whose statements are all judged
whole_body : (x : Setting) (b : Block) (u : List ℕ) (new : Walk) (ss : Statements) (ts : List TStmt)
    → sequence x b u 0 [] ss ≡ sequence x (block_of new) new.used.items new.held (map tree.typed_statement_of ts) nil
    → (faults_by_all x b ss ≡ []) × IsTypedBody x b ss u new.used.items (record { statements = ts; held = new.held; count = new.count })
unfolding faults_by_all typed_statements uses_by_all held_by_all locals_in_all before
whole_body x b u new ss ts is = (
  ap (λ (q : Sequence). q.faults) is,
  record {
    statements = sym (ap (λ (q : Sequence). q.commands) is ∙ before_nothing (map tree.typed_statement_of ts));
    held = sym (sym (zero-max _) ∙ (ap (λ (q : Sequence). q.held) is ∙ max-zero new.held));
    count = sym (ap (λ (q : Sequence). q.count) is ∙ add-zero new.count);
    used = sym (ap (λ (q : Sequence). q.used) is ∙ append-nil new.used.items);
  },
)

-- the same, of the scope and the names at the call, which were moved to the state at its start
pub judged_body : (x : Setting) (scope moved : Scope) (u kept : List ℕ) (count : ℕ) (new : Walk) (ss : Statements) (ts : List TStmt)
    → moved ≡ scope → kept ≡ u
    → sequence x (record { scope = moved; start = 0; count = count }) kept 0 [] ss ≡ sequence x (block_of new) new.used.items new.held (map tree.typed_statement_of ts) nil
    → let b : Block = record { scope = scope; start = 0; count = count } in
    (faults_by_all x b ss ≡ []) × IsTypedBody x b ss u new.used.items (record { statements = ts; held = new.held; count = new.count })
judged_body x scope moved u kept count new ss ts moved_is kept_is is =
    whole_body x (record { scope = scope; start = 0; count = count }) u new ss ts
    (ap (λ (s : Scope). sequence x (record { scope = s; start = 0; count = count }) u 0 [] ss) (sym moved_is)
    ∙ (ap (λ (v : List ℕ). sequence x (record { scope = moved; start = 0; count = count }) v 0 [] ss) (sym kept_is) ∙ is))
