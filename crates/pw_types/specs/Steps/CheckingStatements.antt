-- Judging a statement: what it comes to, and how frames say what is still to be done when a part of it is judged.
use Rattle.std.specs.Prelude.{◌≡◌, ℕ, ◌+◌, max, List, [], ◌∷◌, ◌++◌, length, map, take, Option, option_map, Result, Ok, Err}
use Rattle.pw_tree.specs.Expressions.{Span, Expression, expression_of}
use Rattle.pw_tree.specs.TypedExpressions.{TypedExpression, typed_expression_of}
use Rattle.pw_tree.specs.Statements.{Statement, Statements, OptionalStatement, nil, cons, optional_statement, statement_of, statements_of}
use Rattle.pw_tree.specs.TypedStatements.{TypedStatement, TypedStatements}
use Rattle.pw_tree.specs.TypedStatements as tree
use Rattle.pw_tree.specs.declared.stmt.Stmt.{Stmt}
use Rattle.pw_tree.specs.declared.tstmt.TStmt.{TStmt}
use Rattle.pw_types.specs.declared.role.Role.TheVariants as roles
use Rattle.pw_types.specs.declared.fault.Fault.{Fault}
use Rattle.pw_types.specs.declared.fault.Refusal.{Refusal}
use Rattle.pw_types.specs.declared.fault.Refusal.TheVariants as refusals
use Rattle.pw_types.specs.declared.statement_walk.Walk.{Walk}
use Rattle.pw_types.specs.declared.statement_step.StatementSpan.{StatementSpan}
use Rattle.pw_types.specs.declared.statement_step.Setting.{Setting as Given}
use Rattle.pw_types.specs.declared.statement_step.Outer.{Outer}
use Rattle.pw_types.specs.declared.statement_step.StatementFrame.{StatementFrame}
use Rattle.pw_types.specs.declared.statement_step.StatementForm.{StatementForm}
use Rattle.pw_types.specs.declared.statement_step.StatementForm.TheVariants as forms
use Rattle.pw_types.specs.declared.statement_step.StatementStep.{StatementStep}
use Rattle.pw_types.specs.declared.statement_step.StatementStep.TheVariants as steps
use Rattle.pw_tree.specs.Held.{held, held_option, held_by, held_by_all, held_by_maybe}
use Rattle.pw_types.specs.Steps.Uses.{uses, uses_of_option, uses_by, uses_by_all, uses_by_maybe}
use Rattle.pw_types.specs.Blocks.{Setting, part, body, head, Block, after, after_maybe, locals_in_all}
use Rattle.pw_types.specs.Steps.StatementFaults.{faults_of_whole, faults_of_option, faults_by, faults_by_all, faults_by_maybe}
use Rattle.pw_types.specs.TypedStatements.{typed_expression, typed_statement, typed_statements, optional_typed_statement}
use Rattle.pw_types.specs.Steps.Refusals.{Fails}

-- ---- what a statement comes to

-- All faults that judging meets, and what it gives where it meets none: the typed statement, the names that were used so
-- far, the greatest number of values held so far, and the block after it.
pub record WalkResult : Type 0 where
  pub faults : List Fault
  pub typed : TypedStatement
  pub used : List ℕ
  pub held : ℕ
  pub block : Block

-- a statement, where so many names were used and so many values held before it
abbrev pub outcome : Setting → Block → List ℕ → ℕ → Statement → WalkResult
outcome x b used most s = record {
  faults = faults_by x b s;
  typed = typed_statement x b s;
  used = used ++ uses_by b s;
  held = max most (held_by (typed_statement x b s));
  block = after s b;
}

-- one that is judged without fault
abbrev pub judged : TypedStatement → Block → List ℕ → ℕ → WalkResult
judged c b used most = record { faults = []; typed = c; used = used; held = most; block = b }

-- ---- what is still to be done

-- the block in which a statement stands, after it: what was declared in the statement is not visible
abbrev pub leave : ℕ → ℕ → Block → Block
leave start visible b = record b { scope = record b.scope { locals = take visible b.scope.locals }; start = start }

-- where what follows several statements stands
unfoldable pub after_all : Statements → Block → Block
after_all nil b = b
after_all (cons s ss) b = after_all ss (after s b)

-- typed statements before others
unfoldable pub before : List TypedStatement → TypedStatements → TypedStatements
before [] more = more
before (c ∷ cs) more = tree.cons c (before cs more)

-- a block, of which these statements are judged and this one comes to `w`
abbrev pub rest_of_block : Setting → (Block → Block) → List TypedStatement → Statements → WalkResult → WalkResult
rest_of_block x out done rest w = record {
  faults = w.faults ++ faults_by_all (part x) w.block rest;
  typed = tree.block (before done (tree.cons w.typed (typed_statements (part x) w.block rest)));
  used = w.used ++ uses_by_all w.block rest;
  held = max w.held (held_by_all (typed_statements (part x) w.block rest));
  block = out (after_all rest w.block);
}

-- an `if`, whose condition is judged, and whose first part comes to `w`
abbrev pub rest_of_if : Setting → (Block → Block) → TypedExpression → OptionalStatement → WalkResult → WalkResult
rest_of_if x out c d w = record {
  faults = w.faults ++ faults_by_maybe (part x) w.block d;
  typed = tree.if_else c w.typed (optional_typed_statement (part x) w.block d);
  used = w.used ++ uses_by_maybe w.block d;
  held = max w.held (held_by_maybe (optional_typed_statement (part x) w.block d));
  block = out (after_maybe d w.block);
}

-- a `do`, whose body comes to `w`
abbrev pub rest_of_do : (Block → Block) → Expression → WalkResult → WalkResult
rest_of_do out c w = record {
  faults = w.faults ++ faults_of_whole (out w.block).scope roles.Value c;
  typed = tree.do_loop w.typed (typed_expression (out w.block).scope c);
  used = w.used ++ uses (out w.block).scope c;
  held = max w.held (held (typed_expression (out w.block).scope c));
  block = out w.block;
}

-- a `for`, whose first part is judged, and after whose last part stands `w`
abbrev pub rest_of_for : Setting → (Block → Block) → tree.OptionalTypedStatement → Option TypedExpression →
    tree.OptionalTypedStatement → Statement → WalkResult → WalkResult
rest_of_for x out first c last s w = record {
  faults = w.faults ++ faults_by (body x) w.block s;
  typed = tree.for_loop first c last (typed_statement (body x) w.block s);
  used = w.used ++ uses_by w.block s;
  held = max w.held (held_by (typed_statement (body x) w.block s));
  block = out (after s w.block);
}

-- a `for`, after whose first part stands `w`
abbrev pub after_first : Setting → (Block → Block) → tree.OptionalTypedStatement → Option Expression → OptionalStatement →
    Statement → WalkResult → WalkResult
after_first x out first c last s w = record {
  faults = w.faults
      ++ (faults_of_option w.block.scope roles.Value c
      ++ (faults_by_maybe (head x) w.block last ++ faults_by (body x) (after_maybe last w.block) s));
  typed = tree.for_loop first (option_map (typed_expression w.block.scope) c) (optional_typed_statement (head x) w.block last)
      (typed_statement (body x) (after_maybe last w.block) s);
  used = w.used ++ (uses_of_option w.block.scope c ++ (uses_by_maybe w.block last ++ uses_by (after_maybe last w.block) s));
  held = max w.held
      (max (held_option (option_map (typed_expression w.block.scope) c))
      (max (held_by_maybe (optional_typed_statement (head x) w.block last)) (held_by (typed_statement (body x) (after_maybe last w.block) s))));
  block = out (after s (after_maybe last w.block));
}

-- a statement of which only this is left: to be this typed statement
abbrev pub closed : (Block → Block) → TypedStatement → WalkResult → WalkResult
closed out c w = record w { typed = c; block = out w.block }

-- ---- frames

-- the typed statement that an optional one is
abbrev pub typed_maybe : Option TStmt → tree.OptionalTypedStatement
typed_maybe t = tree.optional_typed_statement (option_map tree.typed_statement_of t)

-- what a statement comes to whose part, for which it waits, comes to `w`
abbrev pub resumed_form : Setting → (Block → Block) → StatementForm → WalkResult → WalkResult
resumed_form x out (forms.Block done rest) w = rest_of_block x out (map tree.typed_statement_of done) (statements_of rest.now) w
resumed_form x out (forms.Then c d) w = rest_of_if x out (typed_expression_of c) (optional_statement (option_map statement_of d.now)) w
resumed_form x out (forms.Else c a) w =
    closed out (tree.if_else (typed_expression_of c) (tree.typed_statement_of a) (tree.present w.typed)) w
resumed_form x out (forms.While c) w = closed out (tree.while_loop (typed_expression_of c) w.typed) w
resumed_form x out (forms.Do c) w = rest_of_do out (expression_of c.now) w
resumed_form x out (forms.First c last s) w =
    after_first x out (tree.present w.typed) (option_map expression_of c.now) (optional_statement (option_map statement_of last.now))
    (statement_of s.now) w
resumed_form x out (forms.Last first c s) w =
    rest_of_for x out (typed_maybe first) (option_map typed_expression_of c) (tree.present w.typed) (statement_of s.now) w
resumed_form x out (forms.For first c last) w =
    closed out (tree.for_loop (typed_maybe first) (option_map typed_expression_of c) (typed_maybe last) w.typed) w

-- the setting, as a plain value
abbrev pub setting_of : Given → Setting
setting_of x = record { result = x.result; lines = x.lines.now; in_loop = x.in_loop; in_head = x.in_head }

-- what a statement comes to whose part comes to `w`, by what stands round the statement
abbrev pub resumed_at : Outer → StatementForm → WalkResult → WalkResult
resumed_at o form w = resumed_form (setting_of o.setting) (leave o.start o.visible) form w

-- what it comes to, by the frame that waits
abbrev pub resumed : StatementFrame → WalkResult → WalkResult
resumed f w = resumed_at f.outer f.form w

-- the same for statements in one another, the innermost first
unfoldable pub resume : List StatementFrame → WalkResult → WalkResult
resume [] w = w
resume (f ∷ fs) w = resume fs (resumed f w)

-- ---- what judging answers

-- the span, as a plain value
abbrev pub span_of_statement : StatementSpan → Span
span_of_statement at = record { first = at.first; last = at.last; line = at.line }

-- where a statement stands in this state
abbrev pub block_of : Walk → Block
block_of w = record { scope = w.scope; start = w.start; count = w.count }

-- a statement, from this state on
abbrev pub outcome_at : Given → Walk → Statement → WalkResult
outcome_at x w s = outcome (setting_of x) (block_of w) w.used.items w.held s

-- where a statement stands, which is entered in this state
abbrev pub outer_at : Given → Walk → Outer
outer_at x w = record { setting = x; start = w.start; visible = length w.scope.locals }

-- a typed statement, in this state
abbrev pub judged_at : TypedStatement → Walk → WalkResult
judged_at c w = judged c (block_of w) w.used.items w.held

-- a block, of which these statements are judged
abbrev pub block_at : List TStmt → List Stmt → Outer → WalkResult → WalkResult
block_at done rest o w =
    rest_of_block (setting_of o.setting) (leave o.start o.visible) (map tree.typed_statement_of done) (statements_of rest) w

-- a `for`, from after its first part in this state
abbrev pub after_first_at : Outer → tree.OptionalTypedStatement → Option Expression → OptionalStatement → Statement → Walk →
    WalkResult
after_first_at o first c last s w =
    after_first (setting_of o.setting) (leave o.start o.visible) first c last s (judged_at (tree.block tree.nil) w)

-- out of a statement
pub record Leaves (o : Outer) (old new : Walk) : Type 0 where
  pub block : block_of new ≡ leave o.start o.visible (block_of old)
  pub used : new.used.items ≡ old.used.items
  pub held : new.held ≡ old.held

-- judged without fault, which leads to this state, or the first fault
abbrev pub Finishes : WalkResult → Walk → Result TStmt Refusal → Type 0
Finishes w new (Ok t) = w ≡ judged_at (tree.typed_statement_of t) new
Finishes w new (Err stop) = Fails w.faults stop

-- what is still to be done comes to this
abbrev pub of_step : StatementStep → Walk → WalkResult
of_step (steps.Part f x s) w = resumed f (outcome_at x w (statement_of s.now))
of_step (steps.Done t) w = judged_at (tree.typed_statement_of t) w

-- the answer is that of this step, in this state
abbrev pub Leads : WalkResult → Walk → StatementStep → Type 0
Leads w new step = w ≡ of_step step new

-- one step further, which leads to this state, or the first fault
abbrev pub Steps : WalkResult → Walk → Result StatementStep Refusal → Type 0
Steps w new (Ok step) = Leads w new step
Steps w new (Err stop) = Fails w.faults stop

-- a statement that is judged as a whole leaves nothing to be done; out of memory may come in its place
abbrev pub IsWhole : Result TStmt Refusal → Result StatementStep Refusal → Type 0
IsWhole (Ok t) (Ok step) = step ≡ steps.Done t
IsWhole (Ok t) (Err stop) = stop ≡ refusals.NoMemory
IsWhole (Err stop) result = result ≡ Err stop

-- ---- statements in a row

-- What statements in a row come to, where these stand before them: all faults, and the typed statements, the names that
-- were used, the greatest number of values held, and how many locals the function has after them.
pub record Sequence : Type 0 where
  pub faults : List Fault
  pub commands : TypedStatements
  pub used : List ℕ
  pub held : ℕ
  pub count : ℕ

-- what several statements come to, after those that are done
abbrev pub sequence : Setting → Block → List ℕ → ℕ → List TypedStatement → Statements → Sequence
sequence x b used most done ss = record {
  faults = faults_by_all x b ss;
  commands = before done (typed_statements x b ss);
  used = used ++ uses_by_all b ss;
  held = max most (held_by_all (typed_statements x b ss));
  count = b.count + locals_in_all ss;
}

-- the same from this state on
abbrev pub sequence_at : Given → Walk → List TStmt → Statements → Sequence
sequence_at x w done ss = sequence (setting_of x) (block_of w) w.used.items w.held (map tree.typed_statement_of done) ss

-- statements that are judged without fault, which leads to this state, or the first fault
abbrev pub FinishesAll : Given → Statements → (old new : Walk) → Result (List TStmt) Refusal → Type 0
FinishesAll x ss old new (Ok ts) = sequence_at x old [] ss ≡ sequence_at x new ts nil
FinishesAll x ss old new (Err stop) = Fails (faults_by_all (setting_of x) (block_of old) ss) stop
