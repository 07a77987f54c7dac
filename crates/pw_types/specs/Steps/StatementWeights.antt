-- How much is still to be done of a statement: each step leaves less.
use Rattle.std.specs.Prelude.{ℕ, suc, ◌+◌, List, [], ◌∷◌, option_map}
use Rattle.pw_tree.specs.Statements.{Statement, Statements, OptionalStatement, empty, block, local, set, evaluate, if_else, while_loop, do_loop, for_loop, returns, breaks, continues, nil, cons, absent, present, optional_statement, statement_of, statements_of}
use Rattle.pw_types.specs.declared.statement_step.StatementFrame.{StatementFrame}
use Rattle.pw_types.specs.declared.statement_step.StatementForm.{StatementForm}
use Rattle.pw_types.specs.declared.statement_step.StatementForm.TheVariants as forms
use Rattle.pw_types.specs.declared.statement_step.StatementStep.{StatementStep}
use Rattle.pw_types.specs.declared.statement_step.StatementStep.TheVariants as steps

unfoldable mutual
  -- a statement is entered, and left after each of its parts
  pub weight : Statement → ℕ
  weight (empty at) = 1
  weight (block at ss) = 2 + weight_of_all ss
  weight (local at ty name e) = 1
  weight (set at name i e) = 1
  weight (evaluate at e) = 1
  weight (if_else at c a d) = weight a + (3 + weight_of_maybe d)
  weight (while_loop at c s) = weight s + 2
  weight (do_loop at s c) = weight s + 2
  weight (for_loop at first c last s) = weight_of_maybe first + (weight_of_maybe last + (weight s + 4))
  weight (returns at e) = 1
  weight (breaks at) = 1
  weight (continues at) = 1

  -- of several statements
  pub weight_of_all : Statements → ℕ
  weight_of_all nil = 0
  weight_of_all (cons s ss) = suc (weight s + weight_of_all ss)

  -- of a statement that may be absent
  pub weight_of_maybe : OptionalStatement → ℕ
  weight_of_maybe absent = 0
  weight_of_maybe (present s) = weight s

-- what is left after the part that the statement waits for
abbrev pub weight_of_form : StatementForm → ℕ
weight_of_form (forms.Block done rest) = 1 + weight_of_all (statements_of rest.now)
weight_of_form (forms.Then c d) = 2 + weight_of_maybe (optional_statement (option_map statement_of d.now))
weight_of_form (forms.Else c a) = 1
weight_of_form (forms.While c) = 1
weight_of_form (forms.Do c) = 1
weight_of_form (forms.First c last s) = weight_of_maybe (optional_statement (option_map statement_of last.now)) + (weight (statement_of s.now) + 3)
weight_of_form (forms.Last first c s) = weight (statement_of s.now) + 2
weight_of_form (forms.For first c last) = 1

-- of a step
abbrev pub weight_of_step : StatementStep → ℕ
weight_of_step (steps.Part f x s) = weight_of_form f.form + weight (statement_of s.now)
weight_of_step (steps.Done t) = 0

-- of several frames
unfoldable pub weight_of_frames : List StatementFrame → ℕ
weight_of_frames [] = 0
weight_of_frames (f ∷ fs) = weight_of_form f.form + weight_of_frames fs
