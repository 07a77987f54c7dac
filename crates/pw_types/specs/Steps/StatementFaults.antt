-- The faults of a statement as the checker meets them, in order of text.
use Rattle.std.specs.Prelude.{ℕ, List, [], ◌++◌, Option, Some, None, option_map}
use Rattle.pw_tree.specs.Expressions.{Span, Expression}
use Rattle.pw_tree.specs.Statements.{Statement, Statements, OptionalStatement, empty, block, local, set, evaluate, if_else, while_loop, do_loop, for_loop, returns, breaks, continues, nil, cons, absent, present}
use Rattle.pw_tree.specs.Placed.{local_name_at, index_end, set_end}
use Rattle.pw_types.specs.declared.rule.Rule.TheVariants as rules
use Rattle.pw_types.specs.declared.role.Role.{Role}
use Rattle.pw_types.specs.declared.role.Role.TheVariants as roles
use Rattle.pw_types.specs.declared.fault.Fault.{Fault}
use Rattle.pw_types.specs.Faults.{broken}
use Rattle.pw_types.specs.Scopes.{Scope, name_meaning}
use Rattle.pw_types.specs.Typed.{array_named, typed}
use Rattle.pw_types.specs.Expressions.{end_of}
use Rattle.pw_types.specs.Blocks.{Setting, part, body, head, Block, inner, after, after_maybe}
use Rattle.pw_types.specs.Steps.ExpressionFaults.{faults}
use Rattle.pw_types.specs.Statements.{holds_too_many, faults_of_name, type_of_target, has_other_index, set_holds_too_many, set_element_holds_too_many, faults_of_target, faults_of_array, returns_other, is_outside_loop}

-- a statement's whole expression
abbrev pub faults_of_whole : Scope → Role → Expression → List Fault
faults_of_whole scope role e = faults scope role e ++ broken rules.TooDeep (end_of e) (holds_too_many (typed scope e))

-- those of an expression that may be missing
abbrev pub faults_of_option : Scope → Role → Option Expression → List Fault
faults_of_option scope role None = []
faults_of_option scope role (Some e) = faults_of_whole scope role e

-- an assignment's: those of its target, of its index where it has one, of its value, and its own
abbrev pub faults_of_set : Setting → Scope → Span → List ℕ → Option Expression → Expression → List Fault
faults_of_set x scope at name None e =
    faults_of_target scope name at.first
    ++ (faults scope (roles.Assigned (type_of_target (name_meaning scope name))) e
    ++ broken rules.TooDeep (set_end x.in_head at) (set_holds_too_many scope name e))
faults_of_set x scope at name (Some i) e =
    faults_of_array scope name at.first
    ++ (faults scope roles.Value i
    ++ (broken rules.Operands (index_end at i) (has_other_index scope name i)
    ++ (faults scope (roles.Assigned (option_map (λ a. a.ty) (array_named scope name))) e
    ++ broken rules.TooDeep (set_end x.in_head at) (set_element_holds_too_many scope name i e))))

unfoldable mutual
  -- the faults of a statement
  pub faults_by : Setting → Block → Statement → List Fault
  faults_by x b (empty at) = []
  faults_by x b (block at ss) = faults_by_all (part x) (inner b) ss
  faults_by x b (local at ty name e) =
      faults_of_name b name (local_name_at at ty) ++ faults_of_option b.scope (roles.Assigned (Some ty)) e
  faults_by x b (set at name i e) = faults_of_set x b.scope at name i e
  faults_by x b (evaluate at e) = faults_of_whole b.scope roles.Statement e
  faults_by x b (if_else at c a d) =
      faults_of_whole b.scope roles.Value c ++ (faults_by (part x) b a ++ faults_by_maybe (part x) (after a b) d)
  faults_by x b (while_loop at c s) = faults_of_whole b.scope roles.Value c ++ faults_by (body x) b s
  faults_by x b (do_loop at s c) = faults_by (body x) b s ++ faults_of_whole b.scope roles.Value c
  faults_by x b (for_loop at first c last s) =
      faults_by_maybe (head x) (inner b) first
      ++ (faults_of_option (after_maybe first (inner b)).scope roles.Value c
      ++ (faults_by_maybe (head x) (after_maybe first (inner b)) last
      ++ faults_by (body x) (after_maybe last (after_maybe first (inner b))) s))
  faults_by x b (returns at e) =
      faults_of_option b.scope roles.Value e ++ broken rules.ReturnType at.last (returns_other x.result b.scope e)
  faults_by x b (breaks at) = broken rules.OutsideLoop at.last (is_outside_loop x)
  faults_by x b (continues at) = broken rules.OutsideLoop at.last (is_outside_loop x)

  -- those of statements in a row
  pub faults_by_all : Setting → Block → Statements → List Fault
  faults_by_all x b nil = []
  faults_by_all x b (cons s ss) = faults_by x b s ++ faults_by_all x (after s b) ss

  -- those of a statement that may be missing
  pub faults_by_maybe : Setting → Block → OptionalStatement → List Fault
  faults_by_maybe x b absent = []
  faults_by_maybe x b (present s) = faults_by x b s
