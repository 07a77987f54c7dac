-- The typed tree of a statement without faults.
use Rattle.std.specs.Prelude.{ℕ, suc, List, Option, Some, None, option_map, unwrap_or, slice_index_or}
use Rattle.pw_tree.specs.declared.ty.Ty.TheVariants.{Void}
use Rattle.pw_tree.specs.Expressions.{Span, Expression}
use Rattle.pw_tree.specs.TypedExpressions.{TypedExpression, constant}
use Rattle.pw_tree.specs.Statements.{Statement, Statements, OptionalStatement, empty, block, local, set, evaluate, if_else, while_loop, do_loop, for_loop, returns, breaks, continues, nil, cons, absent, present}
use Rattle.pw_tree.specs.TypedStatements.{TypedStatement, TypedStatements}
use Rattle.pw_tree.specs.TypedStatements as tree
use Rattle.pw_types.specs.Scopes.{Scope, Meaning, missing, a_local, declared, name_meaning, variable_reference}
use Rattle.pw_types.specs.Typed.{Array, array_named, typed}
use Rattle.pw_types.specs.Blocks.{Setting, part, body, head, Block, inner, after, after_maybe}

-- what stands where an expression has no type, which no unit without faults has
abbrev pub no_expression : TypedExpression
no_expression = constant (record { ty = Void; line = 0 }) 0

-- the typed tree of an expression that has a type
abbrev pub typed_expression : Scope → Expression → TypedExpression
typed_expression scope e = unwrap_or (typed scope e) no_expression

-- an assignment to a name: to a local by its number, to a variable by its reference
abbrev pub assigned : Scope → Meaning → TypedExpression → TypedStatement
assigned scope missing e = tree.evaluate e
assigned scope (a_local l) e = tree.set_local l.number (Some e)
assigned scope (declared f) e = tree.set_variable (variable_reference scope f) e

-- an assignment to an element of an array; it keeps the line that a failure at run time reports
abbrev pub element_assigned : Option Array → ℕ → TypedExpression → TypedExpression → TypedStatement
element_assigned (Some a) line i e = tree.set_element a.reference a.size line i e
element_assigned None line i e = tree.evaluate e

-- the line of the `[` after a name
abbrev pub bracket_line : Setting → Span → ℕ
bracket_line x at = slice_index_or x.lines (suc at.first) 0

-- an assignment to a name or to an element
abbrev pub typed_set : Setting → Scope → Span → List ℕ → Option Expression → Expression → TypedStatement
typed_set x scope at name None e = assigned scope (name_meaning scope name) (typed_expression scope e)
typed_set x scope at name (Some i) e =
    element_assigned (array_named scope name) (bracket_line x at) (typed_expression scope i) (typed_expression scope e)

unfoldable mutual
  -- a local has the number of those before it; an empty statement is an empty block
  pub typed_statement : Setting → Block → Statement → TypedStatement
  typed_statement x b (empty at) = tree.block tree.nil
  typed_statement x b (block at ss) = tree.block (typed_statements (part x) (inner b) ss)
  typed_statement x b (local at ty name e) = tree.set_local b.count (option_map (typed_expression b.scope) e)
  typed_statement x b (set at name i e) = typed_set x b.scope at name i e
  typed_statement x b (evaluate at e) = tree.evaluate (typed_expression b.scope e)
  typed_statement x b (if_else at c a d) =
      tree.if_else (typed_expression b.scope c) (typed_statement (part x) b a) (optional_typed_statement (part x) (after a b) d)
  typed_statement x b (while_loop at c s) = tree.while_loop (typed_expression b.scope c) (typed_statement (body x) b s)
  typed_statement x b (do_loop at s c) = tree.do_loop (typed_statement (body x) b s) (typed_expression b.scope c)
  typed_statement x b (for_loop at first c last s) =
      tree.for_loop (optional_typed_statement (head x) (inner b) first)
      (option_map (typed_expression (after_maybe first (inner b)).scope) c)
      (optional_typed_statement (head x) (after_maybe first (inner b)) last)
      (typed_statement (body x) (after_maybe last (after_maybe first (inner b))) s)
  typed_statement x b (returns at e) = tree.returns (option_map (typed_expression b.scope) e)
  typed_statement x b (breaks at) = tree.breaks
  typed_statement x b (continues at) = tree.continues

  -- those of statements in a row: each stands after those before it
  pub typed_statements : Setting → Block → Statements → TypedStatements
  typed_statements x b nil = tree.nil
  typed_statements x b (cons s ss) = tree.cons (typed_statement x b s) (typed_statements x (after s b) ss)

  -- that of a statement that may be missing
  pub optional_typed_statement : Setting → Block → OptionalStatement → tree.OptionalTypedStatement
  optional_typed_statement x b absent = tree.absent
  optional_typed_statement x b (present s) = tree.present (typed_statement x b s)
