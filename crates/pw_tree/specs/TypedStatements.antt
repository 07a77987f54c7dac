-- Typed statements, as a plain tree.
use Rattle.std.specs.Prelude.{ℕ, List, [], ◌∷◌, Option, Some, None, map}
use Rattle.std.specs.Option.{option_map}
use Rattle.pw_tree.specs.TypedExpressions.{TypedExpression, typed_expression_of}
use Rattle.pw_tree.specs.declared.ty.Ref.{Ref}
use Rattle.pw_tree.specs.declared.tstmt.TStmt.{TStmt}
use Rattle.pw_tree.specs.declared.tstmt.TStmt.TheOpen.{TStmt-F}
use Rattle.pw_tree.specs.declared.tstmt.TStmt.TheFolds.{fold-TStmt}

-- A typed statement, by its form (C17, 6.8).
mutual
  pub data TypedStatement : Type 0 where
    evaluate : TypedExpression → TypedStatement
    -- a local; without a value, the local's declaration
    set_local : ℕ → Option TypedExpression → TypedStatement
    set_variable : Ref → TypedExpression → TypedStatement
    -- an array, its size, the line of `[`, the index and the value
    set_element : Ref → ℕ → ℕ → TypedExpression → TypedExpression → TypedStatement
    block : TypedStatements → TypedStatement
    if_else : TypedExpression → TypedStatement → OptionalTypedStatement → TypedStatement
    while_loop : TypedExpression → TypedStatement → TypedStatement
    do_loop : TypedStatement → TypedExpression → TypedStatement
    -- the first part, the condition, the last part and the body
    for_loop : OptionalTypedStatement → Option TypedExpression → OptionalTypedStatement → TypedStatement → TypedStatement
    returns : Option TypedExpression → TypedStatement
    breaks : TypedStatement
    continues : TypedStatement

  -- Several typed statements, as in a block.
  pub data TypedStatements : Type 0 where
    nil : TypedStatements
    cons : TypedStatement → TypedStatements → TypedStatements

  -- A typed statement that may be absent.
  pub data OptionalTypedStatement : Type 0 where
    absent : OptionalTypedStatement
    present : TypedStatement → OptionalTypedStatement

-- The typed statements of a list.
abbrev pub typed_statements : List TypedStatement → TypedStatements
typed_statements [] = nil
typed_statements (s ∷ ss) = cons s (typed_statements ss)

-- The typed statement of an option.
abbrev pub optional_typed_statement : Option TypedStatement → OptionalTypedStatement
optional_typed_statement None = absent
optional_typed_statement (Some s) = present s

-- One form, with each part's tree in place of the part.
abbrev pub typed_statement_form : TStmt-F TypedStatement → TypedStatement
typed_statement_form (TStmt-F.Eval e) = evaluate (typed_expression_of e)
typed_statement_form (TStmt-F.SetLocal i value) = set_local i (option_map typed_expression_of value)
typed_statement_form (TStmt-F.SetVar x value) = set_variable x (typed_expression_of value)
typed_statement_form (TStmt-F.SetElem x size line i value) = set_element x size line (typed_expression_of i) (typed_expression_of value)
typed_statement_form (TStmt-F.Block body) = block (typed_statements body)
typed_statement_form (TStmt-F.If c a b) = if_else (typed_expression_of c) a (optional_typed_statement b)
typed_statement_form (TStmt-F.While c body) = while_loop (typed_expression_of c) body
typed_statement_form (TStmt-F.Do body c) = do_loop body (typed_expression_of c)
typed_statement_form (TStmt-F.For first c last body) =
    for_loop (optional_typed_statement first) (option_map typed_expression_of c) (optional_typed_statement last) body
typed_statement_form (TStmt-F.Return value) = returns (option_map typed_expression_of value)
typed_statement_form TStmt-F.Break = breaks
typed_statement_form TStmt-F.Continue = continues

-- The plain tree of a typed statement.
abbrev pub typed_statement_of : TStmt → TypedStatement
typed_statement_of = fold-TStmt TypedStatement typed_statement_form

-- The plain trees of several typed statements.
abbrev pub typed_statements_of : List TStmt → TypedStatements
typed_statements_of ss = typed_statements (map typed_statement_of ss)
