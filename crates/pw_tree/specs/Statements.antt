-- Statements as they are written, as a plain tree.
use Rattle.std.specs.Prelude.{ℕ, List, [], ◌∷◌, Option, Some, None, map}
use Rattle.std.specs.Option.{option_map}
use Rattle.pw_tree.specs.Expressions.{Span, Expression, expression_of}
use Rattle.pw_tree.specs.declared.ty.Ty.{Ty}
use Rattle.pw_tree.specs.declared.stmt.StmtKind.{StmtKind}
use Rattle.pw_tree.specs.declared.stmt.Stmt.{Stmt}
use Rattle.pw_tree.specs.declared.stmt.StmtKind.TheOpen.{StmtKind-F, Stmt-F}
use Rattle.pw_tree.specs.declared.stmt.StmtKind.TheFolds.{fold-StmtKind, fold-Stmt}

-- A statement, by its form (C17, 6.8); a local's declaration counts as one.
mutual
  pub data Statement : Type 0 where
    -- `;`
    empty : Span → Statement
    block : Span → Statements → Statement
    -- a local's type and name, and what it is set to
    local : Span → Ty → List ℕ → Option Expression → Statement
    -- the name, the index where it is an array's, and the value
    set : Span → List ℕ → Option Expression → Expression → Statement
    evaluate : Span → Expression → Statement
    if_else : Span → Expression → Statement → OptionalStatement → Statement
    while_loop : Span → Expression → Statement → Statement
    do_loop : Span → Statement → Expression → Statement
    -- the first part, the condition, the last part and the body
    for_loop : Span → OptionalStatement → Option Expression → OptionalStatement → Statement → Statement
    returns : Span → Option Expression → Statement
    breaks : Span → Statement
    continues : Span → Statement

  -- Several statements, as in a block.
  pub data Statements : Type 0 where
    nil : Statements
    cons : Statement → Statements → Statements

  -- A statement that may be absent.
  pub data OptionalStatement : Type 0 where
    absent : OptionalStatement
    present : Statement → OptionalStatement

-- The statements of a list.
abbrev pub statements : List Statement → Statements
statements [] = nil
statements (s ∷ ss) = cons s (statements ss)

-- The statement of an option.
abbrev pub optional_statement : Option Statement → OptionalStatement
optional_statement None = absent
optional_statement (Some s) = present s

-- One form at its place, with each part's tree in place of the part.
abbrev pub statement_form : StmtKind-F (Span → Statement) Statement → Span → Statement
statement_form StmtKind-F.Empty at = empty at
statement_form (StmtKind-F.Block body) at = block at (statements body)
statement_form (StmtKind-F.Local ty name value) at = local at ty name (option_map expression_of value)
statement_form (StmtKind-F.Set name i value) at = set at name (option_map expression_of i) (expression_of value)
statement_form (StmtKind-F.Eval e) at = evaluate at (expression_of e)
statement_form (StmtKind-F.If c a b) at = if_else at (expression_of c) a (optional_statement b)
statement_form (StmtKind-F.While c body) at = while_loop at (expression_of c) body
statement_form (StmtKind-F.Do body c) at = do_loop at body (expression_of c)
statement_form (StmtKind-F.For first c last body) at =
    for_loop at (optional_statement first) (option_map expression_of c) (optional_statement last) body
statement_form (StmtKind-F.Return value) at = returns at (option_map expression_of value)
statement_form StmtKind-F.Break at = breaks at
statement_form StmtKind-F.Continue at = continues at

-- A form with its place given.
abbrev pub statement_step : Stmt-F (Span → Statement) Statement → Statement
statement_step s = s.kind (record { first = s.first; last = s.last; line = s.line })

-- The plain tree of a statement.
abbrev pub statement_of : Stmt → Statement
statement_of = fold-Stmt (Span → Statement) Statement statement_form statement_step

-- The plain tree of a form that stands at a place.
abbrev pub statement_form_of : StmtKind → Span → Statement
statement_form_of = fold-StmtKind (Span → Statement) Statement statement_form statement_step

-- The plain trees of several statements.
abbrev pub statements_of : List Stmt → Statements
statements_of ss = statements (map statement_of ss)
