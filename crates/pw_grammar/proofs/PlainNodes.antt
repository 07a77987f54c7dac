-- The plain trees of nodes, one for each form.
use Rattle.std.proofs.Common.{◌≡◌, ℕ, ◌+◌, ◌-◌, Bool, List, length, Option, ap, ◌∙◌}
use Rattle.std.specs.Option.{option_map}
use Rattle.pw_grammar.specs.Expressions.{node}
use Rattle.pw_grammar.specs.Statements.{statement_node, first_line}
use Rattle.pw_lex.specs.declared.token.Token.{Token}
use Rattle.pw_tree.proofs.PhraseFolds.{form_of-Num, form_of-Word, form_of-Unary, form_of-Binary, form_of-Cond, form_of-Call, form_of-Index, form_of-Input, form_of-Output}
use Rattle.pw_tree.proofs.StatementFolds.{statement_form_of-Empty, statement_form_of-Block, statement_form_of-Local, statement_form_of-Set, statement_form_of-Eval, statement_form_of-If, statement_form_of-While, statement_form_of-Do, statement_form_of-For, statement_form_of-Return, statement_form_of-Break, statement_form_of-Continue}
use Rattle.pw_tree.specs.Expressions.{Span, Expression, constant, word, unary, binary, conditional, call, index, input, output, expression_form, expression_step, expression_of, expression_form_of, expressions_of}
use Rattle.pw_tree.specs.Statements.{Statement, empty, block, local, set, evaluate, if_else, while_loop, do_loop, for_loop, returns, breaks, continues, optional_statement, statement_form, statement_step, statement_of, statement_form_of, statements_of}
use Rattle.pw_tree.specs.declared.operator.Un.{Un}
use Rattle.pw_tree.specs.declared.operator.Bin.{Bin}
use Rattle.pw_tree.specs.declared.expr.Expr.{Expr, fold-roll-Expr}
use Rattle.pw_tree.specs.declared.expr.ExprKind.{ExprKind}
use Rattle.pw_tree.specs.declared.expr.ExprKind.TheVariants as e
use Rattle.pw_tree.specs.declared.ty.Ty.{Ty}
use Rattle.pw_tree.specs.declared.stmt.Stmt.{Stmt, fold-roll-Stmt}
use Rattle.pw_tree.specs.declared.stmt.StmtKind.{StmtKind}
use Rattle.pw_tree.specs.declared.stmt.StmtKind.TheVariants as k

-- ---- expressions

-- where a node stands
abbrev pub place : ℕ → ℕ → Token → Span
place first count t = record { first = first; last = first + count - 1; line = t.line }

phrase_of-node : (first count : ℕ) (t : Token) (kind : ExprKind) →
    expression_of (node first count t kind) ≡ expression_form_of kind (place first count t)
phrase_of-node first count t kind =
    fold-roll-Expr (Span → Expression) Expression expression_form expression_step (record { first = first; last = first + count - 1; line = t.line; kind = kind })

node_is : (first count : ℕ) (t : Token) (kind : ExprKind) (form : Span → Expression) → expression_form_of kind ≡ form
    → expression_of (node first count t kind) ≡ form (place first count t)
node_is first count t kind form is = phrase_of-node first count t kind ∙ ap (λ f. f (place first count t)) is

pub node-Num : (first count : ℕ) (t : Token) (value : ℕ) (unsigned : Bool)
    → expression_of (node first count t (e.Num value unsigned)) ≡ constant (place first count t) value unsigned
node-Num first count t value unsigned = node_is first count t _ _ (form_of-Num value unsigned)

pub node-Word : (first count : ℕ) (t : Token) (name : List ℕ)
    → expression_of (node first count t (e.Word name)) ≡ word (place first count t) name
node-Word first count t name = node_is first count t _ _ (form_of-Word name)

pub node-Unary : (first count : ℕ) (t : Token) (op : Un) (a : Expr)
    → expression_of (node first count t (e.Unary op a)) ≡ unary (place first count t) op (expression_of a)
node-Unary first count t op a = node_is first count t _ _ (form_of-Unary op a)

pub node-Binary : (first count : ℕ) (t : Token) (op : Bin) (a b : Expr)
    → expression_of (node first count t (e.Binary op a b)) ≡ binary (place first count t) op (expression_of a) (expression_of b)
node-Binary first count t op a b = node_is first count t _ _ (form_of-Binary op a b)

pub node-Cond : (first count : ℕ) (t : Token) (c a b : Expr)
    → expression_of (node first count t (e.Cond c a b)) ≡ conditional (place first count t) (expression_of c) (expression_of a) (expression_of b)
node-Cond first count t c a b = node_is first count t _ _ (form_of-Cond c a b)

pub node-Call : (first count : ℕ) (t : Token) (f : Expr) (xs : List Expr)
    → expression_of (node first count t (e.Call f xs)) ≡ call (place first count t) (expression_of f) (expressions_of xs)
node-Call first count t f xs = node_is first count t _ _ (form_of-Call f xs)

pub node-Index : (first count : ℕ) (t : Token) (a i : Expr)
    → expression_of (node first count t (e.Index a i)) ≡ index (place first count t) (expression_of a) (expression_of i)
node-Index first count t a i = node_is first count t _ _ (form_of-Index a i)

pub node-Input : (first count : ℕ) (t : Token) → expression_of (node first count t e.Input) ≡ input (place first count t)
node-Input first count t = node_is first count t _ _ form_of-Input

pub node-Output : (first count : ℕ) (t : Token) (a : Expr)
    → expression_of (node first count t (e.Output a)) ≡ output (place first count t) (expression_of a)
node-Output first count t a = node_is first count t _ _ (form_of-Output a)

-- ---- statements

-- where the node of a statement stands
abbrev pub statement_place : ℕ → List Token → Span
statement_place first tokens = record { first = first; last = first + length tokens - 1; line = first_line tokens }

statement_is : (first : ℕ) (tokens : List Token) (kind : StmtKind) (form : Span → Statement) → statement_form_of kind ≡ form
    → statement_of (statement_node first tokens kind) ≡ form (statement_place first tokens)
statement_is first tokens kind form is =
    fold-roll-Stmt (Span → Statement) Statement statement_form statement_step
    (record { first = first; last = first + length tokens - 1; line = first_line tokens; kind = kind })
    ∙ ap (λ f. f (statement_place first tokens)) is

pub statement-Empty : (at : ℕ) (ts : List Token)
    → statement_of (statement_node at ts k.Empty) ≡ empty (statement_place at ts)
statement-Empty at ts = statement_is at ts _ _ statement_form_of-Empty

pub statement-Block : (at : ℕ) (ts : List Token) (body : List Stmt)
    → statement_of (statement_node at ts (k.Block body)) ≡ block (statement_place at ts) (statements_of body)
statement-Block at ts body = statement_is at ts _ _ (statement_form_of-Block body)

pub statement-Local : (at : ℕ) (ts : List Token) (ty : Ty) (name : List ℕ) (value : Option Expr)
    → statement_of (statement_node at ts (k.Local ty name value)) ≡ local (statement_place at ts) ty name (option_map expression_of value)
statement-Local at ts ty name value = statement_is at ts _ _ (statement_form_of-Local ty name value)

pub statement-Set : (at : ℕ) (ts : List Token) (name : List ℕ) (i : Option Expr) (value : Expr)
    → statement_of (statement_node at ts (k.Set name i value)) ≡ set (statement_place at ts) name (option_map expression_of i) (expression_of value)
statement-Set at ts name i value = statement_is at ts _ _ (statement_form_of-Set name i value)

pub statement-Eval : (at : ℕ) (ts : List Token) (a : Expr)
    → statement_of (statement_node at ts (k.Eval a)) ≡ evaluate (statement_place at ts) (expression_of a)
statement-Eval at ts a = statement_is at ts _ _ (statement_form_of-Eval a)

pub statement-If : (at : ℕ) (ts : List Token) (c : Expr) (a : Stmt) (b : Option Stmt)
    → statement_of (statement_node at ts (k.If c a b)) ≡ if_else (statement_place at ts) (expression_of c) (statement_of a) (optional_statement (option_map statement_of b))
statement-If at ts c a b = statement_is at ts _ _ (statement_form_of-If c a b)

pub statement-While : (at : ℕ) (ts : List Token) (c : Expr) (body : Stmt)
    → statement_of (statement_node at ts (k.While c body)) ≡ while_loop (statement_place at ts) (expression_of c) (statement_of body)
statement-While at ts c body = statement_is at ts _ _ (statement_form_of-While c body)

pub statement-Do : (at : ℕ) (ts : List Token) (body : Stmt) (c : Expr)
    → statement_of (statement_node at ts (k.Do body c)) ≡ do_loop (statement_place at ts) (statement_of body) (expression_of c)
statement-Do at ts body c = statement_is at ts _ _ (statement_form_of-Do body c)

pub statement-For : (at : ℕ) (ts : List Token) (first : Option Stmt) (c : Option Expr) (last : Option Stmt) (body : Stmt)
    → statement_of (statement_node at ts (k.For first c last body)) ≡ for_loop (statement_place at ts) (optional_statement (option_map statement_of first)) (option_map expression_of c) (optional_statement (option_map statement_of last)) (statement_of body)
statement-For at ts first c last body = statement_is at ts _ _ (statement_form_of-For first c last body)

pub statement-Return : (at : ℕ) (ts : List Token) (value : Option Expr)
    → statement_of (statement_node at ts (k.Return value)) ≡ returns (statement_place at ts) (option_map expression_of value)
statement-Return at ts value = statement_is at ts _ _ (statement_form_of-Return value)

pub statement-Break : (at : ℕ) (ts : List Token)
    → statement_of (statement_node at ts k.Break) ≡ breaks (statement_place at ts)
statement-Break at ts = statement_is at ts _ _ statement_form_of-Break

pub statement-Continue : (at : ℕ) (ts : List Token)
    → statement_of (statement_node at ts k.Continue) ≡ continues (statement_place at ts)
statement-Continue at ts = statement_is at ts _ _ statement_form_of-Continue
