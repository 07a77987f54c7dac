-- What a loop reads is what the recursion reads: a statement is its front and what follows it.
use Rattle.std.proofs.Common.{◌≡◌, refl, ◌∙◌, ℕ, suc, Bool, true, false, if◌then◌else◌, Option, Some, None, Ok, Err}
use Rattle.pw_grammar.specs.declared.sort.Sort.{Sort}
use Rattle.pw_grammar.specs.declared.sort.Sort.TheVariants as s
use Rattle.pw_grammar.specs.Statements.{first_line}
use Rattle.pw_grammar.specs.Reading.Steps.{Position, ReadResult, Parser, read_then, pure, sees, next_sort, skip, expect, finish_statement}
use Rattle.pw_grammar.specs.Reading.Expressions.{expression}
use Rattle.pw_grammar.specs.Reading.Statements as r
use Rattle.pw_parse.specs.Steps.Heads as p
use Rattle.pw_parse.specs.declared.control_head.Head.{Head}
use Rattle.pw_parse.specs.declared.control_head.HeadForm.{HeadForm}
use Rattle.pw_parse.specs.declared.control_head.HeadForm.TheVariants as h
use Rattle.pw_parse.specs.declared.control_head.Front.{Front}
use Rattle.pw_parse.specs.declared.control_head.Front.TheVariants as f
use Rattle.pw_tree.specs.declared.expr.Expr.{Expr}
use Rattle.pw_tree.specs.declared.stmt.Stmt.{Stmt}
use Rattle.pw_tree.specs.declared.stmt.StmtKind.{StmtKind}
use Rattle.pw_tree.specs.declared.stmt.StmtKind.TheVariants as k

-- ---- one reader after another

pub then_then : {A B C : Type 0} (o : ReadResult A) (g : A → Parser B) (e : B → Parser C)
    → read_then (read_then o g) e ≡ read_then o (λ a i. read_then (g a i) e)
then_then (Ok q) g e = refl
then_then (Err x) g e = refl

pub same_then : {A B : Type 0} (o : ReadResult A) (g e : A → Parser B) → ((a : A) (i : Position) → g a i ≡ e a i) →
    read_then o g ≡ read_then o e
same_then (Ok q) g e same = same q.0 q.1
same_then (Err x) g e same = refl

-- ---- what follows a front

-- the statement of which this is the front, where statements in it nest as deep as `stmt` reads
abbrev pub follow : Parser Expr → Parser Stmt → Front → Parser Stmt
follow expr stmt (f.Whole y) = pure y
follow expr stmt (f.Head head) = λ i. read_then (stmt i) (p.close expr stmt head)

-- ---- a statement that begins with a head

abbrev some_of : ReadResult HeadForm → ReadResult (Option HeadForm)
some_of q = read_then q (λ form. pure (Some form))

record Begins (expr : Parser Expr) (stmt : Parser Stmt) (n first line : ℕ) (x : Sort) (o : ReadResult StmtKind) (q : ReadResult HeadForm) : Type 0 where
  is : read_then o (finish_statement first line) ≡ read_then (read_then (some_of q) (p.fronted expr stmt n first line x)) (follow expr stmt)

begins : {A : Type 0} (expr : Parser Expr) (stmt : Parser Stmt) (n first line : ℕ) (x : Sort) (o : ReadResult A)
    (g : A → Parser StmtKind) (e : A → Parser HeadForm)
    → ((a : A) (i : Position) → Begins expr stmt n first line x (g a i) (e a i)) → Begins expr stmt n first line x (read_then o g) (read_then o e)
begins expr stmt n first line x (Ok q) g e same = same q.0 q.1
begins expr stmt n first line x (Err _) g e same = record { is = refl }

if_begins : (expr : Parser Expr) (stmt : Parser Stmt) (n first line : ℕ) (x : Sort) (i : Position)
    → Begins expr stmt n first line x (r.conditional expr stmt i) (p.if_head expr i)
unfolding r.conditional p.if_head p.close
if_begins expr stmt n first line x i =
    begins expr stmt n first line x (skip i) _ _ (λ o j. begins expr stmt n first line x (r.test expr j) _ _ (λ a l. record {
      is =
          then_then (stmt l) _ _ ∙ same_then (stmt l) _ _ (λ y m. then_then (r.maybe_else stmt m) _ _);
    }))

while_begins : (expr : Parser Expr) (stmt : Parser Stmt) (n first line : ℕ) (x : Sort) (i : Position)
    → Begins expr stmt n first line x (r.while_loop expr stmt i) (p.while_head expr i)
unfolding r.while_loop p.while_head p.close
while_begins expr stmt n first line x i =
    begins expr stmt n first line x (skip i) _ _ (λ o j. begins expr stmt n first line x (r.test expr j) _ _ (λ a l. record {
      is =
          then_then (stmt l) _ _;
    }))

do_begins : (expr : Parser Expr) (stmt : Parser Stmt) (n first line : ℕ) (x : Sort) (i : Position)
    → Begins expr stmt n first line x (r.do_loop expr stmt i) (p.do_head i)
unfolding r.do_loop p.do_head p.close
do_begins expr stmt n first line x i =
    begins expr stmt n first line x (skip i) _ _ (λ o j. record {
      is =
          then_then (stmt j) _ _ ∙ same_then (stmt j) _ _ (λ y l. then_then (expect s.While l) _ _
          ∙ same_then (expect s.While l) _ _ (λ w m. then_then (r.test expr m) _ _
          ∙ same_then (r.test expr m) _ _ (λ a q. then_then (expect s.Semicolon q) _ _)));
    })

for_begins : (expr : Parser Expr) (stmt : Parser Stmt) (n first line : ℕ) (x : Sort) (i : Position)
    → Begins expr stmt n first line x (r.for_loop expr stmt i) (p.for_head expr i)
unfolding r.for_loop p.for_head p.close
for_begins expr stmt n first line x i =
    begins expr stmt n first line x (skip i) _ _ (λ t i1.
    begins expr stmt n first line x (expect s.LeftParen i1) _ _ (λ o i2.
    begins expr stmt n first line x (r.start expr i2) _ _ (λ start i3.
    begins expr stmt n first line x (r.maybe_before s.Semicolon expr i3) _ _ (λ a i4.
    begins expr stmt n first line x (expect s.Semicolon i4) _ _ (λ e i5.
    begins expr stmt n first line x (r.maybe_before s.RightParen (r.simple_statement expr) i5) _ _ (λ step i6.
    begins expr stmt n first line x (expect s.RightParen i6) _ _ (λ c i7. record { is = then_then (stmt i7) _ _ })))))))

-- ---- every statement

headless : (expr : Parser Expr) (stmt : Parser Stmt) (first line : ℕ) (o : ReadResult StmtKind)
    → read_then o (finish_statement first line) ≡ read_then (read_then o (p.whole first line)) (follow expr stmt)
headless expr stmt first line (Ok q) = refl
headless expr stmt first line (Err e) = refl

front_of_form : (expr : Parser Expr) (stmt : Parser Stmt) (n first line : ℕ) (x : Sort) (i : Position)
    → read_then (r.form_by expr stmt n x i) (finish_statement first line) ≡ read_then (p.front_by expr stmt n first line x i) (follow expr stmt)
unfolding r.some
front_of_form expr stmt n first line s.If i = (if_begins expr stmt n first line s.If i).is
front_of_form expr stmt n first line s.While i = (while_begins expr stmt n first line s.While i).is
front_of_form expr stmt n first line s.Do i = (do_begins expr stmt n first line s.Do i).is
front_of_form expr stmt n first line s.For i = (for_begins expr stmt n first line s.For i).is
front_of_form expr stmt n first line s.Semicolon i = headless expr stmt first line (r.empty i)
front_of_form expr stmt n first line s.LeftBrace i = headless expr stmt first line (r.block expr stmt n i)
front_of_form expr stmt n first line s.Return i = headless expr stmt first line (r.leave expr i)
front_of_form expr stmt n first line s.Break i = headless expr stmt first line (r.jump k.Break i)
front_of_form expr stmt n first line s.Continue i = headless expr stmt first line (r.jump k.Continue i)
front_of_form expr stmt n first line _ i = headless expr stmt first line (r.evaluated expr i)

-- a statement is its front and what follows
pub statement_front : (n : ℕ) (i : Position) → r.statement (suc n) i
    ≡ read_then (p.front (expression (suc n)) (r.statement n) (suc n) i) (follow (expression (suc n)) (r.statement n))
unfolding r.statement r.whole r.form p.front
statement_front n i = front_of_form (expression (suc n)) (r.statement n) (suc n) i.at (first_line i.rest) (next_sort i) i

-- ---- what follows the statement of a head

behind_else : (expr : Parser Expr) (stmt : Parser Stmt) (first line : ℕ) (a : Expr) (y : Stmt) (o : ReadResult ℕ)
    → read_then (read_then o (λ _ j. read_then (stmt j) (λ z. pure (Some z)))) (λ z. finish_statement first line (k.If a y z))
    ≡ read_then (read_then o (λ _. pure (f.Head (record { first = first; line = line; form = h.Else a y })))) (follow expr stmt)
unfolding p.close
behind_else expr stmt first line a y (Ok q) = then_then (stmt q.1) _ _
behind_else expr stmt first line a y (Err e) = refl

maybe_behind : (expr : Parser Expr) (stmt : Parser Stmt) (first line : ℕ) (a : Expr) (y : Stmt) (i : Position) (b : Bool)
    → read_then (if b then r.alternative stmt i else Ok (None, i)) (λ z. finish_statement first line (k.If a y z))
    ≡ read_then (if b then p.else_head first line a y i else p.whole first line (k.If a y None) i) (follow expr stmt)
unfolding r.alternative p.else_head
maybe_behind expr stmt first line a y i true = behind_else expr stmt first line a y (skip i)
maybe_behind expr stmt first line a y i false = refl

-- a statement that ends with its head's statement and more
record Ends (expr : Parser Expr) (stmt : Parser Stmt) (first line : ℕ) (o : ReadResult Stmt) (q : ReadResult StmtKind) : Type 0 where
  is : o ≡ read_then (read_then q (p.whole first line)) (follow expr stmt)

ends : {A : Type 0} (expr : Parser Expr) (stmt : Parser Stmt) (first line : ℕ) (o : ReadResult A) (g : A → Parser Stmt) (e : A → Parser StmtKind)
    → ((a : A) (i : Position) → Ends expr stmt first line (g a i) (e a i)) → Ends expr stmt first line (read_then o g) (read_then o e)
ends expr stmt first line (Ok q) g e same = same q.0 q.1
ends expr stmt first line (Err _) g e same = record { is = refl }

behind_do : (expr : Parser Expr) (stmt : Parser Stmt) (first line : ℕ) (y : Stmt) (i : Position)
    → Ends expr stmt first line (p.close_by expr stmt first line h.Do y i) (p.do_end expr y i)
unfolding p.do_end
behind_do expr stmt first line y i =
    ends expr stmt first line (expect s.While i) _ _ (λ w j.
    ends expr stmt first line (r.test expr j) _ _ (λ a l.
    ends expr stmt first line (expect s.Semicolon l) _ _ (λ e m. record { is = refl })))

closes_by : (expr : Parser Expr) (stmt : Parser Stmt) (first line : ℕ) (form : HeadForm) (y : Stmt) (i : Position)
    → p.close_by expr stmt first line form y i ≡ read_then (p.closed_by expr first line form y i) (follow expr stmt)
unfolding r.maybe_else
closes_by expr stmt first line (h.If a) y i = maybe_behind expr stmt first line a y i (sees s.Else i)
closes_by expr stmt first line (h.Else a b) y i = refl
closes_by expr stmt first line (h.While a) y i = refl
closes_by expr stmt first line h.Do y i = (behind_do expr stmt first line y i).is
closes_by expr stmt first line (h.For x a z) y i = refl

pub closes : (expr : Parser Expr) (stmt : Parser Stmt) (head : Head) (y : Stmt) (i : Position)
    → p.close expr stmt head y i ≡ read_then (p.closed expr head y i) (follow expr stmt)
unfolding p.close p.closed
closes expr stmt head y i = closes_by expr stmt head.first head.line head.form y i
