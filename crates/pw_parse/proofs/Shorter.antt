-- A front takes a token, and what follows a head gives none back.
use Rattle.std.proofs.Common.{◌≡◌, ◌∙◌, ap, subst, ℕ, suc, ◌-◌, ◌<◌, ◌≤◌, Bool, true, false, if◌then◌else◌, length, Some, None, Ok, Err, arith}
use Rattle.std.specs.Bool.{⊤}
use Rattle.pw_grammar.specs.declared.sort.Sort.{Sort}
use Rattle.pw_grammar.specs.declared.sort.Sort.TheVariants as s
use Rattle.pw_grammar.specs.Statements.{first_line}
use Rattle.pw_grammar.specs.Reading.Steps.{Position, ReadResult, Parser, read_then, pure, sees, next_sort, skip, expect}
use Rattle.pw_grammar.specs.Reading.Expressions.{expression}
use Rattle.pw_grammar.specs.Reading.Statements as r
use Rattle.pw_grammar.proofs.Lawful.{Leaves, leaves_fewer}
use Rattle.pw_grammar.proofs.Tokens.{skip_shrinks, expect_shrinks}
use Rattle.pw_grammar.proofs.Parts.{AnExpression}
use Rattle.pw_grammar.proofs.Pieces.{full_shrinks}
use Rattle.pw_grammar.proofs.LawfulChains.{lawful_expression}
use Rattle.pw_grammar.proofs.LawfulStarts.{AMaybe, lawful_maybe, AStep, lawful_step, AStart, lawful_start}
use Rattle.pw_grammar.proofs.LawfulLoops.{AStatement, full_statement}
use Rattle.pw_grammar.proofs.LawfulStatements.{lawful_statement}
use Rattle.pw_parse.specs.Steps.Heads as p
use Rattle.pw_parse.specs.declared.control_head.Head.{Head}
use Rattle.pw_parse.specs.declared.control_head.HeadForm.{HeadForm}
use Rattle.pw_parse.specs.declared.control_head.HeadForm.TheVariants as h
use Rattle.pw_parse.specs.declared.control_head.Front.{Front}
use Rattle.pw_parse.specs.declared.control_head.Front.TheVariants as f
use Rattle.pw_parse.proofs.Heads.{follow}
use Rattle.pw_parse.proofs.Nesting.{front_at}
use Rattle.pw_tree.specs.declared.expr.Expr.{Expr}
use Rattle.pw_tree.specs.declared.stmt.Stmt.{Stmt}
use Rattle.pw_tree.specs.declared.stmt.StmtKind.{StmtKind}
use Rattle.pw_tree.specs.declared.stmt.StmtKind.TheVariants as k

-- ---- steps leave fewer than m tokens of fewer than m

then_leaves : {A B : Type 0} (m : ℕ) (o : ReadResult A) (g : A → Parser B) → Leaves m o
    → ((a : A) (j : Position) → length j.rest < m → Leaves m (g a j)) → Leaves m (read_then o g)
then_leaves m (Ok q) g left rest = rest q.0 q.1 left
then_leaves m (Err e) g left rest = tt

expect_leaves : (m : ℕ) (x : Sort) (i : Position) → length i.rest < m → Leaves m (expect x i)
expect_leaves m x i short = expect_shrinks m x i (let e : length i.rest < suc m = omega (arith, short) in e)

expression_leaves : (m n : ℕ) (i : Position) → length i.rest < m → Leaves m (expression n i)
expression_leaves m n i short = leaves_fewer (AnExpression 13) i m (expression n i) ((lawful_expression n).says i) short

test_leaves : (m n : ℕ) (i : Position) → length i.rest < m → Leaves m (r.test (expression n) i)
unfolding r.test
test_leaves m n i short = then_leaves m (expect s.LeftParen i) _ (expect_leaves m s.LeftParen i short) (λ o j short1.
    then_leaves m (expression n j) _ (expression_leaves m n j short1) (λ a l short2.
    then_leaves m (expect s.RightParen l) _ (expect_leaves m s.RightParen l short2) (λ c q short3. short3)))

start_leaves : (m n : ℕ) (i : Position) → length i.rest < m → Leaves m (r.start (expression n) i)
start_leaves m n i short = leaves_fewer AStart i m (r.start (expression n) i)
    ((lawful_start n (expression n) (expression (suc n)) (lawful_expression n)).says i) short

condition_leaves : (m n : ℕ) (i : Position) → length i.rest < m → Leaves m (r.maybe_before s.Semicolon (expression n) i)
condition_leaves m n i short = leaves_fewer AMaybe i m (r.maybe_before s.Semicolon (expression n) i)
    ((lawful_maybe n s.Semicolon (expression n) (expression (suc n)) (lawful_expression n)).says i) short

step_leaves : (m n : ℕ) (i : Position) → length i.rest < m →
    Leaves m (r.maybe_before s.RightParen (r.simple_statement (expression n)) i)
step_leaves m n i short = leaves_fewer AStep i m (r.maybe_before s.RightParen (r.simple_statement (expression n)) i)
    ((lawful_step n (expression n) (expression (suc n)) (lawful_expression n)).says i) short

-- ---- a head takes a token

skip_leaves : (i : Position) → Leaves (length i.rest) (skip i)
skip_leaves i = skip_shrinks (length i.rest) i (let e : length i.rest < suc (length i.rest) = omega arith in e)

if_leaves : (n : ℕ) (i : Position) → Leaves (length i.rest) (p.if_head (expression n) i)
unfolding p.if_head
if_leaves n i = then_leaves (length i.rest) (skip i) _ (skip_leaves i) (λ o j short.
    then_leaves (length i.rest) (r.test (expression n) j) _ (test_leaves (length i.rest) n j short) (λ a l short1. short1))

while_leaves : (n : ℕ) (i : Position) → Leaves (length i.rest) (p.while_head (expression n) i)
unfolding p.while_head
while_leaves n i = then_leaves (length i.rest) (skip i) _ (skip_leaves i) (λ o j short.
    then_leaves (length i.rest) (r.test (expression n) j) _ (test_leaves (length i.rest) n j short) (λ a l short1. short1))

do_leaves : (i : Position) → Leaves (length i.rest) (p.do_head i)
unfolding p.do_head
do_leaves i = then_leaves (length i.rest) (skip i) _ (skip_leaves i) (λ o j short. short)

for_leaves : (n : ℕ) (i : Position) → Leaves (length i.rest) (p.for_head (expression n) i)
unfolding p.for_head
for_leaves n i =
    let m = length i.rest in
    then_leaves m (skip i) _ (skip_leaves i) (λ t i1 s1.
    then_leaves m (expect s.LeftParen i1) _ (expect_leaves m s.LeftParen i1 s1) (λ o i2 s2.
    then_leaves m (r.start (expression n) i2) _ (start_leaves m n i2 s2) (λ x i3 s3.
    then_leaves m (r.maybe_before s.Semicolon (expression n) i3) _ (condition_leaves m n i3 s3) (λ a i4 s4.
    then_leaves m (expect s.Semicolon i4) _ (expect_leaves m s.Semicolon i4 s4) (λ e i5 s5.
    then_leaves m (r.maybe_before s.RightParen (r.simple_statement (expression n)) i5) _ (step_leaves m n i5 s5) (λ z i6 s6.
    then_leaves m (expect s.RightParen i6) _ (expect_leaves m s.RightParen i6 s6) (λ c i7 s7. s7)))))))

-- ---- a front takes a token

-- fewer than m tokens are left after a head
abbrev HeadLeaves : ℕ → Front → Position → Type 0
HeadLeaves m (f.Head g) j = length j.rest < m
HeadLeaves m (f.Whole y) j = ⊤

abbrev HeadsLeave : ℕ → ReadResult Front → Type 0
HeadsLeave m (Ok q) = HeadLeaves m q.0 q.1
HeadsLeave m (Err e) = ⊤

headed_leaves : (expr : Parser Expr) (stmt : Parser Stmt) (m n first line : ℕ) (x : Sort) (o : ReadResult HeadForm) → Leaves m o
    → HeadsLeave m (read_then (read_then o (λ form. pure (Some form))) (λ form. p.fronted expr stmt n first line x form))
headed_leaves expr stmt m n first line x (Ok q) left = left
headed_leaves expr stmt m n first line x (Err e) left = tt

headless_leaves : (m first line : ℕ) (o : ReadResult StmtKind) → HeadsLeave m (read_then o (p.whole first line))
headless_leaves m first line (Ok q) = tt
headless_leaves m first line (Err e) = tt

front_leaves : (stmt : Parser Stmt) (n d first line : ℕ) (x : Sort) (i : Position) →
    HeadsLeave (length i.rest) (p.front_by (expression n) stmt d first line x i)
unfolding r.some
front_leaves stmt n d first line s.If i = headed_leaves (expression n) stmt (length i.rest) d first line s.If (p.if_head (expression n) i) (if_leaves n i)
front_leaves stmt n d first line s.While i = headed_leaves (expression n) stmt (length i.rest) d first line s.While (p.while_head (expression n) i) (while_leaves n i)
front_leaves stmt n d first line s.Do i = headed_leaves (expression n) stmt (length i.rest) d first line s.Do (p.do_head i) (do_leaves i)
front_leaves stmt n d first line s.For i = headed_leaves (expression n) stmt (length i.rest) d first line s.For (p.for_head (expression n) i) (for_leaves n i)
front_leaves stmt n d first line s.Semicolon i = headless_leaves (length i.rest) first line (r.empty i)
front_leaves stmt n d first line s.LeftBrace i = headless_leaves (length i.rest) first line (r.block (expression n) stmt d i)
front_leaves stmt n d first line s.Return i = headless_leaves (length i.rest) first line (r.leave (expression n) i)
front_leaves stmt n d first line s.Break i = headless_leaves (length i.rest) first line _
front_leaves stmt n d first line s.Continue i = headless_leaves (length i.rest) first line _
front_leaves stmt n d first line _ i = headless_leaves (length i.rest) first line (r.evaluated (expression n) i)

statement_leaves : (n : ℕ) (i : Position) → Leaves (length i.rest) (r.statement n i)
statement_leaves n i =
    let one : suc (length i.rest) - 1 ≡ length i.rest = omega arith in
    subst (λ m. Leaves m (r.statement n i)) one (full_shrinks (suc (length i.rest)) (AStatement false) (r.statement n) (λ at a x y. full_statement y.phrase y.spells)
    (λ j. (lawful_statement lawful_expression n).says j) i (let e : length i.rest < suc (length i.rest) = omega arith in e))

pub front_shorter : (d : ℕ) (i : Position) (x : Front) (j : Position) → 0 < d →
    p.front (expression d) (r.statement (d - 1)) d i ≡ Ok (x, j) → length j.rest < length i.rest
unfolding p.front
front_shorter d i (f.Head g) j some is = subst (λ o. HeadsLeave (length i.rest) o) is
    (front_leaves (r.statement (d - 1)) d d i.at (first_line i.rest) (next_sort i) i)
front_shorter d i (f.Whole y) j some is = subst (λ o. Leaves (length i.rest) o)
    (front_at d i some ∙ ap (λ o. read_then o (follow (expression d) (r.statement (d - 1)))) is) (statement_leaves d i)

-- ---- after a head's statement

-- after the whole there are no more tokens, and after `else` fewer
abbrev Behind : ℕ → Front → Position → Type 0
Behind m (f.Head g) j = length j.rest < m
Behind m (f.Whole y) j = length j.rest ≤ m

abbrev Behinds : ℕ → ReadResult Front → Type 0
Behinds m (Ok q) = Behind m q.0 q.1
Behinds m (Err e) = ⊤

else_leaves : (m first line : ℕ) (a : Expr) (y : Stmt) (o : ReadResult ℕ) → Leaves m o
    → Behinds m (read_then o (λ _. pure (f.Head (record { first = first; line = line; form = h.Else a y }))))
else_leaves m first line a y (Ok q) left = left
else_leaves m first line a y (Err e) left = tt

if_end_leaves : (first line : ℕ) (a : Expr) (y : Stmt) (kind : StmtKind) (i : Position) (b : Bool)
    → Behinds (length i.rest) (if b then p.else_head first line a y i else p.whole first line kind i)
unfolding p.else_head
if_end_leaves first line a y kind i true = else_leaves (length i.rest) first line a y (skip i) (skip_leaves i)
if_end_leaves first line a y kind i false = omega arith

do_end_leaves : (m n : ℕ) (y : Stmt) (i : Position) → length i.rest < m → Leaves m (p.do_end (expression n) y i)
unfolding p.do_end
do_end_leaves m n y i short = then_leaves m (expect s.While i) _ (expect_leaves m s.While i short) (λ w j short1.
    then_leaves m (r.test (expression n) j) _ (test_leaves m n j short1) (λ a l short2.
    then_leaves m (expect s.Semicolon l) _ (expect_leaves m s.Semicolon l short2) (λ e q short3. short3)))

done_leaves : (m first line : ℕ) (o : ReadResult StmtKind) → Leaves (suc m) o → Behinds m (read_then o (p.whole first line))
done_leaves m first line (Ok q) left = omega (arith, left)
done_leaves m first line (Err e) left = tt

closed_leaves : (n first line : ℕ) (form : HeadForm) (y : Stmt) (i : Position) →
    Behinds (length i.rest) (p.closed_by (expression n) first line form y i)
closed_leaves n first line (h.If a) y i = if_end_leaves first line a y (k.If a y None) i (sees s.Else i)
closed_leaves n first line (h.Else a b) y i = omega arith
closed_leaves n first line (h.While a) y i = omega arith
closed_leaves n first line h.Do y i = done_leaves (length i.rest) first line (p.do_end (expression n) y i)
    (do_end_leaves (suc (length i.rest)) n y i (let e : length i.rest < suc (length i.rest) = omega arith in e))
closed_leaves n first line (h.For x a z) y i = omega arith

closed_at : (n : ℕ) (g : Head) (y : Stmt) (i : Position) (o : ReadResult Front) → p.closed (expression n) g y i ≡ o →
    Behinds (length i.rest) o
unfolding p.closed
closed_at n g y i o is = subst (λ o. Behinds (length i.rest) o) is (closed_leaves n g.first g.line g.form y i)

pub whole_no_longer : (n : ℕ) (g : Head) (y : Stmt) (i : Position) (z : Stmt) (j : Position) →
    p.closed (expression n) g y i ≡ Ok (f.Whole z, j) → length j.rest ≤ length i.rest
whole_no_longer n g y i z j is = closed_at n g y i (Ok (f.Whole z, j)) is

pub else_shorter : (n : ℕ) (g : Head) (y : Stmt) (i : Position) (h : Head) (j : Position) →
    p.closed (expression n) g y i ≡ Ok (f.Head h, j) → length j.rest < length i.rest
else_shorter n g y i h j is = closed_at n g y i (Ok (f.Head h, j)) is
