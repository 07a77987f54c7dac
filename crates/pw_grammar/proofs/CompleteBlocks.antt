-- Every statement is read, and so is what stands in a block.
use Rattle.std.proofs.Common.{◌≡◌, ◌≢◌, refl, sym, ◌∙◌, ap, subst, ℕ, zero, suc, ◌+◌, ◌<◌, List, [], ◌∷◌, ◌++◌, length, Ok, Bool, true, false, if◌then◌else◌, inl, inr, arith}
use Rattle.std.proofs.lemmas.List.{append_assoc, append-nil, length-append}
use Rattle.pw_grammar.specs.declared.sort.Sort.{Sort}
use Rattle.pw_grammar.specs.declared.sort.Sort.TheVariants as s
use Rattle.pw_grammar.specs.Terminals.{sort, first_sort, is_same}
use Rattle.pw_grammar.specs.Expressions.{spelled}
use Rattle.pw_grammar.specs.Statements as st
use Rattle.pw_grammar.specs.Statements.{StatementDerivation, StatementDerivations, empty, block, declare, simple, if_only, if_else, while_do, do_while, for_do, leave, jump, nil, cons, spelled_statement, spelled_statements, IsStatement, AreStatements, open_ended, kind_of, tree_of_statement, trees_of_statements, spelled_simple, spelled_local, jump_of}
use Rattle.pw_grammar.specs.Reading.Steps.{Position, Parser, ◌>>=◌, pure, next_sort}
use Rattle.pw_grammar.specs.Reading.Expressions.{expression}
use Rattle.pw_grammar.specs.Reading.Statements as r
use Rattle.pw_grammar.proofs.CompleteTokens.{spot, then_, counted, done, valued, step_skip, step_expect, either_this, either_other, parted, told_apart, line_of_front, fits, node_is, ReadsExpressions}
use Rattle.pw_grammar.proofs.CompleteTypes.{reads_local, local_begins}
use Rattle.pw_grammar.proofs.Lengths.{statement_length}
use Rattle.pw_grammar.proofs.CompleteStarts.{starts_expression, simple_starts, starts_statement, statement_too, begins_no_type, form_of_expression}
use Rattle.pw_grammar.proofs.CompleteStatements.{no_other, ReadsPart, reads_while, reads_if_only, reads_if_else, reads_do}
use Rattle.pw_grammar.proofs.CompleteLoops.{reads_for, reads_return, reads_jump, reads_empty, reads_evaluated}
use Rattle.pw_tree.specs.declared.expr.Expr.{Expr}
use Rattle.pw_tree.specs.declared.stmt.Stmt.{Stmt}
use Rattle.pw_tree.specs.declared.stmt.StmtKind.{StmtKind}
use Rattle.pw_tree.specs.declared.stmt.StmtKind.TheVariants as k
use Rattle.pw_lex.specs.declared.token.Token.{Token}

-- ---- how statements begin

never : {A : Type 0} → false ≡ true → A
never e = cc

pub statement_starts : (y : StatementDerivation) (ts : List Token) → IsStatement false y →
    starts_statement (first_sort (spelled_statement y ++ ts)) ≡ true
unfolding spelled_statement IsStatement
statement_starts (empty e) ts is = ap starts_statement is
statement_starts (block o body c) ts is = ap starts_statement is.0
statement_starts (declare l) ts is = never is.0
statement_starts (simple a e) ts is =
    subst (λ v. starts_statement (first_sort v) ≡ true) (sym (append_assoc (spelled_simple a) (e ∷ []) ts)) (statement_too _ (simple_starts a (e ∷ ts) is.0))
statement_starts (if_only t o a c y) ts is = ap starts_statement is.0
statement_starts (if_else t o a c y e z) ts is = ap starts_statement is.0
statement_starts (while_do t o a c y) ts is = ap starts_statement is.0
statement_starts (do_while t y w o a c e) ts is = ap starts_statement is.0
statement_starts (for_do t o start a e step c y) ts is = ap starts_statement is.0
statement_starts (leave t a e) ts is = ap starts_statement is.0
statement_starts (jump t e) ts (inl is, is_e) = ap starts_statement is
statement_starts (jump t e) ts (inr is, is_e) = ap starts_statement is

-- what stands in a block is a local's declaration or a statement
pub data Kind (y : StatementDerivation) : Type 0 where
  a_local : (l : st.LocalDerivation) → y ≡ declare l → st.IsLocal l → Kind y
  a_statement : IsStatement false y → Kind y

pub kind_is : (y : StatementDerivation) → IsStatement true y → Kind y
unfolding IsStatement
kind_is (declare l) is = a_local l refl is.1
kind_is y is = a_statement is

-- no element of a block begins so
pub element_no : (y : StatementDerivation) (x : Sort) (ts : List Token) → starts_statement x ≡ false → r.begins_type x ≡ false →
    Kind y → first_sort (spelled_statement y ++ ts) ≢ x
unfolding spelled_statement
element_no y x ts e f (a_statement is) = told_apart starts_statement (statement_starts y ts is) e
element_no y x ts e f (a_local l same is) =
    subst (λ y. first_sort (spelled_statement y ++ ts) ≢ x) (sym same) (told_apart r.begins_type (local_begins l ts is) f)

no_type_else : r.begins_type s.Else ≡ false
unfolding r.begins_type is_same
no_type_else = refl

no_type_brace : r.begins_type s.RightBrace ≡ false
unfolding r.begins_type is_same
no_type_brace = refl

-- ---- the elements of a block

reads_one : (n : ℕ) (expr : Parser Expr) (stmt : Parser Stmt) → ReadsExpressions n expr →
    (y : StatementDerivation) (at : ℕ) (ts : List Token) → Kind y
    → length (spelled_statement y ++ ts) < n → (IsStatement false y → ReadsPart stmt y at ts)
    → r.element expr stmt (spot at (spelled_statement y ++ ts)) ≡ Ok (tree_of_statement at y, spot (at + length (spelled_statement y)) ts)
unfolding r.element spelled_statement kind_of
reads_one n expr stmt reads y at ts (a_statement is) short part =
    ap (λ b. if b then r.local expr (spot at (spelled_statement y ++ ts)) else stmt (spot at (spelled_statement y ++ ts))) (begins_no_type _ (statement_starts y ts is))
    ∙ part is
reads_one n expr stmt reads y at ts (a_local l same is) short part =
    subst (λ y. r.element expr stmt (spot at (spelled_statement y ++ ts)) ≡ Ok (tree_of_statement at y, spot (at + length (spelled_statement y)) ts)) (sym same)
    (ap (λ b. if b then r.local expr (spot at (spelled_local l ++ ts)) else stmt (spot at (spelled_local l ++ ts))) (local_begins l ts is)
    ∙ reads_local n expr reads l at ts is (subst (λ y. length (spelled_statement y ++ ts) < n) same short))

no_elements : (expr : Parser Expr) (stmt : Parser Stmt) (turns : ℕ) (found : List Stmt) (i : Position) →
    next_sort i ≡ s.RightBrace
    → r.elements expr stmt turns found i ≡ Ok (found, i)
unfolding r.elements
no_elements expr stmt zero found i is = refl
no_elements expr stmt (suc turns) found i is =
    either_this s.RightBrace (pure found) (r.element expr stmt >>= (λ y. r.elements expr stmt turns (found ++ y ∷ []))) i is

one_element : (expr : Parser Expr) (stmt : Parser Stmt) (turns : ℕ) (found : List Stmt) (i j : Position) (y : Stmt) →
    next_sort i ≢ s.RightBrace
    → r.element expr stmt i ≡ Ok (y, j)
    → r.elements expr stmt (suc turns) found i ≡ r.elements expr stmt turns (found ++ y ∷ []) j
unfolding r.elements
one_element expr stmt turns found i j y other reads =
    either_other s.RightBrace (pure found) (r.element expr stmt >>= (λ y. r.elements expr stmt turns (found ++ y ∷ []))) i other
    ∙ then_ (λ y. r.elements expr stmt turns (found ++ y ∷ [])) reads refl

-- the reader reads these tokens as the elements of a block
abbrev pub ReadsElements : Parser Expr → Parser Stmt → ℕ → StatementDerivations → ℕ → List Token → Type 0
ReadsElements expr stmt turns ys at ts = (found : List Stmt) →
    r.elements expr stmt turns found (spot at (spelled_statements ys ++ ts)) ≡ Ok (found ++ trees_of_statements at ys, spot (at + length (spelled_statements ys)) ts)

elements_nil : (expr : Parser Expr) (stmt : Parser Stmt) (turns at : ℕ) (ts : List Token) → first_sort ts ≡ s.RightBrace →
    ReadsElements expr stmt turns nil at ts
unfolding spelled_statements trees_of_statements
elements_nil expr stmt turns at ts is = λ found.
    valued (found ++ []) (counted (at + 0) (no_elements expr stmt turns found (spot at ts) is) (omega arith)) (sym (append-nil found))

elements_cons : (n : ℕ) (expr : Parser Expr) (stmt : Parser Stmt) → ReadsExpressions n expr →
    (turns : ℕ) (y : StatementDerivation) (ys : StatementDerivations) (at : ℕ) (ts : List Token)
    → Kind y
    → length (spelled_statements (cons y ys) ++ ts) < n → (IsStatement false y → ReadsPart stmt y at (spelled_statements ys ++ ts))
    → ReadsElements expr stmt turns ys (at + length (spelled_statement y)) ts → ReadsElements expr stmt (suc turns) (cons y ys) at ts
unfolding spelled_statements trees_of_statements
elements_cons n expr stmt reads turns y ys at ts kind short part rest = λ found.
    let parts : (spelled_statement y ++ spelled_statements ys) ++ ts ≡ spelled_statement y ++ (spelled_statements ys ++ ts) =
    append_assoc (spelled_statement y) (spelled_statements ys) ts in
    parted (r.elements expr stmt (suc turns) found) at parts
    (one_element expr stmt turns found (spot at (spelled_statement y ++ (spelled_statements ys ++ ts)))
    (spot (at + length (spelled_statement y)) (spelled_statements ys ++ ts))
    (tree_of_statement at y) (element_no y s.RightBrace (spelled_statements ys ++ ts) refl no_type_brace kind)
    (reads_one n expr stmt reads y at (spelled_statements ys ++ ts) kind (fits _ _ n parts short) part)
    ∙ valued _ (counted _ (rest (found ++ tree_of_statement at y ∷ [])) (omega (arith, length-append (spelled_statement y) (spelled_statements ys))))
    (append_assoc found (tree_of_statement at y ∷ []) (trees_of_statements (at + length (spelled_statement y)) ys)))

-- after the elements that are left, and before their end, there is no `else`
rest_no : (ys : StatementDerivations) (ts : List Token) → AreStatements ys → first_sort ts ≡ s.RightBrace →
    first_sort (spelled_statements ys ++ ts) ≢ s.Else
unfolding spelled_statements AreStatements
rest_no nil ts is end = no_other end (λ p. cc)
rest_no (cons y ys) ts is end = subst (λ v. first_sort v ≢ s.Else) (sym (append_assoc (spelled_statement y) (spelled_statements ys) ts))
    (element_no y s.Else (spelled_statements ys ++ ts) refl no_type_else (kind_is y is.0))

reads_block :
    (expr : Parser Expr) (stmt : Parser Stmt) (n at : ℕ) (o : Token) (ys : StatementDerivations) (c : Token) (ts : List Token) →
    sort c ≡ s.RightBrace
    → ReadsElements expr stmt n ys (suc at) (c ∷ ts)
    → r.block expr stmt n (spot at (spelled_statement (block o ys c) ++ ts)) ≡ Ok (kind_of at (block o ys c), spot (at + length (spelled_statement (block o ys c))) ts)
unfolding r.block spelled_statement kind_of
reads_block expr stmt n at o ys c ts is_c elements =
    parted (r.block expr stmt n) at (ap (λ u. o ∷ u) (append_assoc (spelled_statements ys) (c ∷ []) ts))
    (then_ _ (step_skip at o _)
    (then_ _ (elements [])
    (then_ _ (step_expect s.RightBrace (suc at + length (spelled_statements ys)) c ts is_c)
    (done _ _ ts (omega (arith, length-append (spelled_statements ys) (c ∷ [])))))))

-- ---- any statement

reads_whole :
    (expr : Parser Expr) (stmt : Parser Stmt) (n : ℕ) (y : StatementDerivation) (at : ℕ) (ts : List Token) (x : Sort) →
    IsStatement false y
    → first_sort (spelled_statement y ++ ts) ≡ x
    → r.form_by expr stmt n x (spot at (spelled_statement y ++ ts)) ≡ Ok (kind_of at y, spot (at + length (spelled_statement y)) ts)
    → r.whole expr stmt n (spot at (spelled_statement y ++ ts)) ≡ Ok (tree_of_statement at y, spot (at + length (spelled_statement y)) ts)
unfolding r.whole r.form
reads_whole expr stmt n y at ts x is begins reads =
    then_ _ (ap (λ x. r.form_by expr stmt n x (spot at (spelled_statement y ++ ts))) begins ∙ reads)
    (node_is at _ _ _ _ (spelled_statement y) ts refl refl (line_of_front (spelled_statement y) ts (statement_length y)))

tested_fits : (t o : Token) (v : List Token) (c : Token) (w ts : List Token) (n : ℕ) →
    length ((t ∷ o ∷ (v ++ c ∷ w)) ++ ts) < suc n → length (w ++ ts) < n
tested_fits t o v c w ts n short = omega (arith, length-append (v ++ c ∷ w) ts, length-append v (c ∷ w), length-append w ts)

else_fits : (t o : Token) (v : List Token) (c : Token) (w : List Token) (e : Token) (z ts : List Token) (n : ℕ)
    → length ((t ∷ o ∷ (v ++ c ∷ (w ++ e ∷ z))) ++ ts) < suc n → (length (w ++ e ∷ (z ++ ts)) < n) × (length (z ++ ts) < n)
else_fits t o v c w e z ts n short =
    let count1 = length-append (v ++ c ∷ (w ++ e ∷ z)) ts in
    let count2 = length-append v (c ∷ (w ++ e ∷ z)) in
    let count3 = length-append w (e ∷ z) in
    let count4 = length-append w (e ∷ (z ++ ts)) in
    let count5 = length-append z ts in
    (omega arith, omega arith)

do_fits : (t : Token) (v : List Token) (w o : Token) (x : List Token) (c e : Token) (ts : List Token) (n : ℕ)
    → length ((t ∷ (v ++ w ∷ o ∷ (x ++ c ∷ e ∷ []))) ++ ts) < suc n → length (v ++ w ∷ o ∷ (x ++ c ∷ e ∷ ts)) < n
do_fits t v w o x c e ts n short = omega (
  arith,
  length-append (v ++ w ∷ o ∷ (x ++ c ∷ e ∷ [])) ts,
  length-append v (w ∷ o ∷ (x ++ c ∷ e ∷ [])),
  length-append x (c ∷ e ∷ []),
  length-append v (w ∷ o ∷ (x ++ c ∷ e ∷ ts)),
  length-append x (c ∷ e ∷ ts),
)

head_fits : (t o : Token) (u v : List Token) (e : Token) (w : List Token) (c : Token) (x ts : List Token) (n : ℕ)
    → length ((t ∷ o ∷ (u ++ (v ++ e ∷ (w ++ c ∷ x)))) ++ ts) < suc n → length (x ++ ts) < n
head_fits t o u v e w c x ts n short = omega (
  arith,
  length-append (u ++ (v ++ e ∷ (w ++ c ∷ x))) ts,
  length-append u (v ++ e ∷ (w ++ c ∷ x)),
  length-append v (e ∷ (w ++ c ∷ x)),
  length-append w (c ∷ x),
  length-append x ts,
)

block_fits : (o : Token) (v : List Token) (c : Token) (ts : List Token) (n : ℕ) → length ((o ∷ (v ++ c ∷ [])) ++ ts) < suc n →
    length (v ++ c ∷ ts) < n
block_fits o v c ts n short = omega (arith, length-append (v ++ c ∷ []) ts, length-append v (c ∷ []), length-append v (c ∷ ts))

-- the tokens of the statements of a block, each of which has one at least
cons_fits : (u v ts : List Token) (n : ℕ) → 0 < length u → length ((u ++ v) ++ ts) < suc n → length (v ++ ts) < n
cons_fits u v ts n some short = omega (arith, length-append (u ++ v) ts, length-append u v, length-append v ts)

one_fits : (u v ts : List Token) (n : ℕ) → length ((u ++ v) ++ ts) < n → length (u ++ (v ++ ts)) < n
one_fits u v ts n short = fits _ _ n (append_assoc u v ts) short

rest_fits : (u v ts : List Token) (n : ℕ) → length ((u ++ v) ++ ts) < n → length (v ++ ts) < n
rest_fits u v ts n short = omega (arith, length-append (u ++ v) ts, length-append u v, length-append v ts)

one_more : (ts : List Token) (n : ℕ) → length ts < n → length ts < suc n
one_more ts n short = omega arith

while_no_else : (x : Sort) → x ≡ s.While → x ≢ s.Else
while_no_else x e = no_other e (λ p. cc)

simple_begins : (a : st.SimpleDerivation) (x : Token) (ts : List Token) → st.IsSimple a →
    starts_expression (first_sort ((spelled_simple a ++ x ∷ []) ++ ts)) ≡ true
simple_begins a x ts is = subst (λ v. starts_expression (first_sort v) ≡ true) (sym (append_assoc (spelled_simple a) (x ∷ []) ts)) (simple_starts a (x ∷ ts) is)

false_no_true : {A : Type 0} (b : Bool) → b ≡ false → b ≡ true → A
false_no_true b e f = cc

-- a jump's form, by its first token
jump_is : (at : ℕ) (t x : Token) (ts : List Token) (kind : StmtKind) → jump_of (sort t) ≡ kind → sort x ≡ s.Semicolon
    → r.jump kind (spot at (t ∷ x ∷ ts)) ≡ Ok (jump_of (sort t), spot (at + length (t ∷ x ∷ [])) ts)
jump_is at t x ts kind is is_x = valued (jump_of (sort t)) (reads_jump kind at t x ts is_x) (sym is)

mutual
  unfolding r.statement spelled_statement spelled_statements IsStatement AreStatements open_ended kind_of

  pub reads_statement : ((m : ℕ) → ReadsExpressions m (expression m)) →
      (n : ℕ) (y : StatementDerivation) (at : ℕ) (ts : List Token) → IsStatement false y
      → (open_ended y ≡ true → first_sort ts ≢ s.Else) → length (spelled_statement y ++ ts) < n → ReadsPart (r.statement n) y at ts
  reads_statement e zero y at ts is other short = absurd (omega arith)
  reads_statement e (suc n) (empty x) at ts is other short =
      reads_whole (expression (suc n)) (r.statement n) (suc n) (empty x) at ts s.Semicolon is is (reads_empty at x ts)
  reads_statement e (suc n) (block o ys c) at ts is other short =
      reads_whole (expression (suc n)) (r.statement n) (suc n) (block o ys c) at ts s.LeftBrace is is.0
      (reads_block (expression (suc n)) (r.statement n) (suc n) at o ys c ts is.2
      (reads_statements e (suc n) n (suc n) ys (suc at) (c ∷ ts) is.1 is.2 (block_fits o (spelled_statements ys) c ts n short)
      (one_more _ n (block_fits o (spelled_statements ys) c ts n short)) (one_more _ n (block_fits o (spelled_statements ys) c ts n short))))
  reads_statement e (suc n) (declare l) at ts is other short = never is.0
  reads_statement e (suc n) (simple a x) at ts is other short =
      reads_whole (expression (suc n)) (r.statement n) (suc n) (simple a x) at ts _ is refl
      (ap (λ p. p (spot at ((spelled_simple a ++ x ∷ []) ++ ts))) (form_of_expression (expression (suc n)) (r.statement n) (suc n) _ (simple_begins a x ts is.0))
      ∙ reads_evaluated (suc n) (expression (suc n)) (e (suc n)) at a x ts is.0 is.1 short)
  reads_statement e (suc n) (if_only t o a c y) at ts is other short =
      reads_whole (expression (suc n)) (r.statement n) (suc n) (if_only t o a c y) at ts s.If is is.0
      (reads_if_only (suc n) (expression (suc n)) (r.statement n) (e (suc n)) at t o a c y ts is.1 is.2 is.3 (other refl) short
      (reads_statement e n y (st.after_test at a) ts is.4 (λ p. other refl) (tested_fits t o (spelled a) c (spelled_statement y) ts n short)))
  reads_statement e (suc n) (if_else t o a c y x z) at ts is other short =
      reads_whole (expression (suc n)) (r.statement n) (suc n) (if_else t o a c y x z) at ts s.If is is.0
      (reads_if_else (suc n) (expression (suc n)) (r.statement n) (e (suc n)) at t o a c y x z ts is.1 is.2 is.3 is.6 short
      (reads_statement e n y (st.after_test at a) (x ∷ (spelled_statement z ++ ts)) is.4 (λ p. false_no_true (open_ended y) is.5 p)
      (else_fits t o (spelled a) c (spelled_statement y) x (spelled_statement z) ts n short).0)
      (reads_statement e n z (st.after_part (st.after_test at a) y) ts is.7 other
      (else_fits t o (spelled a) c (spelled_statement y) x (spelled_statement z) ts n short).1))
  reads_statement e (suc n) (while_do t o a c y) at ts is other short =
      reads_whole (expression (suc n)) (r.statement n) (suc n) (while_do t o a c y) at ts s.While is is.0
      (reads_while (suc n) (expression (suc n)) (r.statement n) (e (suc n)) at t o a c y ts is.1 is.2 is.3 short
      (reads_statement e n y (st.after_test at a) ts is.4 other (tested_fits t o (spelled a) c (spelled_statement y) ts n short)))
  reads_statement e (suc n) (do_while t y w o a c x) at ts is other short =
      reads_whole (expression (suc n)) (r.statement n) (suc n) (do_while t y w o a c x) at ts s.Do is is.0
      (reads_do (suc n) (expression (suc n)) (r.statement n) (e (suc n)) at t y w o a c x ts is.2 is.3 is.4 is.5 is.6 short
      (reads_statement e n y (suc at) (w ∷ o ∷ (spelled a ++ c ∷ x ∷ ts)) is.1 (λ p. while_no_else (sort w) is.2)
      (do_fits t (spelled_statement y) w o (spelled a) c x ts n short)))
  reads_statement e (suc n) (for_do t o start a x step c y) at ts is other short =
      reads_whole (expression (suc n)) (r.statement n) (suc n) (for_do t o start a x step c y) at ts s.For is is.0
      (reads_for (suc n) (expression (suc n)) (r.statement n) (e (suc n)) at t o start a x step c y ts is.1 is.2 is.3 is.4 is.5 is.6 short
      (reads_statement e n y (st.after_head at start a step) ts is.7 other
      (head_fits t o (st.spelled_start start) (st.spelled_maybe a) x (st.spelled_step step) c (spelled_statement y) ts n short)))
  reads_statement e (suc n) (leave t a x) at ts is other short =
      reads_whole (expression (suc n)) (r.statement n) (suc n) (leave t a x) at ts s.Return is is.0
      (reads_return (suc n) (expression (suc n)) (e (suc n)) at t a x ts is.1 is.2 short)
  reads_statement e (suc n) (jump t x) at ts (inl is, is_x) other short =
      reads_whole (expression (suc n)) (r.statement n) (suc n) (jump t x) at ts s.Break (inl is, is_x) is (jump_is at t x ts k.Break (ap jump_of is) is_x)
  reads_statement e (suc n) (jump t x) at ts (inr is, is_x) other short =
      reads_whole (expression (suc n)) (r.statement n) (suc n) (jump t x) at ts s.Continue (inr is, is_x) is (jump_is at t x ts k.Continue (ap jump_of is) is_x)

  -- with numbers of an expression, of a statement and of turns
  pub reads_statements : ((m : ℕ) → ReadsExpressions m (expression m)) →
      (m n turns : ℕ) (ys : StatementDerivations) (at : ℕ) (ts : List Token) → AreStatements ys
      → first_sort ts ≡ s.RightBrace → length (spelled_statements ys ++ ts) < n → length (spelled_statements ys ++ ts) < m → length (spelled_statements ys ++ ts) < turns
      → ReadsElements (expression m) (r.statement n) turns ys at ts
  reads_statements e m n turns nil at ts are end short short1 short2 = elements_nil (expression m) (r.statement n) turns at ts end
  reads_statements e m n zero (cons y ys) at ts are end short short1 short2 = absurd (omega arith)
  reads_statements e m n (suc turns) (cons y ys) at ts are end short short1 short2 =
      elements_cons m (expression m) (r.statement n) (e m) turns y ys at ts (kind_is y are.0) short1
      (λ is. reads_statement e n y at (spelled_statements ys ++ ts) is (λ p. rest_no ys ts are.1 end) (one_fits (spelled_statement y) (spelled_statements ys) ts n short))
      (reads_statements e m n turns ys (at + length (spelled_statement y)) ts are.1 end
      (rest_fits (spelled_statement y) (spelled_statements ys) ts n short) (rest_fits (spelled_statement y) (spelled_statements ys) ts m short1)
      (cons_fits (spelled_statement y) (spelled_statements ys) ts turns (statement_length y) short2))
