-- A `for`, a jump and an expression statement are read, each where its parts are.
use Rattle.std.proofs.Common.{◌≡◌, ◌≢◌, refl, ◌∙◌, ap, ℕ, suc, ◌+◌, ◌<◌, List, [], ◌∷◌, ◌++◌, length, Ok, Bool, true, false, if◌then◌else◌, Option, Some, None, arith}
use Rattle.std.proofs.lemmas.List.{append_assoc, length-append}
use Rattle.pw_grammar.specs.declared.sort.Sort.{Sort}
use Rattle.pw_grammar.specs.declared.sort.Sort.TheVariants as s
use Rattle.pw_grammar.specs.Terminals.{sort, first_sort}
use Rattle.pw_grammar.specs.Expressions.{ExpressionDerivation, spelled}
use Rattle.pw_grammar.specs.Statements as st
use Rattle.pw_grammar.specs.Statements.{SimpleDerivation, spelled_simple, IsSimple, ForStartDerivation, no_start, local_start, simple_start, spelled_start, IsStart, tree_of_start, spelled_maybe, IsMaybe, tree_of_maybe, spelled_step, IsStep, tree_of_step, spelled_local}
use Rattle.pw_grammar.specs.Reading.Steps.{Position, Parser, pure, next_sort}
use Rattle.pw_grammar.specs.Reading.Statements as r
use Rattle.pw_grammar.proofs.CompleteEnds.{ends_expression}
use Rattle.pw_grammar.proofs.CompleteTokens.{spot, then_, done, step_skip, step_expect, sees_it, sees_other, either_this, either_other, parted, told_apart, fits, ReadsExpressions}
use Rattle.pw_grammar.proofs.CompleteTypes.{reads_local, local_begins, no_type_is}
use Rattle.pw_grammar.proofs.CompleteStarts.{starts_expression, phrase_starts, simple_starts, statement_too, begins_no_type}
use Rattle.pw_grammar.proofs.CompleteSimple.{reads_simple, reads_simple_statement}
use Rattle.pw_grammar.proofs.CompleteStatements.{no_other, ReadsPart}
use Rattle.pw_tree.specs.declared.expr.Expr.{Expr}
use Rattle.pw_tree.specs.declared.stmt.Stmt.{Stmt}
use Rattle.pw_tree.specs.declared.stmt.StmtKind.{StmtKind}
use Rattle.pw_tree.specs.declared.stmt.StmtKind.TheVariants as k
use Rattle.pw_lex.specs.declared.token.Token.{Token}

-- ---- what may be left out

pub reads_maybe : (n : ℕ) (expr : Parser Expr) → ReadsExpressions n expr →
    (a : Option ExpressionDerivation) (at : ℕ) (ts : List Token) → IsMaybe a → first_sort ts ≡ s.Semicolon
    → length (spelled_maybe a ++ ts) < n → r.maybe_before s.Semicolon expr (spot at (spelled_maybe a ++ ts))
    ≡ Ok (tree_of_maybe at a, spot (at + length (spelled_maybe a)) ts)
unfolding r.maybe_before r.some
reads_maybe n expr reads None at ts is ends short = either_this s.Semicolon (pure None) (r.some expr) (spot at ts) ends ∙ done None _ ts (omega arith)
reads_maybe n expr reads (Some a) at ts is ends short =
    either_other s.Semicolon (pure None) (r.some expr) (spot at (spelled a ++ ts)) (told_apart starts_expression (phrase_starts 13 a ts is) refl)
    ∙ then_ _ (reads.reads a at ts is (ap ends_expression ends) short) refl

not_assign : (x : Sort) → x ≡ s.RightParen → x ≢ s.Assign
not_assign x e = no_other e (λ p. cc)

pub reads_step : (n : ℕ) (expr : Parser Expr) → ReadsExpressions n expr →
    (a : Option SimpleDerivation) (at : ℕ) (ts : List Token) → IsStep a → first_sort ts ≡ s.RightParen
    → length (spelled_step a ++ ts) < n
    → r.maybe_before s.RightParen (r.simple_statement expr) (spot at (spelled_step a ++ ts)) ≡ Ok (tree_of_step at a, spot (at + length (spelled_step a)) ts)
unfolding r.maybe_before r.some
reads_step n expr reads None at ts is ends short =
    either_this s.RightParen (pure None) (r.some (r.simple_statement expr)) (spot at ts) ends ∙ done None _ ts (omega arith)
reads_step n expr reads (Some a) at ts is ends short =
    either_other s.RightParen (pure None) (r.some (r.simple_statement expr)) (spot at (spelled_simple a ++ ts))
    (told_apart starts_expression (simple_starts a ts is) refl)
    ∙ then_ _ (reads_simple_statement n expr reads a at ts is (ap ends_expression ends) (not_assign (first_sort ts) ends) short) refl

-- ---- the first part of a `for`

starts_so : (expr : Parser Expr) (i : Position) → next_sort i ≡ s.Semicolon → r.start expr i ≡ r.no_start i
unfolding r.start
starts_so expr i e = ap (λ b. if b then r.no_start i else (if r.begins_type (next_sort i) then r.some (r.local expr) i else r.simple_start expr i))
    (sees_it s.Semicolon i e)

starts_with : (expr : Parser Expr) (i : Position) (b : Bool) → next_sort i ≢ s.Semicolon → r.begins_type (next_sort i) ≡ b
    → r.start expr i ≡ (if b then r.some (r.local expr) i else r.simple_start expr i)
unfolding r.start
starts_with expr i b other e =
    ap (λ b. if b then r.no_start i else (if r.begins_type (next_sort i) then r.some (r.local expr) i else r.simple_start expr i)) (sees_other s.Semicolon i other)
    ∙ ap (λ b. if b then r.some (r.local expr) i else r.simple_start expr i) e

pub reads_start : (n : ℕ) (expr : Parser Expr) → ReadsExpressions n expr → (c : ForStartDerivation) (at : ℕ) (ts : List Token) →
    IsStart c → length (spelled_start c ++ ts) < n
    → r.start expr (spot at (spelled_start c ++ ts)) ≡ Ok (tree_of_start at c, spot (at + length (spelled_start c)) ts)
unfolding r.no_start r.some r.simple_start
reads_start n expr reads (no_start e) at ts is short =
    starts_so expr (spot at (e ∷ ts)) is ∙ then_ _ (step_skip at e ts) (done None _ ts (omega arith))
reads_start n expr reads (local_start l) at ts is short =
    starts_with expr (spot at (spelled_local l ++ ts)) true (no_type_is _ s.Semicolon (local_begins l ts is) refl) (local_begins l ts is)
    ∙ then_ _ (reads_local n expr reads l at ts is short) refl
reads_start n expr reads (simple_start a e) at ts (is, is_e) short =
    let parts : (spelled_simple a ++ e ∷ []) ++ ts ≡ spelled_simple a ++ e ∷ ts = append_assoc (spelled_simple a) (e ∷ []) ts in
    parted (r.start expr) at parts
    (starts_with expr (spot at (spelled_simple a ++ e ∷ ts)) false (told_apart starts_expression (simple_starts a (e ∷ ts) is) refl)
    (begins_no_type _ (statement_too _ (simple_starts a (e ∷ ts) is)))
    ∙ then_ _ (reads_simple_statement n expr reads a at (e ∷ ts) is (ap ends_expression is_e) (no_other is_e (λ p. cc)) (fits _ _ n parts short))
    (then_ _ (step_expect s.Semicolon (at + length (spelled_simple a)) e ts is_e) (done _ _ ts (omega (arith, length-append (spelled_simple a) (e ∷ []))))))

-- ---- `for`

for_parts : (t o : Token) (u v : List Token) (e : Token) (w : List Token) (c : Token) (x ts : List Token)
    → (t ∷ o ∷ (u ++ (v ++ e ∷ (w ++ c ∷ x)))) ++ ts ≡ t ∷ o ∷ (u ++ (v ++ e ∷ (w ++ c ∷ (x ++ ts))))
for_parts t o u v e w c x ts = ap (λ z. t ∷ o ∷ z) (append_assoc u (v ++ e ∷ (w ++ c ∷ x)) ts
    ∙ ap (λ z. u ++ z) (append_assoc v (e ∷ (w ++ c ∷ x)) ts ∙ ap (λ z. v ++ e ∷ z) (append_assoc w (c ∷ x) ts)))

for_fits : (t o : Token) (u v : List Token) (e : Token) (w : List Token) (n : ℕ) → length (t ∷ o ∷ (u ++ (v ++ e ∷ w))) < n
    → (length (u ++ (v ++ e ∷ w)) < n) × (length (v ++ e ∷ w) < n) × (length w < n)
for_fits t o u v e w n short = (omega arith, omega (arith, length-append u (v ++ e ∷ w)), omega (arith, length-append u (v ++ e ∷ w), length-append v (e ∷ w)))

for_count : (at : ℕ) (u v : List Token) (e : Token) (w : List Token) (c : Token) (x : List Token)
    → suc (suc (suc (suc at) + length u + length v) + length w) + length x ≡ at + suc (suc (length (u ++ (v ++ e ∷ (w ++ c ∷ x)))))
for_count at u v e w c x = omega (arith, length-append u (v ++ e ∷ (w ++ c ∷ x)), length-append v (e ∷ (w ++ c ∷ x)), length-append w (c ∷ x))

pub reads_for : (n : ℕ) (expr : Parser Expr) (stmt : Parser Stmt) → ReadsExpressions n expr
    → (at : ℕ) (t o : Token) (start : ForStartDerivation) (a : Option ExpressionDerivation) (e : Token) (step : Option SimpleDerivation) (c : Token) (y : st.StatementDerivation) (ts : List Token)
    → sort o ≡ s.LeftParen → IsStart start → IsMaybe a → sort e ≡ s.Semicolon → IsStep step → sort c ≡ s.RightParen
    → length (st.spelled_statement (st.for_do t o start a e step c y) ++ ts) < n
    → ReadsPart stmt y (st.after_head at start a step) ts
    → r.for_loop expr stmt (spot at (st.spelled_statement (st.for_do t o start a e step c y) ++ ts))
    ≡ Ok (st.kind_of at (st.for_do t o start a e step c y), spot (at + length (st.spelled_statement (st.for_do t o start a e step c y))) ts)
unfolding r.for_loop st.spelled_statement st.kind_of
reads_for n expr stmt reads at t o start a e step c y ts is_o is_start is_a is_e is_step is_c short part =
    let parts : (t ∷ o ∷ (spelled_start start ++ (spelled_maybe a ++ e ∷ (spelled_step step ++ c ∷ st.spelled_statement y)))) ++ ts
    ≡ t ∷ o ∷ (spelled_start start ++ (spelled_maybe a ++ e ∷ (spelled_step step ++ c ∷ (st.spelled_statement y ++ ts)))) =
    for_parts t o (spelled_start start) (spelled_maybe a) e (spelled_step step) c (st.spelled_statement y) ts in
    let short3 = for_fits t o (spelled_start start) (spelled_maybe a) e (spelled_step step ++ c ∷ (st.spelled_statement y ++ ts)) n (fits _ _ n parts short) in
    parted (r.for_loop expr stmt) at parts
    (then_ _ (step_skip at t _)
    (then_ _ (step_expect s.LeftParen (suc at) o _ is_o)
    (then_ _ (reads_start n expr reads start (suc (suc at)) (spelled_maybe a ++ e ∷ (spelled_step step ++ c ∷ (st.spelled_statement y ++ ts))) is_start short3.0)
    (then_ _ (reads_maybe n expr reads a (suc (suc at) + length (spelled_start start)) (e ∷ (spelled_step step ++ c ∷ (st.spelled_statement y ++ ts))) is_a is_e short3.1)
    (then_ _ (step_expect s.Semicolon (suc (suc at) + length (spelled_start start) + length (spelled_maybe a)) e
    (spelled_step step ++ c ∷ (st.spelled_statement y ++ ts)) is_e)
    (then_ _ (reads_step n expr reads step (suc (suc (suc at) + length (spelled_start start) + length (spelled_maybe a)))
    (c ∷ (st.spelled_statement y ++ ts)) is_step is_c short3.2)
    (then_ _ (step_expect s.RightParen (suc (suc (suc at) + length (spelled_start start) + length (spelled_maybe a)) + length (spelled_step step)) c
    (st.spelled_statement y ++ ts) is_c)
    (then_ _ part (done _ _ ts (for_count at (spelled_start start) (spelled_maybe a) e (spelled_step step) c (st.spelled_statement y)))))))))))

-- ---- statements without statements in them

pub reads_return : (n : ℕ) (expr : Parser Expr) → ReadsExpressions n expr →
    (at : ℕ) (t : Token) (a : Option ExpressionDerivation) (e : Token) (ts : List Token)
    → IsMaybe a → sort e ≡ s.Semicolon → length (st.spelled_statement (st.leave t a e) ++ ts) < n
    → r.leave expr (spot at (st.spelled_statement (st.leave t a e) ++ ts))
    ≡ Ok (st.kind_of at (st.leave t a e), spot (at + length (st.spelled_statement (st.leave t a e))) ts)
unfolding r.leave st.spelled_statement st.kind_of
reads_return n expr reads at t a e ts is_a is_e short =
    let parts : (t ∷ (spelled_maybe a ++ e ∷ [])) ++ ts ≡ t ∷ (spelled_maybe a ++ e ∷ ts) = ap (λ u. t ∷ u) (append_assoc (spelled_maybe a) (e ∷ []) ts) in
    let inner : length (t ∷ (spelled_maybe a ++ e ∷ ts)) < n = fits _ _ n parts short in
    parted (r.leave expr) at parts
    (then_ _ (step_skip at t _)
    (then_ _ (reads_maybe n expr reads a (suc at) (e ∷ ts) is_a is_e (omega arith))
    (then_ _ (step_expect s.Semicolon (suc at + length (spelled_maybe a)) e ts is_e)
    (done _ _ ts (omega (arith, length-append (spelled_maybe a) (e ∷ [])))))))

pub reads_jump : (kind : StmtKind) (at : ℕ) (t e : Token) (ts : List Token) → sort e ≡ s.Semicolon
    → r.jump kind (spot at (t ∷ e ∷ ts)) ≡ Ok (kind, spot (at + length (t ∷ e ∷ [])) ts)
unfolding r.jump
reads_jump kind at t e ts is_e = then_ _ (step_skip at t (e ∷ ts)) (then_ _ (step_expect s.Semicolon (suc at) e ts is_e) (done _ _ ts (omega arith)))

pub reads_empty : (at : ℕ) (e : Token) (ts : List Token) →
    r.empty (spot at (e ∷ ts)) ≡ Ok (k.Empty, spot (at + length (e ∷ [])) ts)
unfolding r.empty
reads_empty at e ts = then_ _ (step_skip at e ts) (done _ _ ts (omega arith))

pub reads_evaluated : (n : ℕ) (expr : Parser Expr) → ReadsExpressions n expr →
    (at : ℕ) (a : SimpleDerivation) (e : Token) (ts : List Token)
    → IsSimple a → sort e ≡ s.Semicolon → length (st.spelled_statement (st.simple a e) ++ ts) < n
    → r.evaluated expr (spot at (st.spelled_statement (st.simple a e) ++ ts))
    ≡ Ok (st.kind_of at (st.simple a e), spot (at + length (st.spelled_statement (st.simple a e))) ts)
unfolding r.evaluated st.spelled_statement st.kind_of
reads_evaluated n expr reads at a e ts is_a is_e short =
    let parts : (spelled_simple a ++ e ∷ []) ++ ts ≡ spelled_simple a ++ e ∷ ts = append_assoc (spelled_simple a) (e ∷ []) ts in
    parted (r.evaluated expr) at parts
    (then_ _ (reads_simple n expr reads a at (e ∷ ts) is_a (ap ends_expression is_e) (no_other is_e (λ p. cc)) (fits _ _ n parts short))
    (then_ _ (step_expect s.Semicolon (at + length (spelled_simple a)) e ts is_e) (done _ _ ts (omega (arith, length-append (spelled_simple a) (e ∷ []))))))
