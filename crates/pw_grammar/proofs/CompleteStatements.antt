-- The forms of statements are read, each where its parts are.
use Rattle.std.proofs.Common.{◌≡◌, ◌≢◌, refl, sym, ◌∙◌, ap, ℕ, suc, ◌+◌, ◌<◌, List, [], ◌∷◌, ◌++◌, length, Ok, None, arith}
use Rattle.std.proofs.lemmas.List.{append_assoc, length-append}
use Rattle.pw_grammar.specs.declared.sort.Sort.{Sort}
use Rattle.pw_grammar.specs.declared.sort.Sort.TheVariants as s
use Rattle.pw_grammar.specs.Terminals.{sort, first_sort}
use Rattle.pw_grammar.specs.Expressions.{ExpressionDerivation, spelled, IsAt, expression_tree}
use Rattle.pw_grammar.specs.Statements as st
use Rattle.pw_grammar.specs.Reading.Steps.{Parser, pure}
use Rattle.pw_grammar.specs.Reading.Statements as r
use Rattle.pw_grammar.proofs.CompleteEnds.{ends_expression}
use Rattle.pw_grammar.proofs.CompleteTokens.{spot, then_, done, step_skip, step_expect, either_this, either_other, parted, fits, ReadsExpressions}
use Rattle.pw_tree.specs.declared.expr.Expr.{Expr}
use Rattle.pw_tree.specs.declared.stmt.Stmt.{Stmt}
use Rattle.pw_lex.specs.declared.token.Token.{Token}

-- a sort that is one is not another
pub no_other : {x y z : Sort} → x ≡ y → (y ≡ z → ⊥) → x ≢ z
no_other is other = λ e. other (sym is ∙ e)

-- ---- `( e )`

pub reads_test : (n : ℕ) (expr : Parser Expr) → ReadsExpressions n expr →
    (at : ℕ) (o : Token) (a : ExpressionDerivation) (c : Token) (ts : List Token)
    → sort o ≡ s.LeftParen → IsAt 13 a → sort c ≡ s.RightParen → length (spelled a ++ c ∷ ts) < n
    → r.test expr (spot at (o ∷ (spelled a ++ c ∷ ts))) ≡ Ok (expression_tree (suc at) a, spot (suc (suc at + length (spelled a))) ts)
unfolding r.test
reads_test n expr reads at o a c ts is_o is_a is_c short =
    then_ _ (step_expect s.LeftParen at o (spelled a ++ c ∷ ts) is_o)
    (then_ _ (reads.reads a (suc at) (c ∷ ts) is_a (ap ends_expression is_c) short)
    (then_ _ (step_expect s.RightParen (suc at + length (spelled a)) c ts is_c) refl))

-- ---- a part of another statement, as it is read

-- the reader reads these tokens as this statement
abbrev pub ReadsPart : Parser Stmt → st.StatementDerivation → ℕ → List Token → Type 0
ReadsPart stmt y at ts = stmt (spot at (st.spelled_statement y ++ ts)) ≡ Ok (st.tree_of_statement at y, spot (at + length (st.spelled_statement y)) ts)

tested_parts : (t o : Token) (v : List Token) (c : Token) (w ts : List Token) →
    (t ∷ o ∷ (v ++ c ∷ w)) ++ ts ≡ t ∷ o ∷ (v ++ c ∷ (w ++ ts))
tested_parts t o v c w ts = ap (λ u. t ∷ o ∷ u) (append_assoc v (c ∷ w) ts)

pub reads_while : (n : ℕ) (expr : Parser Expr) (stmt : Parser Stmt) → ReadsExpressions n expr
    → (at : ℕ) (t o : Token) (a : ExpressionDerivation) (c : Token) (y : st.StatementDerivation) (ts : List Token)
    → sort o ≡ s.LeftParen → IsAt 13 a → sort c ≡ s.RightParen → length (st.spelled_statement (st.while_do t o a c y) ++ ts) < n
    → ReadsPart stmt y (st.after_test at a) ts
    → r.while_loop expr stmt (spot at (st.spelled_statement (st.while_do t o a c y) ++ ts))
    ≡ Ok (st.kind_of at (st.while_do t o a c y), spot (at + length (st.spelled_statement (st.while_do t o a c y))) ts)
unfolding r.while_loop st.spelled_statement st.kind_of
reads_while n expr stmt reads at t o a c y ts is_o is_a is_c short part =
    let parts : (t ∷ o ∷ (spelled a ++ c ∷ st.spelled_statement y)) ++ ts ≡ t ∷ o ∷ (spelled a ++ c ∷ (st.spelled_statement y ++ ts)) =
    tested_parts t o (spelled a) c (st.spelled_statement y) ts in
    let inner : length (t ∷ o ∷ (spelled a ++ c ∷ (st.spelled_statement y ++ ts))) < n = fits _ _ n parts short in
    parted (r.while_loop expr stmt) at parts
    (then_ _ (step_skip at t _)
    (then_ _ (reads_test n expr reads (suc at) o a c (st.spelled_statement y ++ ts) is_o is_a is_c (omega arith))
    (then_ _ part (done _ _ ts (omega (arith, length-append (spelled a) (c ∷ st.spelled_statement y)))))))

pub reads_if_only : (n : ℕ) (expr : Parser Expr) (stmt : Parser Stmt) → ReadsExpressions n expr
    → (at : ℕ) (t o : Token) (a : ExpressionDerivation) (c : Token) (y : st.StatementDerivation) (ts : List Token)
    → sort o ≡ s.LeftParen → IsAt 13 a → sort c ≡ s.RightParen → first_sort ts ≢ s.Else → length (st.spelled_statement (st.if_only t o a c y) ++ ts) < n
    → ReadsPart stmt y (st.after_test at a) ts
    → r.conditional expr stmt (spot at (st.spelled_statement (st.if_only t o a c y) ++ ts))
    ≡ Ok (st.kind_of at (st.if_only t o a c y), spot (at + length (st.spelled_statement (st.if_only t o a c y))) ts)
unfolding r.conditional r.maybe_else st.spelled_statement st.kind_of
reads_if_only n expr stmt reads at t o a c y ts is_o is_a is_c other short part =
    let parts : (t ∷ o ∷ (spelled a ++ c ∷ st.spelled_statement y)) ++ ts ≡ t ∷ o ∷ (spelled a ++ c ∷ (st.spelled_statement y ++ ts)) =
    tested_parts t o (spelled a) c (st.spelled_statement y) ts in
    let inner : length (t ∷ o ∷ (spelled a ++ c ∷ (st.spelled_statement y ++ ts))) < n = fits _ _ n parts short in
    parted (r.conditional expr stmt) at parts
    (then_ _ (step_skip at t _)
    (then_ _ (reads_test n expr reads (suc at) o a c (st.spelled_statement y ++ ts) is_o is_a is_c (omega arith))
    (then_ _ part
    (then_ _ (either_other s.Else (r.alternative stmt) (pure None) (spot (st.after_test at a + length (st.spelled_statement y)) ts) other)
    (done _ _ ts (omega (arith, length-append (spelled a) (c ∷ st.spelled_statement y))))))))

else_parts : (t o : Token) (v : List Token) (c : Token) (w : List Token) (e : Token) (z ts : List Token)
    → (t ∷ o ∷ (v ++ c ∷ (w ++ e ∷ z))) ++ ts ≡ t ∷ o ∷ (v ++ c ∷ (w ++ e ∷ (z ++ ts)))
else_parts t o v c w e z ts = ap (λ u. t ∷ o ∷ u) (append_assoc v (c ∷ (w ++ e ∷ z)) ts ∙ ap (λ u. v ++ c ∷ u) (append_assoc w (e ∷ z) ts))

pub reads_if_else : (n : ℕ) (expr : Parser Expr) (stmt : Parser Stmt) → ReadsExpressions n expr
    → (at : ℕ) (t o : Token) (a : ExpressionDerivation) (c : Token) (y : st.StatementDerivation) (e : Token) (z : st.StatementDerivation) (ts : List Token)
    → sort o ≡ s.LeftParen → IsAt 13 a → sort c ≡ s.RightParen → sort e ≡ s.Else → length (st.spelled_statement (st.if_else t o a c y e z) ++ ts) < n
    → ReadsPart stmt y (st.after_test at a) (e ∷ (st.spelled_statement z ++ ts)) → ReadsPart stmt z (st.after_part (st.after_test at a) y) ts
    → r.conditional expr stmt (spot at (st.spelled_statement (st.if_else t o a c y e z) ++ ts))
    ≡ Ok (st.kind_of at (st.if_else t o a c y e z), spot (at + length (st.spelled_statement (st.if_else t o a c y e z))) ts)
unfolding r.conditional r.maybe_else r.alternative st.spelled_statement st.kind_of
reads_if_else n expr stmt reads at t o a c y e z ts is_o is_a is_c is_e short part rest =
    let parts : (t ∷ o ∷ (spelled a ++ c ∷ (st.spelled_statement y ++ e ∷ st.spelled_statement z))) ++ ts
    ≡ t ∷ o ∷ (spelled a ++ c ∷ (st.spelled_statement y ++ e ∷ (st.spelled_statement z ++ ts))) =
    else_parts t o (spelled a) c (st.spelled_statement y) e (st.spelled_statement z) ts in
    let inner : length (t ∷ o ∷ (spelled a ++ c ∷ (st.spelled_statement y ++ e ∷ (st.spelled_statement z ++ ts)))) < n = fits _ _ n parts short in
    parted (r.conditional expr stmt) at parts
    (then_ _ (step_skip at t _)
    (then_ _ (reads_test n expr reads (suc at) o a c (st.spelled_statement y ++ e ∷ (st.spelled_statement z ++ ts)) is_o is_a is_c (omega arith))
    (then_ _ part
    (then_ _ (either_this s.Else (r.alternative stmt) (pure None) (spot (st.after_test at a + length (st.spelled_statement y)) (e ∷ (st.spelled_statement z ++ ts))) is_e
    ∙ then_ _ (step_skip (st.after_test at a + length (st.spelled_statement y)) e (st.spelled_statement z ++ ts)) (then_ _ rest refl))
    (done _ _ ts (omega (
      arith,
      length-append (spelled a) (c ∷ (st.spelled_statement y ++ e ∷ st.spelled_statement z)),
      length-append (st.spelled_statement y) (e ∷ st.spelled_statement z),
    )))))))

do_parts : (t : Token) (v : List Token) (w o : Token) (x : List Token) (c e : Token) (ts : List Token)
    → (t ∷ (v ++ w ∷ o ∷ (x ++ c ∷ e ∷ []))) ++ ts ≡ t ∷ (v ++ w ∷ o ∷ (x ++ c ∷ e ∷ ts))
do_parts t v w o x c e ts = ap (λ u. t ∷ u) (append_assoc v (w ∷ o ∷ (x ++ c ∷ e ∷ [])) ts ∙ ap (λ u. v ++ w ∷ o ∷ u) (append_assoc x (c ∷ e ∷ []) ts))

pub reads_do : (n : ℕ) (expr : Parser Expr) (stmt : Parser Stmt) → ReadsExpressions n expr
    → (at : ℕ) (t : Token) (y : st.StatementDerivation) (w o : Token) (a : ExpressionDerivation) (c e : Token) (ts : List Token)
    → sort w ≡ s.While → sort o ≡ s.LeftParen → IsAt 13 a → sort c ≡ s.RightParen → sort e ≡ s.Semicolon
    → length (st.spelled_statement (st.do_while t y w o a c e) ++ ts) < n
    → ReadsPart stmt y (suc at) (w ∷ o ∷ (spelled a ++ c ∷ e ∷ ts))
    → r.do_loop expr stmt (spot at (st.spelled_statement (st.do_while t y w o a c e) ++ ts))
    ≡ Ok (st.kind_of at (st.do_while t y w o a c e), spot (at + length (st.spelled_statement (st.do_while t y w o a c e))) ts)
unfolding r.do_loop st.spelled_statement st.kind_of
reads_do n expr stmt reads at t y w o a c e ts is_w is_o is_a is_c is_e short part =
    let parts : (t ∷ (st.spelled_statement y ++ w ∷ o ∷ (spelled a ++ c ∷ e ∷ []))) ++ ts ≡ t ∷ (st.spelled_statement y ++ w ∷ o ∷ (spelled a ++ c ∷ e ∷ ts)) =
    do_parts t (st.spelled_statement y) w o (spelled a) c e ts in
    let inner : length (t ∷ (st.spelled_statement y ++ w ∷ o ∷ (spelled a ++ c ∷ e ∷ ts))) < n = fits _ _ n parts short in
    parted (r.do_loop expr stmt) at parts
    (then_ _ (step_skip at t _)
    (then_ _ part
    (then_ _ (step_expect s.While (suc at + length (st.spelled_statement y)) w (o ∷ (spelled a ++ c ∷ e ∷ ts)) is_w)
    (then_ _ (reads_test n expr reads (suc (suc at + length (st.spelled_statement y))) o a c (e ∷ ts) is_o is_a is_c
    (omega (arith, length-append (st.spelled_statement y) (w ∷ o ∷ (spelled a ++ c ∷ e ∷ ts)))))
    (then_ _ (step_expect s.Semicolon (suc (suc (suc (suc at + length (st.spelled_statement y))) + length (spelled a))) e ts is_e)
    (done _ _ ts (omega (arith, length-append (st.spelled_statement y) (w ∷ o ∷ (spelled a ++ c ∷ e ∷ [])), length-append (spelled a) (c ∷ e ∷ [])))))))))
