-- An assignment or an expression is read, as it stands in a statement.
use Rattle.std.proofs.Common.{◌≡◌, ◌≢◌, refl, sym, ◌∙◌, ap, subst, ℕ, suc, ◌+◌, ◌-◌, ◌<◌, ◌==◌, List, [], ◌∷◌, ◌++◌, length, Ok, true, if◌then◌else◌, Option, Some, None, arith}
use Rattle.std.proofs.lemmas.List.{append_assoc, length-append}
use Rattle.pw_grammar.specs.declared.sort.Sort.TheVariants as s
use Rattle.pw_grammar.specs.Terminals.{sort, first_sort}
use Rattle.pw_grammar.specs.Expressions.{ExpressionDerivation, identifier, index, spelled, IsAt, expression_tree, name_in}
use Rattle.pw_grammar.specs.Statements.{SimpleDerivation, assign, assign_element, evaluate, spelled_simple, IsSimple, kind_of_simple, statement_node}
use Rattle.pw_grammar.specs.Reading.Steps.{Parser, pure, either}
use Rattle.pw_grammar.specs.Reading.Statements as r
use Rattle.pw_grammar.proofs.CompleteEnds.{EndsExpression, ends_expression}
use Rattle.pw_grammar.proofs.CompleteTokens.{spot, then_, counted, step_skip, either_this, either_other, parted, line_of_front, fits, node_is, ReadsExpressions}
use Rattle.pw_grammar.proofs.Lengths.{simple_length}
use Rattle.pw_tree.specs.declared.expr.Expr.{Expr, roll-Expr}
use Rattle.pw_tree.specs.declared.expr.Expr.{out-roll-Expr}
use Rattle.pw_tree.specs.declared.expr.ExprKind.{out-roll-ExprKind}
use Rattle.pw_tree.specs.declared.expr.ExprKind.TheOpen.{ExprKind-F}
use Rattle.std.proofs.lemmas.Bool.Decides.{nat_tests}
use Rattle.pw_tree.specs.declared.expr.ExprKind.{out-ExprKind}
use Rattle.pw_tree.specs.declared.expr.ExprKind.TheVariants as e
use Rattle.pw_tree.specs.declared.stmt.StmtKind.{StmtKind}
use Rattle.pw_tree.specs.declared.stmt.StmtKind.TheVariants as k
use Rattle.pw_lex.specs.declared.token.Token.{Token}

-- ---- what is assigned to

same_number : (n : ℕ) → (n == n) ≡ true
same_number n = grind (arith, nat_tests)

out-Word : (x : List ℕ) → out-ExprKind (e.Word x) ≡ ExprKind-F.Word x
out-Word x = ap out-ExprKind (sym (e.rolls-Word x)) ∙ out-roll-ExprKind (ExprKind-F.Word x)

out-Index : (a b : Expr) → out-ExprKind (e.Index a b) ≡ ExprKind-F.Index a b
out-Index a b = ap out-ExprKind (sym (e.rolls-Index a b)) ∙ out-roll-ExprKind (ExprKind-F.Index a b)

word_is : (at : ℕ) (x : Token) → r.word_of at (expression_tree at (identifier x)) ≡ Some (name_in x.kind)
unfolding expression_tree
word_is at x =
    ap (λ v. r.unbracketed_word at v.first (out-ExprKind v.kind)) (out-roll-Expr (record { first = at; last = at + 1 - 1; line = x.line; kind = e.Word (name_in x.kind) }))
    ∙ (ap (λ v. r.unbracketed_word at at v) (out-Word (name_in x.kind)) ∙ ap (λ b. if b then Some (name_in x.kind) else None) (same_number at))

target_word : (at : ℕ) (x : Token) → r.target at (expression_tree at (identifier x)) ≡ Some (name_in x.kind, None)
unfolding r.target expression_tree
target_word at x =
    ap (λ v. r.target_of at (expression_tree at (identifier x)) (out-ExprKind v.kind))
    (out-roll-Expr (record { first = at; last = at + 1 - 1; line = x.line; kind = e.Word (name_in x.kind) }))
    ∙ (ap (λ v. r.target_of at (expression_tree at (identifier x)) v) (out-Word (name_in x.kind)) ∙ ap (λ v. r.with_index None v) (word_is at x))

element_is : (at last line : ℕ) (a b : Expr) (x : List ℕ) → r.word_of at a ≡ Some x
    → r.target at (roll-Expr (record { first = at; last = last; line = line; kind = e.Index a b })) ≡ Some (x, Some b)
unfolding r.target
element_is at last line a b x is =
    ap (λ v. r.target_of at (roll-Expr (record { first = at; last = last; line = line; kind = e.Index a b })) (out-ExprKind v.kind))
    (out-roll-Expr (record { first = at; last = last; line = line; kind = e.Index a b }))
    ∙ (ap (λ v. r.target_of at (roll-Expr (record { first = at; last = last; line = line; kind = e.Index a b })) v) (out-Index a b)
    ∙ (ap (λ v. if v.first == at then r.with_index (Some b) (r.word_of at a) else None)
    (out-roll-Expr (record { first = at; last = last; line = line; kind = e.Index a b }))
    ∙ (ap (λ t. if t then r.with_index (Some b) (r.word_of at a) else None) (same_number at) ∙ ap (λ v. r.with_index (Some b) v) is)))

target_element : (at : ℕ) (x o : Token) (i : ExpressionDerivation) (c : Token)
    → r.target at (expression_tree at (index (identifier x) o i c)) ≡ Some (name_in x.kind, Some (expression_tree (suc (suc at)) i))
unfolding expression_tree spelled
target_element at x o i c = subst (λ n. r.target at (expression_tree at (index (identifier x) o i c)) ≡ Some (name_in x.kind, Some (expression_tree n i)))
    (let same : suc (at + 1) ≡ suc (suc at) = omega arith in same)
    (element_is at _ _ (expression_tree at (identifier x)) (expression_tree (suc (at + 1)) i) (name_in x.kind) (word_is at x))

-- ---- what is read

reads_word : (n : ℕ) (expr : Parser Expr) → ReadsExpressions n expr → (at : ℕ) (x : Token) (ts : List Token) → sort x ≡ s.Name →
    EndsExpression (first_sort ts)
    → length (x ∷ ts) < n → expr (spot at (x ∷ ts)) ≡ Ok (expression_tree at (identifier x), spot (suc at) ts)
unfolding spelled IsAt
reads_word n expr reads at x ts is_x ends short = counted (suc at) (reads.reads (identifier x) at ts is_x ends short) (omega arith)

element_parts : (x o : Token) (v : List Token) (c : Token) (ts : List Token) →
    (x ∷ o ∷ (v ++ c ∷ [])) ++ ts ≡ x ∷ o ∷ (v ++ c ∷ ts)
element_parts x o v c ts = ap (λ w. x ∷ o ∷ w) (append_assoc v (c ∷ []) ts)

reads_element : (n : ℕ) (expr : Parser Expr) → ReadsExpressions n expr →
    (at : ℕ) (x o : Token) (i : ExpressionDerivation) (c : Token) (ts : List Token)
    → sort x ≡ s.Name → sort o ≡ s.LeftBracket → IsAt 13 i → sort c ≡ s.RightBracket → EndsExpression (first_sort ts)
    → length (x ∷ o ∷ (spelled i ++ c ∷ ts)) < n
    → expr (spot at (x ∷ o ∷ (spelled i ++ c ∷ ts))) ≡ Ok (expression_tree at (index (identifier x) o i c), spot (suc (suc (suc at) + length (spelled i))) ts)
unfolding spelled IsAt
reads_element n expr reads at x o i c ts is_x is_o is_i is_c ends short =
    parted expr at (sym (element_parts x o (spelled i) c ts))
    (counted _ (reads.reads (index (identifier x) o i c) at ts (omega arith, is_x, is_o, is_i, is_c) ends (fits _ _ n (sym (element_parts x o (spelled i) c ts)) short))
    (omega (arith, length-append (spelled i) (c ∷ []))))

assigned_parts : (x o : Token) (v : List Token) (c q : Token) (w ts : List Token)
    → (x ∷ o ∷ (v ++ c ∷ q ∷ w)) ++ ts ≡ x ∷ o ∷ (v ++ c ∷ q ∷ (w ++ ts))
assigned_parts x o v c q w ts = ap (λ u. x ∷ o ∷ u) (append_assoc v (c ∷ q ∷ w) ts)

-- after what is assigned to, `= e`
reads_assigned : (n : ℕ) (expr : Parser Expr) → ReadsExpressions n expr
    → (to : Option (List ℕ × Option Expr)) (x : List ℕ) (i : Option Expr) (at : ℕ) (q : Token) (a : ExpressionDerivation)
    (other : Parser StmtKind) (ts : List Token) → to ≡ Some (x, i) → sort q ≡ s.Assign → IsAt 13 a → EndsExpression (first_sort ts) → length (spelled a ++ ts) < n
    → either s.Assign (r.assigned expr to) other (spot at (q ∷ (spelled a ++ ts))) ≡ Ok (k.Set x i (expression_tree (suc at) a), spot (suc at + length (spelled a)) ts)
reads_assigned n expr reads to x i at q a other ts is is_q is_a ends short =
    either_this s.Assign (r.assigned expr to) other (spot at (q ∷ (spelled a ++ ts))) is_q
    ∙ (ap (λ t. r.assigned expr t (spot at (q ∷ (spelled a ++ ts)))) is
    ∙ then_ _ (step_skip at q (spelled a ++ ts)) (then_ _ (reads.reads a (suc at) ts is_a ends short) refl))

pub reads_simple : (n : ℕ) (expr : Parser Expr) → ReadsExpressions n expr → (c : SimpleDerivation) (at : ℕ) (ts : List Token) →
    IsSimple c
    → EndsExpression (first_sort ts) → first_sort ts ≢ s.Assign → length (spelled_simple c ++ ts) < n
    → r.simple expr (spot at (spelled_simple c ++ ts)) ≡ Ok (kind_of_simple at c, spot (at + length (spelled_simple c)) ts)
unfolding r.simple
reads_simple n expr reads (assign x q a) at ts (is_x, is_q, is_a) ends other short =
    then_ _ (reads_word n expr reads at x (q ∷ (spelled a ++ ts)) is_x (ap ends_expression is_q) short)
    (counted _ (reads_assigned n expr reads _ (name_in x.kind) None (suc at) q a (pure (k.Eval (expression_tree at (identifier x)))) ts (target_word at x) is_q is_a ends
    (omega arith)) (omega arith))
reads_simple n expr reads (assign_element x o i c q a) at ts (is_x, is_o, is_i, is_c, is_q, is_a) ends other short =
    let inner : length (x ∷ o ∷ (spelled i ++ c ∷ q ∷ (spelled a ++ ts))) < n = fits _ _ n (assigned_parts x o (spelled i) c q (spelled a) ts) short in
    parted (r.simple expr) at (assigned_parts x o (spelled i) c q (spelled a) ts)
    (then_ _ (reads_element n expr reads at x o i c (q ∷ (spelled a ++ ts)) is_x is_o is_i is_c (ap ends_expression is_q) inner)
    (counted _ (reads_assigned n expr reads _ (name_in x.kind) (Some (expression_tree (suc (suc at)) i)) (suc (suc (suc at) + length (spelled i))) q a
    (pure (k.Eval (expression_tree at (index (identifier x) o i c)))) ts
    (target_element at x o i c) is_q is_a ends (omega (arith, length-append (spelled i) (c ∷ q ∷ (spelled a ++ ts)))))
    (omega (arith, length-append (spelled i) (c ∷ q ∷ spelled a)))))
reads_simple n expr reads (evaluate a) at ts is ends other short =
    then_ _ (reads.reads a at ts is ends short)
    (either_other s.Assign (r.assigned expr (r.target at (expression_tree at a))) (pure (k.Eval (expression_tree at a))) (spot (at + length (spelled a)) ts) other)

pub reads_simple_statement : (n : ℕ) (expr : Parser Expr) → ReadsExpressions n expr →
    (c : SimpleDerivation) (at : ℕ) (ts : List Token) → IsSimple c
    → EndsExpression (first_sort ts) → first_sort ts ≢ s.Assign → length (spelled_simple c ++ ts) < n
    → r.simple_statement expr (spot at (spelled_simple c ++ ts))
    ≡ Ok (statement_node at (spelled_simple c) (kind_of_simple at c), spot (at + length (spelled_simple c)) ts)
unfolding r.simple_statement
reads_simple_statement n expr reads c at ts is ends other short =
    then_ _ (reads_simple n expr reads c at ts is ends other short)
    (node_is at _ _ _ _ (spelled_simple c) ts refl refl (line_of_front (spelled_simple c) ts (simple_length c)))
