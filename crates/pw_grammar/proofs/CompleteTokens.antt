-- What the steps of a reader do at tokens that they take: the tokens are there, so each step succeeds.
use Rattle.std.proofs.Common.{◌≡◌, ◌≢◌, refl, sym, ◌∙◌, ap, ap₂, subst, ℕ, suc, ◌+◌, ◌-◌, ◌<◌, List, [], ◌∷◌, ◌++◌, length, Ok, Bool, true, false, if◌then◌else◌, arith}
use Rattle.std.proofs.lemmas.List.{length-append}
use Rattle.pw_grammar.specs.declared.sort.Sort.{Sort}
use Rattle.pw_grammar.specs.declared.sort.Sort.TheVariants as s
use Rattle.pw_grammar.specs.Terminals.{sort, first_sort}
use Rattle.pw_grammar.specs.Expressions.{ExpressionDerivation, spelled, IsAt, expression_tree, name_in}
use Rattle.pw_grammar.specs.Statements.{first_line, statement_node}
use Rattle.pw_grammar.specs.Reading.Steps.{Position, ReadResult, Parser, read_then, finish, pure, refuse, next_sort, sees, take, take_from, skip, expect, name, either, finish_statement}
use Rattle.pw_grammar.proofs.Branches.{sorts_same, sorts_other}
use Rattle.pw_grammar.proofs.CompleteEnds.{EndsExpression}
use Rattle.pw_tree.specs.declared.expr.Expr.{Expr, roll-Expr}
use Rattle.pw_tree.specs.declared.expr.ExprKind.{ExprKind}
use Rattle.pw_tree.specs.declared.stmt.StmtKind.{StmtKind}
use Rattle.pw_lex.specs.declared.token.Token.{Token}

-- the place before these tokens, the first of which has the number `at`
abbrev pub spot : ℕ → List Token → Position
spot at ts = record { at = at; rest = ts }

-- one reader after another
pub then_ : {A B : Type 0} {x : ReadResult A} {y : ReadResult B} {p : A × Position} (f : A → Parser B) → x ≡ Ok p →
    f p.0 p.1 ≡ y → read_then x f ≡ y
then_ f first second = ap (λ o. read_then o f) first ∙ second

-- the same outcome, by another count of the tokens
pub counted : {A : Type 0} {x : ReadResult A} {a : A} {n : ℕ} {ts : List Token} (m : ℕ) → x ≡ Ok (a, spot n ts) → n ≡ m →
    x ≡ Ok (a, spot m ts)
counted {x = x} {a = a} {ts = ts} m first same = subst (λ k. x ≡ Ok (a, spot k ts)) same first

-- a value where its tokens end, by another count of them
pub done : {A : Type 0} {n : ℕ} (a : A) (m : ℕ) (ts : List Token) → n ≡ m → pure a (spot n ts) ≡ Ok (a, spot m ts)
done a m ts same = ap (λ k. pure a (spot k ts)) same

-- the same outcome, by another form of the value
pub valued : {A : Type 0} {x : ReadResult A} {a : A} {j : Position} (b : A) → x ≡ Ok (a, j) → a ≡ b → x ≡ Ok (b, j)
valued {x = x} {j = j} b first same = subst (λ k. x ≡ Ok (k, j)) same first

pub step_skip : (at : ℕ) (t : Token) (ts : List Token) → skip (spot at (t ∷ ts)) ≡ Ok (t.line, spot (suc at) ts)
unfolding skip take take_from
step_skip at t ts = refl

pub step_take : (at : ℕ) (t : Token) (ts : List Token) → take (spot at (t ∷ ts)) ≡ Ok (t, spot (suc at) ts)
unfolding take take_from
step_take at t ts = refl

pub sees_it : (x : Sort) (i : Position) → next_sort i ≡ x → sees x i ≡ true
unfolding sees
sees_it x i e = sorts_same (next_sort i) x e

pub sees_other : (x : Sort) (i : Position) → next_sort i ≢ x → sees x i ≡ false
unfolding sees
sees_other x i e = sorts_other (next_sort i) x e

pub step_expect : (x : Sort) (at : ℕ) (t : Token) (ts : List Token) → sort t ≡ x →
    expect x (spot at (t ∷ ts)) ≡ Ok (t.line, spot (suc at) ts)
unfolding expect
step_expect x at t ts e =
    ap (λ b. if b then skip (spot at (t ∷ ts)) else refuse (spot at (t ∷ ts))) (sees_it x (spot at (t ∷ ts)) e) ∙ step_skip at t ts

pub step_name : (at : ℕ) (t : Token) (ts : List Token) → sort t ≡ s.Name →
    name (spot at (t ∷ ts)) ≡ Ok (name_in t.kind, spot (suc at) ts)
unfolding name
step_name at t ts e =
    ap (λ b. if b then read_then (take (spot at (t ∷ ts))) (λ t. pure (name_in t.kind)) else refuse (spot at (t ∷ ts))) (sees_it s.Name (spot at (t ∷ ts)) e)
    ∙ then_ _ (step_take at t ts) refl

pub either_this : {A : Type 0} (x : Sort) (p q : Parser A) (i : Position) → next_sort i ≡ x → either x p q i ≡ p i
either_this x p q i e = ap (λ b. if b then p i else q i) (sees_it x i e)

pub either_other : {A : Type 0} (x : Sort) (p q : Parser A) (i : Position) → next_sort i ≢ x → either x p q i ≡ q i
either_other x p q i e = ap (λ b. if b then p i else q i) (sees_other x i e)

-- ---- lists of tokens

-- a list that comes after another is no longer than both
pub behind : (u v : List Token) (n : ℕ) → length (u ++ v) < n → length v < n
behind u v n short = omega (arith, length-append u v)

-- a place before the same tokens, in other parts
pub parted : {A : Type 0} {u v : List Token} {x : ReadResult A} (p : Parser A) (at : ℕ) → u ≡ v → p (spot at v) ≡ x →
    p (spot at u) ≡ x
parted p at same reads = ap (λ ts. p (spot at ts)) same ∙ reads

-- a sort that a test distinguishes from another
pub told_apart : {x y : Sort} (f : Sort → Bool) → f x ≡ true → f y ≡ false → x ≢ y
told_apart f is other = λ e. cc

pub line_of_front : (u v : List Token) → 0 < length u → first_line (u ++ v) ≡ first_line u
line_of_front [] v some = absurd (omega arith)
line_of_front (t ∷ u) v some = refl

pub same_line : (u v w : List Token) → 0 < length u → first_line (u ++ v) ≡ first_line (u ++ w)
same_line u v w some = line_of_front u v some ∙ sym (line_of_front u w some)

-- the same bound, of the same tokens in other parts
pub fits : (u v : List Token) (n : ℕ) → u ≡ v → length u < n → length v < n
fits u v n same short = subst (λ ts. length ts < n) same short

-- the node of a statement of these tokens, by its last token and its line
pub node_is : (first line n : ℕ) (kind kind' : StmtKind) (tokens r : List Token) → kind ≡ kind' → n ≡ first + length tokens →
    line ≡ first_line tokens
    → finish_statement first line kind (spot n r) ≡ Ok (statement_node first tokens kind', spot (first + length tokens) r)
node_is first line n kind kind' tokens r same counts lines = cc

-- a node, by where it ends and what it is
pub finishes : (first line : ℕ) (kind other : ExprKind) (m n : ℕ) (r : List Token) → kind ≡ other → m ≡ n
    → finish first line kind (spot m r)
    ≡ Ok (roll-Expr (record { first = first; last = n - 1; line = line; kind = other }), spot n r)
finishes first line kind other m n r e f =
    ap₂ (λ a k. Ok (roll-Expr (record { first = first; last = k - 1; line = line; kind = a }), spot k r)) e f

-- ---- the reader of expressions

-- a reader of expressions, with fewer than n tokens left
pub record ReadsExpressions (n : ℕ) (expr : Parser Expr) : Type 0 where
  pub reads : (c : ExpressionDerivation) (at : ℕ) (r : List Token) → IsAt 13 c → EndsExpression (first_sort r) →
      length (spelled c ++ r) < n
      → expr (spot at (spelled c ++ r)) ≡ Ok (expression_tree at c, spot (at + length (spelled c)) r)
