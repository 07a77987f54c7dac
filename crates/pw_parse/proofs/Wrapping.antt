-- Prefix operators, from the innermost on.
use Rattle.std.proofs.Common.{◌≡◌, ℕ, zero, suc, ◌+◌, ◌-◌, ◌≤◌, List, [], ◌∷◌, ◌++◌, length, length-append, Option, Some, None, Ok, Err, ap, ◌∙◌, sym, refl, arith}
use Rattle.pw_lex.specs.declared.token.Token.{Token}
use Rattle.pw_grammar.specs.Reading.Steps.{Position, ReadResult, take, take_from, skip, read_then, pure, on_option, next_sort}
use Rattle.pw_grammar.specs.Terminals.{prefix_of}
use Rattle.pw_grammar.specs.Reading.Expressions.{under_operators, prefix_by, prefix_operator, operators}
use Rattle.pw_tree.specs.declared.operator.Un.{Un}
use Rattle.pw_tree.specs.declared.expr.Expr.{Expr, roll-Expr}
use Rattle.pw_tree.specs.declared.expr.ExprKind.TheVariants as e

-- one operator before an operand
abbrev pub wrapped_once : ℕ → ℕ → Un × ℕ → Expr → Expr
wrapped_once at last op a = roll-Expr (record { first = at; last = last; line = op.1; kind = e.Unary op.0 a })

innermost : (at last : ℕ) (ops : List (Un × ℕ)) (op : Un × ℕ) (a : Expr)
    → under_operators at last (ops ++ op ∷ []) a ≡ under_operators at last ops (wrapped_once (at + length ops) last op a)
unfolding under_operators
innermost at last [] op a = ap (λ n. wrapped_once n last op a) (omega arith)
innermost at last (o ∷ ops) op a =
    let e : suc at + length ops ≡ at + length (o ∷ ops) = omega arith in
    ap (wrapped_once at last o) (innermost (suc at) last ops op a ∙ ap (λ n. under_operators (suc at) last ops (wrapped_once n last op a)) e)

-- an iteration of a loop that goes from the innermost operator on
pub one_inner : {x : Expr} (at last : ℕ) (before ops : List (Un × ℕ)) (op : Un × ℕ) (a w : Expr)
    → before ≡ ops ++ op ∷ [] → w ≡ wrapped_once (at - 1) last op a → length before ≤ at → x ≡ under_operators (at - length before) last before a
    → (x ≡ under_operators (at - 1 - length ops) last ops w) × (length ops ≤ at - 1)
one_inner at last before ops op a w split form fits h =
    let count : length before ≡ length ops + 1 = ap length split ∙ length-append ops (op ∷ []) in
    let start : at - length before ≡ at - 1 - length ops = omega (arith, count, fits) in
    let inner : at - 1 - length ops + length ops ≡ at - 1 = omega (arith, count, fits) in
    let turned = h ∙ ap (λ m. under_operators m last before a) start ∙ ap (λ l. under_operators (at - 1 - length ops) last l a) split
    ∙ innermost (at - 1 - length ops) last ops op a
    ∙ ap (λ m. under_operators (at - 1 - length ops) last ops (wrapped_once m last op a)) inner
    ∙ ap (under_operators (at - 1 - length ops) last ops) (sym form) in
    (turned, omega (arith, count, fits))

pub none_inner : {x : Expr} (at last : ℕ) (ops : List (Un × ℕ)) (a : Expr) → ops ≡ [] →
    x ≡ under_operators (at - length ops) last ops a → a ≡ x
unfolding under_operators
none_inner at last ops a done h = sym (h ∙ ap (λ l. under_operators (at - length l) last l a) done)

-- ---- how far the operators reach

same_pair : {A : Type 0} (a b : A) (i j : Position) → ◌≡◌ {A = ReadResult A} (Ok (a, i)) (Ok (b, j)) →
    ◌≡◌ {A = A × Position} (a, i) (b, j)
same_pair a b i j h = cc

same_value : {A : Type 0} {a b : A} {i j : Position} → ◌≡◌ {A = ReadResult A} (Ok (a, i)) (Ok (b, j)) → a ≡ b
same_value {A} {a} {b} {i} {j} h = let first : A × Position → A = λ p. p.0 in ap first (same_pair a b i j h)

same_place : {A : Type 0} {a b : A} {i j : Position} → ◌≡◌ {A = ReadResult A} (Ok (a, i)) (Ok (b, j)) → i ≡ j
same_place {A} {a} {b} {i} {j} h = let second : A × Position → Position = λ p. p.1 in ap second (same_pair a b i j h)

abbrev count : Option (Un × ℕ) → ℕ
count None = 0
count (Some op) = 1

counted_skip : (op : Un) (at : ℕ) (ts : List Token) (x : Option (Un × ℕ)) (j : Position)
    → read_then (read_then (take_from at ts) (λ t. pure t.line)) (λ line. pure (Some (op, line))) ≡ Ok (x, j) → j.at ≡ at + count x
unfolding take_from
counted_skip op at [] x j h = cc
counted_skip op at (t ∷ ts) x j h =
    let place : suc at ≡ j.at = ap (λ k. k.at) (same_place h) in
    let one : 1 ≡ count x = ap count (same_value h) in
    omega (arith, place, one)

counted_by : (o : Option Un) (i : Position) (x : Option (Un × ℕ)) (j : Position) → prefix_by o i ≡ Ok (x, j) →
    j.at ≡ i.at + count x
unfolding skip take
counted_by None i x j h =
    let place : i.at ≡ j.at = ap (λ k. k.at) (same_place h) in
    let none : 0 ≡ count x = ap count (same_value h) in
    omega (arith, place, none)
counted_by (Some op) i x j h = counted_skip op i.at i.rest x j h

counted_next : (n : ℕ) →
    ((found : List (Un × ℕ)) (i : Position) (ops : List (Un × ℕ)) (j : Position) → operators n found i ≡ Ok (ops, j) → i.at + length ops ≡ j.at + length found)
    → (found : List (Un × ℕ)) (i : Position) (ops : List (Un × ℕ)) (j : Position) (r : ReadResult (Option (Un × ℕ)))
    → ((x : Option (Un × ℕ)) (k : Position) → r ≡ Ok (x, k) → k.at ≡ i.at + count x)
    → read_then r (λ x. on_option x (pure found) (λ op. operators n (found ++ op ∷ []))) ≡ Ok (ops, j)
    → i.at + length ops ≡ j.at + length found
counted_next n rest found i ops j (Err e) reach h = cc
counted_next n rest found i ops j (Ok (None, k)) reach h =
    let place : k.at ≡ j.at = ap (λ l. l.at) (same_place h) in
    let all : length found ≡ length ops = ap length (same_value h) in
    let none : k.at ≡ i.at + 0 = reach None k refl in
    omega (arith, place, all, none)
counted_next n rest found i ops j (Ok (Some op, k)) reach h =
    let behind = rest (found ++ op ∷ []) k ops j h in
    let one = reach (Some op) k refl in
    let more = length-append found (op ∷ []) in
    omega (arith, behind, one, more)

pub counted : (n : ℕ) (found : List (Un × ℕ)) (i : Position) (ops : List (Un × ℕ)) (j : Position)
    → operators n found i ≡ Ok (ops, j) → i.at + length ops ≡ j.at + length found
unfolding operators prefix_operator
counted zero found i ops j h =
    let place : i.at ≡ j.at = ap (λ l. l.at) (same_place h) in
    let all : length found ≡ length ops = ap length (same_value h) in
    omega (arith, place, all)
counted (suc n) found i ops j h =
    counted_next n (counted n) found i ops j (prefix_operator i) (counted_by (prefix_of (next_sort i)) i) h
