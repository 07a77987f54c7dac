-- The forms of statements stand in their tokens if their parts do.
use Rattle.std.proofs.Common.{◌≡◌, refl, sym, subst, ℕ, suc, ◌+◌, ◌-◌, ◌≤◌, Bool, true, false, List, length, Option, Some, None, arith}
use Rattle.pw_grammar.proofs.PlainNodes.{statement_place}
use Rattle.pw_grammar.proofs.PlacedExpressions.{Stands}
use Rattle.pw_lex.specs.declared.token.Token.{Token}
use Rattle.pw_tree.specs.Expressions as expression
use Rattle.pw_tree.specs.Statements as tree
use Rattle.pw_tree.specs.Placed.{IsWithin, IsOptionPlaced, token_after, token_after_option, local_name_at, index_end, token_after_statement, token_after_maybe, set_end, IsStatementPlaced, AreStatementsPlaced, IsMaybePlaced}
use Rattle.pw_tree.specs.Placed as placed
use Rattle.pw_tree.specs.declared.ty.Ty.{Ty}

-- ---- what stands among tokens, wherever these are

pub record StatementStands (in_head : Bool) (at count : ℕ) (y : tree.Statement) : Type 0 where
  pub last : suc (placed.statement_span y).last ≡ at + count
  pub full : 1 ≤ count
  pub placed : (low high : ℕ) → low ≤ at → at + count ≤ suc high → IsStatementPlaced in_head low high y

pub record StatementsStand (at count : ℕ) (ys : tree.Statements) : Type 0 where
  pub placed : (low high : ℕ) → low ≤ at → at + count ≤ suc high → AreStatementsPlaced low high ys

-- what may be left out, and what stands after it
pub record OptionStands (at count : ℕ) (a : Option expression.Expression) : Type 0 where
  pub placed : (low high : ℕ) → low ≤ at → at + count ≤ suc high → IsOptionPlaced low high a
  pub after : (low : ℕ) → low ≤ at → token_after_option low a ≤ at + count

pub record MaybeStands (in_head : Bool) (at count : ℕ) (y : tree.OptionalStatement) : Type 0 where
  pub placed : (low high : ℕ) → low ≤ at → at + count ≤ suc high → IsMaybePlaced in_head low high y
  pub after : (low : ℕ) → low ≤ at → token_after_maybe low y ≤ at + count

pub no_option : (at : ℕ) → OptionStands at 0 None
no_option at = record { placed = λ low high l h. tt; after = λ low l. omega arith }

pub an_option : (at m count : ℕ) (a : expression.Expression) → m ≤ count → Stands at m a → OptionStands at count (Some a)
an_option at m count a e s = record {
  placed = λ low high l h. s.placed low high l (omega arith);
  after = λ low l. omega (arith, s.to);
}

pub no_maybe : (in_head : Bool) (at count : ℕ) → MaybeStands in_head at count tree.absent
unfolding IsMaybePlaced
no_maybe in_head at count = record { placed = λ low high l h. tt; after = λ low l. omega arith }

pub a_maybe : (in_head : Bool) (at m count : ℕ) (y : tree.Statement) → m ≤ count → StatementStands in_head at m y
    → MaybeStands in_head at count (tree.present y)
unfolding IsMaybePlaced
a_maybe in_head at m count y e s = record {
  placed = λ low high l h. s.placed low high l (omega arith);
  after = λ low l. omega (arith, s.last);
}

pub by_form : {in_head : Bool} {at count : ℕ} {x y : tree.Statement} → x ≡ y → StatementStands in_head at count y →
    StatementStands in_head at count x
by_form {in_head} {at} {count} e s = subst (λ y. StatementStands in_head at count y) (sym e) s

-- what may be left out after a token
pub maybe_behind : {in_head : Bool} (at m : ℕ) (y : tree.Statement) → StatementStands in_head (suc at) m y →
    MaybeStands in_head at (suc m) (tree.present y)
unfolding IsMaybePlaced
maybe_behind at m y s = record {
  placed = λ low high l h. s.placed low high (omega arith) (omega arith);
  after = λ low l. omega (arith, s.last);
}

-- ---- each form, over the trees of its parts

within : (at : ℕ) (ts : List Token) (low high : ℕ) → 1 ≤ length ts → low ≤ at → at + length ts ≤ suc high →
    IsWithin low high (statement_place at ts)
within at ts low high full l h = record { from = l; some = omega arith; to = omega arith }

-- a node stands among its tokens if its parts do
pub stands_by : (in_head : Bool) (at : ℕ) (ts : List Token) (y : tree.Statement) →
    placed.statement_span y ≡ statement_place at ts → 1 ≤ length ts
    → ((low high : ℕ) → IsWithin low high (statement_place at ts) → IsStatementPlaced in_head low high y) → StatementStands in_head at (length ts) y
stands_by in_head at ts y is full parts = record {
  last = subst (λ p. suc p.last ≡ at + length ts) (sym is) (let e : suc (at + length ts - 1) ≡ at + length ts = omega arith in e);
  full = full;
  placed = λ low high l h. parts low high (within at ts low high full l h);
}

pub stands_evaluate : (in_head : Bool) (at m : ℕ) (ts : List Token) (a : expression.Expression)
    → suc (set_end in_head (statement_place at ts)) ≡ at + m → 1 ≤ length ts → Stands at m a
    → StatementStands in_head at (length ts) (tree.evaluate (statement_place at ts) a)
unfolding IsStatementPlaced
stands_evaluate in_head at m ts a e full s = stands_by in_head at ts _ refl full
    (λ low high w. (w, s.placed at (set_end in_head (statement_place at ts)) (omega arith) (omega (arith, e))))

pub stands_set : (in_head : Bool) (at m : ℕ) (ts : List Token) (x : List ℕ) (a : expression.Expression)
    → suc (set_end in_head (statement_place at ts)) ≡ suc (suc at) + m → 1 ≤ length ts → Stands (suc (suc at)) m a
    → StatementStands in_head at (length ts) (tree.set (statement_place at ts) x None a)
unfolding IsStatementPlaced
stands_set in_head at m ts x a e full s = stands_by in_head at ts _ refl full
    (λ low high w. (w, s.placed (at + 1) (set_end in_head (statement_place at ts)) (omega arith) (omega (arith, e))))

-- the `]` of `x [ i ]` is the token after what is written between the brackets
index_end_is : (at m : ℕ) (ts : List Token) (i : expression.Expression) → Stands (suc (suc at)) m i
    → index_end (statement_place at ts) i ≡ suc (suc at) + m
index_end_is at m ts i s =
    let e : (placed.span_of i).first - suc (suc at) ≡ (placed.span_of i).first - (at + 2) = omega arith in
    omega (arith, s.to, e)

pub stands_set_element : (in_head : Bool) (at m n : ℕ) (ts : List Token) (x : List ℕ) (i a : expression.Expression)
    → suc (set_end in_head (statement_place at ts)) ≡ suc (suc (suc (suc at) + m)) + n → 1 ≤ length ts → Stands (suc (suc at)) m i
    → Stands (suc (suc (suc (suc at) + m))) n a
    → StatementStands in_head at (length ts) (tree.set (statement_place at ts) x (Some i) a)
unfolding IsStatementPlaced
stands_set_element in_head at m n ts x i a e full s r = stands_by in_head at ts _ refl full
    (λ low high w. (
      w,
      (
        s.placed (at + 2) (set_end in_head (statement_place at ts)) (omega arith) (omega (arith, e)),
        r.placed (suc (index_end (statement_place at ts) i)) (set_end in_head (statement_place at ts)) (omega (arith, index_end_is at m ts i s)) (omega (arith, e)),
      ),
    ))

pub stands_local : (in_head : Bool) (at m n : ℕ) (ts : List Token) (ty : Ty) (x : List ℕ) (a : Option expression.Expression)
    → local_name_at (statement_place at ts) ty ≡ at + m → suc (suc (m + n)) ≤ length ts → OptionStands (suc (suc (at + m))) n a
    → StatementStands in_head at (length ts) (tree.local (statement_place at ts) ty x a)
unfolding IsStatementPlaced
stands_local in_head at m n ts ty x a name e s = stands_by in_head at ts _ refl (omega arith)
    (λ low high w. (w, omega (arith, name), s.placed (suc (local_name_at (statement_place at ts) ty)) (at + length ts - 1) (omega (arith, name)) (omega arith)))

pub stands_block : (in_head : Bool) (at m : ℕ) (ts : List Token) (ys : tree.Statements) → suc (m + 1) ≤ length ts →
    StatementsStand (suc at) m ys
    → StatementStands in_head at (length ts) (tree.block (statement_place at ts) ys)
unfolding IsStatementPlaced
stands_block in_head at m ts ys e s = stands_by in_head at ts _ refl (omega arith)
    (λ low high w. (w, s.placed (suc at) (at + length ts - 1) (omega arith) (omega arith)))

pub stands_returns : (in_head : Bool) (at m : ℕ) (ts : List Token) (a : Option expression.Expression) →
    suc (m + 1) ≤ length ts → OptionStands (suc at) m a
    → StatementStands in_head at (length ts) (tree.returns (statement_place at ts) a)
unfolding IsStatementPlaced
stands_returns in_head at m ts a e s = stands_by in_head at ts _ refl (omega arith)
    (λ low high w. (w, s.placed (suc at) (at + length ts - 1) (omega arith) (omega arith)))

pub stands_if : (in_head : Bool) (at m n k : ℕ) (ts : List Token) (c : expression.Expression) (a : tree.Statement) (b : tree.OptionalStatement)
    → suc (suc (m + suc (n + k))) ≤ length ts → Stands (suc (suc at)) m c → StatementStands false (suc (suc (suc at) + m)) n a
    → MaybeStands false (suc (suc (suc at) + m) + n) k b
    → StatementStands in_head at (length ts) (tree.if_else (statement_place at ts) c a b)
unfolding IsStatementPlaced
stands_if in_head at m n k ts c a b e s r q = stands_by in_head at ts _ refl (omega arith)
    (λ low high w. (
      w,
      s.placed (suc at) (at + length ts - 1) (omega arith) (omega arith),
      r.placed (token_after c) (at + length ts - 1) (omega (arith, s.to)) (omega arith),
      q.placed (token_after_statement a) (at + length ts - 1) (omega (arith, r.last)) (omega arith),
    ))

pub stands_while : (in_head : Bool) (at m n : ℕ) (ts : List Token) (c : expression.Expression) (y : tree.Statement)
    → suc (suc (m + suc n)) ≤ length ts → Stands (suc (suc at)) m c → StatementStands false (suc (suc (suc at) + m)) n y
    → StatementStands in_head at (length ts) (tree.while_loop (statement_place at ts) c y)
unfolding IsStatementPlaced
stands_while in_head at m n ts c y e s r = stands_by in_head at ts _ refl (omega arith)
    (λ low high w. (
      w,
      s.placed (suc at) (at + length ts - 1) (omega arith) (omega arith),
      r.placed (token_after c) (at + length ts - 1) (omega (arith, s.to)) (omega arith),
    ))

pub stands_do : (in_head : Bool) (at m n : ℕ) (ts : List Token) (y : tree.Statement) (c : expression.Expression)
    → suc (m + suc (suc n)) ≤ length ts → StatementStands false (suc at) m y → Stands (suc (suc (suc at + m))) n c
    → StatementStands in_head at (length ts) (tree.do_loop (statement_place at ts) y c)
unfolding IsStatementPlaced
stands_do in_head at m n ts y c e s r = stands_by in_head at ts _ refl (omega arith)
    (λ low high w. (
      w,
      s.placed (suc at) (at + length ts - 1) (omega arith) (omega arith),
      r.placed (token_after_statement y) (at + length ts - 1) (omega (arith, s.last)) (omega arith),
    ))

pub stands_for : (in_head : Bool) (at m n k l : ℕ) (ts : List Token) (first : tree.OptionalStatement)
    (c : Option expression.Expression) (last : tree.OptionalStatement) (y : tree.Statement)
    → suc (suc (m + (n + suc (k + suc l)))) ≤ length ts → MaybeStands true (suc (suc at)) m first → OptionStands (suc (suc at) + m) n c
    → MaybeStands true (suc (suc (suc at) + m + n)) k last → StatementStands false (suc (suc (suc (suc at) + m + n) + k)) l y
    → StatementStands in_head at (length ts) (tree.for_loop (statement_place at ts) first c last y)
unfolding IsStatementPlaced
stands_for in_head at m n k l ts first c last y e s r q p =
    let from : at + 2 ≤ suc (suc at) = omega arith in
    let b1 : token_after_maybe (at + 2) first ≤ suc (suc at) + m = s.after (at + 2) from in
    let b2 : token_after_option (token_after_maybe (at + 2) first) c ≤ suc (suc at) + m + n = r.after (token_after_maybe (at + 2) first) b1 in
    let b3 : token_after_maybe (suc (token_after_option (token_after_maybe (at + 2) first) c)) last ≤ suc (suc (suc at) + m + n) + k =
    q.after (suc (token_after_option (token_after_maybe (at + 2) first) c)) (omega arith) in
    stands_by in_head at ts _ refl (omega arith)
    (λ low high w. (
      w,
      s.placed (at + 2) (at + length ts - 1) from (omega arith),
      r.placed (token_after_maybe (at + 2) first) (at + length ts - 1) b1 (omega arith),
      q.placed (suc (token_after_option (token_after_maybe (at + 2) first) c)) (at + length ts - 1) (omega arith) (omega arith),
      p.placed (token_after_maybe (suc (token_after_option (token_after_maybe (at + 2) first) c)) last) (at + length ts - 1) (omega arith) (omega arith),
    ))

pub none_stand : (at : ℕ) → StatementsStand at 0 tree.nil
unfolding AreStatementsPlaced
none_stand at = record { placed = λ low high l h. tt }

pub both_stand : (at m n count : ℕ) (y : tree.Statement) (ys : tree.Statements) → count ≡ m + n → StatementStands false at m y →
    StatementsStand (at + m) n ys
    → StatementsStand at count (tree.cons y ys)
unfolding AreStatementsPlaced
both_stand at m n count y ys e s r = record {
  placed = λ low high l h.
      (s.placed low high l (omega (arith, e)), r.placed (token_after_statement y) high (omega (arith, s.last)) (omega (arith, e)));
}
