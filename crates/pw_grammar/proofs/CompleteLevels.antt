-- Prefix operators and the binary levels are read, given that what stands in brackets is.
use Rattle.std.proofs.Common.{◌≡◌, refl, sym, ◌∙◌, ap, ap₂, subst, ℕ, zero, suc, ◌+◌, ◌-◌, ◌<◌, ◌≤◌, List, [], ◌∷◌, ◌++◌, length, Ok, Option, Some, None, arith, eq-eqb, ne_eqb}
use Rattle.std.proofs.lemmas.List.{append_assoc, append-nil, length-append}
use Rattle.pw_grammar.specs.declared.sort.Sort.TheVariants as s
use Rattle.pw_grammar.specs.Terminals.{sort, first_sort, prefix_of, binary_of, level_of}
use Rattle.pw_grammar.specs.Expressions.{ExpressionDerivation, identifier, constant, bracketed, input, output, call, index, prefixed, binary, choice, spelled, IsAt, IsOperator, IsPrefixOperator, expression_tree, prefix_operator_in, prefix_or, binary_in, binary_or}
use Rattle.pw_grammar.specs.Reading.Steps.{Position, Parser, read_then, on_option, ◌>>=◌, pure, next_sort, finish}
use Rattle.pw_grammar.specs.Reading.Expressions as read
use Rattle.pw_grammar.proofs.CompleteTokens.{then_, done, valued, step_skip, sees_other, parted}
use Rattle.pw_grammar.proofs.CompleteEnds.{Stops, stops_less}
use Rattle.pw_grammar.proofs.CompletePhrases.{operator_low, no_prefix, regroup_between, count_between}
use Rattle.pw_grammar.proofs.CompletePrimary.{IsRead, Knows, postfix_suffixed}
use Rattle.pw_tree.specs.declared.operator.Un.{Un}
use Rattle.pw_tree.specs.declared.operator.Bin.{Bin}
use Rattle.pw_tree.specs.declared.expr.Expr.{Expr, roll-Expr}
use Rattle.pw_tree.specs.declared.expr.ExprKind.TheVariants as e
use Rattle.pw_lex.specs.declared.token.Token.{Token}

-- ---- prefix operators

-- the operators before a phrase, and what they stand before
abbrev operators_of : ExpressionDerivation → List (Un × ℕ)
operators_of (prefixed t a) = (prefix_operator_in t, t.line) ∷ operators_of a
operators_of _ = []

abbrev operand_of : ExpressionDerivation → ExpressionDerivation
operand_of (prefixed t a) = operand_of a
operand_of c = c

operand_at : (c : ExpressionDerivation) → IsAt 2 c → IsAt 1 (operand_of c)
unfolding IsAt
operand_at (identifier t) is = is
operand_at (constant t) is = is
operand_at (bracketed o a c) is = is
operand_at (input k o c) is = is
operand_at (output k o a c) is = is
operand_at (call f o xs c) is = (omega arith, is.1, is.2, is.3, is.4)
operand_at (index a o i c) is = (omega arith, is.1, is.2, is.3, is.4)
operand_at (prefixed t a) is = operand_at a is.2
operand_at (binary a t b) is = absurd (let h : suc is.0 ≤ 2 = is.1 in let l : 3 ≤ suc is.0 = operator_low (suc is.0) (sort t) is.3 in omega arith)
operand_at (choice c q a m b) is = absurd (let h : 13 ≤ 2 = is.0 in omega arith)

operand_counts : (c : ExpressionDerivation) → length (spelled c) ≡ length (operators_of c) + length (spelled (operand_of c))
unfolding spelled
operand_counts (prefixed t a) = let h : length (spelled a) ≡ length (operators_of a) + length (spelled (operand_of a)) = operand_counts a in omega (arith, h)
operand_counts _ = omega arith

-- the operand's tree, wrapped, is the phrase's
wrapped_is : (c : ExpressionDerivation) (at last : ℕ) → last ≡ at + length (spelled c) - 1
    → read.under_operators at last (operators_of c) (expression_tree (at + length (operators_of c)) (operand_of c)) ≡ expression_tree at c
unfolding read.under_operators expression_tree spelled
wrapped_is (prefixed t a) at last h =
    ap₂ (λ l x. roll-Expr (record { first = at; last = l; line = t.line; kind = e.Unary (prefix_operator_in t) x })) h
    (ap (λ m. read.under_operators (suc at) last (operators_of a) (expression_tree m (operand_of a))) (omega arith) ∙ wrapped_is a (suc at) last (h ∙ omega arith))
wrapped_is c at last h = ap (λ m. expression_tree m c) (omega arith)

no_operators : (turns : ℕ) (found : List (Un × ℕ)) (i : Position) → prefix_of (next_sort i) ≡ None →
    read.operators turns found i ≡ Ok (found, i)
unfolding read.operators read.prefix_operator
no_operators zero found i h = refl
no_operators (suc turns) found i h = ap (λ o. read_then (read.prefix_by o i) (λ x. on_option x (pure found) (λ op. read.operators turns (found ++ op ∷ [])))) h

prefix_is : (t : Token) → IsPrefixOperator (sort t) → prefix_of (sort t) ≡ Some (prefix_operator_in t)
prefix_is t o = o.1 ∙ ap Some (sym (ap prefix_or o.1))

prefix_operator_reads : (t : Token) (at : ℕ) (ts : List Token) → IsPrefixOperator (sort t)
    → read.prefix_operator (record { at = at; rest = t ∷ ts }) ≡ Ok (Some (prefix_operator_in t, t.line), record { at = suc at; rest = ts })
unfolding read.prefix_operator
prefix_operator_reads t at ts o =
    ap (λ x. read.prefix_by x (record { at = at; rest = t ∷ ts })) (prefix_is t o) ∙ then_ _ (step_skip at t ts) refl

operators_read : (c : ExpressionDerivation) (turns : ℕ) (found : List (Un × ℕ)) (at : ℕ) (r : List Token) → IsAt 2 c →
    length (operators_of c) ≤ turns
    → read.operators turns found (record { at = at; rest = spelled c ++ r })
    ≡ Ok (found ++ operators_of c, record { at = at + length (operators_of c); rest = spelled (operand_of c) ++ r })
unfolding read.operators IsAt spelled
operators_read (prefixed t a) zero found at r is enough = absurd (omega arith)
operators_read (prefixed t a) (suc turns) found at r is enough =
    then_ _ (prefix_operator_reads t at (spelled a ++ r) is.1)
    (operators_read a turns (found ++ (prefix_operator_in t, t.line) ∷ []) (suc at) r is.2 (omega arith)
    ∙ valued _ (done _ _ _ (omega arith)) (append_assoc found ((prefix_operator_in t, t.line) ∷ []) (operators_of a)))
operators_read c turns found at r is enough =
    no_operators turns found (record { at = at; rest = spelled c ++ r }) (no_prefix c r (operand_at c is))
    ∙ valued _ (done _ _ _ (omega arith)) (sym (append-nil found))

suffixes_end : (p : Parser Expr) (n turns first : ℕ) (left : Expr) (i : Position) → Stops 1 (next_sort i)
    → read.suffixes p n turns first left i ≡ Ok (left, i)
unfolding read.suffixes
suffixes_end p n zero first left i stops = refl
suffixes_end p n (suc turns) first left i stops =
    rw (sees_other s.LeftParen i stops.paren) (rw (sees_other s.LeftBracket i stops.bracket) refl)

pub prefix_reads : (p : Parser Expr) (n : ℕ) → Knows p n → (c : ExpressionDerivation) (at : ℕ) (r : List Token) → IsAt 2 c →
    Stops 1 (first_sort r)
    → length (spelled c) + length r < suc n → IsRead (read.prefix p (suc n)) c at r
unfolding read.prefix read.wrap
prefix_reads p n knows c at r is stops short =
    let count : length (spelled c) ≡ length (operators_of c) + length (spelled (operand_of c)) = operand_counts c in
    let there : ℕ = at + length (operators_of c) in
    let back = postfix_suffixed p n knows (operand_of c) there r (operand_at c is) (omega (arith, count)) in
    then_ _
    (operators_read c (suc n) [] at r is (omega (arith, count)))
    (then_ _
    (back.comes ∙ suffixes_end p (suc n) back.turns there _ (record { at = there + length (spelled (operand_of c)); rest = r }) stops)
    (valued _ (done _ _ r (omega (arith, count))) (wrapped_is c at _ (omega (arith, count)))))

-- ---- binary operators

binary_is : (n : ℕ) (t : Token) → IsOperator n (sort t) → read.at_level n (binary_of (sort t)) ≡ Some (binary_in t)
binary_is n t o = ap (read.at_level n) o.1 ∙ rw (eq-eqb (level_of o.0) n o.2) (ap Some (sym (ap binary_or o.1)))

binary_operator_reads : (n : ℕ) (t : Token) (at : ℕ) (ts : List Token) → IsOperator n (sort t)
    → read.binary_operator n (record { at = at; rest = t ∷ ts }) ≡ Ok (Some (binary_in t, t.line), record { at = suc at; rest = ts })
unfolding read.binary_operator
binary_operator_reads n t at ts o =
    ap (λ x. read.binary_by x (record { at = at; rest = t ∷ ts })) (binary_is n t o) ∙ then_ _ (step_skip at t ts) refl

none_at_level : (n : ℕ) (o : Option Bin) → ((op : Bin) → o ≡ Some op → n < level_of op) → read.at_level n o ≡ None
none_at_level n None h = refl
none_at_level n (Some op) h = rw (ne_eqb (level_of op) n (λ same. let l : n < level_of op = h op refl in omega (arith, same))) refl

chain_ends : (n : ℕ) (operand : Parser Expr) (turns first : ℕ) (left : Expr) (i : Position) → Stops n (next_sort i)
    → read.chain n operand turns first left i ≡ Ok (left, i)
unfolding read.chain read.binary_operator
chain_ends n operand zero first left i stops = refl
chain_ends n operand (suc turns) first left i stops =
    ap (λ o. read_then (read.binary_by o i) (λ x. on_option x (pure left) (λ op. operand >>= (λ right. finish first op.1 (e.Binary op.0 left right)
    >>= (λ whole. read.chain n operand turns first whole))))) (none_at_level n (binary_of (next_sort i)) stops.operator)

-- reading up to the phrase's end comes to the loop of the level after it, with enough turns left
pub record Chained (p : Parser Expr) (n k : ℕ) (c : ExpressionDerivation) (at : ℕ) (r : List Token) : Type 0 where
  pub turns : ℕ
  pub enough : length r < turns
  pub comes : read.level p n (suc k) (record { at = at; rest = spelled c ++ r })
      ≡ read.chain (suc k + 2) (read.level p n k) turns at (expression_tree at c) (record { at = at + length (spelled c); rest = r })

pub chained_reads : (p : Parser Expr) (n k : ℕ) (c : ExpressionDerivation) (at : ℕ) (r : List Token) → Chained p n k c at r →
    Stops (suc k + 2) (first_sort r)
    → IsRead (read.level p n (suc k)) c at r
chained_reads p n k c at r h stops =
    h.comes ∙ chain_ends (suc k + 2) (read.level p n k) h.turns at (expression_tree at c) (record { at = at + length (spelled c); rest = r }) stops

-- a phrase of a level is one operand of the next
pub lifted : (p : Parser Expr) (n k : ℕ) (c : ExpressionDerivation) (at : ℕ) (r : List Token) →
    IsRead (read.level p n k) c at r → length r < n
    → Chained p n k c at r
unfolding read.level
lifted p n k c at r h short = record {
  turns = n;
  enough = short;
  comes = then_ _ h refl;
}

-- a phrase of a level is read at each looser one
pub reads_up : (p : Parser Expr) (n : ℕ) (d k m : ℕ) (c : ExpressionDerivation) (at : ℕ) (r : List Token) → m ≡ d + k →
    IsRead (read.level p n k) c at r
    → Stops (m + 2) (first_sort r) → length r < n → IsRead (read.level p n m) c at r
reads_up p n zero k m c at r same h stops short = subst (λ j. IsRead (read.level p n j) c at r) (let f : k ≡ m = omega (arith, same) in f) h
reads_up p n (suc d) k m c at r same h stops short =
    reads_up p n d (suc k) m c at r (omega (arith, same))
    (chained_reads p n k c at r (lifted p n k c at r h short) (stops_less (suc k + 2) (m + 2) (first_sort r) (omega (arith, same)) stops)) stops short

pub low_reads : (p : Parser Expr) (n : ℕ) → Knows p n → (k : ℕ) (c : ExpressionDerivation) (at : ℕ) (r : List Token) →
    IsAt 2 c → Stops (k + 2) (first_sort r)
    → length (spelled c) + length r < suc n → IsRead (read.level p (suc n) k) c at r
unfolding read.level
low_reads p n knows k c at r is stops short =
    reads_up p (suc n) k 0 k c at r (omega arith)
    (prefix_reads p n knows c at r is (stops_less 1 (k + 2) (first_sort r) (omega arith) stops) short) stops (omega arith)

pub binary_chained :
    (p : Parser Expr) (n k : ℕ) (a : ExpressionDerivation) (t : Token) (b : ExpressionDerivation) (at : ℕ) (r : List Token) →
    IsOperator (suc k + 2) (sort t)
    → IsRead (read.level p n k) b (suc (at + length (spelled a))) r
    → (turns : ℕ) → length (t ∷ (spelled b ++ r)) < turns
    → read.level p n (suc k) (record { at = at; rest = spelled a ++ t ∷ (spelled b ++ r) })
    ≡ read.chain (suc k + 2) (read.level p n k) turns at (expression_tree at a) (record { at = at + length (spelled a); rest = t ∷ (spelled b ++ r) })
    → Chained p n k (binary a t b) at r
unfolding read.chain spelled expression_tree
binary_chained p n k a t b at r is second zero enough comes = absurd (omega arith)
binary_chained p n k a t b at r is second (suc turns) enough comes =
    let count : length (spelled a ++ t ∷ spelled b) ≡ suc (length (spelled a) + length (spelled b)) = count_between (spelled a) t (spelled b) in
    let behind : length (spelled b ++ r) ≡ length (spelled b) + length r = length-append (spelled b) r in
    record {
      turns = turns;
      enough = omega (arith, behind);
      comes = parted (read.level p n (suc k)) at (regroup_between (spelled a) t (spelled b) r)
          (comes ∙ then_ _
          (binary_operator_reads (suc k + 2) t (at + length (spelled a)) (spelled b ++ r) is)
          (then_ _ second
          (ap (λ m. read.chain (suc k + 2) (read.level p n k) turns at
          (roll-Expr (record { first = at; last = m - 1; line = t.line; kind = e.Binary (binary_in t) (expression_tree at a) (expression_tree (suc (at + length (spelled a))) b) }))
          (record { at = m; rest = r })) (omega (arith, count)))));
    }
