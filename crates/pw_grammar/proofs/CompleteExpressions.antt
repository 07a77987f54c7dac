-- Each expression is read: the readers of expressions are complete.
use Rattle.std.proofs.Common.{◌≡◌, refl, sym, ◌∙◌, ap, subst, ℕ, zero, suc, ◌+◌, ◌-◌, ◌<◌, ◌≤◌, List, ◌∷◌, ◌++◌, length, ◌⊎◌, inl, inr, Ok, arith}
use Rattle.std.proofs.lemmas.List.{length-append}
use Rattle.pw_grammar.specs.declared.sort.Sort.TheVariants as s
use Rattle.pw_grammar.specs.Terminals.{sort, first_sort}
use Rattle.pw_grammar.specs.Expressions.{ExpressionDerivation, identifier, constant, bracketed, input, output, call, index, prefixed, binary, choice, spelled, IsAt, IsOperator, expression_tree}
use Rattle.pw_grammar.specs.Reading.Steps.{Parser}
use Rattle.pw_grammar.specs.Reading.Expressions as read
use Rattle.pw_grammar.proofs.Lawful.{near_or_far}
use Rattle.pw_grammar.proofs.CompleteTokens.{then_, step_skip, sees_it, sees_other, step_expect, parted, finishes}
use Rattle.pw_grammar.proofs.CompleteEnds.{Stops, stops_less, operator_stops, question_stops, EndsExpression, ends_with, ends_stops, ends_no_question}
use Rattle.pw_grammar.proofs.CompletePhrases.{operator_low, operator_high, regroup_between, count_between}
use Rattle.pw_grammar.proofs.CompletePrimary.{IsRead, Knows}
use Rattle.pw_grammar.proofs.CompleteLevels.{Chained, chained_reads, lifted, reads_up, low_reads, binary_chained}
use Rattle.pw_tree.specs.declared.expr.Expr.{Expr, roll-Expr}
use Rattle.pw_tree.specs.declared.expr.ExprKind.TheVariants as e
use Rattle.pw_lex.specs.declared.token.Token.{Token}

-- ---- the levels of binary operators

-- the phrase comes to the loop of each level that it stands at
abbrev Chains : Parser Expr → ℕ → ExpressionDerivation → Type 0
Chains p n c = (k at : ℕ) (r : List Token) → k ≤ 9 → IsAt (suc k + 2) c → Stops (k + 2) (first_sort r)
    → length (spelled c) + length r < suc n → Chained p (suc n) k c at r

-- an expression of a level is read at that level
reads_at : (p : Parser Expr) (n : ℕ) → Knows p n → (c : ExpressionDerivation) → Chains p n c → (k at : ℕ) (r : List Token) →
    k ≤ 10 → IsAt (k + 2) c
    → Stops (k + 2) (first_sort r) → length (spelled c) + length r < suc n → IsRead (read.level p (suc n) k) c at r
reads_at p n knows c chains zero at r low is stops short = low_reads p n knows 0 c at r is stops short
reads_at p n knows c chains (suc k) at r low is stops short =
    chained_reads p (suc n) k c at r
    (chains k at r (omega arith) is (stops_less (k + 2) (suc k + 2) (first_sort r) (omega arith) stops) short) stops

low_chains : (p : Parser Expr) (n : ℕ) → Knows p n → (c : ExpressionDerivation) (k at : ℕ) (r : List Token) → IsAt 2 c →
    Stops (k + 2) (first_sort r)
    → length (spelled c) + length r < suc n → Chained p (suc n) k c at r
low_chains p n knows c k at r is stops short =
    lifted p (suc n) k c at r (low_reads p n knows k c at r is stops short) (omega arith)

-- a binary expression at its operator's own level
own_level : (p : Parser Expr) (n : ℕ) → Knows p n → (a : ExpressionDerivation) (t : Token) (b : ExpressionDerivation) →
    Chains p n a → Chains p n b → (k at : ℕ) (r : List Token)
    → k ≤ 9 → IsAt (suc k + 2) a → IsOperator (suc k + 2) (sort t) → IsAt (k + 2) b → Stops (k + 2) (first_sort r)
    → length (spelled a ++ t ∷ spelled b) + length r < suc n → Chained p (suc n) k (binary a t b) at r
own_level p n knows a t b left right k at r low is_left is is_right stops short =
    let count : length (spelled a ++ t ∷ spelled b) ≡ suc (length (spelled a) + length (spelled b)) = count_between (spelled a) t (spelled b) in
    let behind : length (spelled b ++ r) ≡ length (spelled b) + length r = length-append (spelled b) r in
    let own : IsOperator (suc (k + 2)) (sort t) = subst (λ m. IsOperator m (sort t)) (let f : suc k + 2 ≡ suc (k + 2) = omega arith in f) is in
    let front = left k at (t ∷ (spelled b ++ r)) low is_left (operator_stops (k + 2) (sort t) own) (omega (arith, count, behind)) in
    binary_chained p (suc n) k a t b at r is
    (reads_at p n knows b right k (suc (at + length (spelled a))) r (omega arith) is_right stops (omega (arith, count)))
    front.turns front.enough front.comes

-- and at each looser one
higher_level : (p : Parser Expr) (n : ℕ) (c : ExpressionDerivation) (i k at : ℕ) (r : List Token) →
    Stops (k + 2) (first_sort r) → length r < suc n
    → i ≤ k → (k ≤ i) ⊎ (i < k) → Chained p (suc n) i c at r → Chained p (suc n) k c at r
higher_level p n c i k at r stops short up (inl same) h = subst (λ j. Chained p (suc n) j c at r) (let f : i ≡ k = omega arith in f) h
higher_level p n c i k at r stops short up (inr less) h =
    lifted p (suc n) k c at r
    (reads_up p (suc n) (k - suc i) (suc i) k c at r (omega arith)
    (chained_reads p (suc n) i c at r h (stops_less (suc i + 2) (k + 2) (first_sort r) (omega arith) stops)) stops short) short

binary_chains : (p : Parser Expr) (n : ℕ) → Knows p n → (a : ExpressionDerivation) (t : Token) (b : ExpressionDerivation) →
    Chains p n a → Chains p n b → (k at : ℕ) (r : List Token)
    → k ≤ 9 → Stops (k + 2) (first_sort r) → length (spelled a ++ t ∷ spelled b) + length r < suc n
    → (tighter i : ℕ) → tighter ≡ i + 2 → suc tighter ≤ suc k + 2 → IsAt (suc tighter) a → IsOperator (suc tighter) (sort t) → IsAt tighter b
    → Chained p (suc n) k (binary a t b) at r
binary_chains p n knows a t b left right k at r low stops short tighter i level_is up is_left is is_right =
    let same : suc tighter ≡ suc i + 2 = omega (arith, level_is) in
    let below : i ≤ k = omega (arith, level_is) in
    higher_level p n (binary a t b) i k at r stops (omega arith) below (near_or_far k i)
    (own_level p n knows a t b left right i at r (omega arith)
    (subst (λ m. IsAt m a) same is_left) (subst (λ m. IsOperator m (sort t)) same is) (subst (λ m. IsAt m b) level_is is_right)
    (stops_less (i + 2) (k + 2) (first_sort r) (omega arith) stops) short)

level_chains : (p : Parser Expr) (n : ℕ) → Knows p n → (c : ExpressionDerivation) → Chains p n c
unfolding IsAt spelled
level_chains p n knows (identifier t) k at r low is stops short = low_chains p n knows (identifier t) k at r is stops short
level_chains p n knows (constant t) k at r low is stops short = low_chains p n knows (constant t) k at r is stops short
level_chains p n knows (bracketed o a c) k at r low is stops short = low_chains p n knows (bracketed o a c) k at r is stops short
level_chains p n knows (input i o c) k at r low is stops short = low_chains p n knows (input i o c) k at r is stops short
level_chains p n knows (output i o a c) k at r low is stops short = low_chains p n knows (output i o a c) k at r is stops short
level_chains p n knows (call f o xs c) k at r low is stops short =
    low_chains p n knows (call f o xs c) k at r (omega arith, is.1, is.2, is.3, is.4) stops short
level_chains p n knows (index a o i c) k at r low is stops short =
    low_chains p n knows (index a o i c) k at r (omega arith, is.1, is.2, is.3, is.4) stops short
level_chains p n knows (prefixed t a) k at r low is stops short =
    low_chains p n knows (prefixed t a) k at r (omega arith, is.1, is.2) stops short
level_chains p n knows (binary a t b) k at r low is stops short =
    let h : 3 ≤ suc is.0 = operator_low (suc is.0) (sort t) is.3 in
    binary_chains p n knows a t b (level_chains p n knows a) (level_chains p n knows b) k at r low stops short
    is.0 (is.0 - 2) (omega (arith, h)) is.1 is.2 is.3 is.4
level_chains p n knows (choice c q a m b) k at r low is stops short = absurd (let h : 13 ≤ suc k + 2 = is.0 in omega (arith, h))

pub level_reads : (p : Parser Expr) (n : ℕ) → Knows p n → (c : ExpressionDerivation) (k at : ℕ) (r : List Token) → k ≤ 10 →
    IsAt (k + 2) c
    → Stops (k + 2) (first_sort r) → length (spelled c) + length r < suc n → IsRead (read.level p (suc n) k) c at r
level_reads p n knows c k at r low is stops short = reads_at p n knows c (level_chains p n knows c) k at r low is stops short

-- ---- choices

plain_reads : (p : Parser Expr) (n : ℕ) → Knows p n → (c : ExpressionDerivation) (at : ℕ) (r : List Token) → IsAt 12 c →
    EndsExpression (first_sort r)
    → length (spelled c) + length r < suc n → IsRead (read.choice p (suc n)) c at r
unfolding read.choice
plain_reads p n knows c at r is ends short =
    then_ _
    (level_reads p n knows c 10 at r (omega arith) is (ends_stops 12 (first_sort r) ends) short)
    (rw (sees_other s.Question (record { at = at + length (spelled c); rest = r }) (ends_no_question (first_sort r) ends)) refl)

branches_read : (p : Parser Expr) (n : ℕ) → Knows p n →
    (first : ℕ) (test : Expr) (q : Token) (a : ExpressionDerivation) (m : Token) (b : ExpressionDerivation) (at last : ℕ) (r : List Token)
    → IsAt 13 a → sort m ≡ s.Colon → IsAt 13 b → EndsExpression (first_sort r)
    → last ≡ suc (suc at + length (spelled a)) + length (spelled b) → suc (length (spelled a) + length (spelled b)) + length r < n
    → read.branches p first test (record { at = at; rest = q ∷ (spelled a ++ m ∷ (spelled b ++ r)) })
    ≡ Ok (
      roll-Expr (record {
        first = first;
        last = last - 1;
        line = q.line;
        kind = e.Cond test (expression_tree (suc at) a) (expression_tree (suc (suc at + length (spelled a))) b);
      }),
      record { at = last; rest = r },
    )
unfolding read.branches
branches_read p n knows first test q a m b at last r is_a colon is_b ends total short =
    let behind : length (spelled b ++ r) ≡ length (spelled b) + length r = length-append (spelled b) r in
    then_ _ (step_skip at q _)
    (then_ _
    (knows a (suc at) (m ∷ (spelled b ++ r)) is_a (ends_with (sort m) s.Colon colon refl) (omega (arith, behind)))
    (then_ _ (step_expect s.Colon _ m (spelled b ++ r) colon)
    (then_ _
    (knows b (suc (suc at + length (spelled a))) r is_b ends (omega arith))
    (finishes first q.line _ _ _ last r refl (sym total)))))

choice_reads : (p : Parser Expr) (n : ℕ) → Knows p n → (c : ExpressionDerivation) (at : ℕ) (r : List Token) → IsAt 13 c →
    EndsExpression (first_sort r)
    → length (spelled c) + length r < suc n → IsRead (read.choice p (suc n)) c at r
unfolding read.choice IsAt spelled expression_tree
choice_reads p n knows (identifier t) at r is ends short = plain_reads p n knows (identifier t) at r is ends short
choice_reads p n knows (constant t) at r is ends short = plain_reads p n knows (constant t) at r is ends short
choice_reads p n knows (bracketed o a c) at r is ends short = plain_reads p n knows (bracketed o a c) at r is ends short
choice_reads p n knows (input k o c) at r is ends short = plain_reads p n knows (input k o c) at r is ends short
choice_reads p n knows (output k o a c) at r is ends short = plain_reads p n knows (output k o a c) at r is ends short
choice_reads p n knows (call f o xs c) at r is ends short =
    plain_reads p n knows (call f o xs c) at r (omega arith, is.1, is.2, is.3, is.4) ends short
choice_reads p n knows (index a o i c) at r is ends short =
    plain_reads p n knows (index a o i c) at r (omega arith, is.1, is.2, is.3, is.4) ends short
choice_reads p n knows (prefixed t a) at r is ends short =
    plain_reads p n knows (prefixed t a) at r (omega arith, is.1, is.2) ends short
choice_reads p n knows (binary a t b) at r is ends short =
    plain_reads p n knows (binary a t b) at r (is.0, operator_high (suc is.0) (sort t) is.3, is.2, is.3, is.4) ends short
choice_reads p n knows (choice c q a m b) at r is ends short =
    let inner : length (spelled a ++ m ∷ spelled b) ≡ suc (length (spelled a) + length (spelled b)) = count_between (spelled a) m (spelled b) in
    let count : length (spelled c ++ q ∷ (spelled a ++ m ∷ spelled b)) ≡ suc (length (spelled c) + length (spelled a ++ m ∷ spelled b))
    = count_between (spelled c) q (spelled a ++ m ∷ spelled b) in
    let behind : length (spelled a ++ m ∷ (spelled b ++ r)) ≡ suc (length (spelled a) + length (spelled b ++ r)) = count_between (spelled a) m (spelled b ++ r) in
    let after : length (spelled b ++ r) ≡ length (spelled b) + length r = length-append (spelled b) r in
    parted (read.choice p (suc n)) at
    (regroup_between (spelled c) q (spelled a ++ m ∷ spelled b) r ∙ ap (λ w. spelled c ++ q ∷ w) (regroup_between (spelled a) m (spelled b) r))
    (then_ _
    (level_reads p n knows c 10 at _ (omega arith) is.1 (question_stops 12 (sort q) is.2) (omega (arith, count, inner, behind, after)))
    (rw (sees_it s.Question (record { at = at + length (spelled c); rest = q ∷ (spelled a ++ m ∷ (spelled b ++ r)) }) is.2)
    (branches_read p n knows at (expression_tree at c) q a m b (at + length (spelled c)) _ r is.3 is.4 is.5 ends
    (omega (arith, count, inner)) (omega (arith, count, inner)))))

-- ---- expressions

pub expression_knows : (n : ℕ) → Knows (read.expression n) n
unfolding read.expression
expression_knows zero c at r is ends short = absurd (omega arith)
expression_knows (suc n) c at r is ends short = choice_reads (read.expression n) n (expression_knows n) c at r is ends short

-- each expression is read, whatever it is that follows and does not go on with it, by turns above the number of tokens
pub reads_expression : (n : ℕ) (c : ExpressionDerivation) (at : ℕ) (r : List Token) → IsAt 13 c →
    EndsExpression (first_sort r) → length (spelled c ++ r) < n
    → read.expression n (record { at = at; rest = spelled c ++ r }) ≡ Ok (expression_tree at c, record { at = at + length (spelled c); rest = r })
reads_expression n c at r is ends short =
    expression_knows n c at r is ends (let count : length (spelled c ++ r) ≡ length (spelled c) + length r = length-append (spelled c) r in omega (arith, count))
