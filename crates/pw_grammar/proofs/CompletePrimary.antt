-- Primary expressions, calls and indices are read, given that what stands in brackets is.
use Rattle.std.proofs.Common.{◌≡◌, refl, sym, ◌∙◌, ap, ℕ, zero, suc, ◌+◌, ◌-◌, ◌<◌, ◌≤◌, List, [], ◌∷◌, ◌++◌, length, inl, inr, Ok, arith}
use Rattle.std.proofs.lemmas.List.{append_assoc, append-nil, length-append}
use Rattle.pw_grammar.specs.declared.sort.Sort.{Sort}
use Rattle.pw_grammar.specs.declared.sort.Sort.TheVariants as s
use Rattle.pw_grammar.specs.Terminals.{sort, first_sort}
use Rattle.pw_grammar.specs.Expressions.{ExpressionDerivation, identifier, constant, bracketed, input, output, call, index, prefixed, binary, choice, Arguments, nothing, arguments, More, end, more, spelled, spelled_arguments, spelled_more, IsAt, AreArguments, AreMore, expression_tree, argument_trees, more_argument_trees}
use Rattle.pw_grammar.specs.Reading.Steps.{Position, ReadResult, Parser, next_sort}
use Rattle.pw_grammar.specs.Reading.Expressions as read
use Rattle.pw_grammar.proofs.CompleteTokens.{then_, done, valued, step_skip, step_take, sees_it, sees_other, step_expect, parted, finishes}
use Rattle.pw_grammar.proofs.CompleteEnds.{EndsExpression, ends_with}
use Rattle.pw_grammar.proofs.CompletePhrases.{operator_low, begins, begins_other, regroup_last, regroup_enclosed, count_last, count_enclosed}
use Rattle.pw_tree.specs.declared.expr.Expr.{Expr, roll-Expr}
use Rattle.pw_tree.specs.declared.expr.ExprKind.TheVariants as e
use Rattle.pw_lex.specs.declared.token.Token.{Token}

-- ---- what is known of a reader: it reads each expression of fewer than n tokens, with what follows

-- the reader reads the phrase, before these tokens
abbrev pub IsRead : Parser Expr → ExpressionDerivation → ℕ → List Token → Type 0
IsRead p c at r = p (record { at = at; rest = spelled c ++ r }) ≡ Ok (expression_tree at c, record { at = at + length (spelled c); rest = r })

abbrev pub Knows : Parser Expr → ℕ → Type 0
Knows p n = (c : ExpressionDerivation) (at : ℕ) (r : List Token) → IsAt 13 c → EndsExpression (first_sort r) → length (spelled c) + length r < n → IsRead p c at r

-- ---- primary expressions

identifier_reads : (t : Token) (at : ℕ) (r : List Token)
    → read.identifier (record { at = at; rest = t ∷ r }) ≡ Ok (expression_tree at (identifier t), record { at = at + 1; rest = r })
unfolding read.identifier expression_tree
identifier_reads t at r = then_ _ (step_take at t r) (finishes at t.line _ _ (suc at) (at + 1) r refl (omega arith))

constant_reads : (t : Token) (at : ℕ) (r : List Token)
    → read.constant (record { at = at; rest = t ∷ r }) ≡ Ok (expression_tree at (constant t), record { at = at + 1; rest = r })
unfolding read.constant expression_tree
constant_reads t at r = then_ _ (step_take at t r) (finishes at t.line _ _ (suc at) (at + 1) r refl (omega arith))

bracketed_reads : (p : Parser Expr) (n : ℕ) → Knows p n →
    (o : Token) (a : ExpressionDerivation) (c : Token) (at : ℕ) (r : List Token)
    → IsAt 13 a → sort c ≡ s.RightParen → suc (length (spelled a ++ c ∷ [])) + length r < suc n
    → IsRead (read.bracketed p) (bracketed o a c) at r
unfolding read.bracketed spelled expression_tree
bracketed_reads p n knows o a c at r is closes short =
    let count : length (spelled a ++ c ∷ []) ≡ suc (length (spelled a)) = count_last (spelled a) c in
    then_ _ (step_skip at o _)
    (then_ _
    (parted p (suc at) (regroup_last (spelled a) c r)
    (knows a (suc at) (c ∷ r) is (ends_with (sort c) s.RightParen closes refl) (omega (arith, count))))
    (then_ _ (step_expect s.RightParen _ c r closes)
    (done _ _ r (omega (arith, count)))))

input_reads : (k o c : Token) (at : ℕ) (r : List Token) → sort o ≡ s.LeftParen → sort c ≡ s.RightParen
    → IsRead read.input (input k o c) at r
unfolding read.input spelled expression_tree
input_reads k o c at r opens closes =
    then_ _ (step_skip at k _)
    (then_ _ (step_expect s.LeftParen _ o _ opens)
    (then_ _ (step_expect s.RightParen _ c r closes)
    (finishes at k.line _ _ _ (at + 3) r refl (omega arith))))

output_reads : (p : Parser Expr) (n : ℕ) → Knows p n →
    (k o : Token) (a : ExpressionDerivation) (c : Token) (at : ℕ) (r : List Token)
    → sort o ≡ s.LeftParen → IsAt 13 a → sort c ≡ s.RightParen → suc (suc (length (spelled a ++ c ∷ []))) + length r < suc n
    → IsRead (read.output p) (output k o a c) at r
unfolding read.output spelled expression_tree
output_reads p n knows k o a c at r opens is closes short =
    let count : length (spelled a ++ c ∷ []) ≡ suc (length (spelled a)) = count_last (spelled a) c in
    then_ _ (step_skip at k _)
    (then_ _ (step_expect s.LeftParen _ o _ opens)
    (then_ _
    (parted p (suc (suc at)) (regroup_last (spelled a) c r)
    (knows a (suc (suc at)) (c ∷ r) is (ends_with (sort c) s.RightParen closes refl) (omega (arith, count))))
    (then_ _ (step_expect s.RightParen _ c r closes)
    (finishes at k.line _ _ _ _ r refl (omega (arith, count))))))

-- the reader of primary expressions at a next token of this sort
primary_is : (p : Parser Expr) (x : Sort) (i : Position) (o : ReadResult Expr) → next_sort i ≡ x → read.primary_by p x i ≡ o →
    read.primary p i ≡ o
unfolding read.primary
primary_is p x i o h g = ap (λ y. read.primary_by p y i) h ∙ g

primary_reads : (p : Parser Expr) (n : ℕ) → Knows p n → (c : ExpressionDerivation) (at : ℕ) (r : List Token) → IsAt 0 c
    → length (spelled c) + length r < suc n → IsRead (read.primary p) c at r
unfolding IsAt spelled
primary_reads p n knows (identifier t) at r is short = primary_is p s.Name _ _ is (identifier_reads t at r)
primary_reads p n knows (constant t) at r (inl h) short = primary_is p s.Number _ _ h (constant_reads t at r)
primary_reads p n knows (constant t) at r (inr h) short = primary_is p s.Character _ _ h (constant_reads t at r)
primary_reads p n knows (bracketed o a c) at r is short = primary_is p s.LeftParen _ _ is.0 (bracketed_reads p n knows o a c at r is.1 is.2 short)
primary_reads p n knows (input k o c) at r is short = primary_is p s.Input _ _ is.0 (input_reads k o c at r is.1 is.2)
primary_reads p n knows (output k o a c) at r is short = primary_is p s.Output _ _ is.0 (output_reads p n knows k o a c at r is.1 is.2 is.3 short)
primary_reads p n knows (call f o xs c) at r is short = absurd (let h : 1 ≤ 0 = is.0 in omega arith)
primary_reads p n knows (index a o i c) at r is short = absurd (let h : 1 ≤ 0 = is.0 in omega arith)
primary_reads p n knows (prefixed t a) at r is short = absurd (let h : 2 ≤ 0 = is.0 in omega arith)
primary_reads p n knows (binary a t b) at r is short = absurd (let h : suc is.0 ≤ 0 = is.1 in omega arith)
primary_reads p n knows (choice c q a m b) at r is short = absurd (let h : 13 ≤ 0 = is.0 in omega arith)

-- ---- arguments

-- what may follow an argument: a comma, or what follows them all
more_ends : (xs : More) (r : List Token) → AreMore xs → first_sort r ≡ s.RightParen →
    EndsExpression (first_sort (spelled_more xs ++ r))
unfolding spelled_more AreMore
more_ends end r are closes = ends_with (first_sort r) s.RightParen closes refl
more_ends (more t a xs) r are closes = ends_with (sort t) s.Comma are.0 refl

more_reads : (p : Parser Expr) (n : ℕ) → Knows p n → (xs : More) (turns : ℕ) (found : List Expr) (at : ℕ) (r : List Token)
    → AreMore xs → first_sort r ≡ s.RightParen → length (spelled_more xs) + length r < n → length (spelled_more xs) + length r < turns
    → read.more_arguments p turns found (record { at = at; rest = spelled_more xs ++ r })
    ≡ Ok (found ++ more_argument_trees at xs, record { at = at + length (spelled_more xs); rest = r })
unfolding read.more_arguments AreMore spelled_more more_argument_trees
more_reads p n knows xs zero found at r are closes short enough = absurd (omega arith)
more_reads p n knows end (suc turns) found at r are closes short enough =
    rw (sees_other s.Comma (record { at = at; rest = r }) (λ h. let f : s.RightParen ≡ s.Comma = sym closes ∙ h in cc))
    (valued _ (done _ _ r (omega arith)) (sym (append-nil found)))
more_reads p n knows (more t a xs) (suc turns) found at r are closes short enough =
    let count : length (spelled a ++ spelled_more xs) ≡ length (spelled a) + length (spelled_more xs) = length-append (spelled a) (spelled_more xs) in
    let behind : length (spelled_more xs ++ r) ≡ length (spelled_more xs) + length r = length-append (spelled_more xs) r in
    rw (sees_it s.Comma (record { at = at; rest = t ∷ ((spelled a ++ spelled_more xs) ++ r) }) are.0)
    (then_ _ (step_skip at t _)
    (then_ _
    (parted p (suc at) (append_assoc (spelled a) (spelled_more xs) r)
    (knows a (suc at) (spelled_more xs ++ r) are.1 (more_ends xs r are.2 closes) (omega (arith, count, behind))))
    (more_reads p n knows xs turns (found ++ expression_tree (suc at) a ∷ []) (suc at + length (spelled a)) r are.2 closes (omega (arith, count)) (omega (arith, count))
    ∙ valued _ (done _ _ r (omega (arith, count))) (append_assoc found (expression_tree (suc at) a ∷ []) (more_argument_trees (suc at + length (spelled a)) xs)))))

arguments_read : (p : Parser Expr) (n turns : ℕ) → Knows p n → (xs : Arguments) (at : ℕ) (r : List Token)
    → AreArguments xs → first_sort r ≡ s.RightParen → length (spelled_arguments xs) + length r < n → length (spelled_arguments xs) + length r < turns
    → read.arguments p turns (record { at = at; rest = spelled_arguments xs ++ r })
    ≡ Ok (argument_trees at xs, record { at = at + length (spelled_arguments xs); rest = r })
unfolding read.arguments read.some_arguments AreArguments spelled_arguments argument_trees
arguments_read p n turns knows nothing at r are closes short enough =
    rw (sees_it s.RightParen (record { at = at; rest = r }) closes)
    (done [] (at + 0) r (omega arith))
arguments_read p n turns knows (arguments a xs) at r are closes short enough =
    let count : length (spelled a ++ spelled_more xs) ≡ length (spelled a) + length (spelled_more xs) = length-append (spelled a) (spelled_more xs) in
    let behind : length (spelled_more xs ++ r) ≡ length (spelled_more xs) + length r = length-append (spelled_more xs) r in
    parted (read.arguments p turns) at (append_assoc (spelled a) (spelled_more xs) r)
    (rw (sees_other s.RightParen (record { at = at; rest = spelled a ++ (spelled_more xs ++ r) })
    (begins_other _ s.RightParen (begins 13 a (spelled_more xs ++ r) are.0) refl))
    (then_ _
    (knows a at (spelled_more xs ++ r) are.0 (more_ends xs r are.1 closes) (omega (arith, count, behind)))
    (more_reads p n knows xs turns (expression_tree at a ∷ []) (at + length (spelled a)) r are.1 closes (omega (arith, count)) (omega (arith, count))
    ∙ done _ _ r (omega (arith, count)))))

-- ---- calls and indices

call_reads : (p : Parser Expr) (n turns : ℕ) → Knows p n →
    (first : ℕ) (left : Expr) (o : Token) (xs : Arguments) (c : Token) (at last : ℕ) (r : List Token)
    → AreArguments xs → sort c ≡ s.RightParen → last ≡ suc (suc at + length (spelled_arguments xs))
    → suc (length (spelled_arguments xs) + length r) < n → suc (length (spelled_arguments xs) + length r) < turns
    → read.call p turns first left (record { at = at; rest = o ∷ (spelled_arguments xs ++ c ∷ r) })
    ≡ Ok (roll-Expr (record { first = first; last = last - 1; line = o.line; kind = e.Call left (argument_trees (suc at) xs) }), record { at = last; rest = r })
unfolding read.call
call_reads p n turns knows first left o xs c at last r are closes ends short enough =
    then_ _ (step_skip at o _)
    (then_ _
    (arguments_read p n turns knows xs (suc at) (c ∷ r) are closes (omega arith) (omega arith))
    (then_ _ (step_expect s.RightParen _ c r closes)
    (finishes first o.line _ _ _ last r refl (sym ends))))

index_reads : (p : Parser Expr) (n : ℕ) → Knows p n →
    (first : ℕ) (left : Expr) (o : Token) (i : ExpressionDerivation) (c : Token) (at last : ℕ) (r : List Token)
    → IsAt 13 i → sort c ≡ s.RightBracket → last ≡ suc (suc at + length (spelled i)) → suc (length (spelled i) + length r) < n
    → read.index p first left (record { at = at; rest = o ∷ (spelled i ++ c ∷ r) })
    ≡ Ok (roll-Expr (record { first = first; last = last - 1; line = o.line; kind = e.Index left (expression_tree (suc at) i) }), record { at = last; rest = r })
unfolding read.index
index_reads p n knows first left o i c at last r is closes ends short =
    then_ _ (step_skip at o _)
    (then_ _
    (knows i (suc at) (c ∷ r) is (ends_with (sort c) s.RightBracket closes refl) (omega arith))
    (then_ _ (step_expect s.RightBracket _ c r closes)
    (finishes first o.line _ _ _ last r refl (sym ends))))

-- ---- the loop of suffixes

-- reading up to the phrase's end comes to the loop of suffixes after it, with enough turns left
pub record Suffixed (p : Parser Expr) (n : ℕ) (c : ExpressionDerivation) (at : ℕ) (r : List Token) : Type 0 where
  pub turns : ℕ
  pub enough : length r < turns
  pub comes : read.postfix p n (record { at = at; rest = spelled c ++ r })
      ≡ read.suffixes p n turns at (expression_tree at c) (record { at = at + length (spelled c); rest = r })

primary_suffixed : (p : Parser Expr) (n : ℕ) → Knows p n → (c : ExpressionDerivation) (at : ℕ) (r : List Token) → IsAt 0 c
    → length (spelled c) + length r < suc n → Suffixed p (suc n) c at r
unfolding read.postfix
primary_suffixed p n knows c at r is short = record {
  turns = suc n;
  enough = omega arith;
  comes = then_ _ (primary_reads p n knows c at r is short) refl;
}

call_suffixed : (p : Parser Expr) (n : ℕ) → Knows p n →
    (f : ExpressionDerivation) (o : Token) (xs : Arguments) (c : Token) (at : ℕ) (r : List Token)
    → sort o ≡ s.LeftParen → AreArguments xs → sort c ≡ s.RightParen → length (spelled (call f o xs c)) + length r < suc n
    → (turns : ℕ) → length (o ∷ (spelled_arguments xs ++ c ∷ r)) < turns
    → read.postfix p (suc n) (record { at = at; rest = spelled f ++ o ∷ (spelled_arguments xs ++ c ∷ r) })
    ≡ read.suffixes p (suc n) turns at (expression_tree at f) (record { at = at + length (spelled f); rest = o ∷ (spelled_arguments xs ++ c ∷ r) })
    → Suffixed p (suc n) (call f o xs c) at r
unfolding read.suffixes spelled expression_tree
call_suffixed p n knows f o xs c at r opens are closes short zero enough comes = absurd (omega arith)
call_suffixed p n knows f o xs c at r opens are closes short (suc turns) enough comes =
    let count : length (spelled f ++ o ∷ (spelled_arguments xs ++ c ∷ [])) ≡ suc (suc (length (spelled f) + length (spelled_arguments xs))) = count_enclosed (spelled f) o (spelled_arguments xs) c in
    let behind : length (spelled_arguments xs ++ c ∷ r) ≡ length (spelled_arguments xs) + suc (length r) = length-append (spelled_arguments xs) (c ∷ r) in
    record {
      turns = turns;
      enough = omega (arith, behind);
      comes = parted (read.postfix p (suc n)) at (regroup_enclosed (spelled f) o (spelled_arguments xs) c r)
          (comes ∙ rw (sees_it s.LeftParen (record { at = at + length (spelled f); rest = o ∷ (spelled_arguments xs ++ c ∷ r) }) opens)
          (then_ _
          (call_reads p n (suc n) knows at (expression_tree at f) o xs c (at + length (spelled f)) (at + length (spelled f ++ o ∷ (spelled_arguments xs ++ c ∷ []))) r are closes
          (omega (arith, count)) (omega (arith, count)) (omega (arith, count))) refl));
    }

index_suffixed : (p : Parser Expr) (n : ℕ) → Knows p n →
    (a : ExpressionDerivation) (o : Token) (i : ExpressionDerivation) (c : Token) (at : ℕ) (r : List Token)
    → sort o ≡ s.LeftBracket → IsAt 13 i → sort c ≡ s.RightBracket → length (spelled (index a o i c)) + length r < suc n
    → (turns : ℕ) → length (o ∷ (spelled i ++ c ∷ r)) < turns
    → read.postfix p (suc n) (record { at = at; rest = spelled a ++ o ∷ (spelled i ++ c ∷ r) })
    ≡ read.suffixes p (suc n) turns at (expression_tree at a) (record { at = at + length (spelled a); rest = o ∷ (spelled i ++ c ∷ r) })
    → Suffixed p (suc n) (index a o i c) at r
unfolding read.suffixes spelled expression_tree
index_suffixed p n knows a o i c at r opens is closes short zero enough comes = absurd (omega arith)
index_suffixed p n knows a o i c at r opens is closes short (suc turns) enough comes =
    let count : length (spelled a ++ o ∷ (spelled i ++ c ∷ [])) ≡ suc (suc (length (spelled a) + length (spelled i))) = count_enclosed (spelled a) o (spelled i) c in
    let behind : length (spelled i ++ c ∷ r) ≡ length (spelled i) + suc (length r) = length-append (spelled i) (c ∷ r) in
    record {
      turns = turns;
      enough = omega (arith, behind);
      comes = parted (read.postfix p (suc n)) at (regroup_enclosed (spelled a) o (spelled i) c r)
          (comes ∙ rw (sees_other s.LeftParen (record { at = at + length (spelled a); rest = o ∷ (spelled i ++ c ∷ r) }) (λ h. let f : s.LeftBracket ≡ s.LeftParen = sym opens ∙ h in cc))
          (rw (sees_it s.LeftBracket (record { at = at + length (spelled a); rest = o ∷ (spelled i ++ c ∷ r) }) opens)
          (then_ _
          (index_reads p n knows at (expression_tree at a) o i c (at + length (spelled a)) (at + length (spelled a ++ o ∷ (spelled i ++ c ∷ []))) r is closes
          (omega (arith, count)) (omega (arith, count))) refl)));
    }

-- what is left to read after a prefix is counted with it
counts_on : (u : List Token) (o : Token) (v : List Token) (c : Token) (r : List Token) (n : ℕ)
    → length (u ++ o ∷ (v ++ c ∷ [])) + length r < n → length u + length (o ∷ (v ++ c ∷ r)) < n
counts_on u o v c r n short =
    let count : length (u ++ o ∷ (v ++ c ∷ [])) ≡ suc (suc (length u + length v)) = count_enclosed u o v c in
    let behind : length (v ++ c ∷ r) ≡ length v + suc (length r) = length-append v (c ∷ r) in
    omega (arith, count, behind)

pub postfix_suffixed : (p : Parser Expr) (n : ℕ) → Knows p n → (c : ExpressionDerivation) (at : ℕ) (r : List Token) → IsAt 1 c
    → length (spelled c) + length r < suc n → Suffixed p (suc n) c at r
unfolding IsAt spelled
postfix_suffixed p n knows (identifier t) at r is short = primary_suffixed p n knows (identifier t) at r is short
postfix_suffixed p n knows (constant t) at r is short = primary_suffixed p n knows (constant t) at r is short
postfix_suffixed p n knows (bracketed o a c) at r is short = primary_suffixed p n knows (bracketed o a c) at r is short
postfix_suffixed p n knows (input k o c) at r is short = primary_suffixed p n knows (input k o c) at r is short
postfix_suffixed p n knows (output k o a c) at r is short = primary_suffixed p n knows (output k o a c) at r is short
postfix_suffixed p n knows (call f o xs c) at r is short =
    let front = postfix_suffixed p n knows f at (o ∷ (spelled_arguments xs ++ c ∷ r)) is.1 (counts_on (spelled f) o (spelled_arguments xs) c r (suc n) short) in
    call_suffixed p n knows f o xs c at r is.2 is.3 is.4 short front.turns front.enough front.comes
postfix_suffixed p n knows (index a o i c) at r is short =
    let front = postfix_suffixed p n knows a at (o ∷ (spelled i ++ c ∷ r)) is.1 (counts_on (spelled a) o (spelled i) c r (suc n) short) in
    index_suffixed p n knows a o i c at r is.2 is.3 is.4 short front.turns front.enough front.comes
postfix_suffixed p n knows (prefixed t a) at r is short = absurd (let h : 2 ≤ 1 = is.0 in omega arith)
postfix_suffixed p n knows (binary a t b) at r is short =
    absurd (let h : suc is.0 ≤ 1 = is.1 in let l : 3 ≤ suc is.0 = operator_low (suc is.0) (sort t) is.3 in omega arith)
postfix_suffixed p n knows (choice c q a m b) at r is short = absurd (let h : 13 ≤ 1 = is.0 in omega arith)
